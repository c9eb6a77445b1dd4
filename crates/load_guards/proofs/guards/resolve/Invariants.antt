-- The first i elements are guards whose words are set.
use Rattle.std.proofs.Common.{List, length}
use Rattle.meaning.specs.Table.{Element}
use Rattle.load_names.specs.Places.{Place}
use Rattle.load_guards.specs.Judged.{Listed}
use Rattle.load_guards.proofs.Resolving.{Progress}
use Rattle.load_guards.proofs.guards.resolve.Given as goal

abbrev pub invariant-loop-i : goal.invariant-loop-i
invariant-loop-i l =
    (known : List Place) (es : List Element) (k : Listed l.text l.names l.fn.s l.words (length l.words) l.base l.place known es)
    → Progress l.base l.place k.to_number known es l.i l.fn.s l.s
