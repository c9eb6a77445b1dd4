-- The term at hand has the same values applied, and ends within the links that are left.
use Prim.Native.Nat.{◌-◌}
use Rattle.meaning.specs.Bytes.{Bytes}
use Rattle.meaning.specs.Terms.{Term}
use Rattle.term.specs.Setting.{Setting}
use Rattle.report_pairs.specs.Facts.{Readable, Shows}
use Rattle.report_pairs.proofs.Chains.{Way}
use Rattle.report_pairs.proofs.ends.end.Given as goal

abbrev pub invariant-loop : goal.invariant-loop
invariant-loop l =
    (text : Bytes) (x : Setting) (u : Term) (r : Readable l.s text x l.facts) → Shows l.s x u l.w → Way l.s text x l.facts r u l.t (l.end - l.counter)
