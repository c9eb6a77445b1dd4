use Rattle.std.proofs.Common.{◌+◌, List}
use Rattle.meaning.specs.Table.{Element}
use Rattle.term.specs.Cells.{Places as CellPlaces}
use Rattle.term.specs.Frames.{Only}
use Rattle.load_items.specs.Rules.{Worded}
use Rattle.load_items.proofs.Wholes.{Taken}
use Rattle.load_items.proofs.rule.set_goals.Given as goal

abbrev pub invariant-loop-i : goal.invariant-loop-i
invariant-loop-i l =
    ((places : CellPlaces) (es : List Element) → Worded l.words places es → Taken l.fn.s l.s l.place places es l.i)
    × Only l.place (l.place + 8) l.fn.s l.s
