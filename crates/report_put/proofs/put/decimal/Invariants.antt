-- The digits of what is left, put over the digits that stand, give the number's.
use Prim.Native.Nat.{◌+◌, ◌≤◌}
use mathlib.Core.Path.{◌≡◌}
use lib.ListN.{length}
use Rattle.meaning.specs.Bytes.{decimal as in_decimal}
use Rattle.report_pairs.specs.Laid.{laid}
use Rattle.report_put.proofs.put.decimal.Given as goal

abbrev pub invariant-loop-left : goal.invariant-loop-left
invariant-loop-left l =
    (l.to ≡ l.at + length (in_decimal l.left)) × (l.to ≤ l.end) × (laid l.buffer l.at (in_decimal l.left) ≡ laid l.initial.buffer l.at (in_decimal l.n))

abbrev pub decreases-loop-left : goal.decreases-loop-left
decreases-loop-left l = l.left
