-- The digits counted and those of what is left are the number's and one.
use Prim.Native.Nat.{◌+◌, ◌≤◌}
use mathlib.Core.Path.{◌≡◌}
use lib.ListN.{length}
use Rattle.meaning.specs.Bytes.{decimal}
use Rattle.report_pairs.proofs.length.digits.Given as goal

abbrev pub invariant-loop-left : goal.invariant-loop-left
invariant-loop-left l = (l.k + l.left ≤ l.n + 1) × (l.k + length (decimal l.left) ≡ length (decimal l.n) + 1)

abbrev pub decreases-loop-left : goal.decreases-loop-left
decreases-loop-left l = l.left
