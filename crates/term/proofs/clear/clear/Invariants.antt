-- Up to i all is zero, and from i on all is as it was.
use Rattle.std.proofs.Common.{◌≡◌, ◌++◌}
use lib.ListN.{drop, replicate}
use Rattle.term.proofs.clear.clear.Given as goal

abbrev pub invariant-loop-i : goal.invariant-loop-i
invariant-loop-i l = l.s ≡ replicate l.i 0 ++ drop l.i l.fn.s
