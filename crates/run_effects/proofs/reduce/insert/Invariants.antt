-- The words from i on have moved on by one, and none of them is less than the place.
use Rattle.run_effects.proofs.Inserting.{Opened}
use Rattle.run_effects.proofs.reduce.insert.Given as goal

abbrev pub invariant-loop-i : goal.invariant-loop-i
invariant-loop-i l = Opened l.fn.s l.s l.place l.woken l.i

abbrev pub decreases-loop-i : goal.decreases-loop-i
decreases-loop-i l = l.i
