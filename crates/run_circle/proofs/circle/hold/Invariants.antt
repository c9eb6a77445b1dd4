-- `run_circle::circle::hold` meets its contract: the entries passed are set, and all else is as it was.
use Rattle.run_circle.specs.Circle.{Held}
use Rattle.run_circle.proofs.circle.hold.Given as goal

abbrev pub invariant-loop-i : goal.invariant-loop-i
invariant-loop-i l = Held l.initial.s l.s l.values l.i l.testing
