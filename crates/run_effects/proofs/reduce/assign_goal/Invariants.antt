-- Entries that are assigned so far.
use Rattle.run_effects.proofs.ReduceCalls.{Assigns}
use Rattle.run_effects.proofs.reduce.assign_goal.Given as goal

abbrev pub invariant-loop-i : goal.invariant-loop-i
invariant-loop-i l = Assigns l.fn.s l.values l.pair l.to l.n l.s l.free l.i
