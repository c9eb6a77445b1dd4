-- Goals that have joined the queue so far.
use Rattle.run_effects.proofs.ReduceCalls.{Adds}
use Rattle.run_effects.proofs.reduce.add_goals.Given as goal

abbrev pub invariant-loop-i : goal.invariant-loop-i
invariant-loop-i l = Adds l.fn.s l.from l.n l.pair l.to l.mark l.queue.start l.queue.size l.queue.front l.queue.active l.s l.free l.i
