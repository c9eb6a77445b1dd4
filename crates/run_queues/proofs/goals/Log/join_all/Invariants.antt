-- After i readers the set has the pairs of the first i.
use Rattle.std.proofs.Common.{ℕ, List, length}
use Rattle.run_queues.specs.Log.{Slot, JoinsAll, LogNow}
use Rattle.run_queues.proofs.LogSteps.{slots_after}
use Rattle.run_queues.proofs.goals.Log.join_all.Given as goal

abbrev pub invariant-loop-i : goal.invariant-loop-i
invariant-loop-i l =
    (pairs : ℕ) (slots : List Slot) (goal : ℕ) (ps : List ℕ)
    (a : JoinsAll l.fn.s l.self.places l.self.waiters l.self.sets pairs slots l.place goal ps l.readers l.n)
    → LogNow l.fn.s l.s l.self.places l.self.waiters l.self.sets pairs (length slots)
    (slots_after l.fn.s l.self.places l.self.waiters l.self.sets pairs slots l.place goal ps l.readers l.n a l.i)
