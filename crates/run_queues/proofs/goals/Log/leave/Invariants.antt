-- The pairs that are left are a chain from the first; the sum of all words falls.
use Rattle.std.proofs.Common.{ℕ, List}
use Rattle.term.specs.Words.{link_to}
use Rattle.run_queues.specs.Log.{Slot, At}
use Rattle.run_queues.proofs.Leaving.{total, Left}
use Rattle.run_queues.proofs.goals.Log.leave.Given as goal

abbrev pub invariant-loop-first : goal.invariant-loop-first
invariant-loop-first l =
    (pairs : ℕ) (slots : List Slot) (goal : ℕ) (ps : List ℕ)
    (a : At l.fn.s l.self.places l.self.waiters l.self.sets pairs slots l.place goal ps)
    → (rest : List ℕ) × Left l.fn.s l.self.places l.self.waiters l.self.sets pairs slots l.place goal ps a l.s (link_to l.first) rest

abbrev pub decreases-loop-first : goal.decreases-loop-first
decreases-loop-first l = total l.s
