-- The pairs that are left are a chain from the first; the sum of all words falls.
use Rattle.std.proofs.Common.{ℕ, List}
use Rattle.term.specs.Words.{link_to}
use Rattle.run_queues.specs.Log.{Turns}
use Rattle.run_queues.proofs.Leaving.{total}
use Rattle.run_queues.proofs.Turning.{Turning}
use Rattle.run_queues.proofs.goals.Log.turn_all.Given as goal

abbrev pub invariant-loop-first : goal.invariant-loop-first
invariant-loop-first l =
    (pairs from : ℕ) (ps : List ℕ) (t : Turns l.fn.s l.self.waiters l.self.sets pairs from l.waiter (link_to l.fn.start) ps)
    → (rest : List ℕ) × Turning l.fn.s l.self.waiters l.self.sets pairs from l.waiter (link_to l.fn.start) ps t l.s (link_to l.first) rest

abbrev pub decreases-loop-first : goal.decreases-loop-first
decreases-loop-first l = total l.s
