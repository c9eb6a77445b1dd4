-- The first i goals stand at the queue's end, and their places are empty.
use Rattle.std.proofs.Common.{ℕ, List}
use Rattle.run_queues.specs.Log.{Slot}
use Rattle.run_effects.specs.Reducing.{AddsWoken}
use Rattle.run_effects.proofs.Emptying.{Rejoined}
use Rattle.run_effects.proofs.reduce.add_woken.Given as goal

abbrev pub invariant-loop-i : goal.invariant-loop-i
invariant-loop-i l =
    (waiters sets pairs : ℕ) (slots : List Slot) (zs : List ℕ)
    → AddsWoken l.fn.s l.log.places waiters sets pairs slots zs l.n l.queue.start l.queue.size l.queue.front l.queue.active
    → Rejoined l.fn.s l.s l.log.places waiters sets pairs slots zs l.queue.start l.queue.size l.queue.front l.queue.active l.i
