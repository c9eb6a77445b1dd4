-- After i entries the goals found wait on nothing, and their places are listed.
use Rattle.std.proofs.Common.{ℕ, List}
use Rattle.run_queues.specs.Log.{Slot}
use Rattle.run_effects.specs.Reducing.{Wakes}
use Rattle.run_effects.proofs.Awaking.{Awake}
use Rattle.run_effects.proofs.reduce.wake.Given as goal

abbrev pub invariant-loop-i : goal.invariant-loop-i
invariant-loop-i l =
    (pairs : ℕ) (slots : List Slot) → Wakes l.fn.s l.log.places l.log.waiters l.log.sets pairs slots l.n
    → Awake l.fn.s l.s l.log.places l.log.waiters l.log.sets pairs slots l.i l.woken
