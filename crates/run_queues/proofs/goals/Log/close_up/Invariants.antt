-- Up to i the log is closed up.
use Rattle.std.proofs.Common.{ℕ, ◌≡◌, List, length}
use Rattle.run_queues.specs.Log.{Slot, LogOk}
use Rattle.run_queues.proofs.Closing.{Halfway}
use Rattle.run_queues.proofs.goals.Log.close_up.Given as goal

abbrev pub invariant-loop-i : goal.invariant-loop-i
invariant-loop-i l =
    (pairs : ℕ) (slots : List Slot) (ok : LogOk l.fn.s l.self.places l.self.waiters l.self.sets pairs slots) (e : l.used ≡ length slots)
    → (now : List Slot) × Halfway l.fn.s l.self.places l.self.waiters l.self.sets pairs l.used slots ok e l.s l.i l.to now
