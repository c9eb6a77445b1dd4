-- The run has come so far, and the budget has steps left.
use Rattle.std.proofs.Common.{◌≡◌, ◌≤◌, ◌-◌, List}
use Rattle.meaning.specs.Bytes.{Bytes}
use Rattle.meaning.specs.Terms.{Job}
use Rattle.term.specs.Layout.{figures}
use Rattle.term.specs.States.{Atlas}
use Rattle.run_queues.specs.Log.{Slot}
use Rattle.run_between.specs.Running.{Running}
use Rattle.machine.proofs.GoingOn.{GoesOn}
use Rattle.machine.proofs.run.go_on.Given as goal

abbrev pub invariant-loop-t : goal.invariant-loop-t
invariant-loop-t l =
    (text : Bytes) (names : List Bytes) (j : Job) (atlas : Atlas) (slots : List Slot)
    → Running l.fn.s text names j (figures l.room) 0 atlas slots l.fn.first 2 → l.fn.first.steps ≡ 0 → l.budget ≤ 1000000
    → GoesOn l.fn.s l.s text names j (figures l.room) l.budget l.t

abbrev pub decreases-loop-t : goal.decreases-loop-t
decreases-loop-t l = l.budget - l.t.steps
