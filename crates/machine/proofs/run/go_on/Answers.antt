-- The run goes on until its queue is empty, its budget is spent or a reduction does not fit.
use native.Mathlib.Omega.{arith}
use Rattle.term.specs.Layout.{figures}
use Rattle.run_between.proofs.FramesRunning.{run_only_then}
use Rattle.machine.proofs.GoingOn.{goes_starts, front, goes_to_rest, goes_to_budget, steps_few, steps_left, goes_to_next, goes_to_room}
use Rattle.machine.proofs.run.go_on.Goals as goal

pub loop-t-init : goal.loop-t-init
loop-t-init c = λ text names j atlas slots r none few. goes_starts _ text names j (figures c.args.room) c.args.budget c.args.first atlas slots r none few

pub step-requires : goal.step-requires
step-requires c =
    let (text, names, j, atlas, slots, r, none, few) = c.requires in
    let h = c.loop-t.invariant text names j atlas slots r none few in
    let (g, others, first) = front h c.loop-t-test.true in
    (text, names, j, h.limit, h.atlas, h.slots, g, others, h.running, steps_few h c.if-t-budget.false, first)

pub loop-t-smaller : goal.loop-t-smaller
loop-t-smaller c =
    let (text, names, j, atlas, slots, r, none, few) = c.requires in
    let h = c.loop-t.invariant text names j atlas slots r none few in
    let some = c.if-t-budget.false in
    let (g, others, first) = front h c.loop-t-test.true in
    let k = c.step.ensures text names j h.limit h.atlas h.slots g others h.running (steps_few h some) first in
    let told = (rw c.in-Some.is at k).told in
    omega (arith, told.3, steps_left h some)

pub loop-t-preserved : goal.loop-t-preserved
loop-t-preserved c = λ text names j atlas slots r none few.
    let h = c.loop-t.invariant text names j atlas slots r none few in
    let some = c.if-t-budget.false in
    let (g, others, first) = front h c.loop-t-test.true in
    let k = c.step.ensures text names j h.limit h.atlas h.slots g others h.running (steps_few h some) first in
    goes_to_next h g others first some _ _ (rw c.in-Some.is at k)

pub returns-then-t-budget : goal.returns-then-t-budget
returns-then-t-budget c = λ text names j atlas slots r none few.
    let h = c.loop-t.invariant text names j atlas slots r none few in
    (h.only, goes_to_budget h c.loop-t-test.true c.if-t-budget.true)

pub returns-in-None : goal.returns-in-None
returns-in-None c = λ text names j atlas slots r none few.
    let h = c.loop-t.invariant text names j atlas slots r none few in
    let some = c.if-t-budget.false in
    let (g, others, first) = front h c.loop-t-test.true in
    let k = c.step.ensures text names j h.limit h.atlas h.slots g others h.running (steps_few h some) first in
    (run_only_then _ _ _ _ h.only k.only, goes_to_room h g others first some _ (rw c.in-None.is at k))

pub returns : goal.returns
returns c = λ text names j atlas slots r none few.
    let h = c.loop-t.invariant text names j atlas slots r none few in
    (h.only, goes_to_rest h c.loop-t-test.false)
