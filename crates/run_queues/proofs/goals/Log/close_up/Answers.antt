-- Place by place.
use native.Mathlib.Omega.{arith}
use Rattle.run_queues.proofs.Closing.{halfway_begins, halfway_settles, halfway_on, halfway_ends}
use Rattle.run_queues.proofs.goals.Log.close_up.Goals as goal

pub loop-i-init : goal.loop-i-init
loop-i-init c = λ pairs slots ok e. (slots, halfway_begins _ _ _ _ pairs _ slots ok e)

pub settle-to-requires : goal.settle-to-requires
settle-to-requires c =
    let (pairs, slots, ok, e) = c.requires in
    let here = c.loop-i in
    let (now, half) = here.invariant pairs slots ok e in
    (pairs, now, halfway_settles _ _ _ _ pairs _ slots ok e here.s here.i here.to now half c.loop-i-test.true)

pub loop-i-preserved : goal.loop-i-preserved
loop-i-preserved c = λ pairs slots ok e.
    let here = c.loop-i in
    let (now, half) = here.invariant pairs slots ok e in
    halfway_on _ _ _ _ pairs _ slots ok e here.s here.i here.to now half c.loop-i-test.true _ _
    (c.settle-to.ensures pairs now (halfway_settles _ _ _ _ pairs _ slots ok e here.s here.i here.to now half c.loop-i-test.true))

pub returns : goal.returns
returns c = λ pairs slots ok e.
    let here = c.loop-i in
    let (now, half) = here.invariant pairs slots ok e in
    halfway_ends _ _ _ _ pairs _ slots ok e here.s here.i here.to now half (omega arith)
