-- By what stands at the place, and by whether one before it is empty.
use Rattle.run_queues.proofs.Closing.{settle_none, settle_here, settle_shifts, settle_moved}
use Rattle.run_queues.proofs.goals.Log.settle.Goals as goal

pub returns-then-s-self-eq0 : goal.returns-then-s-self-eq0
returns-then-s-self-eq0 c = λ pairs slots a. settle_none _ _ _ _ pairs slots _ _ a c.if-s-self-eq0.true

pub returns-then-to-place : goal.returns-then-to-place
returns-then-to-place c = λ pairs slots a. settle_here _ _ _ _ pairs slots _ _ a c.if-s-self-eq0.false c.if-to-place.true

pub shift-requires : goal.shift-requires
shift-requires c =
    let (pairs, slots, a) = c.requires in
    let (goal, ps, moves) = settle_shifts _ _ _ _ pairs slots _ _ a c.if-s-self-eq0.false c.if-to-place.false in
    (pairs, slots, goal, ps, moves)

pub returns : goal.returns
returns c = λ pairs slots a. settle_moved _ _ _ _ pairs slots _ _ a _ c.if-s-self-eq0.false c.if-to-place.false c.shift.ensures
