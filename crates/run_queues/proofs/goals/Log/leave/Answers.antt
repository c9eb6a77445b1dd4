-- Pair by pair.
use Rattle.run_queues.proofs.Leaving.{leaving_begins, leaving_ends, leaving_inside, leaving_less, leaving_on}
use Rattle.run_queues.proofs.goals.Log.leave.Goals as goal

pub loop-first-init : goal.loop-first-init
loop-first-init c = λ pairs slots goal ps a. (ps, rw c.linked-first.ensures (leaving_begins _ _ _ _ pairs slots _ goal ps a))

pub part-first-requires : goal.part-first-requires
part-first-requires c =
    let (pairs, slots, goal, ps, a) = c.requires in
    let (rest, l) = rw c.in-Some.is at (c.loop-first.invariant pairs slots goal ps a) in
    leaving_inside _ _ _ _ pairs slots _ goal ps a c.loop-first.s c.in-Some.p rest l

pub loop-first-smaller : goal.loop-first-smaller
loop-first-smaller c =
    let (pairs, slots, goal, ps, a) = c.requires in
    let (rest, l) = rw c.in-Some.is at (c.loop-first.invariant pairs slots goal ps a) in
    rw c.part-first.ensures.words (leaving_less _ _ _ _ pairs slots _ goal ps a c.loop-first.s c.in-Some.p rest l)

pub loop-first-preserved : goal.loop-first-preserved
loop-first-preserved c = λ pairs slots goal ps a.
    let (rest, l) = rw c.in-Some.is at (c.loop-first.invariant pairs slots goal ps a) in
    rw (c.part-first.ensures.words, c.part-first.ensures.next) (leaving_on _ _ _ _ pairs slots _ goal ps a c.loop-first.s c.in-Some.p rest l)

pub returns : goal.returns
returns c = λ pairs slots goal ps a.
    let (rest, l) = rw c.in_default.is at (c.loop-first.invariant pairs slots goal ps a) in
    leaving_ends _ _ _ _ pairs slots _ goal ps a c.loop-first.s rest l
