-- Pair by pair.
use Rattle.run_queues.proofs.Turning.{turning_begins, turning_ends, turning_inside, turning_less, turning_on}
use Rattle.run_queues.proofs.goals.Log.turn_all.Goals as goal

pub loop-first-init : goal.loop-first-init
loop-first-init c = λ pairs from ps t. (ps, turning_begins _ _ _ pairs from _ _ ps t)

pub turn-first-requires : goal.turn-first-requires
turn-first-requires c =
    let (pairs, from, ps, t) = c.requires in
    let (rest, u) = rw c.in-Some.is at (c.loop-first.invariant pairs from ps t) in
    turning_inside _ _ _ pairs from _ _ ps t c.loop-first.s c.in-Some.p rest u

pub loop-first-smaller : goal.loop-first-smaller
loop-first-smaller c =
    let (pairs, from, ps, t) = c.requires in
    let (rest, u) = rw c.in-Some.is at (c.loop-first.invariant pairs from ps t) in
    rw c.turn-first.ensures.words (turning_less _ _ _ pairs from _ _ ps t c.loop-first.s c.in-Some.p rest u)

pub loop-first-preserved : goal.loop-first-preserved
loop-first-preserved c = λ pairs from ps t.
    let (rest, u) = rw c.in-Some.is at (c.loop-first.invariant pairs from ps t) in
    rw (c.turn-first.ensures.words, c.turn-first.ensures.next) (turning_on _ _ _ pairs from _ _ ps t c.loop-first.s c.in-Some.p rest u)

pub returns : goal.returns
returns c = λ pairs from ps t.
    let (rest, u) = rw c.in_default.is at (c.loop-first.invariant pairs from ps t) in
    turning_ends _ _ _ pairs from _ _ ps t c.loop-first.s rest u
