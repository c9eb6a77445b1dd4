-- The pairs are turned first, then the two places are written.
use Rattle.run_queues.proofs.Shifting.{goal_word, turns, shifted}
use Rattle.run_queues.proofs.goals.Log.shift.Goals as goal

pub turn_all-requires : goal.turn_all-requires
turn_all-requires c =
    let (pairs, slots, goal, ps, a) = c.requires in
    (pairs, c.args.from, ps, rw (c.link.ensures, c.linked.ensures) (turns _ _ _ _ pairs slots _ _ goal ps a))

pub returns : goal.returns
returns c = λ pairs slots goal ps a.
    let t = turns _ _ _ _ pairs slots _ _ goal ps a in
    rw (c.seat-2.ensures, c.seat.ensures, goal_word _ _ _ _ pairs slots _ _ goal ps a)
    (shifted _ _ _ _ pairs slots _ _ goal ps a _
    ((rw (c.link.ensures, c.linked.ensures) at c.turn_all.ensures) pairs c.args.from ps t))
