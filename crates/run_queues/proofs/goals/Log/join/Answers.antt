-- A pair without a waiter is new to the set, and one with a waiter has this goal.
use Rattle.run_queues.proofs.LogSteps.{joins_new, joins_there}
use Rattle.run_queues.proofs.goals.Log.join.Goals as goal

pub returns-then-s-self-eq0 : goal.returns-then-s-self-eq0
returns-then-s-self-eq0 c = λ pairs slots goal ps j.
    rw (c.point.ensures, c.link.ensures, c.link-then-s-self-eq0.ensures)
    (joins_new _ _ _ _ pairs slots _ goal ps c.args.p j c.if-s-self-eq0.true)

pub returns-else-s-self-eq0 : goal.returns-else-s-self-eq0
returns-else-s-self-eq0 c = λ pairs slots goal ps j.
    joins_there _ _ _ _ pairs slots _ goal ps c.args.p j c.if-s-self-eq0.false
