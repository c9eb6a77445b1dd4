-- The next place, or the ring's first behind its last.
use native.Mathlib.Omega.{arith}
use Rattle.run_queues.proofs.Ring.{passed_on, passed_round}
use Rattle.run_queues.proofs.goals.behind.Goals as goal

pub returns-then-front-size : goal.returns-then-front-size
returns-then-front-size c = passed_round c.args.size c.args.front (omega arith)

pub returns-else-front-size : goal.returns-else-front-size
returns-else-front-size c = passed_on c.args.size c.args.front (omega (arith, c.if-front-size.false))
