-- Inside the ring a place stays, and past its end a turn is taken off.
use Rattle.std.proofs.Common.{sym}
use Rattle.run_queues.proofs.Ring.{round_below, round_beyond}
use Rattle.run_queues.proofs.goals.spot.Goals as goal

pub returns-then-at-size : goal.returns-then-at-size
returns-then-at-size c = sym (round_below _ _ c.if-at-size.true)

pub returns-else-at-size : goal.returns-else-at-size
returns-else-at-size c = sym (round_beyond _ _ c.if-at-size.false)
