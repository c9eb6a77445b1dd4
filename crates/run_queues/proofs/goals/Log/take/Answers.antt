-- The goal's word is read, and its place is emptied.
use Rattle.run_queues.proofs.LogSteps.{taken_out}
use Rattle.run_queues.proofs.goals.Log.take.Goals as goal

pub returns-clause-log : goal.returns-clause-log
returns-clause-log c = λ waiters sets pairs slots goal a.
    rw c.seat.ensures (taken_out c.args.s.now c.args.self.places waiters sets pairs slots c.args.place goal a)
