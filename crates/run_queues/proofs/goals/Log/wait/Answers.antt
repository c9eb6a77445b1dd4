-- The goal joins the log with no pair, and then its pairs join it.
use Rattle.std.proofs.Common.{[]}
use Rattle.run_queues.proofs.LogSteps.{with_goal, waiting_begins, waiting_ends}
use Rattle.run_queues.proofs.goals.Log.wait.Goals as goal

pub join_all-requires : goal.join_all-requires
join_all-requires c =
    let (pairs, slots, w) = c.requires in (
      pairs,
      with_goal c.args.s.now c.args.self.places c.args.self.waiters c.args.self.sets pairs slots c.args.place c.args.goal c.args.readers c.args.n w [],
      c.args.goal,
      [],
      rw c.seat.ensures (waiting_begins _ _ _ _ pairs slots _ _ _ _ w),
    )

pub returns : goal.returns
returns c = λ pairs slots w.
    waiting_ends _ _ _ _ pairs slots _ _ _ _ w _
    ((rw c.seat.ensures at c.join_all.ensures) pairs
    (with_goal c.args.s.now c.args.self.places c.args.self.waiters c.args.self.sets pairs slots c.args.place c.args.goal c.args.readers c.args.n w [])
    c.args.goal [] (waiting_begins _ _ _ _ pairs slots _ _ _ _ w))
