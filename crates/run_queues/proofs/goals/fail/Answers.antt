-- The word is stored behind the list.
use Rattle.run_queues.proofs.Listed.{failed_more}
use Rattle.run_queues.proofs.goals.fail.Goals as goal

pub returns : goal.returns
returns c = failed_more c.args.s.now c.args.failed c.args.n c.args.goal c.requires
