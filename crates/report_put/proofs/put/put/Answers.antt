-- `report_put::put::put` meets its contract: one place is set.
use Rattle.report_pairs.proofs.Laid.{puts_one}
use Rattle.report_put.proofs.put.put.Goals as goal

pub returns : goal.returns
returns c = puts_one c.args.buffer.now c.args.at c.args.b
