-- `report_tallies::header::count` meets its contract: a word and a number behind it.
use Rattle.report_pairs.proofs.Laid.{puts_behind}
use Rattle.report_tallies.proofs.header.count.Goals as goal

pub returns : goal.returns
returns c = puts_behind _ _ _ _ _ _ _ _ c.words-to.ensures c.decimal.ensures
