-- `report_tallies::header::verdict_word` meets its contract.
use Rattle.meaning.specs.Bytes.{bytes}
use Rattle.meaning.specs.Report.{verdict_bytes}
use Rattle.report_tallies.proofs.header.verdict_word.Goals as goal

pub returns-in-Rest : goal.returns-in-Rest
unfolding verdict_bytes bytes
returns-in-Rest c = rw c.in-Rest.is

pub returns-in-Budget : goal.returns-in-Budget
unfolding verdict_bytes bytes
returns-in-Budget c = rw c.in-Budget.is

pub returns-in-Room : goal.returns-in-Room
unfolding verdict_bytes bytes
returns-in-Room c = rw c.in-Room.is
