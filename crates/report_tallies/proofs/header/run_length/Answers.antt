-- `report_tallies::header::run_length` meets its contract.
use mathlib.Core.Path.{ap}
use native.Mathlib.Omega.{arith}
use lib.ListN.{length}
use Rattle.report_tallies.proofs.FirstLines.{run_line_size}
use Rattle.report_tallies.proofs.header.run_length.Goals as goal

pub returns : goal.returns
returns c = omega (arith, run_line_size c.args.verdict c.args.steps, ap length c.verdict_word.ensures, c.digits.ensures.0)
