-- `report_pairs::length::digits` meets its contract.
use mathlib.Core.Path.{ap}
use native.Mathlib.Omega.{arith}
use lib.ListN.{length}
use Rattle.report_pairs.proofs.Decimals.{decimal_digit, decimal_length, decimal_few}
use Rattle.report_pairs.proofs.length.digits.Goals as goal

pub loop-left-preserved : goal.loop-left-preserved
loop-left-preserved c = omega (arith, decimal_length c.loop-left.left (omega arith))

pub returns : goal.returns
returns c = omega (arith, ap length (decimal_digit c.loop-left.left (omega arith)), decimal_few c.args.n (omega arith))
