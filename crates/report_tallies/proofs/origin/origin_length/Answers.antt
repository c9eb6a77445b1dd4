-- `report_tallies::origin::origin_length` meets its contract.
use native.Mathlib.Omega.{arith}
use Rattle.report_tallies.proofs.Origins.{origin_size}
use Rattle.report_tallies.proofs.origin.origin_length.Goals as goal

pub returns : goal.returns
returns c =
    omega (arith, origin_size c.args.goal c.clause_of.result c.tries_of.result c.clause_of.ensures c.tries_of.ensures, c.digits.ensures, c.digits-2.ensures)
