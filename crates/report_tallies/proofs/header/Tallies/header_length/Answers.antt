-- `report_tallies::header::Tallies::header_length` meets its contract.
use native.Mathlib.Omega.{arith}
use Rattle.report_tallies.proofs.FirstLines.{header_size}
use Rattle.report_tallies.proofs.header.Tallies.header_length.Goals as goal

pub returns : goal.returns
returns c =
    omega (arith, header_size c.args.q c.args.self, c.digits.ensures.0, c.digits-2.ensures.0, c.digits-3.ensures.0, c.digits-4.ensures.0, c.digits-5.ensures.0)
