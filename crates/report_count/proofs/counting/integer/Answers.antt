-- `report_count::counting::integer` meets its contract.
use mathlib.Core.Path.{◌∙◌, sym, ap}
use native.Mathlib.Omega.{arith}
use lib.ListN.{length}
use Rattle.report_pairs.proofs.Leaves.{plus_bits, minus_length}
use Rattle.report_count.proofs.counting.integer.Goals as goal

pub returns-then-n-lt2147483648 : goal.returns-then-n-lt2147483648
returns-then-n-lt2147483648 c i r e = c.digits.ensures.0 ∙ sym (ap length (plus_bits i c.args.n r e c.if-n-lt2147483648.true))

pub returns : goal.returns
returns c i r e = omega (arith, c.digits-2.ensures.0, minus_length i c.args.n r e c.if-n-lt2147483648.false)
