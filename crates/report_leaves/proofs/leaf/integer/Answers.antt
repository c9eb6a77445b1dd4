-- `report_leaves::leaf::integer` meets its contract: its digits, or a minus sign and those of what is missing to 2^32.
use mathlib.Core.Path.{sym, ap}
use native.Mathlib.Omega.{arith}
use lib.ListN.{length}
use Rattle.report_put.proofs.Putting.{puts_two, puts_is, puts_length, puts_one_place}
use Rattle.report_pairs.proofs.Leaves.{plus_bits, minus_bits, minus_length}
use Rattle.report_leaves.proofs.leaf.integer.Goals as goal

pub decimal-requires : goal.decimal-requires
decimal-requires c =
    let (i, r, e, fit) = c.requires in omega (arith, ap length (plus_bits i c.args.n r e c.if-n-lt2147483648.true), fit)

pub returns-then-n-lt2147483648 : goal.returns-then-n-lt2147483648
returns-then-n-lt2147483648 c i r e = puts_is (sym (plus_bits i c.args.n r e c.if-n-lt2147483648.true)) c.decimal.ensures

pub put-to-requires : goal.put-to-requires
put-to-requires c =
    let (i, r, e, fit) = c.requires in omega (arith, minus_length i c.args.n r e c.if-n-lt2147483648.false, fit)

pub overflow_sub-n : goal.overflow_sub-n
overflow_sub-n c = let (i, r, e, fit) = c.requires in omega (arith, (minus_bits i c.args.n r e c.if-n-lt2147483648.false).1)

pub decimal-requires-2 : goal.decimal-requires-2
decimal-requires-2 c =
    let (i, r, e, fit) = c.requires in
    omega (arith, minus_length i c.args.n r e c.if-n-lt2147483648.false, fit, puts_one_place c.put-to.ensures, puts_length c.put-to.ensures)

pub returns : goal.returns
returns c i r e = puts_is (sym (minus_bits i c.args.n r e c.if-n-lt2147483648.false).0) (puts_two c.put-to.ensures c.decimal-2.ensures)
