-- `report_count::counting::keep` meets its contract: the length and the place are kept of an assigned variable's pair.
use native.Mathlib.Omega.{arith}
use Rattle.report_pairs.proofs.Chains.{pair_inside}
use Rattle.report_count.proofs.KeptLengths.{keep_now}
use Rattle.report_count.proofs.counting.keep.Goals as goal

pub set_fact-requires : goal.set_fact-requires
set_fact-requires c =
    let (text, x, t, r, k, o) = c.requires in
    omega (arith, pair_inside c.args.s.now text x c.args.facts r t c.args.w c.in-Some.p k c.in-Some.ensures)

pub set_fact-requires-in-Some : goal.set_fact-requires-in-Some
set_fact-requires-in-Some c =
    let (text, x, t, r, k, o) = c.requires in
    omega (arith, pair_inside c.args.s.now text x c.args.facts r t c.args.w c.in-Some.p k c.in-Some.ensures, c.set_fact.auto.s)

pub returns-in-Some : goal.returns-in-Some
returns-in-Some c text x seen t r n k K =
    rw (c.set_fact-in-Some.ensures, c.set_fact.ensures)
    (keep_now c.args.s.now text x c.args.facts seen t c.args.w c.in-Some.p c.args.at c.args.to r n k K c.in-Some.ensures c.if-to-eq-CEILING.false)
