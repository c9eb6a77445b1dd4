-- `report_pairs::ends::lead` meets its contract: the end is kept of an assigned variable's pair.
use native.Mathlib.Omega.{arith}
use Rattle.report_pairs.proofs.Chains.{pair_inside, lead_same, lead_kept}
use Rattle.report_pairs.proofs.ends.lead.Goals as goal

pub returns-then-e-w : goal.returns-then-e-w
returns-then-e-w c text x t r k = lead_same c.args.s.now text x c.args.facts r t c.end-e.result (c.end-e.ensures text x t r k)

pub returns-in_default : goal.returns-in_default
returns-in_default c text x t r k = lead_same c.args.s.now text x c.args.facts r t c.end-e.result (c.end-e.ensures text x t r k)

pub set_fact-requires : goal.set_fact-requires
set_fact-requires c =
    let (text, x, t, r, k) = c.requires in
    omega (arith, pair_inside c.args.s.now text x c.args.facts r t c.args.w c.in-Some.p k c.in-Some.ensures)

pub returns : goal.returns
returns c text x t r k =
    rw c.set_fact.ensures
    (lead_kept c.args.s.now text x c.args.facts r t c.args.w c.in-Some.p c.end-e.result k c.in-Some.ensures c.if-e-w.false (c.end-e.ensures text x t r k))
