-- `report_pairs::ends::next` meets its contract, by the cases of Chains.
use mathlib.Core.Path.{◌∙◌, sym}
use native.Mathlib.Omega.{arith}
use Rattle.report_pairs.proofs.Chains.{pair_inside, next_other, next_end, next_value}
use Rattle.report_pairs.proofs.ends.next.Goals as goal

pub returns-in_err-p : goal.returns-in_err-p
returns-in_err-p c text x t r k = rw c.from_residual.ensures (next_other c.args.s.now text x c.args.facts r t c.args.w k (sym c.in_err-p.was ∙ c.pair.ensures))

pub fact-e-requires : goal.fact-e-requires
fact-e-requires c =
    let (text, x, t, r, k) = c.requires in
    omega (arith, pair_inside c.args.s.now text x c.args.facts r t c.args.w c.in_ok-p.p k (sym c.in_ok-p.was ∙ c.pair.ensures))

pub returns-then-e-ne0 : goal.returns-then-e-ne0
returns-then-e-ne0 c text x t r k =
    next_end c.args.s.now text x c.args.facts r t c.args.w c.in_ok-p.p c.fact-e.result k (sym c.in_ok-p.was ∙ c.pair.ensures) c.fact-e.ensures c.if-e-ne0.true

pub value-requires : goal.value-requires
value-requires c =
    let (text, x, t, r, k) = c.requires in
    let inside = pair_inside c.args.s.now text x c.args.facts r t c.args.w c.in_ok-p.p k (sym c.in_ok-p.was ∙ c.pair.ensures) in
    (omega (arith, r.behind), omega (arith, r.behind, r.room), omega arith)

pub returns : goal.returns
returns c text x t r k =
    next_value c.args.s.now text x c.args.facts r t c.args.w c.in_ok-p.p c.value.result k (sym c.in_ok-p.was ∙ c.pair.ensures) c.value.ensures
