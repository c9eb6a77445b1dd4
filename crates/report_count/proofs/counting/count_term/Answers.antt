-- `report_count::counting::count_term` meets its contract: at the ceiling nothing is counted; below it the term is led to its end, a compound or a leaf.
use mathlib.Core.Path.{◌∙◌, sym}
use native.Mathlib.Omega.{arith}
use Rattle.report_count.proofs.CountingWalk.{count_ceiling, compound_asks, compound_tells, leaf_asks, leaf_tells}
use Rattle.report_count.proofs.counting.count_term.Goals as goal

pub returns-then-at-eq-CEILING : goal.returns-then-at-eq-CEILING
returns-then-at-eq-CEILING c text x seen t C k = count_ceiling c.args.s.now text x c.args.facts seen t c.args.at C c.if-at-eq-CEILING.true

pub count_compound-requires : goal.count_compound-requires
count_compound-requires c =
    let a = c.args in let (text, x, seen, t, C, k) = c.requires in
    compound_asks a.s.now c.lead-e.new.s text x a.facts seen t a.at a.w c.lead-e.result C (omega (arith, C.low, c.if-at-eq-CEILING.false)) k (c.lead-e.ensures text x t C.readable k) _ (sym c.look.ensures ∙ c.in-Compound.is)

pub leaf-requires : goal.leaf-requires
leaf-requires c =
    let a = c.args in let (text, x, seen, t, C, k) = c.requires in
    leaf_asks a.s.now c.lead-e.new.s text x a.facts seen t a.at a.w c.lead-e.result C (omega (arith, C.low, c.if-at-eq-CEILING.false)) k (c.lead-e.ensures text x t C.readable k)

pub returns-in-Compound : goal.returns-in-Compound
returns-in-Compound c text x seen t C k =
    let a = c.args in let called = c.count_compound in
    compound_tells a.s.now c.lead-e.new.s text x a.facts seen t a.at a.w c.lead-e.result C (omega (arith, C.low, c.if-at-eq-CEILING.false)) k (c.lead-e.ensures text x t C.readable k) _ (sym c.look.ensures ∙ c.in-Compound.is) called.new.s called.result (called.ensures text x seen t)

pub returns-in_default : goal.returns-in_default
returns-in_default c text x seen t C k =
    let a = c.args in let called = c.leaf in
    leaf_tells a.s.now c.lead-e.new.s text x a.facts seen t a.at a.w c.lead-e.result C (omega (arith, C.low, c.if-at-eq-CEILING.false)) k (c.lead-e.ensures text x t C.readable k)
    (λ q e. c.in_default.not-Compound q (c.look.ensures ∙ e)) called.new.s called.result c.further.result (called.ensures text x seen t) c.further.ensures
