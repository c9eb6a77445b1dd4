-- `report_pairs::cells::behind_element` meets its contract: by what the tail's word shows.
use mathlib.Core.Path.{◌∙◌, sym}
use native.Mathlib.Omega.{arith}
use Rattle.report_pairs.proofs.Walking.{led_inside, element_empty, element_cell, element_bar_compound, element_bar_other}
use Rattle.report_pairs.proofs.cells.behind_element.Goals as goal

pub functor-requires : goal.functor-requires
functor-requires c = omega (arith, led_inside c.args.s.now c.requires.0 c.requires.2 c.args.t c.in-Compound.q c.requires.4 (sym c.look.ensures ∙ c.in-Compound.is))

pub returns-in-Empty : goal.returns-in-Empty
returns-in-Empty c x u v a l = element_empty c.args.s.now x c.args.p c.args.t u v a l (sym c.look.ensures ∙ c.in-Empty.is)

pub returns-in-None : goal.returns-in-None
returns-in-None c x u v a l =
    element_cell c.args.s.now x c.args.p c.args.t u v a l c.in-Compound.q (sym c.look.ensures ∙ c.in-Compound.is) c.in-None.ensures

pub returns-in-Some : goal.returns-in-Some
returns-in-Some c x u v a l =
    element_bar_compound c.args.s.now x c.args.p c.args.t u v a l c.in-Compound.q (sym c.look.ensures ∙ c.in-Compound.is)
    (λ z. omega (arith, c.in-Some.ensures))

pub returns-in_default : goal.returns-in_default
returns-in_default c x u v a l =
    element_bar_other c.args.s.now x c.args.p c.args.t u v a l (λ e. c.in_default.not-Empty (c.look.ensures ∙ e)) (λ q e. c.in_default.not-Compound q (c.look.ensures ∙ e))
