-- `run_compare::compare::same` meets its contract.
use Rattle.std.proofs.Common.{sym, ap, ◌∙◌}
use borrow.Author.Tests.{ne_eqb}
use Rattle.run_compare.specs.Same.{is_constant}
use Rattle.run_compare.proofs.Same.{same_differs, same_equal, no_constant, a_constant}
use Rattle.run_table.proofs.Seen.{seen}
use Rattle.run_compare.proofs.compare.same.Goals as goal

pub returns-in-Integer : goal.returns-in-Integer
returns-in-Integer c =
    sym (same_equal c.args.h c.args.a c.if-h-a.true ∙ ap is_constant (sym c.look.ensures) ∙ a_constant c.look.result c.in-Integer.is)

pub returns-in_default : goal.returns-in_default
returns-in_default c =
    sym (same_equal c.args.h c.args.a c.if-h-a.true ∙ no_constant (seen c.args.h)
    (λ z e. c.in_default.not-Integer z (c.look.ensures ∙ e)) (λ z e. c.in_default.not-Name z (c.look.ensures ∙ e))
    (λ e. c.in_default.not-Empty (c.look.ensures ∙ e)))

pub returns-else-h-a : goal.returns-else-h-a
returns-else-h-a c = ne_eqb c.args.h c.args.a c.if-h-a.false ∙ sym (same_differs c.args.h c.args.a c.if-h-a.false)
