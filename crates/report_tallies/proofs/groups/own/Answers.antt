-- `report_tallies::groups::own` meets its contract.
use mathlib.Core.Path.{sym, ap, ◌∙◌}
use lib.Dec.{eqb}
use borrow.Author.Tests.{eq-eqb}
use Rattle.report_tallies.proofs.GoalPlaces.{own_none, own_some}
use Rattle.report_tallies.proofs.groups.own.Goals as goal

pub returns-then-goal-ne0 : goal.returns-then-goal-ne0
returns-then-goal-ne0 c = ap (λ n. eqb n c.args.q) c.index.ensures ∙ sym (own_some c.args.q c.args.goal c.if-goal-ne0.true)

pub returns-else-goal-ne0 : goal.returns-else-goal-ne0
returns-else-goal-ne0 c = rw (eq-eqb c.args.goal 0 c.if-goal-ne0.false) (sym (own_none c.args.q c.args.goal c.if-goal-ne0.false))
