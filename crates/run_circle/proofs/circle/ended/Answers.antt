-- `run_circle::circle::ended` meets its contract: the pair that the state names, if any, is marked.
use mathlib.Core.Path.{sym, ◌∙◌}
use borrow.Author.Tests.{ltb-true}
use Rattle.run_circle.proofs.Settle.{settled_same}
use Rattle.run_circle.proofs.circle.ended.Goals as goal
use Rattle.run_circle.proofs.circle.ended.Goals.{else-visited_one, then-visited_one}

pub first_visited-requires : goal.first_visited-requires
first_visited-requires c =
    ltb-true 1 c.args.state (sym c.visited_one.ensures ∙ c.if-visited_one.true)

pub settle-requires : goal.settle-requires
settle-requires c =
    let (x, place, goal, h, names) = c.requires in
    (x, place, goal, h, names c.first_visited.result c.first_visited.ensures)

pub returns-then-met_open-clause-settled : goal.returns-then-met_open-clause-settled
returns-then-met_open-clause-settled c =
    let a = c.args in
    elim c.if-visited_one.branch [
      | then-visited_one w ↦ rw w.s-is (λ x place goal h names.
          w.settle.ensures x place goal h (names w.first_visited.result w.first_visited.ensures))
      | else-visited_one w ↦ rw w.s-is (λ x place goal h names. settled_same x a.marks a.stamp a.s.now)
    ]

pub returns-else-met_open-clause-settled : goal.returns-else-met_open-clause-settled
returns-else-met_open-clause-settled c =
    let a = c.args in
    elim c.if-visited_one.branch [
      | then-visited_one w ↦ rw w.s-is (λ x place goal h names.
          w.settle.ensures x place goal h (names w.first_visited.result w.first_visited.ensures))
      | else-visited_one w ↦ rw w.s-is (λ x place goal h names. settled_same x a.marks a.stamp a.s.now)
    ]
