-- `run_equal::equal::join` meets its contract, either way round.
use Rattle.run_equal.proofs.Links.{linked_swap}
use Rattle.run_equal.proofs.equal.join.Goals as goal

pub returns-then-not-is_variable : goal.returns-then-not-is_variable
returns-then-not-is_variable c =
    let a = c.args in
    λ x values v u W m o.
    linked_swap a.s.now c.point.new.s x values a.lists a.links a.taken v u c.point.result
    (c.point.ensures x values u v W o m)

pub returns-then-c-d : goal.returns-then-c-d
returns-then-c-d c =
    let a = c.args in
    λ x values v u W m o.
    linked_swap a.s.now c.point-then-c-d.new.s x values a.lists a.links a.taken v u c.point-then-c-d.result
    (c.point-then-c-d.ensures x values u v W o m)
