-- `run_circle::circle::visit` meets its contract: the search goes on from the pair that the mark tells, or from the value.
use native.Mathlib.Omega.{arith}
use Rattle.run_circle.proofs.Settle.{settled_same}
use Rattle.run_circle.proofs.Visiting.{visit_fits, visit_searching, visits_via, visits_value}
use Rattle.run_circle.proofs.circle.visit.Goals as goal

pub returns-then-end-ne0 : goal.returns-then-end-ne0
returns-then-end-ne0 c =
    let a = c.args in λ x place goal n v.
    visits_via a.s.now x a.values a.marks place a.stamp goal a.state a.p a.m n v c.if-end-ne0.true c.set_at.new.s _
    c.set_at.ensures (omega arith)

pub note-requires : goal.note-requires
note-requires c =
    let a = c.args in
    let (x, place, goal, n, v) = c.requires in (
      x,
      place,
      goal,
      visit_searching a.s.now x a.values a.marks place a.stamp goal a.state a.p a.m n v c.set_at.new.s c.set_at.ensures,
      v.leading,
      (visit_fits a.s.now x a.values a.marks place a.stamp goal a.state a.p a.m n v).1,
    )

pub returns-then-unassigned : goal.returns-then-unassigned
returns-then-unassigned c =
    let a = c.args in λ x place goal n v.
    let here = visit_searching a.s.now x a.values a.marks place a.stamp goal a.state a.p a.m n v c.set_at.new.s
    c.set_at.ensures in
    visits_value a.s.now x a.values a.marks place a.stamp goal a.state a.p a.m n v c.set_at.new.s c.note.new.s
    c.word_at-t.result c.set_at.ensures
    (c.note.ensures x place goal here v.leading
    (visit_fits a.s.now x a.values a.marks place a.stamp goal a.state a.p a.m n v).1)
    c.word_at-t.ensures

pub returns-else-unassigned : goal.returns-else-unassigned
returns-else-unassigned c =
    let a = c.args in λ x place goal n v.
    visits_value a.s.now x a.values a.marks place a.stamp goal a.state a.p a.m n v c.set_at.new.s c.set_at.new.s
    c.word_at-t.result c.set_at.ensures (settled_same x a.marks a.stamp c.set_at.new.s) c.word_at-t.ensures
