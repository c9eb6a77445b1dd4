-- `report_sections::sections::write_goals` meets its contract: the lines of the query's goals at the places passed are written.
use Prim.Native.Nat.{◌+◌, ◌<◌}
use mathlib.Core.Path.{◌≡◌, sym, ap, ◌∙◌}
use mathlib.Core.Bool.{true}
use native.Mathlib.Omega.{arith}
use Rattle.report_tallies.specs.Groups.{goal_in, own}
use Rattle.report_sections.proofs.WrittenGoals.{wrote_none, wrote_skip, wrote_as, wrote_all, next_line}
use Rattle.report_sections.proofs.sections.write_goals.Goals.{then-own, else-own}
use Rattle.report_sections.proofs.sections.write_goals.Goals as goal

pub loop-i-init : goal.loop-i-init
loop-i-init c =
    let a = c.args in
    λ x order gs readable listed numbers all fits.
    wrote_none a.source.now.s.now a.source.now.text.now x a.source.now.facts order a.buffer.now a.buffer.now a.at a.g a.q gs a.label.now listed

pub goal_at-goal-requires : goal.goal_at-goal-requires
goal_at-goal-requires c =
    let (x, order, gs, readable, listed, numbers, all, fits) = c.requires in
    (listed.inside, omega arith)

pub write_goal-to-requires : goal.write_goal-to-requires
write_goal-to-requires c =
    let S = c in
    let a = S.args in
    let l = c.loop-i in
    let goal = c.goal_at-goal in
    let (x, order, gs, readable, listed, numbers, all, fits) = S.requires in
    let is : own a.q (goal_in a.source.now.s.now a.g l.i) ≡ true =
    ap (own a.q) (sym goal.ensures) ∙ sym c.own.ensures ∙ c.if-own.true in
    let n = next_line a.source.now.s.now a.source.now.text.now x a.source.now.facts order a.buffer.now l.buffer a.at a.g a.q gs a.label.now l.to l.i goal.result
    (omega arith) readable listed numbers all fits goal.ensures is (l.invariant x order gs readable listed numbers all fits) in
    (x, order, n.term, n.writes, n.shows, n.fits)

pub loop-i-preserved : goal.loop-i-preserved
loop-i-preserved c =
    let a = c.args in
    let l = c.loop-i in
    let goal = c.goal_at-goal in
    let inside : l.i < a.g.count = omega arith in
    let same : own a.q (goal_in a.source.now.s.now a.g l.i) ≡ c.own.result =
    ap (own a.q) (sym goal.ensures) ∙ sym c.own.ensures in
    elim c.if-own.branch [
      | then-own w ↦ λ x order gs readable listed numbers all fits.
          let n = next_line a.source.now.s.now a.source.now.text.now x a.source.now.facts order a.buffer.now l.buffer a.at a.g a.q gs a.label.now l.to l.i goal.result
          inside readable listed numbers all fits goal.ensures (same ∙ w.if-own.true) (l.invariant x order gs readable listed numbers all fits) in
          wrote_as a.source.now.s.now x order a.buffer.now _ _ a.at a.g a.q gs a.label.now _ _ (l.i + 1) w.buffer-is w.to-is
          (n.gives w.write_goal-to.new.buffer w.write_goal-to.result (w.write_goal-to.ensures x order n.term n.writes n.shows n.fits))
      | else-own w ↦ λ x order gs readable listed numbers all fits.
          wrote_as a.source.now.s.now x order a.buffer.now _ _ a.at a.g a.q gs a.label.now _ _ (l.i + 1) w.buffer-is w.to-is
          (wrote_skip a.source.now.s.now a.source.now.text.now x a.source.now.facts order a.buffer.now l.buffer a.at a.g a.q gs a.label.now l.to l.i inside (same ∙ w.if-own.false) (l.invariant x order gs readable listed numbers all fits))
    ]

pub returns : goal.returns
returns c =
    let a = c.args in
    let l = c.loop-i in
    λ x order gs readable listed numbers all fits.
    wrote_all a.source.now.s.now a.source.now.text.now x a.source.now.facts order a.buffer.now l.buffer a.at a.g a.q gs a.label.now l.to l.i (omega arith) (l.invariant x order gs readable listed numbers all fits)
