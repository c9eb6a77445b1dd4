-- `report_tallies::groups::Group::number` meets its contract.
use Prim.Native.Nat.{◌<◌}
use mathlib.Core.Path.{◌≡◌, sym, ap, ◌∙◌}
use native.Mathlib.Omega.{arith}
use lib.ListN.{length}
use Rattle.report_tallies.specs.Groups.{goal_in, own}
use Rattle.report_tallies.proofs.GoalPlaces.{own_in, own_out, own_end}
use Rattle.report_tallies.proofs.groups.Group.number.Goals.{then-own, else-own}
use Rattle.report_tallies.proofs.groups.Group.number.Goals as goal

pub loop-i-preserved : goal.loop-i-preserved
loop-i-preserved c =
    let S = c.args in
    let l = c.loop-i in
    let same : own S.q (goal_in S.s.now S.self l.i) ≡ c.own.result = ap (own S.q) (sym c.goal_at.ensures) ∙ sym c.own.ensures in
    let inside : l.i < S.self.count = omega arith in
    elim c.if-own.branch [
      | then-own w ↦ omega (arith, ap length (own_in S.s.now S.self S.q l.i S.self.count inside (same ∙ w.if-own.true)))
      | else-own w ↦ omega (arith, ap length (own_out S.s.now S.self S.q l.i S.self.count inside (same ∙ w.if-own.false)))
    ]

pub returns : goal.returns
returns c = omega (arith, ap length (own_end c.args.s.now c.args.self c.args.q c.loop-i.i c.args.self.count (omega arith)))
