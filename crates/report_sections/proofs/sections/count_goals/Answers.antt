-- `report_sections::sections::count_goals` meets its contract: the lines of the query's goals at the places passed are counted.
use Prim.Native.Nat.{◌<◌}
use native.Mathlib.Omega.{arith}
use Rattle.report_sections.proofs.GoalLines.{progress_start, progress_end, goal_asks, goal_told}
use Rattle.report_sections.proofs.sections.count_goals.Goals as goal

pub loop-i-init : goal.loop-i-init
loop-i-init c =
    let a = c.args in
    λ text x seen gs counts listed. progress_start a.s.now a.s.now text x a.facts a.at seen a.g a.q gs a.label.now counts listed

pub count_goal-to-requires : goal.count_goal-to-requires
count_goal-to-requires c =
    let a = c.args in
    let l = c.loop-i in
    let (text, x, seen, gs, counts, listed) = c.requires in
    let h : l.i < a.g.count = omega arith in
    let p = l.invariant text x seen gs counts listed in
    let (t, ready, inside, shows) = goal_asks a.s.now l.s text x a.facts a.at seen a.g a.q gs a.label.now l.to l.i h counts listed p in
    (text, x, p.counted.after, t, ready, inside, h, shows)

pub loop-i-preserved : goal.loop-i-preserved
loop-i-preserved c =
    let a = c.args in
    let l = c.loop-i in
    let r = c.count_goal-to in
    λ text x seen gs counts listed.
    goal_told a.s.now l.s r.new.s text x a.facts a.at seen a.g a.q gs a.label.now l.to l.i r.result (omega arith) counts listed
    (l.invariant text x seen gs counts listed) r.ensures.0 (λ seen' t. r.ensures.1 text x seen' t)

pub returns : goal.returns
returns c =
    let a = c.args in
    let l = c.loop-i in
    λ text x seen gs counts listed.
    progress_end a.s.now l.s text x a.facts a.at seen a.g a.q gs a.label.now l.to l.i (omega arith) (l.invariant text x seen gs counts listed)
