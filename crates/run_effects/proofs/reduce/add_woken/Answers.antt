-- Goal by goal.
use Rattle.std.proofs.Common.{◌∙◌}
use native.Mathlib.Omega.{arith}
use Rattle.run_effects.proofs.Emptying as steps
use Rattle.run_effects.proofs.reduce.add_woken.Goals as goal

pub loop-i-init : goal.loop-i-init
loop-i-init c = λ waiters sets pairs slots zs a. steps.rejoining_begins _ _ waiters sets pairs slots zs _ _ _ _ _ a

pub word_at-requires : goal.word_at-requires
word_at-requires c =
    let (waiters, sets, pairs, slots, zs, a) = c.requires in
    steps.place_inside _ _ waiters sets pairs slots zs _ _ _ _ _ a _ _ (c.loop-i.invariant waiters sets pairs slots zs a) c.loop-i-test.true

pub take-goal-requires : goal.take-goal-requires
take-goal-requires c =
    let (waiters, sets, pairs, slots, zs, a) = c.requires in
    steps.slot_inside _ _ waiters sets pairs slots zs _ _ _ _ _ a _ _ (c.loop-i.invariant waiters sets pairs slots zs a) c.loop-i-test.true
    _ (c.index.ensures ∙ c.word_at.ensures)

pub overflow_add-behind : goal.overflow_add-behind
overflow_add-behind c = omega (arith, c.requires.5.space, c.loop-i-test.true)

pub push-requires : goal.push-requires
push-requires c =
    let (waiters, sets, pairs, slots, zs, a) = c.requires in
    let r = c.loop-i.invariant waiters sets pairs slots zs a in
    let read = c.index.ensures ∙ c.word_at.ensures in
    steps.room _ _ waiters sets pairs slots zs _ _ _ _ _ a _ _ r c.loop-i-test.true _ read _ _
    (c.take-goal.ensures.log waiters sets pairs _ _
    (steps.goal_there _ _ waiters sets pairs slots zs _ _ _ _ _ a _ _ r c.loop-i-test.true _ read))

pub loop-i-preserved : goal.loop-i-preserved
loop-i-preserved c = λ waiters sets pairs slots zs a.
    let r = c.loop-i.invariant waiters sets pairs slots zs a in
    let read = c.index.ensures ∙ c.word_at.ensures in
    steps.rejoining_on _ _ waiters sets pairs slots zs _ _ _ _ _ a _ _ r c.loop-i-test.true _ read _ _
    (c.take-goal.ensures.log waiters sets pairs _ _
    (steps.goal_there _ _ waiters sets pairs slots zs _ _ _ _ _ a _ _ r c.loop-i-test.true _ read))
    _ c.push.ensures

pub returns : goal.returns
returns c = λ waiters sets pairs slots zs a.
    steps.rejoining_ends _ _ waiters sets pairs slots zs _ _ _ _ _ a _ _ (c.loop-i.invariant waiters sets pairs slots zs a) (omega arith)
