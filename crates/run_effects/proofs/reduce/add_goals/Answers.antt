-- Goal by goal its copy's word joins the queue, and its copy is made.
use Rattle.std.proofs.Common.{ap, ◌∙◌}
use native.Mathlib.Omega.{arith}
use Rattle.term.specs.Words.{rest_in}
use Rattle.run_effects.proofs.ReduceCalls as calls
use Rattle.run_effects.proofs.reduce.add_goals.Goals as goal

pub loop-i-init : goal.loop-i-init
loop-i-init c = calls.adds_none _ _ _ _ _ _ _ _ _ _

pub word_at-h-requires : goal.word_at-h-requires
word_at-h-requires c = (calls.adds_inside _ _ _ _ _ _ _ _ _ _ _ _ _ c.loop-i.invariant c.requires c.loop-i-test.true).0

pub overflow_add-behind : goal.overflow_add-behind
overflow_add-behind c =
    let few = calls.adds_few _ _ _ _ _ _ _ _ _ _ c.requires in
    omega (arith, c.loop-i-test.true, few.1, few.2, c.well_formed)

pub goal_of-requires : goal.goal_of-requires
goal_of-requires c =
    let few = calls.adds_few _ _ _ _ _ _ _ _ _ _ c.requires in
    let inside = calls.adds_inside _ _ _ _ _ _ _ _ _ _ _ _ _ c.loop-i.invariant c.requires c.loop-i-test.true in
    let same = calls.adds_size _ _ _ _ _ _ _ _ _ _ _ _ _ c.loop-i.invariant c.requires in
    (omega (arith, inside.1, same, c.well_formed), few.0)

pub push-requires : goal.push-requires
push-requires c =
    let few = calls.adds_few _ _ _ _ _ _ _ _ _ _ c.requires in
    (calls.adds_ring _ _ _ _ _ _ _ _ _ _ _ _ _ c.loop-i.invariant c.requires, omega (arith, c.loop-i-test.true, few.1))

pub copy_arguments-free-requires : goal.copy_arguments-free-requires
copy_arguments-free-requires c =
    calls.adds_asks _ _ _ _ _ _ _ _ _ _ _ _ _ c.loop-i.invariant c.loop-i-test.true _ c.goal_of.result c.goal_of.ensures c.push.ensures
    _ (c.index.ensures ∙ ap (λ w. rest_in w) c.word_at-h.ensures) c.requires

pub loop-i-preserved : goal.loop-i-preserved
loop-i-preserved c =
    calls.adds_on _ _ _ _ _ _ _ _ _ _ _ _ _ c.loop-i.invariant c.loop-i-test.true _ c.goal_of.result c.goal_of.ensures c.push.ensures
    _ (c.index.ensures ∙ ap (λ w. rest_in w) c.word_at-h.ensures) _ _ c.copy_arguments-free.ensures

pub returns : goal.returns
returns c = calls.adds_all _ _ _ _ _ _ _ _ _ _ _ _ _ c.loop-i.invariant c.loop-i-test.false
