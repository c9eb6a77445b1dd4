-- Entry by entry the head's term is copied, its word to the pair's place.
use Rattle.std.proofs.Common.{◌∙◌}
use native.Mathlib.Omega.{arith}
use Rattle.run_effects.proofs.ReduceCalls as calls
use Rattle.run_effects.proofs.reduce.assign_goal.Goals as goal

pub loop-i-init : goal.loop-i-init
loop-i-init c = calls.assigns_none _ _ _ _ _

pub overflow_mul-i : goal.overflow_mul-i
overflow_mul-i c = omega (arith, (calls.assigns_size _ _ _ _ _ _ _ _ c.loop-i.invariant c.requires).1, c.loop-i-test.true)

pub word_at-requires : goal.word_at-requires
word_at-requires c = omega (arith, calls.assigns_inside _ _ _ _ _ _ _ _ c.loop-i.invariant c.requires c.loop-i-test.true)

pub overflow_mul-i-in-loop-i : goal.overflow_mul-i-in-loop-i
overflow_mul-i-in-loop-i c = omega (arith, (calls.assigns_size _ _ _ _ _ _ _ _ c.loop-i.invariant c.requires).1, c.loop-i-test.true)

pub word_at-h-requires : goal.word_at-h-requires
word_at-h-requires c = omega (arith, calls.assigns_inside _ _ _ _ _ _ _ _ c.loop-i.invariant c.requires c.loop-i-test.true)

pub overflow_add-values : goal.overflow_add-values
overflow_add-values c =
    let inside = calls.assigns_place _ _ _ _ _ _ _ _ c.loop-i.invariant c.requires c.loop-i-test.true
    c.index-z.result (c.index-z.ensures ∙ c.word_at.ensures) in
    let size = calls.assigns_size _ _ _ _ _ _ _ _ c.loop-i.invariant c.requires in
    omega (arith, inside, size.0, c.well_formed)

pub copy-free-requires : goal.copy-free-requires
copy-free-requires c =
    calls.assigns_asks _ _ _ _ _ _ _ _ c.loop-i.invariant c.requires c.loop-i-test.true
    c.word_at-h.result c.index-z.result (c.index-z.ensures ∙ c.word_at.ensures) c.word_at-h.ensures

pub loop-i-preserved : goal.loop-i-preserved
loop-i-preserved c =
    calls.assigns_on _ _ _ _ _ _ _ _ c.loop-i.invariant c.loop-i-test.true _ _
    c.word_at-h.result c.index-z.result (c.index-z.ensures ∙ c.word_at.ensures) c.word_at-h.ensures c.copy-free.ensures

pub returns : goal.returns
returns c = calls.assigns_all _ _ _ _ _ _ _ _ c.loop-i.invariant c.loop-i-test.false
