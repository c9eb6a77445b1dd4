-- The goal that waits on an entry's pair, if there is one, leaves its pairs, and its place is listed.
use Rattle.std.proofs.Common.{ap, sym, ◌∙◌}
use native.Mathlib.Omega.{arith}
use Rattle.term.specs.Words.{link_to}
use Rattle.run_effects.specs.Reducing.{quieted, entry_places}
use Rattle.run_effects.proofs.Awaking as steps
use Rattle.run_effects.proofs.reduce.wake.Goals.{in-Some, in_default}
use Rattle.run_effects.proofs.reduce.wake.Goals as goal

pub loop-i-init : goal.loop-i-init
loop-i-init c = λ pairs slots w. steps.awake_begins _ _ _ _ pairs slots w.ok

pub word_at-requires-in-loop-i : goal.word_at-requires-in-loop-i
word_at-requires-in-loop-i c =
    let (pairs, slots, w) = c.requires in
    steps.waiter_inside _ _ _ _ pairs slots _ w _ _ _ (c.loop-i.invariant pairs slots w) c.loop-i-test.true _ (c.index-z.ensures ∙ c.word_at.ensures)

pub leave-requires : goal.leave-requires
leave-requires c =
    let (pairs, slots, w) = c.requires in
    let here = c.loop-i in
    let read = c.index-z.ensures ∙ c.word_at.ensures in
    let waiter = sym (c.in-Some.ensures ∙ c.word_at-in-loop-i.ensures) in
    let f = steps.found _ _ _ _ pairs slots _ w _ _ _ (here.invariant pairs slots w) c.loop-i-test.true _ read c.in-Some.place waiter in (
      pairs,
      quieted (entry_places c.args.s.now here.i) slots,
      f.0,
      f.1,
      steps.waits_at _ _ _ _ pairs slots _ w _ _ _ (here.invariant pairs slots w) c.loop-i-test.true _ read c.in-Some.place waiter,
    )

pub insert-requires : goal.insert-requires
insert-requires c =
    let (pairs, slots, w) = c.requires in
    let here = c.loop-i in
    let read = c.index-z.ensures ∙ c.word_at.ensures in
    let waiter = sym (c.in-Some.ensures ∙ c.word_at-in-loop-i.ensures) in
    steps.inserting _ _ _ _ pairs slots _ w _ _ _ (here.invariant pairs slots w) c.loop-i-test.true _ read c.in-Some.place waiter _
    (c.leave.ensures pairs _ _ _
    (steps.waits_at _ _ _ _ pairs slots _ w _ _ _ (here.invariant pairs slots w) c.loop-i-test.true _ read c.in-Some.place waiter))

pub overflow_add-woken : goal.overflow_add-woken
overflow_add-woken c =
    let (pairs, slots, w) = c.requires in
    omega (arith, (c.loop-i.invariant pairs slots w).few, w.few, c.loop-i-test.true)

pub loop-i-preserved : goal.loop-i-preserved
loop-i-preserved c = λ pairs slots w.
    let here = c.loop-i in
    let a = here.invariant pairs slots w in
    let read = c.index-z.ensures ∙ c.word_at.ensures in
    elim c.match-linked.branch [
      | in-Some t ↦
          let waiter = sym (t.in-Some.ensures ∙ c.word_at-in-loop-i.ensures) in
          rw (t.s-is, t.woken-is)
          (steps.awake_one _ _ _ _ pairs slots _ w _ _ _ a c.loop-i-test.true _ read t.in-Some.place waiter _
          (t.leave.ensures pairs _ _ _ (steps.waits_at _ _ _ _ pairs slots _ w _ _ _ a c.loop-i-test.true _ read t.in-Some.place waiter))
          _ t.insert.ensures)
      | in_default t ↦
          rw (t.s-is, t.woken-is)
          (steps.awake_none _ _ _ _ pairs slots _ w _ _ _ a c.loop-i-test.true _ read
          (sym (c.linked.ensures ∙ c.word_at-in-loop-i.ensures) ∙ ap link_to t.in_default.is))
    ]

pub returns : goal.returns
returns c = λ pairs slots w. steps.awake_ends _ _ _ _ _ pairs slots _ _ _ w (c.loop-i.invariant pairs slots w) (omega arith)
