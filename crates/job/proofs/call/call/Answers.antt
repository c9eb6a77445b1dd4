use mathlib.Core.Path.{◌≡◌, sym, ◌∙◌}
use mathlib.Core.Bool.{true}
use native.Mathlib.Omega.{arith}
use Rattle.meaning.specs.Call.{in_range}
use Rattle.job.specs.Calling.{room_of}
use Rattle.job.proofs.Answers.{in_range_within, call_1, call_2, call_3, call_4}
use Rattle.job.proofs.call.call.Goals as goal

pub returns-then-not-within : goal.returns-then-not-within
returns-then-not-within c =
    let a = c.args in
    call_1 a.text.now a.budget (room_of a.pairs a.compounds a.goals) a.s.now a.buffer.now (sym c.within.ensures ∙ c.if-not-within.true)

pub need-requires : goal.need-requires
need-requires c =
    let a = c.args in
    let h : in_range a.budget (room_of a.pairs a.compounds a.goals) ≡ true = sym c.within.ensures ∙ c.if-not-within.false in
    let bounds = in_range_within a.budget a.pairs a.compounds a.goals h in
    record { pairs = bounds.pairs; compounds = bounds.compounds; goals = bounds.goals }

pub returns-then-s-need : goal.returns-then-s-need
returns-then-s-need c =
    let a = c.args in
    let room = room_of a.pairs a.compounds a.goals in
    let h : in_range a.budget room ≡ true = sym c.within.ensures ∙ c.if-not-within.false in
    call_2 a.text.now a.budget room a.s.now a.buffer.now h (omega (arith, c.need.ensures))

pub returns-then-text-gt16384 : goal.returns-then-text-gt16384
returns-then-text-gt16384 c =
    let a = c.args in
    let room = room_of a.pairs a.compounds a.goals in
    let h : in_range a.budget room ≡ true = sym c.within.ensures ∙ c.if-not-within.false in
    call_3 a.text.now a.budget room a.s.now a.buffer.now h (omega (arith, c.need.ensures)) (omega arith)

pub taken-requires : goal.taken-requires
taken-requires c =
    let a = c.args in
    let h : in_range a.budget (room_of a.pairs a.compounds a.goals) ≡ true = sym c.within.ensures ∙ c.if-not-within.false in
    let bounds = in_range_within a.budget a.pairs a.compounds a.goals h in
    (record { pairs = bounds.pairs; compounds = bounds.compounds; goals = bounds.goals }, omega (arith, c.need.ensures), bounds.budget, omega arith)

pub returns : goal.returns
returns c =
    let a = c.args in
    let room = room_of a.pairs a.compounds a.goals in
    let h : in_range a.budget room ≡ true = sym c.within.ensures ∙ c.if-not-within.false in
    call_4 a.text.now a.budget room a.s.now a.buffer.now h (omega (arith, c.need.ensures)) (omega arith) c.taken.ensures
