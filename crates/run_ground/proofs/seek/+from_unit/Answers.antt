-- The walk through a term of the unit meets its contract: turn by turn it goes on from term to term, as Calls has it, and the weight of what is left falls.
use Prim.Native.Nat.{◌%◌, ◌≤◌}
use mathlib.Core.Path.{◌≡◌, sym, ◌∙◌}
use native.Mathlib.Omega.{arith}
use borrow.Author.Tests.{eqb-true}
use Rattle.run_circle.proofs.Measure.{lighter, no_heavier}
use Rattle.run_ground.proofs.Entered.{was_entered}
use Rattle.run_ground.proofs.Calls as calls
use Rattle.run_ground.proofs.Found.{not_three}
use Rattle.run_ground.proofs.Words.{weight}
use Rattle.run_ground.proofs.seek.+from_unit.Goals as goal

pub count-k-requires : goal.count-k-requires
count-k-requires t c =
    let a = c.args in
    let s₀ = a.s.now in let vs = a.values in let ms = a.marks in let ls = a.links in let st = a.stamp in let s = c.loop-s.s in
    let u = c.loop-s.t in let f = c.loop-s.found in let going = c.loop-s.invariant.0 in
    let asks = calls.going_asks vs ms ls st s₀ a.w a.state s u f going c.requires in let p = c.index-p.result in
    let at = c.index-p.ensures in
    calls.count_at vs ms ls st s u f c.if-tag-eq-COMPOUND.true p at asks

pub loop-i-init : goal.loop-i-init
loop-i-init t c =
    let a = c.args in
    let vs = a.values in let ms = a.marks in let ls = a.links in let st = a.stamp in let s = c.loop-s.s in let u = c.loop-s.t in
    let f = c.loop-s.found in let p = c.index-p.result in let at = c.index-p.ensures in let k = c.count-k.result in
    (calls.walking_first vs ms ls st s u f c.if-tag-eq-COMPOUND.true p at k c.count-k.ensures, omega (arith, c.if-k-eq0.false))

pub argument-a-requires : goal.argument-a-requires
argument-a-requires t c =
    let a = c.args in let s₀ = a.s.now in let vs = a.values in let ms = a.marks in
    let ls = a.links in let st = a.stamp in let s = c.loop-s.s in let u = c.loop-s.t in let f = c.loop-s.found in
    let going = c.loop-s.invariant.0 in let asks = calls.going_asks vs ms ls st s₀ a.w a.state s u f going c.requires in
    let p = c.index-p.result in let k = c.count-k.result in let s₂ = c.loop-i.s in let i = c.loop-i.i in
    let m = c.loop-i.found in let walking = c.loop-i.invariant.0 in let low : i ≤ k = omega (arith, c.loop-i-test.true) in
    calls.argument_at vs ms ls st s u f s₂ p k i m walking low asks

pub from_unit-found-requires : goal.from_unit-found-requires
from_unit-found-requires t c =
    let a = c.args in let s₀ = a.s.now in
    let vs = a.values in let ms = a.marks in let ls = a.links in let st = a.stamp in let s = c.loop-s.s in let u = c.loop-s.t in
    let f = c.loop-s.found in let going = c.loop-s.invariant.0 in
    let asks = calls.going_asks vs ms ls st s₀ a.w a.state s u f going c.requires in let p = c.index-p.result in
    let k = c.count-k.result in let s₂ = c.loop-i.s in let i = c.loop-i.i in let m = c.loop-i.found in
    let walking = c.loop-i.invariant.0 in let low : i ≤ k = omega (arith, c.loop-i-test.true) in let b = c.argument-a.result in
    let reads = c.argument-a.ensures in let g = was_entered st in (
      lighter (weight g s₂ ms ls b) (weight g s ms ls u) (weight g s₀ ms ls a.w) t c.decreases c.loop-s.invariant.1
          (calls.argument_lighter vs ms ls st s u f s₂ p k i m walking low b reads asks),
      calls.argument_asks vs ms ls st s u f s₂ p k i m walking low b reads asks,
    )

pub settle-requires : goal.settle-requires
settle-requires t c =
    let a = c.args in let s₀ = a.s.now in let vs = a.values in let ms = a.marks in let ls = a.links in
    let st = a.stamp in let s = c.loop-s.s in let u = c.loop-s.t in let f = c.loop-s.found in let going = c.loop-s.invariant.0 in
    let asks = calls.going_asks vs ms ls st s₀ a.w a.state s u f going c.requires in let p = c.index-p.result in
    let k = c.count-k.result in let s₂ = c.loop-i.s in let i = c.loop-i.i in let m = c.loop-i.found in
    let walking = c.loop-i.invariant.0 in let low : i ≤ k = omega (arith, c.loop-i-test.true) in let b = c.argument-a.result in
    let reads = c.argument-a.ensures in let s₃ = c.from_unit-found.new.s in let r = c.from_unit-found.result in
    let tell = c.from_unit-found.ensures in
    calls.settle_asks vs ms ls st s u f s₂ p k i m walking low b reads s₃ r tell asks

pub returns-then-ended : goal.returns-then-ended
returns-then-ended t c =
    let a = c.args in let s₀ = a.s.now in let vs = a.values in let ms = a.marks in let ls = a.links in let st = a.stamp in
    let s = c.loop-s.s in let u = c.loop-s.t in let f = c.loop-s.found in let going = c.loop-s.invariant.0 in let p = c.index-p.result in
    let k = c.count-k.result in let s₂ = c.loop-i.s in let i = c.loop-i.i in let m = c.loop-i.found in
    let walking = c.loop-i.invariant.0 in let low : i ≤ k = omega (arith, c.loop-i-test.true) in let b = c.argument-a.result in
    let reads = c.argument-a.ensures in let s₃ = c.from_unit-found.new.s in let r = c.from_unit-found.result in
    let tell = c.from_unit-found.ensures in let s₄ = c.settle.new.s in
    calls.going_tells vs ms ls st s₀ a.w a.state s u f going s₄ r
    (calls.walking_ended vs ms ls st s u f s₂ p k i m walking low b reads s₃ r tell s₄ c.settle.ensures (eqb-true (r % 4) 3 (sym c.ended.ensures ∙ c.if-ended.true)))

pub loop-i-preserved : goal.loop-i-preserved
loop-i-preserved t c =
    let a = c.args in let vs = a.values in let ms = a.marks in let ls = a.links in let st = a.stamp in let s = c.loop-s.s in
    let u = c.loop-s.t in let f = c.loop-s.found in let p = c.index-p.result in let k = c.count-k.result in let s₂ = c.loop-i.s in
    let i = c.loop-i.i in let m = c.loop-i.found in let walking = c.loop-i.invariant.0 in
    let low : i ≤ k = omega (arith, c.loop-i-test.true) in let b = c.argument-a.result in let reads = c.argument-a.ensures in
    let s₃ = c.from_unit-found.new.s in let r = c.from_unit-found.result in let tell = c.from_unit-found.ensures in
    let s₄ = c.settle.new.s in (
      calls.walking_next vs ms ls st s u f s₂ p k i m walking low b reads s₃ r tell s₄ c.settle.ensures (not_three r (sym c.ended.ensures ∙ c.if-ended.false)),
      omega (arith, c.loop-i-test.true),
    )

pub returns-then-k-eq0 : goal.returns-then-k-eq0
returns-then-k-eq0 t c =
    let a = c.args in let s₀ = a.s.now in let vs = a.values in let ms = a.marks in let ls = a.links in
    let st = a.stamp in let s = c.loop-s.s in let u = c.loop-s.t in let f = c.loop-s.found in let going = c.loop-s.invariant.0 in
    let p = c.index-p.result in let k = c.count-k.result in
    let walking = calls.walking_first vs ms ls st s u f c.if-tag-eq-COMPOUND.true p c.index-p.ensures k c.count-k.ensures in
    calls.going_tells vs ms ls st s₀ a.w a.state s u f going s f (calls.none_tells vs ms ls st s u f s p k 1 f walking (omega arith))

pub argument-t-requires : goal.argument-t-requires
argument-t-requires t c =
    let a = c.args in let s₀ = a.s.now in let vs = a.values in let ms = a.marks in
    let ls = a.links in let st = a.stamp in let s = c.loop-s.s in let u = c.loop-s.t in let f = c.loop-s.found in
    let going = c.loop-s.invariant.0 in let asks = calls.going_asks vs ms ls st s₀ a.w a.state s u f going c.requires in
    let p = c.index-p.result in let k = c.count-k.result in let s₂ = c.loop-i.s in let end : c.loop-i.i ≡ k = omega (arith, c.loop-i.invariant.1, c.loop-i-test.false) in
    let m = c.loop-i.found in let walking = rw end at c.loop-i.invariant.0 in let low2 : k ≤ k = omega arith in
    calls.argument_at vs ms ls st s u f s₂ p k k m walking low2 asks

pub loop-s-smaller-then-tag-eq-COMPOUND : goal.loop-s-smaller-then-tag-eq-COMPOUND
loop-s-smaller-then-tag-eq-COMPOUND t c =
    let a = c.args in let s₀ = a.s.now in let vs = a.values in let ms = a.marks in
    let ls = a.links in let st = a.stamp in let s = c.loop-s.s in let u = c.loop-s.t in let f = c.loop-s.found in
    let going = c.loop-s.invariant.0 in let asks = calls.going_asks vs ms ls st s₀ a.w a.state s u f going c.requires in
    let p = c.index-p.result in let k = c.count-k.result in let s₂ = c.loop-i.s in let end : c.loop-i.i ≡ k = omega (arith, c.loop-i.invariant.1, c.loop-i-test.false) in
    let m = c.loop-i.found in let walking = rw end at c.loop-i.invariant.0 in let low2 : k ≤ k = omega arith in
    let b2 = c.argument-t.result in let reads2 = c.argument-t.ensures in
    calls.argument_lighter vs ms ls st s u f s₂ p k k m walking low2 b2 reads2 asks

pub loop-s-preserved-then-tag-eq-COMPOUND : goal.loop-s-preserved-then-tag-eq-COMPOUND
loop-s-preserved-then-tag-eq-COMPOUND t c =
    let a = c.args in let s₀ = a.s.now in
    let vs = a.values in let ms = a.marks in let ls = a.links in let st = a.stamp in let s = c.loop-s.s in let u = c.loop-s.t in
    let f = c.loop-s.found in let going = c.loop-s.invariant.0 in
    let asks = calls.going_asks vs ms ls st s₀ a.w a.state s u f going c.requires in let p = c.index-p.result in
    let k = c.count-k.result in let s₂ = c.loop-i.s in let end : c.loop-i.i ≡ k = omega (arith, c.loop-i.invariant.1, c.loop-i-test.false) in let m = c.loop-i.found in
    let walking = rw end at c.loop-i.invariant.0 in let low2 : k ≤ k = omega arith in let b2 = c.argument-t.result in
    let reads2 = c.argument-t.ensures in let g = was_entered st in (
      calls.going_on vs ms ls st s₀ a.w a.state s u f going s₂ b2 m
          (calls.last_going vs ms ls st s u f s₂ p k k m walking low2 b2 reads2 (λ l. omega arith)),
      no_heavier (weight g s₂ ms ls b2) (weight g s ms ls u) (weight g s₀ ms ls a.w) c.loop-s.invariant.1
          (calls.argument_lighter vs ms ls st s u f s₂ p k k m walking low2 b2 reads2 asks),
    )

pub returns-then-tag-gt-READER : goal.returns-then-tag-gt-READER
returns-then-tag-gt-READER t c =
    let a = c.args in let s₀ = a.s.now in
    let vs = a.values in let ms = a.marks in let ls = a.links in let st = a.stamp in let s = c.loop-s.s in let u = c.loop-s.t in
    let f = c.loop-s.found in let going = c.loop-s.invariant.0 in
    calls.going_tells vs ms ls st s₀ a.w a.state s u f going s f (calls.constant_tells vs ms ls st s u f c.if-tag-eq-COMPOUND.false c.if-tag-gt-READER.true)

pub word_at-v-requires : goal.word_at-v-requires
word_at-v-requires t c =
    let a = c.args in let s₀ = a.s.now in let vs = a.values in let ms = a.marks in let ls = a.links in let st = a.stamp in
    let s = c.loop-s.s in let u = c.loop-s.t in let f = c.loop-s.found in let going = c.loop-s.invariant.0 in
    let asks = calls.going_asks vs ms ls st s₀ a.w a.state s u f going c.requires in let p = c.index-p.result in
    let at = c.index-p.ensures in
    calls.value_at vs ms ls st s u f c.if-tag-eq-COMPOUND.false c.if-tag-gt-READER.false p at asks

pub at_unassigned-requires : goal.at_unassigned-requires
at_unassigned-requires t c =
    let a = c.args in let s₀ = a.s.now in let vs = a.values in let ms = a.marks in
    let ls = a.links in let st = a.stamp in let s = c.loop-s.s in let u = c.loop-s.t in let f = c.loop-s.found in
    let going = c.loop-s.invariant.0 in let asks = calls.going_asks vs ms ls st s₀ a.w a.state s u f going c.requires in
    let p = c.index-p.result in let at = c.index-p.ensures in let v = c.word_at-v.result in let read = c.word_at-v.ensures in
    calls.unassigned_asks vs ms ls st s u f c.if-tag-eq-COMPOUND.false c.if-tag-gt-READER.false p at v read c.if-v-eq0.true asks

pub returns-then-v-eq0 : goal.returns-then-v-eq0
returns-then-v-eq0 t c =
    let a = c.args in
    let s₀ = a.s.now in let vs = a.values in let ms = a.marks in let ls = a.links in let st = a.stamp in let s = c.loop-s.s in
    let u = c.loop-s.t in let f = c.loop-s.found in let going = c.loop-s.invariant.0 in let p = c.index-p.result in
    let at = c.index-p.ensures in let v = c.word_at-v.result in let read = c.word_at-v.ensures in
    calls.going_tells vs ms ls st s₀ a.w a.state s u f going c.at_unassigned.new.s c.at_unassigned.result
    (calls.unassigned_tells vs ms ls st s u f c.if-tag-eq-COMPOUND.false c.if-tag-gt-READER.false p at v read c.if-v-eq0.true c.at_unassigned.new.s c.at_unassigned.result
    c.at_unassigned.ensures)

pub enters-requires : goal.enters-requires
enters-requires t c =
    let a = c.args in let s₀ = a.s.now in let vs = a.values in let ms = a.marks in let ls = a.links in
    let st = a.stamp in let s = c.loop-s.s in let u = c.loop-s.t in let f = c.loop-s.found in let going = c.loop-s.invariant.0 in
    let asks = calls.going_asks vs ms ls st s₀ a.w a.state s u f going c.requires in let p = c.index-p.result in
    let at = c.index-p.ensures in
    calls.mark_at vs ms ls st s u f c.if-tag-eq-COMPOUND.false c.if-tag-gt-READER.false p at asks

pub loop-s-smaller : goal.loop-s-smaller
loop-s-smaller t c =
    let a = c.args in
    let s₀ = a.s.now in let vs = a.values in let ms = a.marks in let ls = a.links in let st = a.stamp in let s = c.loop-s.s in
    let u = c.loop-s.t in let f = c.loop-s.found in let going = c.loop-s.invariant.0 in
    let asks = calls.going_asks vs ms ls st s₀ a.w a.state s u f going c.requires in let p = c.index-p.result in
    let at = c.index-p.ensures in let v = c.word_at-v.result in let read = c.word_at-v.ensures in let s₅ = c.enters.new.s in
    calls.new_lighter vs ms ls st s u f c.if-tag-eq-COMPOUND.false c.if-tag-gt-READER.false p at v read c.if-v-eq0.false s₅ (rw c.if-enters.true at c.enters.ensures) asks

pub loop-s-preserved : goal.loop-s-preserved
loop-s-preserved t c =
    let a = c.args in
    let s₀ = a.s.now in let vs = a.values in let ms = a.marks in let ls = a.links in let st = a.stamp in let s = c.loop-s.s in
    let u = c.loop-s.t in let f = c.loop-s.found in let going = c.loop-s.invariant.0 in
    let asks = calls.going_asks vs ms ls st s₀ a.w a.state s u f going c.requires in let p = c.index-p.result in
    let at = c.index-p.ensures in let v = c.word_at-v.result in let read = c.word_at-v.ensures in let s₅ = c.enters.new.s in
    let g = was_entered st in (
      calls.going_on vs ms ls st s₀ a.w a.state s u f going s₅ v f
          (calls.new_going vs ms ls st s u f c.if-tag-eq-COMPOUND.false c.if-tag-gt-READER.false p at v read c.if-v-eq0.false s₅ (rw c.if-enters.true at c.enters.ensures)),
      no_heavier (weight g s₅ ms ls v) (weight g s ms ls u) (weight g s₀ ms ls a.w) c.loop-s.invariant.1
          (calls.new_lighter vs ms ls st s u f c.if-tag-eq-COMPOUND.false c.if-tag-gt-READER.false p at v read c.if-v-eq0.false s₅ (rw c.if-enters.true at c.enters.ensures) asks),
    )

pub returns-in-loop-s : goal.returns-in-loop-s
returns-in-loop-s t c =
    let a = c.args in
    let s₀ = a.s.now in let vs = a.values in let ms = a.marks in let ls = a.links in let st = a.stamp in let s = c.loop-s.s in
    let u = c.loop-s.t in let f = c.loop-s.found in let going = c.loop-s.invariant.0 in let p = c.index-p.result in
    let at = c.index-p.ensures in let v = c.word_at-v.result in let read = c.word_at-v.ensures in let s₅ = c.enters.new.s in
    calls.going_tells vs ms ls st s₀ a.w a.state s u f going s₅ f
    (calls.known_tells vs ms ls st s u f c.if-tag-eq-COMPOUND.false c.if-tag-gt-READER.false p at v read s₅ (rw c.if-enters.false at c.enters.ensures))
