-- The search from a term meets its contract: turn by turn it goes on from term to term, as Calls has it, and the weight of what is left falls.
use Prim.Native.Nat.{◌≤◌, ◌<◌}
use mathlib.Core.Path.{refl, sym, ap, ◌∙◌}
use mathlib.Core.Logic.{inl, inr}
use mathlib.Core.Bool.{true, false}
use native.Mathlib.Omega.{arith}
use Rattle.run_circle.specs.Ground.{stamp_in}
use Rattle.run_circle.specs.Search.{visited}
use Rattle.run_circle.proofs.Calls as calls
use Rattle.run_circle.proofs.Measure.{term_weight, lighter, no_heavier}
use Rattle.run_circle.proofs.circle.+from_term.Goals as goal
use Rattle.run_circle.proofs.circle.+from_term.Goals.{else-leads, then-leads+else-later-ne0, then-leads+then-later-ne0+else-r-eq-REACHED}

pub count-k-requires : goal.count-k-requires
count-k-requires t c =
    let a = c.args in let s₀ = a.s.now in let vs = a.values in let ms = a.marks in let z = a.z in let st = a.stamp in let s = c.loop-s.s in
    let b = c.loop-s.side in let u = c.loop-s.t in let n = c.loop-s.state in let o = c.begun-state.result in
    let going = c.loop-s.invariant.0 in let asks = calls.going_asks s₀ vs ms z st a.head a.w o s b u n going c.begun-state.ensures c.requires in
    let p = c.index-p.result in
    calls.count_at s vs ms z st b u n p c.index-p.ensures c.if-tag-eq-COMPOUND.true asks

pub loop-i-init : goal.loop-i-init
loop-i-init t c =
    let a = c.args in let vs = a.values in let ms = a.marks in let z = a.z in let st = a.stamp in let s = c.loop-s.s in
    let b = c.loop-s.side in let u = c.loop-s.t in let n = c.loop-s.state in let p = c.index-p.result in
    (calls.walking_first s vs ms z st b u n p c.index-p.ensures c.if-tag-eq-COMPOUND.true c.count-k.result c.count-k.ensures)

pub argument-a-requires : goal.argument-a-requires
argument-a-requires t c =
    let a = c.args in
    let s₀ = a.s.now in let vs = a.values in let ms = a.marks in let z = a.z in let st = a.stamp in let s = c.loop-s.s in
    let b = c.loop-s.side in let u = c.loop-s.t in let n = c.loop-s.state in let o = c.begun-state.result in
    let going = c.loop-s.invariant.0 in let asks = calls.going_asks s₀ vs ms z st a.head a.w o s b u n going c.begun-state.ensures c.requires in
    let p = c.index-p.result in let k = c.count-k.result in let s₂ = c.loop-i.s in let i = c.loop-i.i in
    let later = c.loop-i.later in let m = c.loop-i.state in let walking = c.loop-i.invariant in
    let low : i ≤ k = omega (arith, c.loop-i-test.true) in
    calls.argument_at s vs ms z st b u n s₂ p k i later m walking low asks

pub from_term-r-requires : goal.from_term-r-requires
from_term-r-requires t c =
    let a = c.args in let s₀ = a.s.now in let vs = a.values in let ms = a.marks in let z = a.z in
    let st = a.stamp in let s = c.loop-s.s in let b = c.loop-s.side in let u = c.loop-s.t in let n = c.loop-s.state in
    let o = c.begun-state.result in let going = c.loop-s.invariant.0 in
    let asks = calls.going_asks s₀ vs ms z st a.head a.w o s b u n going c.begun-state.ensures c.requires in let p = c.index-p.result in
    let k = c.count-k.result in let s₂ = c.loop-i.s in let i = c.loop-i.i in let later = c.loop-i.later in
    let m = c.loop-i.state in let walking = c.loop-i.invariant in let f = visited st in (
      lighter (term_weight s₂ ms f b later) (term_weight s ms f b u) (term_weight s₀ ms f a.head a.w) t c.decreases c.loop-s.invariant.1
          (calls.later_lighter s vs ms z st b u n s₂ p k i later m walking asks),
      calls.later_asks s vs ms z st b u n s₂ p k i later m walking asks,
    )

pub returns-then-r-eq-REACHED : goal.returns-then-r-eq-REACHED
returns-then-r-eq-REACHED t c =
    let a = c.args in let s₀ = a.s.now in
    let vs = a.values in let ms = a.marks in let z = a.z in let st = a.stamp in let s = c.loop-s.s in let b = c.loop-s.side in
    let u = c.loop-s.t in let n = c.loop-s.state in let o = c.begun-state.result in let going = c.loop-s.invariant.0 in
    let p = c.index-p.result in let k = c.count-k.result in let s₂ = c.loop-i.s in let i = c.loop-i.i in
    let later = c.loop-i.later in let m = c.loop-i.state in let walking = c.loop-i.invariant in
    calls.going_tells s₀ vs ms z st a.head a.w o s b u n going c.begun-state.ensures c.from_term-r.new.s 2 true refl calls.reached_not_firm
    (calls.later_found s vs ms z st b u n s₂ p k i later m walking c.from_term-r.new.s (rw c.if-r-eq-REACHED.true at c.from_term-r.ensures))

pub loop-i-preserved : goal.loop-i-preserved
loop-i-preserved t c =
    let a = c.args in let vs = a.values in let ms = a.marks in let z = a.z in let st = a.stamp in
    let s = c.loop-s.s in let b = c.loop-s.side in let u = c.loop-s.t in let n = c.loop-s.state in let p = c.index-p.result in
    let k = c.count-k.result in let s₂ = c.loop-i.s in let i = c.loop-i.i in let later = c.loop-i.later in
    let m = c.loop-i.state in let walking = c.loop-i.invariant in
    let low : i ≤ k = omega (arith, c.loop-i-test.true) in
    elim c.if-leads.branch [
      | then-leads+then-later-ne0+else-r-eq-REACHED w ↦ rw (w.s-is, w.state-is, w.later-is) (
          calls.walking_next s vs ms z st b u n s₂ p k i later m walking c.argument-a.result c.argument-a.ensures low
          (rw w.if-leads.true at c.leads.ensures) w.from_term-r.new.s w.from_term-r.result w.joined-state.result w.from_term-r.ensures
          w.if-r-eq-REACHED.false w.joined-state.ensures)
      | then-leads+else-later-ne0 w ↦ rw (w.s-is, w.state-is, w.later-is) (
          calls.walking_on s vs ms z st b u n s₂ p k i later m walking c.argument-a.result c.argument-a.ensures low
          (rw w.if-leads.true at c.leads.ensures) w.if-later-ne0.false)
      | else-leads w ↦ rw (w.s-is, w.state-is, w.later-is) (
          calls.walking_over s vs ms z st b u n s₂ p k i later m walking c.argument-a.result c.argument-a.ensures low
          (rw w.if-leads.false at c.leads.ensures))
    ]

pub ended-requires : goal.ended-requires
ended-requires t c =
    let a = c.args in let s₀ = a.s.now in let vs = a.values in let ms = a.marks in let z = a.z in
    let st = a.stamp in let s = c.loop-s.s in let b = c.loop-s.side in let u = c.loop-s.t in let n = c.loop-s.state in
    let o = c.begun-state.result in let going = c.loop-s.invariant.0 in
    let asks = calls.going_asks s₀ vs ms z st a.head a.w o s b u n going c.begun-state.ensures c.requires in let p = c.index-p.result in
    let k = c.count-k.result in let s₂ = c.loop-i.s in let i = c.loop-i.i in let later = c.loop-i.later in
    let m = c.loop-i.state in let walking = c.loop-i.invariant in
    let done : k < i = omega arith in
    let ends = calls.going_on s₀ vs ms z st a.head a.w o s b u n going s₂ b u m
    (calls.idle_going s vs ms z st b u n s₂ p k i later m walking done c.if-later-eq0.true asks) in
    calls.ended_asks s₀ vs ms z st a.head a.w o s₂ b u m ends c.begun-state.ensures
    (calls.idle_is_firm s vs ms z st b u n s₂ p k i later m walking done c.if-later-eq0.true asks) c.requires

pub returns-then-later-eq0 : goal.returns-then-later-eq0
returns-then-later-eq0 t c =
    let a = c.args in let s₀ = a.s.now in let vs = a.values in let ms = a.marks in let z = a.z in
    let st = a.stamp in let s = c.loop-s.s in let b = c.loop-s.side in let u = c.loop-s.t in let n = c.loop-s.state in
    let o = c.begun-state.result in let going = c.loop-s.invariant.0 in
    let asks = calls.going_asks s₀ vs ms z st a.head a.w o s b u n going c.begun-state.ensures c.requires in let p = c.index-p.result in
    let k = c.count-k.result in let s₂ = c.loop-i.s in let i = c.loop-i.i in let later = c.loop-i.later in
    let m = c.loop-i.state in let walking = c.loop-i.invariant in
    let done : k < i = omega arith in
    let ends = calls.going_on s₀ vs ms z st a.head a.w o s b u n going s₂ b u m
    (calls.idle_going s vs ms z st b u n s₂ p k i later m walking done c.if-later-eq0.true asks) in
    calls.ended_tells s₀ vs ms z st a.head a.w o s₂ b u m ends c.begun-state.ensures
    (calls.idle_is_firm s vs ms z st b u n s₂ p k i later m walking done c.if-later-eq0.true asks)
    (calls.idle_finds s vs ms z st b u n s₂ p k i later m walking done c.if-later-eq0.true asks)
    c.ended.new.s c.ended.result c.ended.ensures.settled c.ended.ensures.parity

pub loop-s-smaller-then-tag-eq-COMPOUND : goal.loop-s-smaller-then-tag-eq-COMPOUND
loop-s-smaller-then-tag-eq-COMPOUND t c =
    let a = c.args in
    let s₀ = a.s.now in let vs = a.values in let ms = a.marks in let z = a.z in let st = a.stamp in let s = c.loop-s.s in
    let b = c.loop-s.side in let u = c.loop-s.t in let n = c.loop-s.state in let o = c.begun-state.result in
    let going = c.loop-s.invariant.0 in let asks = calls.going_asks s₀ vs ms z st a.head a.w o s b u n going c.begun-state.ensures c.requires in
    let p = c.index-p.result in let k = c.count-k.result in let s₂ = c.loop-i.s in let i = c.loop-i.i in
    let later = c.loop-i.later in let m = c.loop-i.state in let walking = c.loop-i.invariant in
    calls.later_lighter s vs ms z st b u n s₂ p k i later m walking asks

pub loop-s-preserved-then-tag-eq-COMPOUND : goal.loop-s-preserved-then-tag-eq-COMPOUND
loop-s-preserved-then-tag-eq-COMPOUND t c =
    let a = c.args in
    let s₀ = a.s.now in let vs = a.values in let ms = a.marks in let z = a.z in let st = a.stamp in let s = c.loop-s.s in
    let b = c.loop-s.side in let u = c.loop-s.t in let n = c.loop-s.state in let o = c.begun-state.result in
    let going = c.loop-s.invariant.0 in let asks = calls.going_asks s₀ vs ms z st a.head a.w o s b u n going c.begun-state.ensures c.requires in
    let p = c.index-p.result in let k = c.count-k.result in let s₂ = c.loop-i.s in let i = c.loop-i.i in
    let later = c.loop-i.later in let m = c.loop-i.state in let walking = c.loop-i.invariant in let f = visited st in (
      calls.going_on s₀ vs ms z st a.head a.w o s b u n going s₂ b later m
          (calls.later_going s vs ms z st b u n s₂ p k i later m walking (omega (arith, c.loop-i-test.false))),
      no_heavier (term_weight s₂ ms f b later) (term_weight s ms f b u) (term_weight s₀ ms f a.head a.w) c.loop-s.invariant.1
          (calls.later_lighter s vs ms z st b u n s₂ p k i later m walking asks),
    )

pub returns-then-tag-eq0 : goal.returns-then-tag-eq0
returns-then-tag-eq0 t c =
    let a = c.args in
    let s₀ = a.s.now in let vs = a.values in let ms = a.marks in let z = a.z in let st = a.stamp in let s = c.loop-s.s in
    let b = c.loop-s.side in let u = c.loop-s.t in let n = c.loop-s.state in let o = c.begun-state.result in
    let going = c.loop-s.invariant.0 in
    calls.going_tells s₀ vs ms z st a.head a.w o s b u n going c.begun-state.ensures s 1 false refl calls.open_not_firm (calls.nothing_finds s vs ms z st b u n
    (c.if-tag-eq-COMPOUND.false, inl c.if-tag-eq0.true))

pub ended-requires-then-tag-gt-READER : goal.ended-requires-then-tag-gt-READER
ended-requires-then-tag-gt-READER t c =
    let a = c.args in let s₀ = a.s.now in let vs = a.values in let ms = a.marks in let z = a.z in
    let st = a.stamp in let s = c.loop-s.s in let b = c.loop-s.side in let u = c.loop-s.t in let n = c.loop-s.state in
    let o = c.begun-state.result in let going = c.loop-s.invariant.0 in
    calls.ended_asks s₀ vs ms z st a.head a.w o s b u n going c.begun-state.ensures (calls.nothing_is_firm s vs ms z st b u n (c.if-tag-eq-COMPOUND.false, inr c.if-tag-gt-READER.true)
    c.if-tag-eq0.false) c.requires

pub returns-then-tag-gt-READER : goal.returns-then-tag-gt-READER
returns-then-tag-gt-READER t c =
    let a = c.args in let s₀ = a.s.now in
    let vs = a.values in let ms = a.marks in let z = a.z in let st = a.stamp in let s = c.loop-s.s in let b = c.loop-s.side in
    let u = c.loop-s.t in let n = c.loop-s.state in let o = c.begun-state.result in let going = c.loop-s.invariant.0 in
    calls.ended_tells s₀ vs ms z st a.head a.w o s b u n going c.begun-state.ensures (calls.nothing_is_firm s vs ms z st b u n (c.if-tag-eq-COMPOUND.false, inr c.if-tag-gt-READER.true)
    c.if-tag-eq0.false) (calls.nothing_finds s vs ms z st b u n (c.if-tag-eq-COMPOUND.false, inr c.if-tag-gt-READER.true))
    c.ended-then-tag-gt-READER.new.s c.ended-then-tag-gt-READER.result c.ended-then-tag-gt-READER.ensures.settled c.ended-then-tag-gt-READER.ensures.parity

pub word_at-t-requires : goal.word_at-t-requires
word_at-t-requires t c =
    let a = c.args in let s₀ = a.s.now in
    let vs = a.values in let ms = a.marks in let z = a.z in let st = a.stamp in let s = c.loop-s.s in let b = c.loop-s.side in
    let u = c.loop-s.t in let n = c.loop-s.state in let o = c.begun-state.result in let going = c.loop-s.invariant.0 in
    let asks = calls.going_asks s₀ vs ms z st a.head a.w o s b u n going c.begun-state.ensures c.requires in let p = c.index-p.result in
    let true_asks : calls.TermAsks s vs ms z st true u = rw c.if-side.true at asks in
    calls.given_at s vs ms z st u p c.index-p.ensures c.if-tag-eq-COMPOUND.false c.if-tag-eq0.false c.if-tag-gt-READER.false true_asks

pub loop-s-smaller-then-side : goal.loop-s-smaller-then-side
loop-s-smaller-then-side t c =
    let a = c.args in let s₀ = a.s.now in
    let vs = a.values in let ms = a.marks in let z = a.z in let st = a.stamp in let s = c.loop-s.s in let b = c.loop-s.side in
    let u = c.loop-s.t in let n = c.loop-s.state in let o = c.begun-state.result in let going = c.loop-s.invariant.0 in
    let asks = calls.going_asks s₀ vs ms z st a.head a.w o s b u n going c.begun-state.ensures c.requires in let p = c.index-p.result in
    let true_asks : calls.TermAsks s vs ms z st true u = rw c.if-side.true at asks in
    rw c.if-side.true (calls.given_lighter s vs ms z st u p c.index-p.ensures c.if-tag-eq-COMPOUND.false c.if-tag-eq0.false c.if-tag-gt-READER.false true_asks c.word_at-t.result)

pub loop-s-preserved-then-side : goal.loop-s-preserved-then-side
loop-s-preserved-then-side t c =
    let a = c.args in let s₀ = a.s.now in
    let vs = a.values in let ms = a.marks in let z = a.z in let st = a.stamp in let s = c.loop-s.s in let b = c.loop-s.side in
    let u = c.loop-s.t in let n = c.loop-s.state in let o = c.begun-state.result in let going = c.loop-s.invariant.0 in
    let asks = calls.going_asks s₀ vs ms z st a.head a.w o s b u n going c.begun-state.ensures c.requires in let p = c.index-p.result in let f = visited st in
    let true_asks : calls.TermAsks s vs ms z st true u = rw c.if-side.true at asks in
    let true_going : calls.Going s₀ vs ms z st a.head a.w o s true u n = rw c.if-side.true at going in
    let light : term_weight s ms f true u ≤ term_weight s₀ ms f a.head a.w = rw c.if-side.true at c.loop-s.invariant.1 in (
      calls.going_on s₀ vs ms z st a.head a.w o s true u n true_going s false c.word_at-t.result n (calls.given_going s vs ms z st u p c.index-p.ensures c.if-tag-eq-COMPOUND.false
          c.if-tag-eq0.false c.if-tag-gt-READER.false c.word_at-t.result n c.word_at-t.ensures),
      no_heavier (term_weight s ms f false c.word_at-t.result) (term_weight s ms f true u) (term_weight s₀ ms f a.head a.w) light (calls.given_lighter s vs ms z st u p
          c.index-p.ensures c.if-tag-eq-COMPOUND.false c.if-tag-eq0.false c.if-tag-gt-READER.false true_asks c.word_at-t.result),
    )

pub returns-then-p-z : goal.returns-then-p-z
returns-then-p-z t c =
    let a = c.args in let s₀ = a.s.now in
    let vs = a.values in let ms = a.marks in let z = a.z in let st = a.stamp in let s = c.loop-s.s in let u = c.loop-s.t in
    let n = c.loop-s.state in let o = c.begun-state.result in let going = c.loop-s.invariant.0 in let p = c.index-p.result in
    let false_going : calls.Going s₀ vs ms z st a.head a.w o s false u n = rw c.if-side.false at going in
    calls.going_tells s₀ vs ms z st a.head a.w o s false u n false_going c.begun-state.ensures s 2 true refl calls.reached_not_firm (calls.goal_finds s vs ms z st u p
    c.index-p.ensures c.if-tag-eq-COMPOUND.false c.if-tag-eq0.false c.if-tag-gt-READER.false c.if-p-z.true)

pub word_at-m-requires : goal.word_at-m-requires
word_at-m-requires t c =
    let a = c.args in let s₀ = a.s.now in
    let vs = a.values in let ms = a.marks in let z = a.z in let st = a.stamp in let s = c.loop-s.s in let b = c.loop-s.side in
    let u = c.loop-s.t in let n = c.loop-s.state in let o = c.begun-state.result in let going = c.loop-s.invariant.0 in
    let asks = calls.going_asks s₀ vs ms z st a.head a.w o s b u n going c.begun-state.ensures c.requires in let p = c.index-p.result in
    let false_asks : calls.TermAsks s vs ms z st false u = rw c.if-side.false at asks in
    calls.mark_at s vs ms z st u p c.index-p.ensures c.if-tag-eq-COMPOUND.false c.if-tag-eq0.false c.if-tag-gt-READER.false false_asks

pub ended-requires-then-m-eq-GROUND : goal.ended-requires-then-m-eq-GROUND
ended-requires-then-m-eq-GROUND t c =
    let a = c.args in let s₀ = a.s.now in let vs = a.values in let ms = a.marks in let z = a.z in let st = a.stamp in let s = c.loop-s.s in
    let u = c.loop-s.t in let n = c.loop-s.state in let o = c.begun-state.result in let going = c.loop-s.invariant.0 in
    let p = c.index-p.result in let false_going : calls.Going s₀ vs ms z st a.head a.w o s false u n = rw c.if-side.false at going in
    calls.ended_asks s₀ vs ms z st a.head a.w o s false u n false_going c.begun-state.ensures (calls.ground_is_firm s vs ms z st u p c.index-p.ensures c.if-tag-eq-COMPOUND.false
    c.if-tag-eq0.false c.if-tag-gt-READER.false (sym c.word_at-m.ensures ∙ c.if-m-eq-GROUND.true)) c.requires

pub returns-then-m-eq-GROUND : goal.returns-then-m-eq-GROUND
returns-then-m-eq-GROUND t c =
    let a = c.args in let s₀ = a.s.now in
    let vs = a.values in let ms = a.marks in let z = a.z in let st = a.stamp in let s = c.loop-s.s in let u = c.loop-s.t in
    let n = c.loop-s.state in let o = c.begun-state.result in let going = c.loop-s.invariant.0 in let p = c.index-p.result in
    let false_going : calls.Going s₀ vs ms z st a.head a.w o s false u n = rw c.if-side.false at going in
    calls.ended_tells s₀ vs ms z st a.head a.w o s false u n false_going c.begun-state.ensures (calls.ground_is_firm s vs ms z st u p c.index-p.ensures c.if-tag-eq-COMPOUND.false
    c.if-tag-eq0.false c.if-tag-gt-READER.false (sym c.word_at-m.ensures ∙ c.if-m-eq-GROUND.true)) (calls.ground_finds s vs ms z st u p c.index-p.ensures c.if-tag-eq-COMPOUND.false c.if-tag-eq0.false
    c.if-tag-gt-READER.false c.if-p-z.false (sym c.word_at-m.ensures ∙ c.if-m-eq-GROUND.true))
    c.ended-then-m-eq-GROUND.new.s c.ended-then-m-eq-GROUND.result c.ended-then-m-eq-GROUND.ensures.settled c.ended-then-m-eq-GROUND.ensures.parity

pub returns-then-m-stamp : goal.returns-then-m-stamp
returns-then-m-stamp t c =
    let a = c.args in let s₀ = a.s.now in let vs = a.values in let ms = a.marks in let z = a.z in let st = a.stamp in let s = c.loop-s.s in
    let u = c.loop-s.t in let n = c.loop-s.state in let o = c.begun-state.result in let going = c.loop-s.invariant.0 in
    let p = c.index-p.result in let false_going : calls.Going s₀ vs ms z st a.head a.w o s false u n = rw c.if-side.false at going in
    calls.going_tells s₀ vs ms z st a.head a.w o s false u n false_going c.begun-state.ensures s 1 false refl calls.open_not_firm (calls.stamp_finds s vs ms z st u p
    c.index-p.ensures c.if-tag-eq-COMPOUND.false c.if-tag-eq0.false c.if-tag-gt-READER.false c.if-p-z.false (ap (λ k. stamp_in k) (sym c.word_at-m.ensures) ∙ c.if-m-stamp.true))

pub visit-t-requires : goal.visit-t-requires
visit-t-requires t c =
    let a = c.args in
    let s₀ = a.s.now in let vs = a.values in let ms = a.marks in let z = a.z in let st = a.stamp in let s = c.loop-s.s in let b = c.loop-s.side in
    let u = c.loop-s.t in let n = c.loop-s.state in let o = c.begun-state.result in let going = c.loop-s.invariant.0 in let p = c.index-p.result in
    let keeps = calls.going_keeps s₀ vs ms z st a.head a.w o s b u n going c.begun-state.ensures c.requires in
    let false_keeps : calls.StateAsks s vs ms z st false u n = rw c.if-side.false at keeps in
    calls.visit_asks s vs ms z st u p c.index-p.ensures c.if-tag-eq-COMPOUND.false c.if-tag-eq0.false c.if-tag-gt-READER.false
    c.word_at-m.result n c.word_at-m.ensures c.if-p-z.false c.if-m-eq-GROUND.false c.if-m-stamp.false false_keeps

pub given_term-t-requires : goal.given_term-t-requires
given_term-t-requires t c =
    let a = c.args in
    let s₀ = a.s.now in let vs = a.values in let ms = a.marks in let z = a.z in let st = a.stamp in let s = c.loop-s.s in let b = c.loop-s.side in
    let u = c.loop-s.t in let n = c.loop-s.state in let o = c.begun-state.result in let going = c.loop-s.invariant.0 in let p = c.index-p.result in
    let keeps = calls.going_keeps s₀ vs ms z st a.head a.w o s b u n going c.begun-state.ensures c.requires in
    let false_keeps : calls.StateAsks s vs ms z st false u n = rw c.if-side.false at keeps in
    calls.head_at s vs ms z st u p c.index-p.ensures c.if-tag-eq-COMPOUND.false c.if-tag-eq0.false c.if-tag-gt-READER.false
    c.word_at-m.result n c.word_at-m.ensures c.if-p-z.false c.if-m-eq-GROUND.false c.if-m-stamp.false c.visit-t.new.s c.visit-t.result c.visit-t.ensures
    c.index-i.result c.index-i.ensures c.if-kind-eq-PROBE.true false_keeps

pub loop-s-smaller-then-kind-eq-PROBE : goal.loop-s-smaller-then-kind-eq-PROBE
loop-s-smaller-then-kind-eq-PROBE t c =
    let a = c.args in
    let s₀ = a.s.now in let vs = a.values in let ms = a.marks in let z = a.z in let st = a.stamp in let s = c.loop-s.s in let b = c.loop-s.side in
    let u = c.loop-s.t in let n = c.loop-s.state in let o = c.begun-state.result in let going = c.loop-s.invariant.0 in let p = c.index-p.result in
    let keeps = calls.going_keeps s₀ vs ms z st a.head a.w o s b u n going c.begun-state.ensures c.requires in
    let false_keeps : calls.StateAsks s vs ms z st false u n = rw c.if-side.false at keeps in
    rw c.if-side.false (calls.visit_lighter s vs ms z st u p c.index-p.ensures c.if-tag-eq-COMPOUND.false c.if-tag-eq0.false c.if-tag-gt-READER.false
    c.word_at-m.result n c.word_at-m.ensures c.if-p-z.false c.if-m-eq-GROUND.false c.if-m-stamp.false c.visit-t.new.s c.visit-t.result
    c.visit-t.ensures false_keeps true c.given_term-t.result)

pub loop-s-preserved-then-kind-eq-PROBE : goal.loop-s-preserved-then-kind-eq-PROBE
loop-s-preserved-then-kind-eq-PROBE t c =
    let a = c.args in
    let s₀ = a.s.now in let vs = a.values in let ms = a.marks in let z = a.z in let st = a.stamp in let s = c.loop-s.s in let b = c.loop-s.side in
    let u = c.loop-s.t in let n = c.loop-s.state in let o = c.begun-state.result in let going = c.loop-s.invariant.0 in let p = c.index-p.result in
    let keeps = calls.going_keeps s₀ vs ms z st a.head a.w o s b u n going c.begun-state.ensures c.requires in
    let false_keeps : calls.StateAsks s vs ms z st false u n = rw c.if-side.false at keeps in
    let false_going : calls.Going s₀ vs ms z st a.head a.w o s false u n = rw c.if-side.false at going in let s₁ = c.visit-t.new.s in let f = visited st in
    let light : term_weight s ms f false u ≤ term_weight s₀ ms f a.head a.w = rw c.if-side.false at c.loop-s.invariant.1 in (
      calls.going_on s₀ vs ms z st a.head a.w o s false u n false_going s₁ true c.given_term-t.result 1
          (calls.head_going s vs ms z st u p c.index-p.ensures c.if-tag-eq-COMPOUND.false c.if-tag-eq0.false c.if-tag-gt-READER.false
          c.word_at-m.result n c.word_at-m.ensures c.if-p-z.false c.if-m-eq-GROUND.false c.if-m-stamp.false c.visit-t.new.s c.visit-t.result c.visit-t.ensures
          c.index-i.result c.index-i.ensures c.if-kind-eq-PROBE.true c.given_term-t.result c.given_term-t.ensures),
      no_heavier (term_weight s₁ ms f true c.given_term-t.result) (term_weight s ms f false u) (term_weight s₀ ms f a.head a.w) light
          (calls.visit_lighter s vs ms z st u p c.index-p.ensures c.if-tag-eq-COMPOUND.false c.if-tag-eq0.false c.if-tag-gt-READER.false
          c.word_at-m.result n c.word_at-m.ensures c.if-p-z.false c.if-m-eq-GROUND.false c.if-m-stamp.false c.visit-t.new.s c.visit-t.result
          c.visit-t.ensures false_keeps true c.given_term-t.result),
    )

pub loop-s-smaller : goal.loop-s-smaller
loop-s-smaller t c =
    let a = c.args in
    let s₀ = a.s.now in let vs = a.values in let ms = a.marks in let z = a.z in let st = a.stamp in let s = c.loop-s.s in let b = c.loop-s.side in
    let u = c.loop-s.t in let n = c.loop-s.state in let o = c.begun-state.result in let going = c.loop-s.invariant.0 in let p = c.index-p.result in
    let keeps = calls.going_keeps s₀ vs ms z st a.head a.w o s b u n going c.begun-state.ensures c.requires in
    let false_keeps : calls.StateAsks s vs ms z st false u n = rw c.if-side.false at keeps in
    rw c.if-side.false (calls.visit_lighter s vs ms z st u p c.index-p.ensures c.if-tag-eq-COMPOUND.false c.if-tag-eq0.false c.if-tag-gt-READER.false
    c.word_at-m.result n c.word_at-m.ensures c.if-p-z.false c.if-m-eq-GROUND.false c.if-m-stamp.false c.visit-t.new.s c.visit-t.result
    c.visit-t.ensures false_keeps false c.visit-t.result)

pub loop-s-preserved : goal.loop-s-preserved
loop-s-preserved t c =
    let a = c.args in
    let s₀ = a.s.now in let vs = a.values in let ms = a.marks in let z = a.z in let st = a.stamp in let s = c.loop-s.s in let b = c.loop-s.side in
    let u = c.loop-s.t in let n = c.loop-s.state in let o = c.begun-state.result in let going = c.loop-s.invariant.0 in let p = c.index-p.result in
    let keeps = calls.going_keeps s₀ vs ms z st a.head a.w o s b u n going c.begun-state.ensures c.requires in
    let false_keeps : calls.StateAsks s vs ms z st false u n = rw c.if-side.false at keeps in
    let false_going : calls.Going s₀ vs ms z st a.head a.w o s false u n = rw c.if-side.false at going in let s₁ = c.visit-t.new.s in let f = visited st in
    let light : term_weight s ms f false u ≤ term_weight s₀ ms f a.head a.w = rw c.if-side.false at c.loop-s.invariant.1 in
    rw c.if-side.false (
      calls.going_on s₀ vs ms z st a.head a.w o s false u n false_going s₁ false c.visit-t.result c.since-state.result
          (calls.unit_going s vs ms z st u p c.index-p.ensures c.if-tag-eq-COMPOUND.false c.if-tag-eq0.false c.if-tag-gt-READER.false
          c.word_at-m.result n c.word_at-m.ensures c.if-p-z.false c.if-m-eq-GROUND.false c.if-m-stamp.false c.visit-t.new.s c.visit-t.result c.visit-t.ensures
          c.if-kind-eq-PROBE.false c.since-state.result c.since-state.ensures),
      no_heavier (term_weight s₁ ms f false c.visit-t.result) (term_weight s ms f false u) (term_weight s₀ ms f a.head a.w) light
          (calls.visit_lighter s vs ms z st u p c.index-p.ensures c.if-tag-eq-COMPOUND.false c.if-tag-eq0.false c.if-tag-gt-READER.false
          c.word_at-m.result n c.word_at-m.ensures c.if-p-z.false c.if-m-eq-GROUND.false c.if-m-stamp.false c.visit-t.new.s c.visit-t.result
          c.visit-t.ensures false_keeps false c.visit-t.result),
    )
