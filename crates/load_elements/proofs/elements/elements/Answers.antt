-- One element more, with what comes behind it, or what stops the reading.
use Rattle.std.proofs.Common.{◌+◌, ◌-◌, ◌<◌, ◌≤◌, ℕ, [], length, set, refl, ap, ◌∙◌, arith}
use Rattle.std.proofs.lemmas.Result.{err_from_is_err_and}
use Rattle.std.proofs.lemmas.List.{length_push}
use Rattle.load_elements.proofs.Partly.{comma_left, partly_none, partly_ninth, partly_unread, partly_other, partly_comma, partly_bar, partly_stop}
use Rattle.load_elements.proofs.elements.elements.Goals as goal

pub loop-i-init : goal.loop-i-init
loop-i-init c = λ known vars st.
    let a = c.args in
    ([], known, vars, [], refl, partly_none a.src.text.now a.src.rest.now a.src.from a.base known vars a.c a.s.now a.names.now a.item.now a.words.now st)

pub element-requires-clause-stands : goal.element-requires-clause-stands
element-requires-clause-stands c =
    let p = c.requires.stands in
    let t = c.loop-i.invariant p.0 p.1 p.2 in
    (t.1, t.2, t.5.had.stands)

pub returns-in_err-w : goal.returns-in_err-w
returns-in_err-w c = λ known vars st.
    let a = c.args in
    let l = c.loop-i in
    let t = l.invariant known vars st in
    let room : length t.0 < 8 = omega (arith, t.4, c.loop-i-test.true) in
    let p = err_from_is_err_and c.from_residual.result c.from_residual.ensures.1 in
    rw (p.1, p.2) (partly_unread a.src.text.now a.src.rest.now a.src.from a.base known vars a.c a.s.now a.item.now a.words.now l.s l.names l.item l.words l.d t.0 t.1 t.2 t.3 t.5 room
    c.element.new.s c.element.new.names c.element.new.item _ (c.in_err-w.ensures t.1 t.2 t.5.had.stands) l.words)

pub next_of-requires : goal.next_of-requires
next_of-requires c =
    let p = c.requires.stands in
    let t = c.loop-i.invariant p.0 p.1 p.2 in
    (c.in_ok-w.ensures t.1 t.2 t.5.had.stands).2.stands.inside

pub returns-in_err-sign : goal.returns-in_err-sign
returns-in_err-sign c = λ known vars st.
    let a = c.args in
    let l = c.loop-i in
    let w = c.in_ok-w in
    let t = l.invariant known vars st in
    let room : length t.0 < 8 = omega (arith, t.4, c.loop-i-test.true) in
    let gave = w.ensures t.1 t.2 t.5.had.stands in
    let long : 8 ≤ length l.words = omega (arith, l.auto.words, c.requires.base_in_bounds.2) in
    let stops = c.in_err-sign.ensures in
    let p = err_from_is_err_and c.from_residual-in_err-sign.result c.from_residual-in_err-sign.ensures.1 in
    rw (p.1, p.2) (partly_other a.src.text.now a.src.rest.now a.src.from a.base known vars a.c a.s.now a.item.now a.words.now l.s l.names l.item l.words l.d t.0 t.1 t.2 t.3 t.5 room
    c.element.new.s c.element.new.names c.element.new.item w.w w.e gave.0 gave.1 gave.2 long
    c.in_err-sign.field-0.0.0 stops.0 (stops.1 a.src.from) (set l.words l.i w.w))

pub returns-in-124 : goal.returns-in-124
returns-in-124 c = λ known vars st.
    let a = c.args in
    let l = c.loop-i in
    let w = c.in_ok-w in
    let t = l.invariant known vars st in
    let room : length t.0 < 8 = omega (arith, t.4, c.loop-i-test.true) in
    let gave = w.ensures t.1 t.2 t.5.had.stands in
    let long : 8 ≤ length l.words = omega (arith, l.auto.words, c.requires.base_in_bounds.2) in
    let next = rw c.in-124.is at c.in_ok-sign.ensures.1 in
    let new = partly_bar a.src.text.now a.src.rest.now a.src.from a.base known vars a.c a.s.now a.item.now a.words.now l.s l.names l.item l.words l.d t.0 t.1 t.2 t.3 t.5 room
    c.element.new.s c.element.new.names c.element.new.item w.w w.e gave.0 gave.1 gave.2 long
    c.in_ok-sign.behind (l.i + 1) (omega (arith, t.4)) next in
    (_, _, _, rw t.4 at new)

pub returns-in-46 : goal.returns-in-46
returns-in-46 c = λ known vars st.
    let a = c.args in
    let l = c.loop-i in
    let w = c.in_ok-w in
    let t = l.invariant known vars st in
    let room : length t.0 < 8 = omega (arith, t.4, c.loop-i-test.true) in
    let gave = w.ensures t.1 t.2 t.5.had.stands in
    let long : 8 ≤ length l.words = omega (arith, l.auto.words, c.requires.base_in_bounds.2) in
    let next = rw c.in-46.is at c.in_ok-sign.ensures.1 in
    let b = c.in_ok-sign.behind in
    let new = partly_stop a.src.text.now a.src.rest.now a.src.from a.base known vars a.c a.s.now a.item.now a.words.now l.s l.names l.item l.words l.d t.0 t.1 t.2 t.3 t.5 room
    c.element.new.s c.element.new.names c.element.new.item w.w w.e gave.0 gave.1 gave.2 long
    b (l.i + 1) (b - 1) (omega (arith, t.4)) refl next in
    (_, _, rw t.4 at new)

pub loop-i-preserved : goal.loop-i-preserved
loop-i-preserved c = λ known vars st.
    let a = c.args in
    let l = c.loop-i in
    let w = c.in_ok-w in
    let t = l.invariant known vars st in
    let room : length t.0 < 8 = omega (arith, t.4, c.loop-i-test.true) in
    let gave = w.ensures t.1 t.2 t.5.had.stands in
    let long : 8 ≤ length l.words = omega (arith, l.auto.words, c.requires.base_in_bounds.2) in
    let next = rw (comma_left c.in_ok-sign.sign c.in_ok-sign.ensures.0 (λ q. omega arith) (λ q. omega arith)) at c.in_ok-sign.ensures.1 in
    let new = partly_comma a.src.text.now a.src.rest.now a.src.from a.base known vars a.c a.s.now a.item.now a.words.now l.s l.names l.item l.words l.d t.0 t.1 t.2 t.3 t.5 room
    c.element.new.s c.element.new.names c.element.new.item w.w w.e gave.0 gave.1 gave.2 long
    c.in_ok-sign.behind next in
    (_, _, _, _, length_push t.0 gave.0 ∙ ap (λ (n : ℕ). n + 1) t.4, rw t.4 at new)

pub ninth-requires : goal.ninth-requires
ninth-requires c =
    let p = c.requires.stands in
    (c.loop-i.invariant p.0 p.1 p.2).5.had.stands.inside

pub returns : goal.returns
returns c = λ known vars st.
    let a = c.args in
    let l = c.loop-i in
    let t = l.invariant known vars st in
    partly_ninth a.src.text.now a.src.rest.now a.src.from a.base known vars a.c a.s.now a.item.now a.words.now l.s l.names l.item l.words l.d t.0 t.1 t.2 t.3 t.5
    (omega (arith, t.4)) c.ninth.result c.ninth.ensures
