-- Of the next goal each end is one lemma: it is not read, or behind it comes a comma, the full stop, or neither.
use Rattle.std.proofs.Common.{◌≡◌, ◌+◌, ◌<◌, [], ◌∷◌, ◌++◌, refl, ◌∙◌, ap, arith, length}
use Rattle.std.proofs.lemmas.Result.{err_from_is_err_and}
use Rattle.load_names.specs.Places.{names_over, variables_over}
use Rattle.load_openings.proofs.Expected.{first_of_two}
use Rattle.load_goals.proofs.GoalLists.{length_snoc}
use Rattle.load_goals.proofs.Ninth.{partly_none, partly_ninth}
use Rattle.load_goals.proofs.Partly.{partly_comma, partly_stop, partly_other, partly_unread}
use Rattle.load_goals.proofs.goals.goals.Goals as goal

pub loop-i-init : goal.loop-i-init
loop-i-init c = λ known vars st.
    let a = c.args in
    ([], [], refl, partly_none a.src.text.now a.src.rest.now a.src.from a.base a.place known vars a.c a.s.now a.names.now a.item.now st)

pub returns-in_err-w : goal.returns-in_err-w
returns-in_err-w c = λ known vars st.
    let a = c.args in
    let l = c.loop-i in
    let t = l.invariant known vars st in
    let room : length t.0 < 8 = omega (arith, t.2) in
    let o = c.goal in
    let e = err_from_is_err_and c.from_residual.result c.from_residual.ensures.1 in
    rw (e.1, e.2) (partly_unread a.src.text.now a.src.rest.now a.src.from a.base a.place known vars a.c a.s.now a.item.now l.s l.names l.item l.d t.0 t.1 t.3 room c.in_err-w.field-0.0 o.new.s o.new.names o.new.item (omega arith)
    (c.in_err-w.ensures (names_over t.1 known) (variables_over a.src.from t.1 vars) t.3.stands))

pub next_of-requires : goal.next_of-requires
next_of-requires c =
    let p = c.requires.stands in
    let t = c.loop-i.invariant p.0 p.1 p.2 in
    (c.in_ok-w.ensures (names_over t.1 p.0) (variables_over c.args.src.from t.1 p.1) t.3.stands).2.stands.inside

pub returns-in_err-sign : goal.returns-in_err-sign
returns-in_err-sign c = λ known vars st.
    let a = c.args in
    let l = c.loop-i in
    let t = l.invariant known vars st in
    let room : length t.0 < 8 = omega (arith, t.2) in
    let b = c.in_ok-w.ensures (names_over t.1 known) (variables_over a.src.from t.1 vars) t.3.stands in
    let o = c.goal in
    let e = err_from_is_err_and c.from_residual-in_err-sign.result c.from_residual-in_err-sign.ensures.1 in
    rw (e.1, e.2) (rw t.2 at (partly_other a.src.text.now a.src.rest.now a.src.from a.base a.place known vars a.c a.s.now a.item.now l.s l.names l.item l.d t.0 t.1 t.3 room o.new.s o.new.names o.new.item c.in_ok-w.w c.in_ok-w.e b.0 b.1 b.2 (omega arith) (omega arith) c.in_err-sign.field-0.0 c.in_err-sign.ensures))

pub returns-then-sign-eq46 : goal.returns-then-sign-eq46
returns-then-sign-eq46 c = λ known vars st.
    let a = c.args in
    let l = c.loop-i in
    let t = l.invariant known vars st in
    let room : length t.0 < 8 = omega (arith, t.2) in
    let b = c.in_ok-w.ensures (names_over t.1 known) (variables_over a.src.from t.1 vars) t.3.stands in
    let o = c.goal in
    let next = rw c.if-sign-eq46.true at c.in_ok-sign.ensures.1 in
    let new = partly_stop a.src.text.now a.src.rest.now a.src.from a.base a.place known vars a.c a.s.now a.item.now l.s l.names l.item l.d t.0 t.1 t.3 room o.new.s o.new.names o.new.item c.in_ok-w.w c.in_ok-w.e b.0 b.1 b.2 (omega arith) (omega arith) c.in_ok-sign.at c.word.result (omega (arith, c.word.ensures, t.2)) next in
    (_, _, _, rw t.2 at new)

pub loop-i-preserved : goal.loop-i-preserved
loop-i-preserved c = λ known vars st.
    let a = c.args in
    let l = c.loop-i in
    let t = l.invariant known vars st in
    let room : length t.0 < 8 = omega (arith, t.2) in
    let b = c.in_ok-w.ensures (names_over t.1 known) (variables_over a.src.from t.1 vars) t.3.stands in
    let o = c.goal in
    let next = rw (first_of_two c.in_ok-sign.sign 44 46 c.in_ok-sign.ensures.0 c.if-sign-eq46.false) at c.in_ok-sign.ensures.1 in
    let new = partly_comma a.src.text.now a.src.rest.now a.src.from a.base a.place known vars a.c a.s.now a.item.now l.s l.names l.item l.d t.0 t.1 t.3 room o.new.s o.new.names o.new.item c.in_ok-w.w c.in_ok-w.e b.0 b.1 b.2 (omega arith) (omega arith) c.in_ok-sign.at next in
    (t.0 ++ (b.0 ∷ []), _, length_snoc t.0 b.0 ∙ ap (λ k. k + 1) t.2, rw t.2 at new)

pub returns : goal.returns
returns c = λ known vars st.
    let a = c.args in
    let l = c.loop-i in
    let t = l.invariant known vars st in
    let full : length t.0 ≡ 8 = omega (arith, t.2, c.loop-i-test.false) in
    partly_ninth a.src.text.now a.src.rest.now a.src.from a.base a.place known vars a.c a.s.now a.item.now l.s l.names l.item l.d t.0 t.1 t.3 full c.ninth.result c.ninth.ensures
