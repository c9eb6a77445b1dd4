-- What is behind the bar, where the guards are in the table, or not.
use Rattle.std.proofs.Common.{refl}
use Rattle.std.proofs.lemmas.Result.{err_from_is_err_and}
use Rattle.load_items.proofs.BehindBar.{bar_unread}
use Rattle.load_items.proofs.rule.guarded.Goals as goal

pub returns-in_err-goals : goal.returns-in_err-goals
returns-in_err-goals c = λ known vars st.
    let a = c.args in
    let r = c.perhaps_goals in
    let p = err_from_is_err_and c.from_residual.result c.from_residual.ensures.1 in
    rw (p.1, p.2) (bar_unread a.k a.n a.found a.src.text.now a.src.rest.now a.src.from known vars a.c a.s.now a.item.now r.new.s r.new.names r.new.item _
    (c.in_err-goals.ensures known vars st))

pub returns-then-not-found : goal.returns-then-not-found
returns-then-not-found c = λ known vars st.
    let t = c.in_ok-goals.ensures known vars st in
    (c.if-not-found.true, t.0, _, _, t.3.reads, t.3.only)

pub returns : goal.returns
returns c = λ known vars st.
    let t = c.in_ok-goals.ensures known vars st in
    (c.if-not-found.false, refl, refl, t.0, t.1, t.2, t.3)
