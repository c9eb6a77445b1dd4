-- Behind a goal's name and parenthesis `goal` answers what `compound` answers.
use Rattle.std.proofs.lemmas.Result.{err_from_is_err_and}
use Rattle.load_names.specs.Places.{with_place}
use Rattle.load_goals.proofs.GoalRead.{goal_is, goal_unread}
use Rattle.load_goals.proofs.goals.goal.Goals as goal

pub returns : goal.returns
returns c = λ known vars st.
    let a = c.args in
    let f = c.in_ok-n in
    let o = f.ensures known vars a.item.now st in
    let r = c.compound in
    goal_is a.src.text.now a.src.rest.now a.src.from a.base known vars a.c f.d a.s.now c.goal_name.new.names a.item.now r.new.s r.new.names r.new.item f.n o.1 o.2 o.0 o.3 r.result
    (r.ensures (with_place o.1 o.0 known) vars o.3.stands o.0 o.3.number_is)

pub returns-in_err-n : goal.returns-in_err-n
returns-in_err-n c = λ known vars st.
    let a = c.args in
    let e = err_from_is_err_and c.from_residual.result c.from_residual.ensures.1 in
    rw (e.1, e.2) (goal_unread a.src.text.now a.src.rest.now a.src.from a.base known vars a.c a.s.now c.goal_name.new.names a.item.now c.in_err-n.field-0.0 (c.in_err-n.ensures known vars a.item.now st))
