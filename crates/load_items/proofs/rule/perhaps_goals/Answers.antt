-- The full stop, or what the goals gave.
use Rattle.load_items.proofs.BehindBar.{none_behind, some_behind}
use Rattle.load_items.proofs.rule.perhaps_goals.Goals as goal

pub returns-in-Ok : goal.returns-in-Ok
returns-in-Ok c = λ known vars st.
    let a = c.args in
    none_behind a.k a.src.text.now a.src.rest.now a.src.from known vars a.c a.s.now a.names.now a.item.now st c.in-Ok.behind c.in-Ok.ensures

pub returns-in-Err : goal.returns-in-Err
returns-in-Err c = λ known vars st.
    let a = c.args in
    let stops = c.in-Err.ensures in
    some_behind a.k a.src.text.now a.src.rest.now a.src.from known vars a.c a.s.now a.names.now a.item.now st c.in-Err.field-0.0 (stops.1 a.src.from)
    c.goals.new.s c.goals.new.names c.goals.new.item c.goals.result (c.goals.ensures known vars st)
