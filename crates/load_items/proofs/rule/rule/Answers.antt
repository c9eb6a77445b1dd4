-- Behind the head come its body, a full stop, or something that cannot stand.
use Rattle.std.proofs.Common.{arith}
use Rattle.std.proofs.lemmas.Result.{err_from_is_err_and}
use Rattle.load_names.specs.Places.{names_over, variables_over}
use Rattle.load_tokens.proofs.InFront.{last_of_two}
use Rattle.load_openings.proofs.Moves.{stands_moved}
use Rattle.load_items.proofs.Heads.{head_unread, head_other, head_stop, head_body}
use Rattle.load_items.proofs.rule.rule.Goals as goal

pub returns-in_err-e : goal.returns-in_err-e
returns-in_err-e c = λ known vars st.
    let a = c.args in
    let p = err_from_is_err_and c.from_residual.result c.from_residual.ensures.1 in
    rw (p.1, p.2) (head_unread a.k a.src.text.now a.src.rest.now a.src.from known vars a.c a.s.now a.item.now a.heads.now c.requires.k_bound.0 c.goal.new.s c.goal.new.names c.goal.new.item a.heads.now a.tables.now.in_head a.tables.now.in_guards a.tables.now.licensed _
    (c.in_err-e.ensures known vars st))

pub returns-in_err-sign : goal.returns-in_err-sign
returns-in_err-sign c = λ known vars st.
    let a = c.args in
    let gave = c.in_ok-e.ensures known vars st in
    let stops = c.in_err-sign.ensures in
    let p = err_from_is_err_and c.from_residual-in_err-sign.result c.from_residual-in_err-sign.ensures.1 in
    rw (p.1, p.2) (head_other a.k a.src.text.now a.src.rest.now a.src.from known vars a.c a.s.now a.item.now a.heads.now c.requires.k_bound.0 c.goal.new.s c.goal.new.names c.goal.new.item
    _ c.in_ok-e.e gave.0 gave.1 gave.2 c.requires.k_bound.4 (omega (arith, c.requires.k_bound.0, c.requires.k_bound.1)) a.tables.now.in_head c.copy_counts.new.table
    (omega (arith, c.copy_counts.auto.table)) c.copy_counts.ensures a.tables.now.in_guards a.tables.now.licensed
    c.in_err-sign.field-0.0.0 (stops.1 a.src.from) stops.0)

pub returns-then-sign-eq58 : goal.returns-then-sign-eq58
returns-then-sign-eq58 c = λ known vars st.
    let a = c.args in
    let gave = c.in_ok-e.ensures known vars st in
    let next = rw c.if-sign-eq58.true at c.in_ok-sign.ensures.1 in
    rw c.body.ensures.head_stays (head_body a.k a.src.text.now a.src.rest.now a.src.from known vars a.c a.s.now a.item.now a.heads.now c.requires.k_bound.0 c.goal.new.s c.goal.new.names c.goal.new.item
    _ c.in_ok-e.e gave.0 gave.1 gave.2 c.requires.k_bound.4 (omega (arith, c.requires.k_bound.0, c.requires.k_bound.1)) a.tables.now.in_head c.copy_counts.new.table
    (omega (arith, c.copy_counts.auto.table)) c.copy_counts.ensures c.in_ok-sign.behind next
    c.body.new.s c.body.new.names c.body.new.item c.body.new.tables.in_guards c.body.new.tables.licensed c.body.result
    (c.body.ensures.read (names_over gave.1 known) (variables_over a.src.from gave.1 vars) (stands_moved c.in_ok-sign.behind gave.2.stands next.inside)))

pub returns : goal.returns
returns c = λ known vars st.
    let a = c.args in
    let gave = c.in_ok-e.ensures known vars st in
    let next = rw (last_of_two c.in_ok-sign.sign 58 46 c.in_ok-sign.ensures.0 c.if-sign-eq58.false) at c.in_ok-sign.ensures.1 in
    head_stop a.k a.src.text.now a.src.rest.now a.src.from known vars a.c a.s.now a.item.now a.heads.now c.requires.k_bound.0 c.goal.new.s c.goal.new.names c.goal.new.item
    _ c.in_ok-e.e gave.0 gave.1 gave.2 c.requires.k_bound.4 (omega (arith, c.requires.k_bound.0, c.requires.k_bound.1)) a.tables.now.in_head c.copy_counts.new.table
    (omega (arith, c.copy_counts.auto.table)) c.copy_counts.ensures a.tables.now.in_guards a.tables.now.licensed c.requires.none_counted.0 c.requires.none_counted.1
    c.in_ok-sign.behind next
