-- The first token says whether it is a clause, a query, none, or nothing at all.
use Rattle.std.proofs.Common.{arith}
use Rattle.load_items.proofs.FirstTokens.{item_begun, query_sign, starts_sign, starts_writer, starts_reader, starts_integer, starts_bad}
use Rattle.load_items.proofs.items.next_item.Goals as goal

pub clause-requires-clause-first_token : goal.clause-requires-clause-first_token
clause-requires-clause-first_token c = (c.in-Name.a, _, _, record { tokens = c.in-Name.ensures.4 c.args.src.from })

pub query-requires-clause-begins_in_bounds : goal.query-requires-clause-begins_in_bounds
query-requires-clause-begins_in_bounds c =
    let h = c.in-Sign-eq63-default in
    query_sign c.args.src.rest.now c.args.src.from h.field-0 h.a h.field-0-test h.ensures

pub returns-in-Name : goal.returns-in-Name
returns-in-Name c = λ known b.
    let a = c.args in
    let h = c.in-Name.ensures in
    let r = c.clause.new in
    rw c.begun.ensures (item_begun a.src.text.now a.src.rest.now a.src.from known a.clauses a.queries c.in-Name.a a.s.now a.heads.now r.s a.names.now r.names r.heads c.clause.result (omega (arith, h.1, h.2))
    (c.clause.ensures known a.queries c.in-Name.a _ _ b (record { tokens = h.4 a.src.from })))

pub returns-in-Sign-eq63-default : goal.returns-in-Sign-eq63-default
returns-in-Sign-eq63-default c = λ known b.
    let a = c.args in
    let h = c.in-Sign-eq63-default in
    let r = c.query.new in
    let sign = query_sign a.src.rest.now a.src.from h.field-0 h.a h.field-0-test h.ensures in
    rw c.begun-in-Sign-eq63-default.ensures (item_begun a.src.text.now a.src.rest.now a.src.from known a.clauses a.queries h.a a.s.now a.heads.now r.s a.names.now r.names a.heads.now c.query.result
    (omega (arith, sign.0)) (c.query.ensures known a.clauses a.heads.now b))

pub returns-in-Sign : goal.returns-in-Sign
returns-in-Sign c = λ known b.
    let a = c.args in
    starts_sign a.src.text.now a.src.rest.now a.src.from known a.clauses a.queries a.s.now a.heads.now a.names.now _ c.in-Sign.a c.in-Sign.field-0-test.1 c.in-Sign.ensures

pub returns-in-Sign-2 : goal.returns-in-Sign-2
returns-in-Sign-2 c = λ known b.
    let a = c.args in
    starts_writer a.src.text.now a.src.rest.now a.src.from known a.clauses a.queries a.s.now a.heads.now a.names.now c.in-Sign.a _ c.in-Sign.ensures

pub returns-in-Sign-3 : goal.returns-in-Sign-3
returns-in-Sign-3 c = λ known b.
    let a = c.args in
    starts_reader a.src.text.now a.src.rest.now a.src.from known a.clauses a.queries a.s.now a.heads.now a.names.now c.in-Sign.a _ c.in-Sign.ensures

pub returns-in-Sign-4 : goal.returns-in-Sign-4
returns-in-Sign-4 c = λ known b.
    let a = c.args in
    starts_integer a.src.text.now a.src.rest.now a.src.from known a.clauses a.queries a.s.now a.heads.now a.names.now _ c.in-Sign.a _ c.in-Sign.ensures

pub returns-in-Sign-5 : goal.returns-in-Sign-5
returns-in-Sign-5 c = λ known b.
    let a = c.args in
    starts_bad a.src.text.now a.src.rest.now a.src.from known a.clauses a.queries a.s.now a.heads.now a.names.now c.in-Sign.a c.in-Sign.ensures
