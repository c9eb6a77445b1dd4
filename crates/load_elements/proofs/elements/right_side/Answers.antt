-- Each return is one lemma on what the right side's term gave.
use Rattle.std.proofs.lemmas.Result.{err_from_is_err_and}
use Rattle.load_openings.proofs.Moves.{stands_counted}
use Rattle.load_elements.proofs.Right.{right_many, right_unread, right_got}
use Rattle.load_elements.proofs.elements.right_side.Goals as goal

pub returns-then-n-ge-ITEM_COMPOUNDS : goal.returns-then-n-ge-ITEM_COMPOUNDS
returns-then-n-ge-ITEM_COMPOUNDS c = λ known vars st.
    let a = c.args in
    right_many a.src.text.now a.src.rest.now a.src.from a.base known vars a.c a.s.now a.item.now a.left a.names.now c.if-n-ge-ITEM_COMPOUNDS.true

pub term-requires-clause-stands : goal.term-requires-clause-stands
term-requires-clause-stands c =
    let p = c.requires.stands in
    (p.0, p.1, stands_counted p.2 c.if-n-ge-ITEM_COMPOUNDS.false)

pub returns-in_err-right : goal.returns-in_err-right
returns-in_err-right c = λ known vars st.
    let a = c.args in
    let few = c.if-n-ge-ITEM_COMPOUNDS.false in
    let p = err_from_is_err_and c.from_residual.result c.from_residual.ensures.1 in
    rw (p.1, p.2) (right_unread a.src.text.now a.src.rest.now a.src.from a.base known vars a.c a.s.now a.item.now a.left few c.term.new.s c.term.new.names c.term.new.item _
    (c.in_err-right.ensures known vars (stands_counted st few)))

pub returns : goal.returns
returns c = λ known vars st.
    let a = c.args in
    let few = c.if-n-ge-ITEM_COMPOUNDS.false in
    right_got a.src.text.now a.src.rest.now a.src.from a.base known vars a.c a.s.now a.item.now a.left few c.term.new.s c.term.new.names c.term.new.item c.in_ok-right.right
    c.equals_word.result c.in_ok-right.e c.store_sides.new.s (c.in_ok-right.ensures known vars (stands_counted st few)) c.store_sides.ensures c.equals_word.ensures
