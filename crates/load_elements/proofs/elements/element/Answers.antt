-- Each return is one lemma on the term in front and on what follows it.
use Rattle.std.proofs.Common.{◌≡◌, sym, ◌∙◌, length, arith}
use Rattle.std.proofs.lemmas.Result.{err_from_is_err_and}
use Rattle.load_names.specs.Places.{names_over, variables_over}
use Rattle.load_openings.proofs.Moves.{stands_moved}
use Rattle.load_elements.proofs.One.{stored_own, one_unread, one_not, one_alone, one_equals}
use Rattle.load_elements.proofs.elements.element.Goals as goal

pub returns-in_err-w : goal.returns-in_err-w
returns-in_err-w c = λ known vars st.
    let a = c.args in
    let p = err_from_is_err_and c.from_residual.result c.from_residual.ensures.1 in
    rw (p.1, p.2) (one_unread a.src.text.now a.src.rest.now a.src.from a.base known vars a.c a.s.now a.item.now c.term.new.s c.term.new.names c.term.new.item _
    (c.in_err-w.ensures known vars st))

pub next_is-requires : goal.next_is-requires
next_is-requires c =
    let p = c.requires.stands in
    (c.in_ok-w.ensures p.0 p.1 p.2).2.stands.inside

pub right_side-requires-clause-stands : goal.right_side-requires-clause-stands
right_side-requires-clause-stands c =
    let p = c.requires.stands in
    let b = c.in_ok-w.ensures p.0 p.1 p.2 in
    (names_over b.1 p.0, variables_over c.args.src.from b.1 p.1, stands_moved c.in-Ok.behind b.2.stands c.in-Ok.ensures.inside)

pub stands_alone-requires : goal.stands_alone-requires
stands_alone-requires c =
    let a = c.args in
    let w = c.in_ok-w in
    let p = c.requires.stands in
    let b = w.ensures p.0 p.1 p.2 in
    let l : length c.term.new.s ≡ length a.s.now = c.term.auto.s in (
      names_over b.1 p.0,
      a.base,
      b.0,
      stored_own (names_over b.1 p.0) a.base a.c.compounds w.d.compounds w.w b.0 a.s.now c.term.new.s b.2.word_is b.2.stored_is b.2.numbered
          b.2.stands.compounds_few (omega (arith, l, c.requires.base_in_bounds.0)),
    )

pub returns-in-Ok : goal.returns-in-Ok
returns-in-Ok c = λ known vars st.
    let a = c.args in
    let w = c.in_ok-w in
    let b = w.ensures known vars st in
    one_equals a.src.text.now a.src.rest.now a.src.from a.base known vars a.c a.s.now a.item.now c.term.new.s c.term.new.names c.term.new.item w.w w.d b.0 b.1 b.2
    c.in-Ok.behind c.in-Ok.ensures c.right_side.new.s c.right_side.new.names c.right_side.new.item c.right_side.result
    (c.right_side.ensures (names_over b.1 known) (variables_over a.src.from b.1 vars) (stands_moved c.in-Ok.behind b.2.stands c.in-Ok.ensures.inside))

pub returns-then-stands_alone : goal.returns-then-stands_alone
returns-then-stands_alone c = λ known vars st.
    let a = c.args in
    let w = c.in_ok-w in
    let stops = c.in-Err.ensures in
    let l : length c.term.new.s ≡ length a.s.now = c.term.auto.s in
    let b = w.ensures known vars st in
    let own = stored_own (names_over b.1 known) a.base a.c.compounds w.d.compounds w.w b.0 a.s.now c.term.new.s b.2.word_is b.2.stored_is b.2.numbered
    b.2.stands.compounds_few (omega (arith, l, c.requires.base_in_bounds.0)) in
    one_alone a.src.text.now a.src.rest.now a.src.from a.base known vars a.c a.s.now a.item.now c.term.new.s c.term.new.names c.term.new.item w.w w.d b.0 b.1 b.2
    c.in-Err.other.0 (stops.1 a.src.from) (sym (c.stands_alone.ensures (names_over b.1 known) a.base b.0 own) ∙ c.if-stands_alone.true)

pub returns-else-stands_alone : goal.returns-else-stands_alone
returns-else-stands_alone c = λ known vars st.
    let a = c.args in
    let w = c.in_ok-w in
    let stops = c.in-Err.ensures in
    let l : length c.term.new.s ≡ length a.s.now = c.term.auto.s in
    let b = w.ensures known vars st in
    let own = stored_own (names_over b.1 known) a.base a.c.compounds w.d.compounds w.w b.0 a.s.now c.term.new.s b.2.word_is b.2.stored_is b.2.numbered
    b.2.stands.compounds_few (omega (arith, l, c.requires.base_in_bounds.0)) in
    rw c.from.ensures (one_not a.src.text.now a.src.rest.now a.src.from a.base known vars a.c a.s.now a.item.now c.term.new.s c.term.new.names c.term.new.item w.w w.d b.0 b.1 b.2
    c.in-Err.other.0 (stops.1 a.src.from) stops.0 (sym (c.stands_alone.ensures (names_over b.1 known) a.base b.0 own) ∙ c.if-stands_alone.false))
