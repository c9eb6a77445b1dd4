-- Each arm is one lemma: on an argument, on a compound over its arguments, on an element and its tail, on how a term begins.
use Rattle.std.proofs.Common.{rules, ◌+◌, ◌-◌, ◌≤◌, ◌∙◌, Err, Ok, ap, arith, set}
use Rattle.std.proofs.lemmas.Result.{err_from_is_err_and}
use Rattle.meaning.specs.Items.{term as term_reader, arguments as arguments_reader, elements as elements_reader}
use Rattle.term.proofs.Cells.{numbered_order}
use Rattle.load_names.specs.Places.{spellings, names_over, variables_over}
use Rattle.load_names.proofs.Numbering.{placed, spellings_length}
use Rattle.load_tokens.proofs.InFront.{last_of_three}
use Rattle.load_openings.specs.Reading.{ArgumentsAre, round_of}
use Rattle.load_openings.specs.declared.cursor.Unread.TheVariants.{Malformed, Exceeded}
use Rattle.load_openings.proofs.Expected.{first_of_two}
use Rattle.load_openings.proofs.Given.{round_read, opened_read}
use Rattle.load_openings.proofs.Moves.{moved_to, stands_counted, stands_moved}
use Rattle.load_terms.proofs.Arguments.{argument_unread, argument_stop, argument_last, seventh_passed, seventh_cannot, compound_none, compound_unread, compound_got}
use Rattle.load_terms.proofs.Reached.{reached_more}
use Rattle.load_terms.proofs.Elements.{cell_stored, last_unread, last_other, last_got}
use Rattle.load_terms.proofs.Linked.{linked_none, linked_cannot, linked_many, linked_unread, linked_more, linked_last, linked_last_unread, linked_closed, linked_stop}
use Rattle.load_terms.proofs.terms.+arguments_compound_elements_last_tail_term.Goals as goal

pub arguments-term-requires : goal.arguments-term-requires
arguments-term-requires t c =
    let p = c.requires.stands in
    let r = c.loop-i.invariant p.0 p.1 p.2 in
    (omega arith, ((omega arith, omega arith, omega arith), (r.known₁, r.vars₁, r.stands)))

pub arguments-returns-in_err-w : goal.arguments-returns-in_err-w
arguments-returns-in_err-w t c = λ known vars stands.
    let a = c.args in
    let l = c.loop-i in
    let r = l.invariant known vars stands in
    let u = c.in_err-w.field-0.0 in
    let e = err_from_is_err_and c.from_residual.result c.from_residual.ensures.1 in
    rw (e.1, e.2) (r.answers c.term.new.s c.term.new.names c.term.new.item (Err u)
    (argument_unread a.src.text.now a.src.rest.now a.src.from a.base r.known₁ r.vars₁ l.d l.s l.item (term_reader a.left) a.n l.i c.loop-i-test.true u c.term.new.s c.term.new.names c.term.new.item (c.in_err-w.ensures r.known₁ r.vars₁ r.stands)))

pub arguments-next_of-requires : goal.arguments-next_of-requires
arguments-next_of-requires t c =
    let p = c.requires.stands in
    let r = c.loop-i.invariant p.0 p.1 p.2 in
    (c.in_ok-w.ensures r.known₁ r.vars₁ r.stands).2.stands.inside

pub arguments-returns-in_err-sign : goal.arguments-returns-in_err-sign
arguments-returns-in_err-sign t c = λ known vars stands.
    let a = c.args in
    let l = c.loop-i in
    let r = l.invariant known vars stands in
    let b = c.in_ok-w.ensures r.known₁ r.vars₁ r.stands in
    let m = c.in_err-sign.field-0.0 in
    let e = err_from_is_err_and c.from_residual-in_err-sign.result c.from_residual-in_err-sign.ensures.1 in
    let s' = set c.term.new.s (c.place.result + 1 + l.i) c.in_ok-w.w in
    rw (e.1, e.2) (r.answers s' c.term.new.names c.term.new.item (Err (Malformed m.0))
    (argument_stop a.src.text.now a.src.rest.now a.src.from a.base r.known₁ r.vars₁ l.d l.s l.item (term_reader a.left) a.n l.i c.loop-i-test.true r.behind c.term.new.s c.term.new.names c.term.new.item s' c.in_ok-w.w c.in_ok-w.e b.0 b.1 b.2
    (ap (λ p. set c.term.new.s (p + 1 + l.i) c.in_ok-w.w) c.place.ensures) m c.in_err-sign.ensures))

pub arguments-returns-then-sign-eq41 : goal.arguments-returns-then-sign-eq41
arguments-returns-then-sign-eq41 t c = λ known vars stands.
    let a = c.args in
    let l = c.loop-i in
    let r = l.invariant known vars stands in
    let b = c.in_ok-w.ensures r.known₁ r.vars₁ r.stands in
    let s' = set c.term.new.s (c.place.result + 1 + l.i) c.in_ok-w.w in
    let last : ArgumentsAre a.n l.i (arguments_reader (term_reader a.left) (6 - l.i)) a.src.text.now a.src.rest.now a.src.from a.base r.known₁ r.vars₁ l.d l.s l.item s' c.term.new.names c.term.new.item (Ok (c.word.result, moved_to c.in_ok-w.e c.in_ok-sign.at)) =
    rw c.word.ensures (argument_last a.src.text.now a.src.rest.now a.src.from a.base r.known₁ r.vars₁ l.d l.s l.item (term_reader a.left) a.n l.i c.loop-i-test.true r.behind c.term.new.s c.term.new.names c.term.new.item s' c.in_ok-w.w c.in_ok-w.e b.0 b.1 b.2
    (ap (λ p. set c.term.new.s (p + 1 + l.i) c.in_ok-w.w) c.place.ensures) c.in_ok-sign.at (rw c.if-sign-eq41.true at c.in_ok-sign.ensures.1)) in
    r.answers s' c.term.new.names c.term.new.item (Ok (c.word.result, moved_to c.in_ok-w.e c.in_ok-sign.at)) last

pub arguments-loop-i-preserved : goal.arguments-loop-i-preserved
arguments-loop-i-preserved t c = λ known vars stands.
    let a = c.args in
    let l = c.loop-i in
    let r = l.invariant known vars stands in
    let b = c.in_ok-w.ensures r.known₁ r.vars₁ r.stands in
    let o = c.in_ok-sign.ensures in
    let comma = first_of_two c.in_ok-sign.sign 44 41 o.0 c.if-sign-eq41.false in
    reached_more (term_reader a.left) a.n l.i a.src.text.now a.src.rest.now a.src.from a.base known vars a.c a.s.now a.item.now l.d l.s l.names l.item r c.loop-i-test.true c.term.new.s c.term.new.names c.term.new.item _ c.in_ok-w.w c.in_ok-w.e b.0 b.1 b.2
    (ap (λ p. set c.term.new.s (p + 1 + l.i) c.in_ok-w.w) c.place.ensures) c.in_ok-sign.at (rw comma at o.1)

pub arguments-starts-requires : goal.arguments-starts-requires
arguments-starts-requires t c =
    let p = c.requires.stands in
    (c.loop-i.invariant p.0 p.1 p.2).stands.inside

pub arguments-returns-in_err-starts : goal.arguments-returns-in_err-starts
arguments-returns-in_err-starts t c = λ known vars stands.
    let a = c.args in
    let l = c.loop-i in
    let r = l.invariant known vars stands in
    let many : 6 ≤ l.i = omega (arith, c.loop-i-test.false) in
    let e = err_from_is_err_and c.from_residual-in_err-starts.result c.from_residual-in_err-starts.ensures.1 in
    rw (e.1, e.2) (r.answers l.s l.names l.item (Err (Malformed c.in_err-starts.field-0.0.0))
    (seventh_cannot a.src.text.now a.src.rest.now a.src.from a.base r.known₁ r.vars₁ l.d l.s l.item l.names (term_reader a.left) a.n l.i many c.in_err-starts.field-0.0 c.in_err-starts.ensures))

pub arguments-returns : goal.arguments-returns
arguments-returns t c = λ known vars stands.
    let a = c.args in
    let l = c.loop-i in
    let r = l.invariant known vars stands in
    let many : 6 ≤ l.i = omega (arith, c.loop-i-test.false) in
    r.answers l.s l.names l.item (Err Exceeded)
    (seventh_passed a.src.text.now a.src.rest.now a.src.from a.base r.known₁ r.vars₁ l.d l.s l.item l.names (term_reader a.left) a.n l.i many c.in_ok-starts.ensures)

pub compound-returns-then-n-ge-ITEM_COMPOUNDS : goal.compound-returns-then-n-ge-ITEM_COMPOUNDS
compound-returns-then-n-ge-ITEM_COMPOUNDS t c = λ known vars stands f named.
    let a = c.args in
    compound_none a.src.text.now a.src.rest.now a.src.from a.base known vars a.c a.s.now a.item.now (term_reader a.left) f a.names.now c.if-n-ge-ITEM_COMPOUNDS.true

pub compound-returns-in_err-count : goal.compound-returns-in_err-count
compound-returns-in_err-count t c = λ known vars stands f named.
    let a = c.args in
    let o = c.arguments in
    let few = c.if-n-ge-ITEM_COMPOUNDS.false in
    let e = err_from_is_err_and c.from_residual.result c.from_residual.ensures.1 in
    rw (e.1, e.2) (compound_unread a.src.text.now a.src.rest.now a.src.from a.base known vars a.c a.s.now a.item.now (term_reader a.left) f few o.new.s o.new.names o.new.item c.in_err-count.field-0.0
    (c.in_err-count.ensures known vars (stands_counted stands few)))

pub compound-functor-requires : goal.compound-functor-requires
compound-functor-requires t c =
    let p = c.requires.stands in
    let b = c.in_ok-count.ensures p.0 p.1 (stands_counted p.2 c.if-n-ge-ITEM_COMPOUNDS.false) in
    let at = placed p.3 (spellings p.0) c.args.name p.4 in
    (omega (arith, at.below, spellings_length p.0, p.2.names_in.few), omega (arith, b.2.count_is, b.2.few))

pub compound-returns : goal.compound-returns
compound-returns t c = λ known vars stands f named.
    let a = c.args in
    let o = c.arguments in
    let few = c.if-n-ge-ITEM_COMPOUNDS.false in
    compound_got a.src.text.now a.src.rest.now a.src.from a.base known vars a.c a.s.now a.item.now (term_reader a.left) f few o.new.s o.new.names o.new.item _ a.name c.compound_word.result c.in_ok-count.count c.in_ok-count.d named
    (c.in_ok-count.ensures known vars (stands_counted stands few)) (rw (c.place.ensures, c.functor.ensures)) c.compound_word.ensures

pub elements-loop-d-init : goal.elements-loop-d-init
elements-loop-d-init t c = λ known vars stands left_over enough.
    let a = c.args in
    linked_none a.left left_over a.src.text.now a.src.rest.now a.src.from a.base known vars a.c a.s.now a.names.now a.item.now stands enough

pub elements-term-requires : goal.elements-term-requires
elements-term-requires t c =
    let p = c.requires.stands in
    let r = c.loop-d.invariant p.0 p.1 p.2 32 (omega arith) in
    (omega arith, ((omega arith, omega arith, omega arith), (r.known₁, r.vars₁, stands_counted r.stands c.loop-d-test.true)))

pub elements-returns-in_err-w : goal.elements-returns-in_err-w
elements-returns-in_err-w t c = λ known vars stands left_over enough.
    let a = c.args in
    let l = c.loop-d in
    let r = l.invariant known vars stands left_over enough in
    let few = c.loop-d-test.true in
    let e = err_from_is_err_and c.from_residual.result c.from_residual.ensures.1 in
    rw (e.1, e.2) (linked_unread a.left left_over a.src.text.now a.src.rest.now a.src.from a.base known vars a.c a.s.now a.item.now l.d l.s l.names l.item r few c.in_err-w.field-0.0 c.term.new.s c.term.new.names c.term.new.item
    (c.in_err-w.ensures r.known₁ r.vars₁ (stands_counted r.stands few)))

pub elements-next_of-requires : goal.elements-next_of-requires
elements-next_of-requires t c =
    let p = c.requires.stands in
    let r = c.loop-d.invariant p.0 p.1 p.2 32 (omega arith) in
    (c.in_ok-w.ensures r.known₁ r.vars₁ (stands_counted r.stands c.loop-d-test.true)).2.stands.inside

pub elements-returns-in_err-sign : goal.elements-returns-in_err-sign
elements-returns-in_err-sign t c = λ known vars stands left_over enough.
    let a = c.args in
    let l = c.loop-d in
    let r = l.invariant known vars stands left_over enough in
    let few = c.loop-d-test.true in
    let b = c.in_ok-w.ensures r.known₁ r.vars₁ (stands_counted r.stands few) in
    let e = err_from_is_err_and c.from_residual-in_err-sign.result c.from_residual-in_err-sign.ensures.1 in
    rw (e.1, e.2) (linked_stop a.left left_over a.src.text.now a.src.rest.now a.src.from a.base known vars a.c a.s.now a.item.now l.d l.s l.names l.item r few c.term.new.s c.term.new.names c.term.new.item c.in_ok-w.w c.in_ok-w.e b.0 b.1 b.2 c.in_err-sign.field-0.0 c.in_err-sign.ensures)

pub elements-loop-d-smaller : goal.elements-loop-d-smaller
elements-loop-d-smaller t c =
    let p = c.requires.stands in
    let l = c.loop-d in
    let r = l.invariant p.0 p.1 p.2 32 (omega arith) in
    let b = c.in_ok-w.ensures r.known₁ r.vars₁ (stands_counted r.stands c.loop-d-test.true) in
    omega (arith, numbered_order (l.d.compounds + 1) c.in_ok-w.e.compounds b.0 b.2.numbered)

pub elements-compound_word-requires : goal.elements-compound_word-requires
elements-compound_word-requires t c =
    let p = c.requires.stands in
    let l = c.loop-d in
    let r = l.invariant p.0 p.1 p.2 32 (omega arith) in
    let b = c.in_ok-w.ensures r.known₁ r.vars₁ (stands_counted r.stands c.loop-d-test.true) in
    (omega arith, b.2.stands.compounds_few)

pub elements-loop-d-preserved : goal.elements-loop-d-preserved
elements-loop-d-preserved t c = λ known vars stands left_over enough.
    let a = c.args in
    let l = c.loop-d in
    let r = l.invariant known vars stands left_over enough in
    let few = c.loop-d-test.true in
    let b = c.in_ok-w.ensures r.known₁ r.vars₁ (stands_counted r.stands few) in
    linked_more a.left left_over a.src.text.now a.src.rest.now a.src.from a.base known vars a.c a.s.now a.item.now l.d l.s l.names l.item r few c.term.new.s c.term.new.names c.term.new.item c.in_ok-w.w c.in_ok-w.e b.0 b.1 b.2 c.store_cell.new.s
    (c.store_cell.ensures ∙ ap (λ v. cell_stored a.base l.d.compounds c.in_ok-w.w v c.term.new.s) c.compound_word.ensures) c.in_ok-sign.at (rw c.in-44.is at c.in_ok-sign.ensures.1)

pub elements-last_tail-requires : goal.elements-last_tail-requires
elements-last_tail-requires t c =
    let p = c.requires.stands in
    let r = c.loop-d.invariant p.0 p.1 p.2 32 (omega arith) in
    let b = c.in_ok-w.ensures r.known₁ r.vars₁ (stands_counted r.stands c.loop-d-test.true) in
    let known₂ = names_over b.1 r.known₁ in
    let vars₂ = variables_over c.args.src.from b.1 r.vars₁ in
    (omega arith, ((omega arith, omega arith, omega arith), (known₂, vars₂, stands_moved {known = known₂} {vars = vars₂} c.in_ok-sign.at b.2.stands c.in_ok-sign.ensures.1.inside)))

pub elements-returns-in_err-tail-in-124 : goal.elements-returns-in_err-tail-in-124
elements-returns-in_err-tail-in-124 t c = λ known vars stands left_over enough.
    let a = c.args in
    let l = c.loop-d in
    let r = l.invariant known vars stands left_over enough in
    let few = c.loop-d-test.true in
    let b = c.in_ok-w.ensures r.known₁ r.vars₁ (stands_counted r.stands few) in
    let known₂ = names_over b.1 r.known₁ in
    let vars₂ = variables_over a.src.from b.1 r.vars₁ in
    let at = rw c.in-124.is at c.in_ok-sign.ensures.1 in
    let o = c.last_tail in
    let e = err_from_is_err_and c.from_residual-in_err-tail-in-124.result c.from_residual-in_err-tail-in-124.ensures.1 in
    rw (e.1, e.2) (linked_last_unread a.left left_over a.src.text.now a.src.rest.now a.src.from a.base known vars a.c a.s.now a.item.now l.d l.s l.names l.item r few c.term.new.s c.term.new.names c.term.new.item c.in_ok-w.w c.in_ok-w.e b.0 b.1 b.2 c.in_ok-sign.at at o.new.s o.new.names o.new.item c.in_err-tail-in-124.field-0.0
    (c.in_err-tail-in-124.ensures known₂ vars₂ (stands_moved {known = known₂} {vars = vars₂} c.in_ok-sign.at b.2.stands at.inside)))

pub elements-returns-in-124 : goal.elements-returns-in-124
elements-returns-in-124 t c = λ known vars stands left_over enough.
    let a = c.args in
    let l = c.loop-d in
    let r = l.invariant known vars stands left_over enough in
    let few = c.loop-d-test.true in
    let b = c.in_ok-w.ensures r.known₁ r.vars₁ (stands_counted r.stands few) in
    let known₂ = names_over b.1 r.known₁ in
    let vars₂ = variables_over a.src.from b.1 r.vars₁ in
    let at = rw c.in-124.is at c.in_ok-sign.ensures.1 in
    let o = c.last_tail in
    let f = c.in_ok-tail-in-124 in
    linked_last a.left left_over a.src.text.now a.src.rest.now a.src.from a.base known vars a.c a.s.now a.item.now l.d l.s l.names l.item r few c.term.new.s c.term.new.names c.term.new.item c.in_ok-w.w c.in_ok-w.e b.0 b.1 b.2 c.in_ok-sign.at at o.new.s o.new.names o.new.item c.store_cell-in-124.new.s f.tail c.compound_word-in-124.result f.f
    (f.ensures known₂ vars₂ (stands_moved {known = known₂} {vars = vars₂} c.in_ok-sign.at b.2.stands at.inside)) c.store_cell-in-124.ensures c.compound_word-in-124.ensures

pub elements-returns-in_default : goal.elements-returns-in_default
elements-returns-in_default t c = λ known vars stands left_over enough.
    let a = c.args in
    let l = c.loop-d in
    let r = l.invariant known vars stands left_over enough in
    let few = c.loop-d-test.true in
    let b = c.in_ok-w.ensures r.known₁ r.vars₁ (stands_counted r.stands few) in
    let own = c.in_default in
    let bracket = last_of_three c.in_ok-sign.sign 44 124 93 c.in_ok-sign.ensures.0 (search rules) (search rules) in
    linked_closed a.left left_over a.src.text.now a.src.rest.now a.src.from a.base known vars a.c a.s.now a.item.now l.d l.s l.names l.item r few c.term.new.s c.term.new.names c.term.new.item c.in_ok-w.w c.in_ok-w.e b.0 b.1 b.2 c.in_ok-sign.at (rw bracket at c.in_ok-sign.ensures.1) c.store_cell-in_default.new.s c.compound_word-in_default.result c.store_cell-in_default.ensures c.compound_word-in_default.ensures

pub elements-starts-requires : goal.elements-starts-requires
elements-starts-requires t c =
    let p = c.requires.stands in
    (c.loop-d.invariant p.0 p.1 p.2 32 (omega arith)).stands.inside

pub elements-returns-in_err-starts : goal.elements-returns-in_err-starts
elements-returns-in_err-starts t c = λ known vars stands left_over enough.
    let a = c.args in
    let l = c.loop-d in
    let r = l.invariant known vars stands left_over enough in
    let e = err_from_is_err_and c.from_residual-in_err-starts.result c.from_residual-in_err-starts.ensures.1 in
    rw (e.1, e.2) (linked_cannot a.left left_over a.src.text.now a.src.rest.now a.src.from a.base known vars a.c a.s.now a.item.now l.d l.s l.names l.item r c.in_err-starts.field-0.0 c.in_err-starts.ensures)

pub elements-returns : goal.elements-returns
elements-returns t c = λ known vars stands left_over enough.
    let a = c.args in
    let l = c.loop-d in
    let r = l.invariant known vars stands left_over enough in
    linked_many a.left left_over a.src.text.now a.src.rest.now a.src.from a.base known vars a.c a.s.now a.item.now l.d l.s l.names l.item r c.in_ok-starts.ensures (omega (arith, c.loop-d-test.false))

pub last_tail-returns-in_err-w : goal.last_tail-returns-in_err-w
last_tail-returns-in_err-w t c = λ known vars stands.
    let a = c.args in
    let o = c.term in
    let e = err_from_is_err_and c.from_residual.result c.from_residual.ensures.1 in
    rw (e.1, e.2) (last_unread a.src.text.now a.src.rest.now a.src.from a.base known vars a.c a.s.now a.item.now o.new.s o.new.names o.new.item (term_reader a.left) c.in_err-w.field-0.0 (c.in_err-w.ensures known vars stands))

pub last_tail-returns-in_err-at : goal.last_tail-returns-in_err-at
last_tail-returns-in_err-at t c = λ known vars stands.
    let a = c.args in
    let o = c.term in
    let b = c.in_ok-w.ensures known vars stands in
    let e = err_from_is_err_and c.from_residual-in_err-at.result c.from_residual-in_err-at.ensures.1 in
    rw (e.1, e.2) (last_other a.src.text.now a.src.rest.now a.src.from a.base known vars a.c a.s.now a.item.now o.new.s o.new.names o.new.item (term_reader a.left) c.in_ok-w.w c.in_ok-w.e b.0 b.1 b.2 c.in_err-at.field-0.0 c.in_err-at.ensures)

pub last_tail-returns : goal.last_tail-returns
last_tail-returns t c = λ known vars stands.
    let a = c.args in
    let o = c.term in
    let b = c.in_ok-w.ensures known vars stands in
    last_got a.src.text.now a.src.rest.now a.src.from a.base known vars a.c a.s.now a.item.now o.new.s o.new.names o.new.item (term_reader a.left) c.in_ok-w.w c.in_ok-w.e b.0 b.1 b.2 c.in_ok-at.at c.in_ok-at.ensures

pub term-returns-in-Got : goal.term-returns-in-Got
term-returns-in-Got t c = λ known vars stands.
    let b = rw c.in-Got.is at (c.in_ok-w.ensures known vars stands) in
    (b.0, b.1, b.2 c.args.base c.args.s.now)

pub term-returns-in-Round : goal.term-returns-in-Round
term-returns-in-Round t c = λ known vars stands.
    let a = c.args in
    let b = rw c.in-Round.is at (c.in_ok-w.ensures known vars stands) in
    let known₁ = names_over b.1 known in
    let vars₁ = variables_over a.src.from b.1 vars in
    let o = c.compound in
    opened_read a.src.text.now a.src.rest.now a.src.from a.base a.s.now o.new.s o.new.names o.new.item (term_reader a.left) (round_of (term_reader (a.left - 1)) b.0) known vars a.c c.in-Round.d a.item.now c.begin.new.names c.begin.new.item b.1 o.result b.4
    (round_read a.src.text.now a.src.rest.now a.src.from a.base a.s.now o.new.s o.new.names o.new.item (term_reader (a.left - 1)) b.0 known₁ vars₁ c.in-Round.d c.begin.new.item o.result (o.ensures known₁ vars₁ b.4.stands b.0 b.3))

pub term-returns-in-Square : goal.term-returns-in-Square
term-returns-in-Square t c = λ known vars stands.
    let a = c.args in
    let b = rw c.in-Square.is at (c.in_ok-w.ensures known vars stands) in
    let o = c.elements in
    opened_read a.src.text.now a.src.rest.now a.src.from a.base a.s.now o.new.s o.new.names o.new.item (term_reader a.left) (elements_reader (term_reader (a.left - 1)) 32) known vars a.c c.in-Square.d a.item.now c.begin.new.names c.begin.new.item b.0 o.result b.2
    (o.ensures (names_over b.0 known) (variables_over a.src.from b.0 vars) b.2.stands 32 (omega arith))
