-- The clauses of the key's bucket are passed until one has the key.
use Rattle.std.proofs.Common.{sym, ◌∙◌}
use native.Mathlib.Omega.{arith}
use Rattle.run_index.proofs.Chains.{seek_none, seek_inside, seek_found, seek_on, seek_less}
use Rattle.run_index.proofs.index.find.Goals as goal

pub overflow_mul-at : goal.overflow_mul-at
overflow_mul-at c =
    let (from, clauses, indexed) = c.requires.0 in
    let small = seek_inside _ _ from clauses indexed c.in-Some.k (rw c.in-Some.is at (c.loop-next.invariant from clauses indexed)) in
    omega arith

pub overflow_add-at : goal.overflow_add-at
overflow_add-at c =
    let (from, clauses, indexed) = c.requires.0 in
    let small = seek_inside _ _ from clauses indexed c.in-Some.k (rw c.in-Some.is at (c.loop-next.invariant from clauses indexed)) in
    omega arith

pub word_at-requires-in-Some : goal.word_at-requires-in-Some
word_at-requires-in-Some c =
    let (from, clauses, indexed) = c.requires.0 in
    let small = seek_inside _ _ from clauses indexed c.in-Some.k (rw c.in-Some.is at (c.loop-next.invariant from clauses indexed)) in
    omega (arith, c.requires.1)

pub word_at-requires-in-Some-2 : goal.word_at-requires-in-Some-2
word_at-requires-in-Some-2 c =
    let (from, clauses, indexed) = c.requires.0 in
    let small = seek_inside _ _ from clauses indexed c.in-Some.k (rw c.in-Some.is at (c.loop-next.invariant from clauses indexed)) in
    omega (arith, c.requires.1)

pub returns-then-word_at-key : goal.returns-then-word_at-key
returns-then-word_at-key c = λ from clauses indexed.
    seek_found _ _ from clauses indexed c.in-Some.k (rw c.in-Some.is at (c.loop-next.invariant from clauses indexed))
    (sym c.word_at-in-Some.ensures ∙ c.if-word_at-key.true)

pub loop-next-smaller : goal.loop-next-smaller
loop-next-smaller c =
    let (from, clauses, indexed) = c.requires.0 in
    rw c.in-Some.is
    (seek_less _ _ from clauses indexed c.in-Some.k (rw c.in-Some.is at (c.loop-next.invariant from clauses indexed)) c.linked-next-in-Some.result
    (c.linked-next-in-Some.ensures ∙ c.word_at-in-Some-2.ensures))

pub loop-next-preserved : goal.loop-next-preserved
loop-next-preserved c = λ from clauses indexed.
    rw (c.linked-next-in-Some.ensures ∙ c.word_at-in-Some-2.ensures)
    (seek_on _ _ from clauses indexed c.in-Some.k (rw c.in-Some.is at (c.loop-next.invariant from clauses indexed))
    (λ e. c.if-word_at-key.false (c.word_at-in-Some.ensures ∙ e)))

pub returns : goal.returns
returns c = λ from clauses indexed. seek_none _ _ from clauses indexed (rw c.in_default.is at (c.loop-next.invariant from clauses indexed))
