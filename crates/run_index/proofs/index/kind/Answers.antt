-- By the word's tag.
use Rattle.std.proofs.Common.{◌≡◌, ◌+◌, get_or, sym, ap, ◌∙◌}
use native.Mathlib.Omega.{arith}
use Rattle.term.specs.Words.{packed, rest_in}
use Rattle.run_index.proofs.TermKinds.{kind_compound, kind_writer, kind_reader, kind_own}
use Rattle.run_index.proofs.index.kind.Goals as goal

pub returns-in-6 : goal.returns-in-6
returns-in-6 c =
    let s = c.args.s.now in
    let w = c.args.w in
    let place : c.index.result + 0 ≡ rest_in w = omega (arith, c.index.ensures) in
    ap (packed 6) (c.word_at.ensures ∙ ap (λ i. get_or s i 0) place) ∙ sym (kind_compound s w c.in-6.is)

pub returns-in-1 : goal.returns-in-1
returns-in-1 c = sym (kind_writer c.args.s.now c.args.w c.in-1.is)

pub returns-in-2 : goal.returns-in-2
returns-in-2 c = sym (kind_reader c.args.s.now c.args.w c.in-2.is)

pub returns-in_default : goal.returns-in_default
returns-in_default c = sym (kind_own c.args.s.now c.args.w (λ e. omega arith) (λ e. omega arith) (λ e. omega arith))
