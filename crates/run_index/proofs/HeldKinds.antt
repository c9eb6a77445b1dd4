-- The kind of a term that the scratch holds: its word has it.
use Prim.Native.Nat.{ℕ}
use mathlib.Core.Path.{◌≡◌, ap, ◌∙◌}
use mathlib.Core.List.{List}
use native.Mathlib.Omega.{arith}
use lib.ListN.{get_or}
use Rattle.meaning.specs.Terms.{writer, reader, Constant, Term, count}
use Rattle.term.specs.Words.{packed, rest_in}
use Rattle.term.specs.Cells.{Places, term_word, functor_word}
use Rattle.term.specs.Holds.{Holds}
use Rattle.run_index.specs.Index.{kind_of}
use Rattle.run_index.proofs.TermKinds.{kind_compound, kind_writer, kind_reader, kind_own}

-- By its places.
abbrev pub term_kind : Places → Term → ℕ
term_kind places (Term.variable writer n) = 0
term_kind places (Term.variable reader n) = 2
term_kind places (Term.constant k) = term_word places (Term.constant k)
term_kind places (Term.compound n f ts) = packed 6 (functor_word places f (count ts))

pub kind_word : (s : List ℕ) (places : Places) (t : Term) → Holds s places t → kind_of s (term_word places t) ≡ term_kind places t
unfolding Holds
kind_word s places (Term.variable writer n) h = kind_writer s (term_word places (Term.variable writer n)) (omega arith)
kind_word s places (Term.variable reader n) h = kind_reader s (term_word places (Term.variable reader n)) (omega arith)
kind_word s places (Term.constant (Constant.integer i)) h =
    kind_own s (term_word places (Term.constant (Constant.integer i))) (λ e. omega arith) (λ e. omega arith) (λ e. omega arith)
kind_word s places (Term.constant (Constant.name f)) h =
    kind_own s (term_word places (Term.constant (Constant.name f))) (λ e. omega arith) (λ e. omega arith) (λ e. omega arith)
kind_word s places (Term.constant Constant.empty) h = kind_own s 5 (λ e. omega arith) (λ e. omega arith) (λ e. omega arith)
kind_word s places (Term.compound n f ts) h =
    let at : rest_in (term_word places (Term.compound n f ts)) ≡ places.compound n = omega arith in
    kind_compound s (term_word places (Term.compound n f ts)) (omega arith)
    ∙ ap (λ p. packed 6 (get_or s p 0)) at ∙ ap (packed 6) h.0.functor
