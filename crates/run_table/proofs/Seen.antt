-- A word looked at: what is seen is what the term is. Each case of a view gives the term back.
use Prim.Native.Nat.{ℕ}
use mathlib.Core.Path.{◌≡◌, refl}
use native.Mathlib.Omega.{arith}
use Rattle.meaning.specs.Terms.{writer, reader, Constant, Term}
use Rattle.term.specs.Words.{view, view_of, tag_in, rest_in}
use Rattle.term.specs.Cells.{Places, content, term_word}
use Rattle.term.specs.declared.word.View.{View}
use Rattle.term.specs.declared.word.View.TheVariants.{Writer, Reader}
use Rattle.term.proofs.Words.{view_word}

-- What a look at a word says.
abbrev pub seen : ℕ → View
seen w = view (tag_in w) (rest_in w)

pub seen_term : (places : Places) (t : Term) (w : ℕ) → w ≡ term_word places t → seen w ≡ view_of (content places t)
seen_term places t w e = rw e (view_word (content places t))

module _ (places : Places) where
  pub seen_writer : (t : Term) (w p : ℕ) → w ≡ term_word places t → seen w ≡ Writer p
      → (n : ℕ) × (t ≡ Term.variable writer n) × (p ≡ places.pair n)
  seen_writer (Term.variable writer n) w p e k = let h = seen_term places (Term.variable writer n) w e in (n, refl, cc)
  seen_writer (Term.variable reader n) w p e k =
      let h = seen_term places (Term.variable reader n) w e in let z : ◌≡◌ {A = ℕ} 0 1 = cc in absurd (omega arith)
  seen_writer (Term.constant (Constant.integer i)) w p e k =
      let h = seen_term places (Term.constant (Constant.integer i)) w e in let z : ◌≡◌ {A = ℕ} 0 1 = cc in absurd (omega arith)
  seen_writer (Term.constant (Constant.name f)) w p e k =
      let h = seen_term places (Term.constant (Constant.name f)) w e in let z : ◌≡◌ {A = ℕ} 0 1 = cc in absurd (omega arith)
  seen_writer (Term.constant Constant.empty) w p e k =
      let h = seen_term places (Term.constant Constant.empty) w e in let z : ◌≡◌ {A = ℕ} 0 1 = cc in absurd (omega arith)
  seen_writer (Term.compound n f ts) w p e k =
      let h = seen_term places (Term.compound n f ts) w e in let z : ◌≡◌ {A = ℕ} 0 1 = cc in absurd (omega arith)

  pub seen_reader : (t : Term) (w p : ℕ) → w ≡ term_word places t → seen w ≡ Reader p
      → (n : ℕ) × (t ≡ Term.variable reader n) × (p ≡ places.pair n)
  seen_reader (Term.variable reader n) w p e k = let h = seen_term places (Term.variable reader n) w e in (n, refl, cc)
  seen_reader (Term.variable writer n) w p e k =
      let h = seen_term places (Term.variable writer n) w e in let z : ◌≡◌ {A = ℕ} 0 1 = cc in absurd (omega arith)
  seen_reader (Term.constant (Constant.integer i)) w p e k =
      let h = seen_term places (Term.constant (Constant.integer i)) w e in let z : ◌≡◌ {A = ℕ} 0 1 = cc in absurd (omega arith)
  seen_reader (Term.constant (Constant.name f)) w p e k =
      let h = seen_term places (Term.constant (Constant.name f)) w e in let z : ◌≡◌ {A = ℕ} 0 1 = cc in absurd (omega arith)
  seen_reader (Term.constant Constant.empty) w p e k =
      let h = seen_term places (Term.constant Constant.empty) w e in let z : ◌≡◌ {A = ℕ} 0 1 = cc in absurd (omega arith)
  seen_reader (Term.compound n f ts) w p e k =
      let h = seen_term places (Term.compound n f ts) w e in let z : ◌≡◌ {A = ℕ} 0 1 = cc in absurd (omega arith)
