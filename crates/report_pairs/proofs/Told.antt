-- A word looked at: what is seen is what the term is.
use Prim.Native.Nat.{ℕ}
use mathlib.Core.Path.{◌≡◌, refl, ◌∙◌}
use mathlib.Core.Option.{none}
use native.Mathlib.Omega.{arith}
use Rattle.meaning.specs.Bytes.{Bytes}
use Rattle.meaning.specs.Terms.{Half, writer, reader, Integer, Constant, Functor, Term, Terms}
use Rattle.meaning.specs.State.{Values}
use Rattle.term.specs.Words.{view, view_of, tag_in, rest_in}
use Rattle.term.specs.Cells.{Places, bits, number_of, content, term_word}
use Rattle.term.specs.Chains.{value_of}
use Rattle.term.specs.declared.word.View.{View}
use Rattle.term.specs.declared.word.View.TheVariants.{Nothing, Writer, Reader, Integer as AnInteger, Name, Empty, Compound}
use Rattle.term.proofs.Words.{view_word}
use Rattle.report_pairs.specs.Pairs.{pair_seen, NoCompound}
use Rattle.std.specs.Prelude.{Some, None}

-- What a look at a word says.
abbrev pub seen : ℕ → View
seen w = view (tag_in w) (rest_in w)

pub seen_term : (places : Places) (t : Term) (w : ℕ) → w ≡ term_word places t → seen w ≡ view_of (content places t)
seen_term places t w e = rw e (view_word (content places t))

abbrev pub tag : View → ℕ
tag Nothing = 0
tag (Writer p) = 1
tag (Reader p) = 2
tag (AnInteger n) = 3
tag (Name k) = 4
tag Empty = 5
tag (Compound q) = 6

-- Two views of different tags are apart.
tags : (v u : View) → v ≡ u → tag v ≡ tag u
tags v u e = rw e

module _ (places : Places) where
  pub writer_told : (t : Term) (p : ℕ) → view_of (content places t) ≡ Writer p → (n : ℕ) × (t ≡ Term.variable writer n) × (p ≡ places.pair n)
  writer_told (Term.variable writer n) p e = (n, refl, cc)
  writer_told (Term.variable reader n) p e = absurd (omega (arith, tags _ _ e))
  writer_told (Term.constant (Constant.integer i)) p e = absurd (omega (arith, tags _ _ e))
  writer_told (Term.constant (Constant.name f)) p e = absurd (omega (arith, tags _ _ e))
  writer_told (Term.constant Constant.empty) p e = absurd (omega (arith, tags _ _ e))
  writer_told (Term.compound n f ts) p e = absurd (omega (arith, tags _ _ e))

  pub reader_told : (t : Term) (p : ℕ) → view_of (content places t) ≡ Reader p → (n : ℕ) × (t ≡ Term.variable reader n) × (p ≡ places.pair n)
  reader_told (Term.variable reader n) p e = (n, refl, cc)
  reader_told (Term.variable writer n) p e = absurd (omega (arith, tags _ _ e))
  reader_told (Term.constant (Constant.integer i)) p e = absurd (omega (arith, tags _ _ e))
  reader_told (Term.constant (Constant.name f)) p e = absurd (omega (arith, tags _ _ e))
  reader_told (Term.constant Constant.empty) p e = absurd (omega (arith, tags _ _ e))
  reader_told (Term.compound n f ts) p e = absurd (omega (arith, tags _ _ e))

  pub integer_told : (t : Term) (b : ℕ) → view_of (content places t) ≡ AnInteger b
      → (i : Integer) × (t ≡ Term.constant (Constant.integer i)) × (b ≡ bits i)
  integer_told (Term.constant (Constant.integer i)) b e = (i, refl, cc)
  integer_told (Term.variable writer n) p e = absurd (omega (arith, tags _ _ e))
  integer_told (Term.variable reader n) p e = absurd (omega (arith, tags _ _ e))
  integer_told (Term.constant (Constant.name f)) p e = absurd (omega (arith, tags _ _ e))
  integer_told (Term.constant Constant.empty) p e = absurd (omega (arith, tags _ _ e))
  integer_told (Term.compound n f ts) p e = absurd (omega (arith, tags _ _ e))

  pub name_told : (t : Term) (k : ℕ) → view_of (content places t) ≡ Name k
      → (f : Bytes) × (t ≡ Term.constant (Constant.name f)) × (k ≡ number_of f places.names)
  name_told (Term.constant (Constant.name f)) k e = (f, refl, cc)
  name_told (Term.variable writer n) p e = absurd (omega (arith, tags _ _ e))
  name_told (Term.variable reader n) p e = absurd (omega (arith, tags _ _ e))
  name_told (Term.constant (Constant.integer i)) p e = absurd (omega (arith, tags _ _ e))
  name_told (Term.constant Constant.empty) p e = absurd (omega (arith, tags _ _ e))
  name_told (Term.compound n f ts) p e = absurd (omega (arith, tags _ _ e))

  pub empty_told : (t : Term) → view_of (content places t) ≡ Empty → t ≡ Term.constant Constant.empty
  empty_told (Term.constant Constant.empty) e = refl
  empty_told (Term.variable writer n) e = absurd (omega (arith, tags _ _ e))
  empty_told (Term.variable reader n) e = absurd (omega (arith, tags _ _ e))
  empty_told (Term.constant (Constant.integer i)) e = absurd (omega (arith, tags _ _ e))
  empty_told (Term.constant (Constant.name f)) e = absurd (omega (arith, tags _ _ e))
  empty_told (Term.compound n f ts) e = absurd (omega (arith, tags _ _ e))

  pub compound_told : (t : Term) (q : ℕ) → view_of (content places t) ≡ Compound q
      → (n : ℕ) × (f : Functor) × (ts : Terms) × (t ≡ Term.compound n f ts) × (q ≡ places.compound n)
  compound_told (Term.compound n f ts) q e = (n, f, ts, refl, cc)
  compound_told (Term.variable writer n) p e = absurd (omega (arith, tags _ _ e))
  compound_told (Term.variable reader n) p e = absurd (omega (arith, tags _ _ e))
  compound_told (Term.constant (Constant.integer i)) p e = absurd (omega (arith, tags _ _ e))
  compound_told (Term.constant (Constant.name f)) p e = absurd (omega (arith, tags _ _ e))
  compound_told (Term.constant Constant.empty) p e = absurd (omega (arith, tags _ _ e))

  pub nothing_told : (t : Term) → view_of (content places t) ≡ Nothing → ⊥
  nothing_told (Term.variable writer n) e = absurd (omega (arith, tags _ _ e))
  nothing_told (Term.variable reader n) e = absurd (omega (arith, tags _ _ e))
  nothing_told (Term.constant (Constant.integer i)) e = absurd (omega (arith, tags _ _ e))
  nothing_told (Term.constant (Constant.name f)) e = absurd (omega (arith, tags _ _ e))
  nothing_told (Term.constant Constant.empty) e = absurd (omega (arith, tags _ _ e))
  nothing_told (Term.compound n f ts) e = absurd (omega (arith, tags _ _ e))

  -- The pair of a variable, or none.
  pub pair_told : (t : Term) (w p : ℕ) → w ≡ term_word places t → Some p ≡ pair_seen (seen w)
      → (h : Half) × (n : ℕ) × (t ≡ Term.variable h n) × (p ≡ places.pair n)
  pair_told t w p e k = go t (k ∙ ap_seen)
    where
      ap_seen : pair_seen (seen w) ≡ pair_seen (view_of (content places t))
      ap_seen = rw (seen_term places t w e)

      go : (t : Term) → Some p ≡ pair_seen (view_of (content places t)) → (h : Half) × (n : ℕ) × (t ≡ Term.variable h n) × (p ≡ places.pair n)
      go (Term.variable writer n) k = (writer, n, refl, cc)
      go (Term.variable reader n) k = (reader, n, refl, cc)
      go (Term.constant (Constant.integer i)) k = absurd cc
      go (Term.constant (Constant.name f)) k = absurd cc
      go (Term.constant Constant.empty) k = absurd cc
      go (Term.compound n f ts) k = absurd cc

  pub no_pair_told : (t : Term) (w : ℕ) → w ≡ term_word places t → None ≡ pair_seen (seen w) → (h : Half) (n : ℕ) → t ≡ Term.variable h n → ⊥
  no_pair_told t w e k h n v = go h (k ∙ ap_seen)
    where
      ap_seen : pair_seen (seen w) ≡ pair_seen (view_of (content places (Term.variable h n)))
      ap_seen = rw (seen_term places t w e, v)

      go : (h : Half) → None ≡ pair_seen (view_of (content places (Term.variable h n))) → ⊥
      go writer z = cc
      go reader z = cc

pub no_variable_value : (values : Values) (t : Term) → ((h : Half) (n : ℕ) → t ≡ Term.variable h n → ⊥) → value_of values t ≡ none
no_variable_value values (Term.variable h n) d = absurd (d h n refl)
no_variable_value values (Term.constant k) d = refl
no_variable_value values (Term.compound n f ts) d = refl

-- None of the others, neither nothing nor a compound: that is no view.
pub other_leaf : (v : View) → ((p : ℕ) → v ≡ Writer p → ⊥) → ((p : ℕ) → v ≡ Reader p → ⊥) → ((n : ℕ) → v ≡ AnInteger n → ⊥)
    → ((k : ℕ) → v ≡ Name k → ⊥) → (v ≡ Empty → ⊥) → (v ≡ Nothing → ⊥) → NoCompound v → ⊥
other_leaf Nothing w r i k e n d = n refl
other_leaf (Writer p) w r i k e n d = w p refl
other_leaf (Reader p) w r i k e n d = r p refl
other_leaf (AnInteger m) w r i k e n d = i m refl
other_leaf (Name m) w r i k e n d = k m refl
other_leaf Empty w r i k e n d = e refl
other_leaf (Compound q) w r i k e n d = d q refl
