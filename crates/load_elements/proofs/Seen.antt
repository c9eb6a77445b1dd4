-- Whether a term stands alone, as the code sees it: by its word's tag, and for a compound by its own word.
use Prim.Native.Nat.{ℕ, ◌+◌, ◌*◌, ◌<◌}
use mathlib.Core.Path.{◌≡◌, refl, ap, sym, ◌∙◌}
use mathlib.Core.Bool.{Bool, true, false}
use mathlib.Core.List.{List}
use mathlib.Core.Logic.{◌⊎◌, inl, inr}
use native.Mathlib.Omega.{arith}
use lib.Dec.{leb}
use lib.ListN.{length, get_or}
use borrow.Author.Tests.{le-leb, lt-leb}
use Rattle.meaning.specs.Terms.{writer, reader, Constant, cell, named, Term, count}
use Rattle.term.specs.Cells.{Places as CellPlaces, content, number_of}
use Rattle.term.specs.Words.{view, view_of, tag_in, rest_in}
use Rattle.term.specs.declared.word.View.{View}
use Rattle.term.specs.declared.word.View.TheVariants.{Nothing, Writer, Reader, Integer, Name, Empty, Compound}
use Rattle.term.proofs.Words.{view_word}
use Rattle.load_names.specs.Places.{Place, item_places}
use Rattle.load_elements.specs.Sides.{alone, Own, Stored}

-- What the code answers by what it sees.
abbrev by_view : List ℕ → View → Bool
by_view s Nothing = false
by_view s (Writer n) = false
by_view s (Reader n) = false
by_view s (Integer n) = false
by_view s (Name n) = true
by_view s Empty = false
by_view s (Compound place) = leb 8 (get_or s place 0)

alone_by : (s : List ℕ) (places : CellPlaces) (t : Term) → Own s places t → by_view s (view_of (content places t)) ≡ alone t
unfolding Own alone
alone_by s places (Term.variable writer n) o = refl
alone_by s places (Term.variable reader n) o = refl
alone_by s places (Term.constant (Constant.integer i)) o = refl
alone_by s places (Term.constant (Constant.name f)) o = refl
alone_by s places (Term.constant Constant.empty) o = refl
alone_by s places (Term.compound n cell ts) o = rw o.1 (lt-leb 8 (count ts + 8 * 0) (omega (arith, o.2)))
alone_by s places (Term.compound n (named f) ts) o = rw o.1 (le-leb 8 (count ts + 8 * (number_of f places.names + 1)) (omega arith))

module _ (s : List ℕ) (names : List Place) (base w : ℕ) (t : Term) (st : Stored s names base w t) where
  -- What is seen of its word.
  seen : view (tag_in w) (rest_in w) ≡ view_of (content (item_places names base) t)
  seen = rw st.word_is (view_word (content (item_places names base) t))

  pub seen_alone : (v : View) → v ≡ view (tag_in w) (rest_in w) → by_view s v ≡ alone t
  seen_alone v e = ap (by_view s) (e ∙ seen) ∙ alone_by s (item_places names base) t st.own

  -- Neither a name nor a compound.
  pub none_alone : (v : View)
      → (v ≡ Nothing) ⊎ (((n : ℕ) × (v ≡ Writer n)) ⊎ (((n : ℕ) × (v ≡ Reader n)) ⊎ (((i : ℕ) × (v ≡ Integer i)) ⊎ (v ≡ Empty))))
      → v ≡ view (tag_in w) (rest_in w) → false ≡ alone t
  none_alone v (inl e) k = seen_alone Nothing (sym e ∙ k)
  none_alone v (inr (inl (n, e))) k = seen_alone (Writer n) (sym e ∙ k)
  none_alone v (inr (inr (inl (n, e)))) k = seen_alone (Reader n) (sym e ∙ k)
  none_alone v (inr (inr (inr (inl (i, e))))) k = seen_alone (Integer i) (sym e ∙ k)
  none_alone v (inr (inr (inr (inr e)))) k = seen_alone Empty (sym e ∙ k)

  inside_by : (u : Term) (places : CellPlaces) (place : ℕ) → Own s places u → Compound place ≡ view_of (content places u) → place < length s
  unfolding Own
  inside_by (Term.variable writer n) places place o e = let z : ◌≡◌ {A = ℕ} 0 1 = cc in absurd (omega arith)
  inside_by (Term.variable reader n) places place o e = let z : ◌≡◌ {A = ℕ} 0 1 = cc in absurd (omega arith)
  inside_by (Term.constant (Constant.integer i)) places place o e = let z : ◌≡◌ {A = ℕ} 0 1 = cc in absurd (omega arith)
  inside_by (Term.constant (Constant.name f)) places place o e = let z : ◌≡◌ {A = ℕ} 0 1 = cc in absurd (omega arith)
  inside_by (Term.constant Constant.empty) places place o e = let z : ◌≡◌ {A = ℕ} 0 1 = cc in absurd (omega arith)
  inside_by (Term.compound n f ts) places place o e =
      let z : place ≡ places.compound n = cc in
      omega (arith, o.0)

  pub seen_inside : (v : View) (place : ℕ) → v ≡ view (tag_in w) (rest_in w) → v ≡ Compound place → place < length s
  seen_inside v place e k = inside_by t (item_places names base) place st.own (sym k ∙ e ∙ seen)
