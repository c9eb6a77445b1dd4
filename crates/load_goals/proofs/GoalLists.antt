-- Goals kept one behind the other, counted one behind the other, and as they were where more names are known.
use Prim.Native.Nat.{ℕ, suc, ◌+◌}
use mathlib.Core.Path.{◌≡◌, refl, ap, ◌∙◌}
use mathlib.Core.List.{List, [], ◌∷◌, ◌++◌}
use native.Mathlib.Omega.{arith}
use lib.ListN.{length, set, length-append}
use Rattle.meaning.specs.Bytes.{Bytes}
use Rattle.meaning.specs.Terms.{Half, Named, as_term, occurrences, goals_occurrences}
use Rattle.term.specs.Cells.{Places as CellPlaces, term_word, stored, Known}
use Rattle.term.proofs.Names.{with_more, known_more, term_word_more, stored_more}
use Rattle.term.specs.Jobs.{GoalsKnown}
use Rattle.load_names.specs.Places.{Place, spellings, item_places}
use Rattle.load_image.specs.Image.{goals_stored}
use Rattle.load_openings.proofs.Passing.{More}

-- One goal more.
set_place : (l : List ℕ) (v i j : ℕ) → i ≡ j → set l i v ≡ set l j v
set_place l v i j e = ap (λ k. set l k v) e

pub goals_snoc : (p : CellPlaces) (place : ℕ) (gs : List Named) (g : Named) (s : List ℕ)
    → goals_stored p place (gs ++ (g ∷ [])) s
    ≡ set (stored p (as_term g) (goals_stored p place gs s)) (place + length gs) (term_word p (as_term g))
unfolding goals_stored
goals_snoc p place [] g s = set_place (stored p (as_term g) s) (term_word p (as_term g)) place (place + 0) (omega arith)
goals_snoc p place (h ∷ gs) g s =
    let s₁ = set (stored p (as_term h) s) place (term_word p (as_term h)) in
    goals_snoc p (place + 1) gs g s₁
    ∙ set_place (stored p (as_term g) (goals_stored p (place + 1) gs s₁)) (term_word p (as_term g)) (place + 1 + length gs) (place + suc (length gs)) (omega arith)

pub occurrences_snoc : (h : Half) (n : ℕ) (gs : List Named) (g : Named)
    → goals_occurrences h n (gs ++ (g ∷ [])) ≡ goals_occurrences h n gs + occurrences h n (as_term g)
unfolding goals_occurrences occurrences as_term
occurrences_snoc h n [] g = omega arith
occurrences_snoc h n (f ∷ gs) g = omega (arith, occurrences_snoc h n gs g)

pub known_snoc : (names : List Bytes) (gs : List Named) (g : Named) → GoalsKnown names gs → Known names (as_term g) → GoalsKnown names (gs ++ (g ∷ []))
unfolding GoalsKnown
known_snoc names [] g ks k = (k, tt)
known_snoc names (h ∷ gs) g ks k = (ks.0, known_snoc names gs g ks.1 k)

pub length_snoc : (gs : List Named) (g : Named) → length (gs ++ (g ∷ [])) ≡ length gs + 1
length_snoc gs g = length-append gs (g ∷ [])

-- Where more names are known.
pub places_more : (known known' : List Place) (base : ℕ) (m : More known known') → item_places known' base ≡ with_more (item_places known base) m.0
unfolding item_places
places_more known known' base m = rw m.1

pub goals_known_more : (names later : List Bytes) (gs : List Named) → GoalsKnown names gs → GoalsKnown (names ++ later) gs
unfolding GoalsKnown
goals_known_more names later [] k = tt
goals_known_more names later (g ∷ gs) k = (known_more (as_term g) names later k.0, goals_known_more names later gs k.1)

goals_with_more : (p : CellPlaces) (later : List Bytes) (place : ℕ) (gs : List Named) (s : List ℕ) → GoalsKnown p.names gs
    → goals_stored (with_more p later) place gs s ≡ goals_stored p place gs s
unfolding goals_stored GoalsKnown
goals_with_more p later place [] s k = refl
goals_with_more p later place (g ∷ gs) s k =
    rw (stored_more p later (as_term g) s k.0, term_word_more p later (as_term g) k.0)
    (goals_with_more p later (place + 1) gs (set (stored p (as_term g) s) place (term_word p (as_term g))) k.1)

module _ (known known' : List Place) (base : ℕ) (m : More known known') where
  pub still_known : (gs : List Named) → GoalsKnown (spellings known) gs → GoalsKnown (spellings known') gs
  still_known gs k = rw m.1 (goals_known_more (spellings known) m.0 gs k)

  pub still_goals : (place : ℕ) (gs : List Named) (s : List ℕ) → GoalsKnown (spellings known) gs
      → goals_stored (item_places known' base) place gs s ≡ goals_stored (item_places known base) place gs s
  unfolding item_places
  still_goals place gs s k = rw (places_more known known' base m) (goals_with_more (item_places known base) m.0 place gs s k)

  pub still_stored : (g : Named) (s : List ℕ) → Known (spellings known) (as_term g)
      → stored (item_places known' base) (as_term g) s ≡ stored (item_places known base) (as_term g) s
  unfolding item_places
  still_stored g s k = rw (places_more known known' base m) (stored_more (item_places known base) m.0 (as_term g) s k)

  pub still_named : (g : Named) → Known (spellings known) (as_term g) → Known (spellings known') (as_term g)
  still_named g k = rw m.1 (known_more (as_term g) (spellings known) m.0 k)
