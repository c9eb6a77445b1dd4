-- Elements one behind the other: stored, counted, numbered, and as they were where more names are known; and their words.
use Prim.Native.Nat.{ℕ, zero, suc, ◌+◌, ◌≤◌, ◌<◌}
use mathlib.Core.Path.{◌≡◌, refl, ap}
use mathlib.Core.List.{List, [], ◌∷◌, ◌++◌, map}
use native.Mathlib.Omega.{arith}
use lib.ListN.{length, get_or, set}
use Rattle.meaning.specs.Bytes.{Bytes}
use Rattle.meaning.specs.Terms.{Half, as_term}
use Rattle.meaning.specs.Table.{Element, whole, bare, equals}
use Rattle.term.specs.Cells.{Places as CellPlaces, term_word, stored}
use Rattle.term.specs.Frames.{Only}
use Rattle.term.specs.Layout.{item_start, item_end, item_place}
use Rattle.term.specs.Words.{name_word}
use Rattle.term.proofs.Cells.{numbered_order}
use Rattle.term.proofs.Frames.{only_same, only_set, only_then}
use Rattle.term.proofs.Names.{with_more, known_name_more, known_more, number_of_more, term_word_more, stored_more}
use Rattle.load_names.specs.Places.{Place, spellings, item_places}
use Rattle.load_openings.proofs.Passing.{More}
use Rattle.load_openings.proofs.Moves.{stored_in_item}
use Rattle.load_elements.specs.Elements.{
  element_word,
  element_stored,
  elements_stored,
  element_occurrences,
  elements_occurrences,
  ElementNumbered,
  ElementsNumbered,
  ElementKnown,
  ElementsKnown,
}

-- One element more.
pub stored_snoc : (p : CellPlaces) (es : List Element) (e : Element) (s : List ℕ)
    → elements_stored p (es ++ (e ∷ [])) s ≡ element_stored p e (elements_stored p es s)
unfolding elements_stored
stored_snoc p [] e s = refl
stored_snoc p (d ∷ es) e s = stored_snoc p es e (element_stored p d s)

pub occurrences_snoc : (h : Half) (n : ℕ) (es : List Element) (e : Element)
    → elements_occurrences h n (es ++ (e ∷ [])) ≡ elements_occurrences h n es + element_occurrences h n e
unfolding elements_occurrences
occurrences_snoc h n [] e = omega arith
occurrences_snoc h n (d ∷ es) e = omega (arith, occurrences_snoc h n es e)

pub known_snoc : (names : List Bytes) (es : List Element) (e : Element) → ElementsKnown names es → ElementKnown names e → ElementsKnown names (es ++ (e ∷ []))
unfolding ElementsKnown
known_snoc names [] e ks k = (k, tt)
known_snoc names (d ∷ es) e ks k = (ks.0, known_snoc names es e ks.1 k)

pub numbered_snoc : (lo mid hi : ℕ) (es : List Element) (e : Element) → ElementsNumbered lo mid es → ElementNumbered mid hi e
    → ElementsNumbered lo hi (es ++ (e ∷ []))
unfolding ElementsNumbered
numbered_snoc lo mid hi [] e n k = (hi, rw n k, refl)
numbered_snoc lo mid hi (d ∷ es) e n k = (n.0, n.1, numbered_snoc n.0 mid hi es e n.2 k)

-- Where more names are known.
known_later : (names later : List Bytes) (e : Element) → ElementKnown names e → ElementKnown (names ++ later) e
unfolding ElementKnown
known_later names later (whole g) k = known_more (as_term g) names later k
known_later names later (bare f) k = known_name_more f names later k
known_later names later (equals n t u) k = (known_more t names later k.0, known_more u names later k.1)

all_known_later : (names later : List Bytes) (es : List Element) → ElementsKnown names es → ElementsKnown (names ++ later) es
unfolding ElementsKnown
all_known_later names later [] k = tt
all_known_later names later (e ∷ es) k = (known_later names later e k.0, all_known_later names later es k.1)

module _ (p : CellPlaces) (later : List Bytes) where
  word_later : (e : Element) → ElementKnown p.names e → element_word (with_more p later) e ≡ element_word p e
  unfolding element_word ElementKnown
  word_later (whole g) k = term_word_more p later (as_term g) k
  word_later (bare f) k = ap name_word (number_of_more f p.names later k)
  word_later (equals n t u) k = refl

  stored_later : (e : Element) (s : List ℕ) → ElementKnown p.names e → element_stored (with_more p later) e s ≡ element_stored p e s
  unfolding element_stored ElementKnown
  stored_later (whole g) s k = stored_more p later (as_term g) s k
  stored_later (bare f) s k = refl
  stored_later (equals n t u) s k =
      rw (
        stored_more p later t s k.0,
        stored_more p later u (stored p t s) k.1,
        term_word_more p later t k.0,
        term_word_more p later u k.1,
      )

  all_stored_later : (es : List Element) (s : List ℕ) → ElementsKnown p.names es → elements_stored (with_more p later) es s ≡ elements_stored p es s
  unfolding elements_stored ElementsKnown
  all_stored_later [] s k = refl
  all_stored_later (e ∷ es) s k = rw (stored_later e s k.0) (all_stored_later es (element_stored p e s) k.1)

  all_words_later : (es : List Element) → ElementsKnown p.names es → map (element_word (with_more p later)) es ≡ map (element_word p) es
  unfolding ElementsKnown
  all_words_later [] k = refl
  all_words_later (e ∷ es) k = rw (word_later e k.0, all_words_later es k.1)

module _ (known known' : List Place) (base : ℕ) (m : More known known') where
  places_more : item_places known' base ≡ with_more (item_places known base) m.0
  unfolding item_places
  places_more = rw m.1

  pub still_known : (es : List Element) → ElementsKnown (spellings known) es → ElementsKnown (spellings known') es
  still_known es k = rw m.1 (all_known_later (spellings known) m.0 es k)

  pub still_stored : (es : List Element) (s : List ℕ) → ElementsKnown (spellings known) es
      → elements_stored (item_places known' base) es s ≡ elements_stored (item_places known base) es s
  unfolding item_places
  still_stored es s k = rw places_more (all_stored_later (item_places known base) m.0 es s k)

  pub still_words : (es : List Element) → ElementsKnown (spellings known) es
      → map (element_word (item_places known' base)) es ≡ map (element_word (item_places known base)) es
  unfolding item_places
  still_words es k = rw places_more (all_words_later (item_places known base) m.0 es k)

-- Whatever an element changes lies in its item's compounds.
pub element_order : (lo hi : ℕ) (e : Element) → ElementNumbered lo hi e → lo ≤ hi
unfolding ElementNumbered
element_order lo hi (whole g) n = numbered_order lo hi (as_term g) n
element_order lo hi (bare f) n = omega arith
element_order lo hi (equals m t u) n = omega (arith, numbered_order lo m t n.0, numbered_order (m + 1) hi u n.1)

pub element_only : (known : List Place) (base lo hi : ℕ) (e : Element) (s : List ℕ) → ElementNumbered lo hi e → hi ≤ 32
    → Only (item_start base) (item_end base) s (element_stored (item_places known base) e s)
unfolding ElementNumbered element_stored item_places
element_only known base lo hi (whole g) s n h = stored_in_item known base lo hi (as_term g) s n h
element_only known base lo hi (bare f) s n h = only_same (item_start base) (item_end base) s
element_only known base lo hi (equals m t u) s n h =
    let p = item_places known base in
    let order : m + 1 ≤ hi = numbered_order (m + 1) hi u n.1 in
    let s₁ = stored p t s in
    let s₂ = stored p u s₁ in
    let s₃ = set s₂ (item_place base m + 1) (term_word p t) in
    only_then (item_start base) (item_end base) s s₁ _ (stored_in_item known base lo m t s n.0 (omega arith))
    (only_then (item_start base) (item_end base) s₁ s₂ _ (stored_in_item known base (m + 1) hi u s₁ n.1 h)
    (only_then (item_start base) (item_end base) s₂ s₃ _
    (only_set (item_start base) (item_end base) s₂ (item_place base m + 1) (term_word p t) (omega arith) (omega arith))
    (only_set (item_start base) (item_end base) s₃ (item_place base m + 2) (term_word p u) (omega arith) (omega arith))))

-- The words, one more.
pub words_snoc : (f : Element → ℕ) (es : List Element) (e : Element) (ws : List ℕ) (v : ℕ) → v ≡ f e → length es < length ws
    → ((i : ℕ) → i < length es → get_or ws i 0 ≡ get_or (map f es) i 0)
    → (i : ℕ) → i < length es + 1 → get_or (set ws (length es) v) i 0 ≡ get_or (map f (es ++ (e ∷ []))) i 0
words_snoc f [] e [] v is room h i l = absurd (omega arith)
words_snoc f [] e (w ∷ ws) v is room h zero l = is
words_snoc f [] e (w ∷ ws) v is room h (suc i) l = absurd (omega arith)
words_snoc f (d ∷ es) e [] v is room h i l = absurd (omega arith)
words_snoc f (d ∷ es) e (w ∷ ws) v is room h zero l = h zero (omega arith)
words_snoc f (d ∷ es) e (w ∷ ws) v is room h (suc i) l =
    words_snoc f es e ws v is (omega arith) (λ j k. h (suc j) (omega arith)) i (omega arith)
