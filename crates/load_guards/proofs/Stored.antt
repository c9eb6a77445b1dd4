-- Elements that were stored are held: what reading leaves of them is what resolving asks for.
use Prim.Native.Nat.{ℕ, ◌+◌, ◌≤◌, ◌<◌}
use mathlib.Core.Path.{◌≡◌, ◌∙◌}
use mathlib.Core.List.{List, [], ◌∷◌}
use native.Mathlib.Omega.{arith}
use lib.ListN.{length, get_or, set, length-set}
use lib.Seq.{get_or-set_same, get_or-set_other}
use Rattle.meaning.specs.Terms.{as_term}
use Rattle.meaning.specs.Table.{Element, whole, bare, equals}
use Rattle.term.specs.Cells.{Places as CellPlaces, term_word, stored}
use Rattle.term.specs.Frames.{Only}
use Rattle.term.specs.Holds.{HoldsFrom}
use Rattle.term.specs.Layout.{item_place}
use Rattle.term.proofs.Cells.{numbered_order, stored_only}
use Rattle.term.proofs.Frames.{only_same, only_set, only_then, only_wider}
use Rattle.term.proofs.Holds.{holds_kept, stored_holds}
use Rattle.load_names.specs.Places.{Place, item_places}
use Rattle.load_elements.specs.Elements.{element_stored, elements_stored, ElementNumbered, ElementsNumbered}
use Rattle.load_guards.specs.Judged.{HoldsElement, HoldsElements}
use Rattle.load_guards.proofs.Held.{at_base, eight, element_order, elements_order, element_kept}

module _ (known : List Place) (base : ℕ) where
  abbrev places : CellPlaces
  places = item_places known base

  -- The two words behind the place of `==`.
  sides_only : (lo hi n : ℕ) (s : List ℕ) (v w : ℕ) → lo ≤ n → n + 1 ≤ hi
      → Only (item_place base lo) (item_place base hi) s (set (set s (places.compound n + 1) v) (places.compound n + 2) w)
  sides_only lo hi n s v w low high =
      let place = at_base known base n in
      only_then (item_place base lo) (item_place base hi) s (set s (places.compound n + 1) v) (set (set s (places.compound n + 1) v) (places.compound n + 2) w)
      (only_set (item_place base lo) (item_place base hi) s (places.compound n + 1) v (omega arith) (omega arith))
      (only_set (item_place base lo) (item_place base hi) (set s (places.compound n + 1) v) (places.compound n + 2) w (omega arith) (omega arith))

  element_stored_only : (lo hi : ℕ) (e : Element) (s : List ℕ) → ElementNumbered lo hi e
      → Only (item_place base lo) (item_place base hi) s (element_stored places e s)
  unfolding ElementNumbered element_stored
  element_stored_only lo hi (whole g) s k = stored_only places base (at_base known base) lo hi (as_term g) s k
  element_stored_only lo hi (bare f) s k = only_same (item_place base lo) (item_place base hi) s
  element_stored_only lo hi (equals n t u) s k =
      let low : lo ≤ n = numbered_order lo n t k.0 in
      let high : n + 1 ≤ hi = numbered_order (n + 1) hi u k.1 in
      let s₁ = stored places t s in
      let s₂ = stored places u s₁ in
      let a = item_place base lo in
      let b = item_place base hi in
      only_then a b s s₁ _ (only_wider (item_place base lo) (item_place base n) a b s s₁ (omega arith) (omega arith) (stored_only places base (at_base known base) lo n t s k.0))
      (only_then a b s₁ s₂ _ (only_wider (item_place base (n + 1)) (item_place base hi) a b s₁ s₂ (omega arith) (omega arith) (stored_only places base (at_base known base) (n + 1) hi u s₁ k.1))
      (sides_only lo hi n s₂ (term_word places t) (term_word places u) low high))

  element_stored_holds : (lo hi : ℕ) (e : Element) (s : List ℕ) → ElementNumbered lo hi e → item_place base hi ≤ length s
      → HoldsElement (element_stored places e s) places e
  unfolding ElementNumbered element_stored HoldsElement HoldsFrom
  element_stored_holds lo hi (whole g) s k room = stored_holds places base (at_base known base) (eight known base) lo hi (as_term g) s k room
  element_stored_holds lo hi (bare f) s k room = tt
  element_stored_holds lo hi (equals n t u) s k room =
      let low : lo ≤ n = numbered_order lo n t k.0 in
      let high : n + 1 ≤ hi = numbered_order (n + 1) hi u k.1 in
      let place = at_base known base n in
      let p = places.compound n in
      let v = term_word places t in
      let w = term_word places u in
      let s₁ = stored places t s in
      let s₂ = stored places u s₁ in
      let s₃ = set s₂ (p + 1) v in
      let s₄ = set s₃ (p + 2) w in
      let only₁ : Only (item_place base lo) (item_place base n) s s₁ = stored_only places base (at_base known base) lo n t s k.0 in
      let only₂ : Only (item_place base (n + 1)) (item_place base hi) s₁ s₂ = stored_only places base (at_base known base) (n + 1) hi u s₁ k.1 in
      let size₁ : length s₁ ≡ length s = only₁.size in
      let size₂ : length s₂ ≡ length s₁ = only₂.size in
      let size₃ : length s₃ ≡ length s₂ = length-set s₂ (p + 1) v in
      let size₄ : length s₄ ≡ length s₃ = length-set s₃ (p + 2) w in
      let first : p + 1 + 0 ≡ p + 1 = omega arith in
      let second : p + 1 + (0 + 1) ≡ p + 2 = omega arith in
      let behind : (j : ℕ) → (j < p + 1) → get_or s₄ j 0 ≡ get_or s₂ j 0 = λ j l.
      get_or-set_other s₃ (p + 2) j w 0 (λ e. omega arith) ∙ get_or-set_other s₂ (p + 1) j v 0 (λ e. omega arith) in
      let above : (j : ℕ) → (p + 2 < j) → get_or s₄ j 0 ≡ get_or s₂ j 0 = λ j l.
      get_or-set_other s₃ (p + 2) j w 0 (λ e. omega arith) ∙ get_or-set_other s₂ (p + 1) j v 0 (λ e. omega arith) in (
        omega arith,
        (
          rw first (get_or-set_other s₃ (p + 2) (p + 1) w 0 (λ e. omega arith) ∙ get_or-set_same s₂ (p + 1) v 0 (omega arith)),
          holds_kept places base (at_base known base) (eight known base) s₁ s₄ (omega arith) lo n t
              (λ j l h. behind j (omega arith) ∙ only₂.below j (omega arith)) k.0
              (stored_holds places base (at_base known base) (eight known base) lo n t s k.0 (omega arith)),
          (
            rw second (get_or-set_same s₃ (p + 2) w 0 (omega arith)),
            holds_kept places base (at_base known base) (eight known base) s₂ s₄ (omega arith) (n + 1) hi u
                (λ j l h. above j (omega arith)) k.1
                (stored_holds places base (at_base known base) (eight known base) (n + 1) hi u s₁ k.1 (omega arith)),
            tt,
          ),
        ),
      )

  pub elements_stored_only : (lo hi : ℕ) (es : List Element) (s : List ℕ) → ElementsNumbered lo hi es
      → Only (item_place base lo) (item_place base hi) s (elements_stored places es s)
  unfolding ElementsNumbered elements_stored
  elements_stored_only lo hi [] s k = only_same (item_place base lo) (item_place base hi) s
  elements_stored_only lo hi (e ∷ es) s k =
      let low = element_order lo k.0 e k.1 in
      let high = elements_order k.0 hi es k.2 in
      let s₁ = element_stored places e s in
      let a = item_place base lo in
      let b = item_place base hi in
      only_then a b s s₁ (elements_stored places es s₁)
      (only_wider a (item_place base k.0) a b s s₁ (omega arith) (omega arith) (element_stored_only lo k.0 e s k.1))
      (only_wider (item_place base k.0) b a b s₁ (elements_stored places es s₁) (omega arith) (omega arith) (elements_stored_only k.0 hi es s₁ k.2))

  pub elements_stored_hold : (lo hi : ℕ) (es : List Element) (s : List ℕ) → ElementsNumbered lo hi es → item_place base hi ≤ length s
      → HoldsElements (elements_stored places es s) places es
  unfolding ElementsNumbered elements_stored HoldsElements
  elements_stored_hold lo hi [] s k room = tt
  elements_stored_hold lo hi (e ∷ es) s k room =
      let low = element_order lo k.0 e k.1 in
      let high = elements_order k.0 hi es k.2 in
      let s₁ = element_stored places e s in
      let size : length s₁ ≡ length s = (element_stored_only lo k.0 e s k.1).size in
      let rest = elements_stored_only k.0 hi es s₁ k.2 in (
        element_kept known base s₁ (elements_stored places es s₁) (omega (arith, rest.size)) lo k.0 e (λ j l m. rest.below j (omega arith)) k.1
            (element_stored_holds lo k.0 e s k.1 (omega arith)),
        elements_stored_hold k.0 hi es s₁ k.2 (omega arith),
      )
