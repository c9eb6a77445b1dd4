-- A clause's guards, stored: they change only their words of the record and the places of their compounds, and the scratch then holds them.
use Prim.Native.Nat.{ℕ, suc, ◌+◌, ◌≤◌}
use mathlib.Core.Path.{◌≡◌, ◌∙◌}
use mathlib.Core.List.{List, [], ◌∷◌}
use native.Mathlib.Omega.{arith}
use lib.ListN.{length, get_or, set, length-set}
use lib.Seq.{get_or-set_same, get_or-set_other}
use Rattle.meaning.specs.Bytes.{Bytes}
use Rattle.meaning.specs.Terms.{
  Test,
  an_integer,
  a_constant,
  a_compound,
  a_ground,
  known,
  equal,
  otherwise,
  Term,
  Terms,
  compound,
  end,
  more,
  named,
  Guard,
  count,
}
use Rattle.term.specs.Cells.{Places as CellPlaces, term_word, stored, Numbered, AllNumbered}
use Rattle.term.specs.Frames.{Only}
use Rattle.term.specs.Holds.{Holds, HoldsFrom}
use Rattle.term.specs.Guards.{guard_word, TestNumbered, GuardsNumbered, GuardsKnown, HoldsGuards}
use Rattle.term.specs.Layout.{item_start, item_place}
use Rattle.term.proofs.Frames.{only_same, only_set, only_then, only_wider}
use Rattle.term.proofs.Cells.{numbered_order, stored_only}
use Rattle.term.proofs.Regions.{OnlyTwo, two_same, two_first, two_second, two_then, two_wider}
use Rattle.term.proofs.Holds.{holds_kept, stored_holds}
use Rattle.term.proofs.KeptGuards.{test_order, guards_numbered_order, arguments_kept, test_inside}
use Rattle.load_image.specs.Image.{test_stored, guards_stored}

module _ (places : CellPlaces) (base : ℕ) (at : (n : ℕ) → places.compound n ≡ item_place base n) where
  -- A guard with a name is a compound like any other.
  abbrev own : Guard → Terms → Term
  own g ts = compound g.number (named g.row.name) ts

  named_only : (lo hi : ℕ) (g : Guard) (ts : Terms) (s : List ℕ) → count ts ≤ 2 → (g.number ≡ lo) × AllNumbered (lo + 1) hi ts
      → Only (item_place base lo) (item_place base hi) s (stored places (own g ts) s)
  unfolding Numbered
  named_only lo hi g ts s few k = stored_only places base at lo hi (own g ts) s (k.0, omega arith, k.1)

  test_only : (test : Test) (lo hi : ℕ) (g : Guard) (ts : Terms) (s : List ℕ) → count ts ≤ 2 → TestNumbered test lo hi g.number ts
      → Only (item_place base lo) (item_place base hi) s (test_stored test places g ts s)
  unfolding TestNumbered test_stored
  test_only an_integer lo hi g ts s few k = named_only lo hi g ts s few k
  test_only a_constant lo hi g ts s few k = named_only lo hi g ts s few k
  test_only a_compound lo hi g ts s few k = named_only lo hi g ts s few k
  test_only a_ground lo hi g ts s few k = named_only lo hi g ts s few k
  test_only known lo hi g ts s few k = named_only lo hi g ts s few k
  test_only equal lo hi g end s few k = absurd k
  test_only equal lo hi g (more t end) s few k = absurd k
  test_only equal lo hi g (more t (more u end)) s few k =
      let n = g.number in
      let l = item_place base lo in
      let h = item_place base hi in
      let left : lo ≤ n = numbered_order lo n t k.0 in
      let right : n + 1 ≤ hi = numbered_order (n + 1) hi u k.1 in
      let p : places.compound n ≡ item_place base n = at n in
      let s₁ = stored places t s in
      let s₂ = stored places u s₁ in
      let s₃ = set s₂ (places.compound n + 1) (term_word places t) in
      only_then l h s s₁ (set s₃ (places.compound n + 2) (term_word places u))
      (only_wider l (item_place base n) l h s s₁ (omega arith) (omega arith) (stored_only places base at lo n t s k.0))
      (only_then l h s₁ s₂ (set s₃ (places.compound n + 2) (term_word places u))
      (only_wider (item_place base (n + 1)) h l h s₁ s₂ (omega arith) (omega arith) (stored_only places base at (n + 1) hi u s₁ k.1))
      (only_then l h s₂ s₃ (set s₃ (places.compound n + 2) (term_word places u))
      (only_set l h s₂ (places.compound n + 1) (term_word places t) (omega arith) (omega arith))
      (only_set l h s₃ (places.compound n + 2) (term_word places u) (omega arith) (omega arith))))
  test_only equal lo hi g (more t (more u (more v ts))) s few k = absurd k
  test_only otherwise lo hi g ts s few k = only_same (item_place base lo) (item_place base hi) s

  -- Guards: their words one behind the other, before the places of their compounds.
  pub guards_two : (place lo hi : ℕ) (names : List Bytes) (gs : List Guard) (s : List ℕ) → place + length gs ≤ item_start base
      → GuardsNumbered lo hi gs → GuardsKnown names gs
      → OnlyTwo place (place + length gs) (item_place base lo) (item_place base hi) s (guards_stored places place gs s)
  unfolding GuardsNumbered GuardsKnown guards_stored
  guards_two place lo hi names [] s room k spelled = two_same place (place + 0) (item_place base lo) (item_place base hi) s
  guards_two place lo hi names (g ∷ gs) s room k spelled =
      let v = item_place base lo in
      let w = item_place base hi in
      let e = place + suc (length gs) in
      let mid = k.0 in
      let low : lo ≤ mid = test_order g.row.test lo mid g.number g.arguments k.1 in
      let high : mid ≤ hi = guards_numbered_order mid hi gs k.2 in
      let s₁ = test_stored g.row.test places g g.arguments s in
      let s₂ = set s₁ place (guard_word places g) in
      let s₃ = guards_stored places (place + 1) gs s₂ in
      two_then place e v w s s₁ s₃
      (two_second place e v w v (item_place base mid) s s₁ (omega arith) (omega arith) (omega arith)
      (test_only g.row.test lo mid g g.arguments s (omega (arith, spelled.0.1, spelled.0.2)) k.1))
      (two_then place e v w s₁ s₂ s₃
      (two_first place e v w place (place + 1) s₁ s₂ (omega arith) (omega arith) (omega arith)
      (only_set place (place + 1) s₁ place (guard_word places g) (omega arith) (omega arith)))
      (two_wider (place + 1) (place + 1 + length gs) (item_place base mid) w place e v w s₂ s₃ (omega arith) (omega arith) (omega arith) (omega arith)
      (guards_two (place + 1) mid hi names gs s₂ (omega arith) k.2 spelled.1)))

  module _ (wide : (n : ℕ) → places.width n ≡ 8) where
    named_hold : (lo hi : ℕ) (g : Guard) (ts : Terms) (s : List ℕ) → count ts ≤ 2 → item_place base hi ≤ length s
        → (g.number ≡ lo) × AllNumbered (lo + 1) hi ts → HoldsFrom (stored places (own g ts) s) places g.number 0 ts
    unfolding Numbered Holds
    named_hold lo hi g ts s few inside k = (stored_holds places base at wide lo hi (own g ts) s (k.0, omega arith, k.1) inside).1

    test_hold : (test : Test) (lo hi : ℕ) (g : Guard) (ts : Terms) (s : List ℕ) → count ts ≤ 2 → item_place base hi ≤ length s
        → TestNumbered test lo hi g.number ts → HoldsFrom (test_stored test places g ts s) places g.number 0 ts
    unfolding TestNumbered test_stored HoldsFrom
    test_hold an_integer lo hi g ts s few inside k = named_hold lo hi g ts s few inside k
    test_hold a_constant lo hi g ts s few inside k = named_hold lo hi g ts s few inside k
    test_hold a_compound lo hi g ts s few inside k = named_hold lo hi g ts s few inside k
    test_hold a_ground lo hi g ts s few inside k = named_hold lo hi g ts s few inside k
    test_hold known lo hi g ts s few inside k = named_hold lo hi g ts s few inside k
    test_hold equal lo hi g end s few inside k = absurd k
    test_hold equal lo hi g (more t end) s few inside k = absurd k
    test_hold equal lo hi g (more t (more u end)) s few inside k =
        let n = g.number in
        let left : lo ≤ n = numbered_order lo n t k.0 in
        let right : n + 1 ≤ hi = numbered_order (n + 1) hi u k.1 in
        let c = places.compound n in
        let p : places.compound n ≡ item_place base n = at n in
        let s₁ = stored places t s in
        let s₂ = stored places u s₁ in
        let s₃ = set s₂ (c + 1) (term_word places t) in
        let s₄ = set s₃ (c + 2) (term_word places u) in
        let first : Only (item_place base lo) (item_place base n) s s₁ = stored_only places base at lo n t s k.0 in
        let second : Only (item_place base (n + 1)) (item_place base hi) s₁ s₂ = stored_only places base at (n + 1) hi u s₁ k.1 in
        let size₃ : length s₃ ≡ length s₂ = length-set s₂ (c + 1) (term_word places t) in
        let size₄ : length s₄ ≡ length s₃ = length-set s₃ (c + 2) (term_word places u) in
        let others : (j : ℕ) → (j ≡ c + 1 → ⊥) → (j ≡ c + 2 → ⊥) → get_or s₄ j 0 ≡ get_or s₂ j 0
        = λ j x y. get_or-set_other s₃ (c + 2) j (term_word places u) 0 y ∙ get_or-set_other s₂ (c + 1) j (term_word places t) 0 x in (
          get_or-set_other s₃ (c + 2) (c + 1 + 0) (term_word places u) 0 (λ e. omega arith)
              ∙ (let same : c + 1 + 0 ≡ c + 1 = omega arith in rw same (get_or-set_same s₂ (c + 1) (term_word places t) 0 (omega (arith, first.size, second.size)))),
          holds_kept places base at wide s₁ s₄ (omega (arith, second.size)) lo n t
              (λ j l h. others j (λ e. omega arith) (λ e. omega arith) ∙ second.below j (omega arith)) k.0
              (stored_holds places base at wide lo n t s k.0 (omega arith)),
          (
            let same : c + 1 + 1 ≡ c + 2 = omega arith in
                rw same (get_or-set_same s₃ (c + 2) (term_word places u) 0 (omega (arith, first.size, second.size))),
            holds_kept places base at wide s₂ s₄ (omega arith) (n + 1) hi u
                (λ j l h. others j (λ e. omega arith) (λ e. omega arith)) k.1
                (stored_holds places base at wide (n + 1) hi u s₁ k.1 (omega (arith, first.size))),
            tt,
          ),
        )
    test_hold equal lo hi g (more t (more u (more v ts))) s few inside k = absurd k
    test_hold otherwise lo hi g end s few inside k = tt
    test_hold otherwise lo hi g (more t ts) s few inside k = absurd k

    -- Stored, they are held, where each compound has eight words of its own.
    pub guards_hold : (place i lo hi : ℕ) (names : List Bytes) (gs : List Guard) (s : List ℕ) → place + i + length gs ≤ item_start base
        → item_place base hi ≤ length s → item_place base 1 ≤ length s → GuardsNumbered lo hi gs → GuardsKnown names gs
        → HoldsGuards (guards_stored places (place + i) gs s) places place i gs
    unfolding GuardsNumbered GuardsKnown guards_stored HoldsGuards
    guards_hold place i lo hi names [] s room inside one k spelled = tt
    guards_hold place i lo hi names (g ∷ gs) s room inside one k spelled =
        let p = place + i in
        let mid = k.0 in
        let few : count g.arguments ≤ 2 = omega (arith, spelled.0.1, spelled.0.2) in
        let low : lo ≤ mid = test_order g.row.test lo mid g.number g.arguments k.1 in
        let high : mid ≤ hi = guards_numbered_order mid hi gs k.2 in
        let s₁ = test_stored g.row.test places g g.arguments s in
        let s₂ = set s₁ p (guard_word places g) in
        let s₃ = guards_stored places (p + 1) gs s₂ in
        let size₁ : length s₁ ≡ length s = (test_only g.row.test lo mid g g.arguments s few k.1).size in
        let size₂ : length s₂ ≡ length s₁ = length-set s₁ p (guard_word places g) in
        let rest : OnlyTwo (p + 1) (p + 1 + length gs) (item_place base mid) (item_place base hi) s₂ s₃
        = guards_two (p + 1) mid hi names gs s₂ (omega arith) k.2 spelled.1 in
        let next : place + (i + 1) ≡ p + 1 = omega arith in
        let own_place : places.compound g.number ≡ item_place base g.number = at g.number in (
          rest.below p (omega arith) ∙ get_or-set_same s₁ p (guard_word places g) 0 (omega arith),
          omega (arith, own_place, rest.size, test_inside base (length s) g.row.test lo mid g.number g.arguments (omega arith) (omega arith) k.1),
          arguments_kept places base at wide s₁ s₃ (omega (arith, rest.size)) g.row.test lo mid g.number g.arguments
              (λ j l h. rest.between j (omega arith) h ∙ get_or-set_other s₁ p j (guard_word places g) 0 (λ e. omega arith))
              few k.1 (test_hold g.row.test lo mid g g.arguments s few (omega arith) k.1),
          rw next at (guards_hold place (i + 1) mid hi names gs s₂ (omega arith) (omega arith) (omega arith) k.2 spelled.1),
        )
