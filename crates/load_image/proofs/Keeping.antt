-- An item's words, stored: they change only the item's record and the places of its compounds, and the scratch then holds the item.
use Prim.Native.Nat.{ℕ, suc, ◌+◌, ◌*◌, ◌≤◌}
use mathlib.Core.Path.{◌≡◌, ◌∙◌}
use mathlib.Core.List.{List, [], ◌∷◌}
use native.Mathlib.Omega.{arith}
use lib.ListN.{length, set, length-set}
use lib.Seq.{get_or-set_same, get_or-set_other}
use Rattle.meaning.specs.Terms.{Named, as_term}
use Rattle.term.specs.Cells.{Places as CellPlaces, term_word, stored}
use Rattle.term.specs.Frames.{Only}
use Rattle.term.specs.Jobs.{GoalsNumbered, HoldsGoals}
use Rattle.term.proofs.Frames.{only_same, only_set, only_then, only_wider}
use Rattle.term.proofs.Cells.{numbered_order, stored_only}
use Rattle.term.proofs.Regions.{OnlyTwo, two_same, two_first, two_second, two_then, two_wider}
use Rattle.term.proofs.Holds.{holds_kept, stored_holds}
use Rattle.term.proofs.Jobs.{goals_numbered_order}
use Rattle.term.specs.Layout.{item_start, item_place}
use Rattle.load_names.specs.Places.{Place}
use Rattle.load_image.specs.Image.{goals_stored, places_stored}

-- Goals: their words one behind the other, before the places of their compounds.
module _ (places : CellPlaces) (base : ℕ) (at : (n : ℕ) → places.compound n ≡ item_place base n) where
  pub goals_two : (place lo hi : ℕ) (gs : List Named) (s : List ℕ) → place + length gs ≤ item_start base → GoalsNumbered lo hi gs
      → OnlyTwo place (place + length gs) (item_place base lo) (item_place base hi) s (goals_stored places place gs s)
  unfolding GoalsNumbered goals_stored
  goals_two place lo hi [] s room k = two_same place (place + 0) (item_place base lo) (item_place base hi) s
  goals_two place lo hi (g ∷ gs) s room k =
      let v = item_place base lo in
      let w = item_place base hi in
      let e = place + suc (length gs) in
      let mid = k.0 in
      let low : lo ≤ mid = numbered_order lo mid (as_term g) k.1 in
      let high : mid ≤ hi = goals_numbered_order mid hi gs k.2 in
      let s₁ = stored places (as_term g) s in
      let s₂ = set s₁ place (term_word places (as_term g)) in
      let s₃ = goals_stored places (place + 1) gs s₂ in
      two_then place e v w s s₁ s₃
      (two_second place e v w v (item_place base mid) s s₁ (omega arith) (omega arith) (omega arith) (stored_only places base at lo mid (as_term g) s k.1))
      (two_then place e v w s₁ s₂ s₃
      (two_first place e v w place (place + 1) s₁ s₂ (omega arith) (omega arith) (omega arith)
      (only_set place (place + 1) s₁ place (term_word places (as_term g)) (omega arith) (omega arith)))
      (two_wider (place + 1) (place + 1 + length gs) (item_place base mid) w place e v w s₂ s₃ (omega arith) (omega arith) (omega arith) (omega arith)
      (goals_two (place + 1) mid hi gs s₂ (omega arith) k.2)))

  -- Stored, they are held, where each compound has eight words of its own.
  pub goals_hold : ((n : ℕ) → places.width n ≡ 8)
      → (place i lo hi : ℕ) (gs : List Named) (s : List ℕ) → place + i + length gs ≤ item_start base → item_place base hi ≤ length s
      → GoalsNumbered lo hi gs → HoldsGoals (goals_stored places (place + i) gs s) places place i gs
  unfolding GoalsNumbered goals_stored HoldsGoals
  goals_hold wide place i lo hi [] s room inside k = tt
  goals_hold wide place i lo hi (g ∷ gs) s room inside k =
      let t = as_term g in
      let v = term_word places t in
      let p = place + i in
      let mid = k.0 in
      let low : lo ≤ mid = numbered_order lo mid t k.1 in
      let high : mid ≤ hi = goals_numbered_order mid hi gs k.2 in
      let s₁ = stored places t s in
      let s₂ = set s₁ p v in
      let s₃ = goals_stored places (p + 1) gs s₂ in
      let size₁ : length s₁ ≡ length s = (stored_only places base at lo mid t s k.1).size in
      let size₂ : length s₂ ≡ length s₁ = length-set s₁ p v in
      let rest : OnlyTwo (p + 1) (p + 1 + length gs) (item_place base mid) (item_place base hi) s₂ s₃ = goals_two (p + 1) mid hi gs s₂ (omega arith) k.2 in
      let next : place + (i + 1) ≡ p + 1 = omega arith in (
        rest.below p (omega arith) ∙ get_or-set_same s₁ p v 0 (omega arith),
        holds_kept places base at wide s₁ s₃ (omega (arith, rest.size)) lo mid t
            (λ j l h. rest.between j (omega arith) h ∙ get_or-set_other s₁ p j v 0 (λ e. omega arith))
            k.1 (stored_holds places base at wide lo mid t s k.1 (omega arith)),
        rw next at (goals_hold wide place (i + 1) mid hi gs s₂ (omega arith) (omega arith) k.2),
      )

-- Places of the text, two words a place.
pub places_only : (place : ℕ) (ps : List Place) (s : List ℕ) → Only place (place + 2 * length ps) s (places_stored place ps s)
unfolding places_stored
places_only place [] s = only_same place (place + 0) s
places_only place (p ∷ ps) s =
    let e = place + 2 * suc (length ps) in
    let s₁ = set s place p.at in
    let s₂ = set s₁ (place + 1) (length p.spelling) in
    let s₃ = places_stored (place + 2) ps s₂ in
    only_then place e s s₁ s₃ (only_set place e s place p.at (omega arith) (omega arith))
    (only_then place e s₁ s₂ s₃ (only_set place e s₁ (place + 1) (length p.spelling) (omega arith) (omega arith))
    (only_wider (place + 2) (place + 2 + 2 * length ps) place e s₂ s₃ (omega arith) (omega arith) (places_only (place + 2) ps s₂)))
