-- The places that a table holds, kept in the scratch one after the other, are those places.
use Prim.Native.Nat.{ℕ, zero, suc, ◌+◌, ◌*◌, ◌≤◌, ◌<◌}
use mathlib.Core.Path.{◌≡◌, refl, ap, ◌∙◌}
use mathlib.Core.List.{List, [], ◌∷◌, ◌++◌, map, map-append}
use native.Mathlib.Omega.{arith}
use lib.ListN.{length, get_or, set, take, length-take, length-map}
use lib.Seq.{take-suc, take-length}
use Rattle.term.specs.Frames.{Only}
use Rattle.term.proofs.Frames.{only_same, only_set, only_then}
use Rattle.load_names.specs.Places.{Place}
use Rattle.load_names.specs.Tables.{no_place}
use Rattle.load_image.specs.Kept.{pairs_kept}
use Rattle.load_image.specs.Image.{places_stored}
use Rattle.load_items.specs.Outcomes.{shifted}

both_places : (l : List ℕ) (v w i j : ℕ) → i ≡ j → set (set l i v) (i + 1) w ≡ set (set l j v) (j + 1) w
both_places l v w i j e = ap (λ k. set (set l k v) (k + 1) w) e

places_snoc : (place : ℕ) (ps : List Place) (p : Place) (s : List ℕ)
    → places_stored place (ps ++ (p ∷ [])) s
    ≡ set (set (places_stored place ps s) (place + 2 * length ps) p.at) (place + 2 * length ps + 1) (length p.spelling)
unfolding places_stored
places_snoc place [] p s = both_places s p.at (length p.spelling) place (place + 2 * 0) (omega arith)
places_snoc place (q ∷ ps) p s =
    let s₁ = set (set s place q.at) (place + 1) (length q.spelling) in
    places_snoc (place + 2) ps p s₁
    ∙ both_places (places_stored (place + 2) ps s₁) p.at (length p.spelling) (place + 2 + 2 * length ps) (place + 2 * suc (length ps)) (omega arith)

module _ (table : List ℕ) (from place : ℕ) (ps : List Place) (s : List ℕ)
    (starts : (n : ℕ) → n < length ps → get_or table (2 * n) 0 ≡ (get_or ps n no_place).at)
    (lengths : (n : ℕ) → n < length ps → get_or table (2 * n + 1) 0 ≡ length (get_or ps n no_place).spelling) where
  kept_some : (n : ℕ) → n ≤ length ps → pairs_kept table from place n s ≡ places_stored place (map (shifted from) (take n ps)) s
  unfolding pairs_kept places_stored shifted
  kept_some zero h = refl
  kept_some (suc n) h =
      let p = get_or ps n no_place in
      let here : length (map (shifted from) (take n ps)) ≡ n = length-map (take n ps) (shifted from) ∙ (omega (arith, length-take n ps)) in
      rw (
        kept_some n (omega arith),
        starts n h,
        lengths n h,
        take-suc ps n no_place h,
        map-append (shifted from) (take n ps) (p ∷ []),
        places_snoc place (map (shifted from) (take n ps)) (shifted from p) s,
        here,
      )

  pub kept_places : pairs_kept table from place (length ps) s ≡ places_stored place (map (shifted from) ps) s
  kept_places = kept_some (length ps) (omega arith) ∙ ap (λ l. places_stored place (map (shifted from) l) s) (take-length ps)

-- They change only their own words.
pub kept_only : (table : List ℕ) (from place n hi : ℕ) (s : List ℕ) → place + 2 * n ≤ hi → Only 0 hi s (pairs_kept table from place n s)
unfolding pairs_kept
kept_only table from place zero hi s h = only_same 0 hi s
kept_only table from place (suc n) hi s h =
    let s₁ = pairs_kept table from place n s in
    let s₂ = set s₁ (place + 2 * n) (from + get_or table (2 * n) 0) in
    only_then 0 hi s s₂ (set s₂ (place + 2 * n + 1) (get_or table (2 * n + 1) 0))
    (only_then 0 hi s s₁ s₂ (kept_only table from place n hi s (omega arith))
    (only_set 0 hi s₁ (place + 2 * n) (from + get_or table (2 * n) 0) (omega arith) (omega arith)))
    (only_set 0 hi s₂ (place + 2 * n + 1) (get_or table (2 * n + 1) 0) (omega arith) (omega arith))
