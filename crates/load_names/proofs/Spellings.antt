-- Spellings: the definitions' test tells exactly whether two are the same, and the place of one among others is the first that is the same.
-- All by recursion on the lists; a test's outcome goes to a helper with its equation.
use Prim.Native.Nat.{ℕ, zero, suc, ◌+◌, ◌*◌, ◌<◌}
use mathlib.Core.Path.{◌≡◌, refl, sym, ap, ◌∙◌}
use mathlib.Core.Bool.{Bool, true, false, ◌||◌}
use mathlib.Core.List.{List, [], ◌∷◌, ◌++◌, map-append}
use mathlib.Core.Option.{Option, none, some}
use native.Mathlib.Omega.{arith}
use lib.ListN.{length, get_or, length-map}
use Rattle.meaning.specs.Bytes.{Bytes, same, any, when◌then◌else◌}
use Rattle.meaning.specs.Items.{place_of}
use Rattle.laws.proofs.Lists.Tests.{not_true_is_false, same_refl, same_true}
use Rattle.std.specs.Prelude.{slice_range}
use Rattle.std.proofs.lemmas.Slice.{between_is}
use Rattle.load_names.specs.Places.{Place, spellings, with_place}
use Rattle.load_names.specs.Tables.{no_place, StandsAt}

pub same_false : (f g : Bytes) → (f ≡ g → ⊥) → same f g ≡ false
same_false f g h = not_true_is_false (same f g) (λ e. h (same_true f g e))

-- The part of the text that a place of a table names is its spelling.
pub part_spelled : (text : Bytes) (table : List ℕ) (n : ℕ) (f : Bytes) → StandsAt text table n f → (start size : ℕ)
    → start ≡ get_or table (2 * n) 0 → size ≡ get_or table (2 * n + 1) 0 → slice_range text start (start + size) ≡ f
part_spelled text table n f stands start size started sized = between_is text start (start + size) ∙ rw (started, sized, stands.size) stands.spelled

-- The place of a spelling, by the first of the others.
hit : (x y : Bytes) (ys : List Bytes) → same x y ≡ true → place_of x (y ∷ ys) ≡ some 0
unfolding place_of
hit x y ys e = rw (e, place_of)

miss : (x y : Bytes) (ys : List Bytes) → same x y ≡ false → place_of x ys ≡ none → place_of x (y ∷ ys) ≡ none
unfolding place_of
miss x y ys e q = rw (e, q, place_of)

later : (x y : Bytes) (ys : List Bytes) (n : ℕ) → same x y ≡ false → place_of x ys ≡ some n → place_of x (y ∷ ys) ≡ some (suc n)
unfolding place_of
later x y ys n e q = rw (e, q, place_of)

-- The first place that is spelled so is the spelling's place.
pub place_at : (f : Bytes) (places : List Place) (n : ℕ) → n < length places → same f (get_or places n no_place).spelling ≡ true
    → ((m : ℕ) → m < n → same f (get_or places m no_place).spelling ≡ false) → place_of f (spellings places) ≡ some n
unfolding spellings
place_at f [] n h e before = absurd (omega arith)
place_at f (p ∷ places) zero h e before = hit f p.spelling (spellings places) e
place_at f (p ∷ places) (suc n) h e before =
    later f p.spelling (spellings places) n (before zero (omega arith)) (place_at f places n (omega arith) e (λ m k. before (suc m) (omega arith)))

pub place_none : (f : Bytes) (places : List Place) → ((m : ℕ) → m < length places → same f (get_or places m no_place).spelling ≡ false)
    → place_of f (spellings places) ≡ none
unfolding spellings place_of
place_none f [] before = refl
place_none f (p ∷ places) before =
    miss f p.spelling (spellings places) (before zero (omega arith)) (place_none f places (λ m k. before (suc m) (omega arith)))

-- A spelling that has a place is known, and one that has none is not; once it is added its place is the last.
module _ (f y : Bytes) (ys : List Bytes) where
  known_by : (t : Bool) → same f y ≡ t → (o : Option ℕ) → place_of f ys ≡ o
      → ((m : ℕ) → place_of f ys ≡ some m → (m < length ys) × (any (same f) ys ≡ true))
      → (n : ℕ) → place_of f (y ∷ ys) ≡ some n → (n < suc (length ys)) × (any (same f) (y ∷ ys) ≡ true)
  unfolding any
  known_by true e o q rest n h =
      let w : ◌≡◌ {A = ℕ} 0 n = cc (hit f y ys e) in
      (omega arith, rw e)
  known_by false e none q rest n h = absurd (let w : ◌≡◌ {A = ℕ} 0 1 = cc (miss f y ys e q) in omega arith)
  known_by false e (some m) q rest n h =
      let w : suc m ≡ n = cc (later f y ys m e q) in
      let r = rest m q in
      (omega arith, rw e r.1)

  unknown_by : (t : Bool) → same f y ≡ t → (o : Option ℕ) → place_of f ys ≡ o → (place_of f ys ≡ none → any (same f) ys ≡ false)
      → place_of f (y ∷ ys) ≡ none → any (same f) (y ∷ ys) ≡ false
  unfolding any
  unknown_by true e o q rest h = absurd (let w : ◌≡◌ {A = ℕ} 0 1 = cc (hit f y ys e) in omega arith)
  unknown_by false e none q rest h = rw e (rest q)
  unknown_by false e (some m) q rest h = absurd (let w : ◌≡◌ {A = ℕ} 0 1 = cc (later f y ys m e q) in omega arith)

  last_by : (t : Bool) → same f y ≡ t → (o : Option ℕ) → place_of f ys ≡ o
      → (place_of f ys ≡ none → place_of f (ys ++ (f ∷ [])) ≡ some (length ys))
      → place_of f (y ∷ ys) ≡ none → place_of f (y ∷ (ys ++ (f ∷ []))) ≡ some (suc (length ys))
  last_by true e o q rest h = absurd (let w : ◌≡◌ {A = ℕ} 0 1 = cc (hit f y ys e) in omega arith)
  last_by false e none q rest h = later f y (ys ++ (f ∷ [])) (length ys) e (rest q)
  last_by false e (some m) q rest h = absurd (let w : ◌≡◌ {A = ℕ} 0 1 = cc (later f y ys m e q) in omega arith)

known : (f : Bytes) (ys : List Bytes) (n : ℕ) → place_of f ys ≡ some n → (n < length ys) × (any (same f) ys ≡ true)
unfolding place_of
known f [] n h = absurd (let z : none ≡ some n = h in let w : ◌≡◌ {A = ℕ} 0 1 = cc in omega arith)
known f (y ∷ ys) n h = known_by f y ys (same f y) refl (place_of f ys) refl (known f ys) n h

unknown : (f : Bytes) (ys : List Bytes) → place_of f ys ≡ none → any (same f) ys ≡ false
unfolding any
unknown f [] h = refl
unknown f (y ∷ ys) h = unknown_by f y ys (same f y) refl (place_of f ys) refl (unknown f ys) h

place_last : (f : Bytes) (ys : List Bytes) → place_of f ys ≡ none → place_of f (ys ++ (f ∷ [])) ≡ some (length ys)
place_last f [] h = hit f f [] (same_refl f)
place_last f (y ∷ ys) h = last_by f y ys (same f y) refl (place_of f ys) refl (place_last f ys) h

or_true : (t : Bool) → t || true ≡ true
or_true true = refl
or_true false = refl

any_at : (f : Bytes) (places : List Place) (m : ℕ) → m < length places → (get_or places m no_place).spelling ≡ f → any (same f) (spellings places) ≡ true
unfolding any spellings
any_at f [] m h e = absurd (omega arith)
any_at f (p ∷ places) zero h e = rw (e, same_refl f)
any_at f (p ∷ places) (suc m) h e = rw (any_at f places m (omega arith) e) (or_true (same f p.spelling))

-- The same of the places that have these spellings.
module _ (f : Bytes) (places : List Place) where
  as_many : length (spellings places) ≡ length places
  unfolding spellings
  as_many = length-map places (λ p. p.spelling)

  pub has_place : (n : ℕ) → place_of f (spellings places) ≡ some n → n < length places
  has_place n h = rw as_many at (known f (spellings places) n h).0

  pub with_known : (n at : ℕ) → place_of f (spellings places) ≡ some n → with_place at f places ≡ places
  unfolding with_place when◌then◌else◌
  with_known n at h = rw ((known f (spellings places) n h).1, when◌then◌else◌)

  pub not_known : place_of f (spellings places) ≡ none → any (same f) (spellings places) ≡ false
  not_known h = unknown f (spellings places) h

  pub with_new : (at : ℕ) → place_of f (spellings places) ≡ none → with_place at f places ≡ places ++ (record { at = at; spelling = f } ∷ [])
  unfolding with_place when◌then◌else◌
  with_new at h = rw (not_known h, when◌then◌else◌)

  pub new_place : (at : ℕ) → place_of f (spellings places) ≡ none
      → place_of f (spellings (places ++ (record { at = at; spelling = f } ∷ []))) ≡ some (length places)
  unfolding spellings
  new_place at h =
      rw (map-append (λ (p : Place). p.spelling) places (record { at = at; spelling = f } ∷ [])) (place_last f (spellings places) h ∙ ap some as_many)

  -- No place is spelled so that was not known.
  pub not_spelled : place_of f (spellings places) ≡ none → (m : ℕ) → m < length places → (get_or places m no_place).spelling ≡ f → ⊥
  not_spelled h m k e =
      let y : true ≡ false = sym (any_at f places m k e) ∙ not_known h in
      let w : ◌≡◌ {A = ℕ} 0 1 = cc in
      omega arith
