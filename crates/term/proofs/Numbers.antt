-- Names by their numbers: a known name's number is below the number of names, and two known names have one number exactly if they are the same.
use Prim.Native.Nat.{ℕ, suc, ◌<◌}
use mathlib.Core.Path.{◌≡◌, refl, sym, ◌∙◌}
use mathlib.Core.Bool.{Bool, true, false, ◌&&◌, ◌||◌}
use mathlib.Core.List.{List, [], ◌∷◌}
use mathlib.Core.Logic.{◌≢◌}
use native.Mathlib.Omega.{arith}
use lib.Dec.{eqb}
use lib.ListN.{length}
use borrow.Author.Tests.{eqb-true, eq-eqb}
use Rattle.meaning.specs.Bytes.{Bytes, same, any, when◌then◌else◌}
use Rattle.term.specs.Cells.{number_of, KnownName}

both_true : (a b : Bool) → (a && b) ≡ true → (a ≡ true) × (b ≡ true)
both_true true b h = (refl, h)
both_true false b h = let z : ◌≡◌ {A = ℕ} 0 1 = cc in absurd (omega arith)

-- The test of spellings tells whether they are equal.
pub same_refl : (f : Bytes) → same f f ≡ true
unfolding same
same_refl [] = refl
same_refl (b ∷ f) = rw (eq-eqb b b refl, same_refl f)

pub same_equal : (f g : Bytes) → same f g ≡ true → f ≡ g
unfolding same
same_equal [] [] h = refl
same_equal [] (c ∷ g) h = let z : ◌≡◌ {A = ℕ} 0 1 = cc in absurd (omega arith)
same_equal (b ∷ f) [] h = let z : ◌≡◌ {A = ℕ} 0 1 = cc in absurd (omega arith)
same_equal (b ∷ f) (c ∷ g) h =
    let parts = both_true (eqb b c) (same f g) h in
    rw (eqb-true b c parts.0, same_equal f g parts.1)

pub same_swap : (f g : Bytes) → same f g ≡ same g f
unfolding same
same_swap [] [] = refl
same_swap [] (c ∷ g) = refl
same_swap (b ∷ f) [] = refl
same_swap (b ∷ f) (c ∷ g) = rw (eqb_swap b c, same_swap f g)
  where
    eqb_swap : (m n : ℕ) → eqb m n ≡ eqb n m
    eqb_swap m n = go (eqb m n) (eqb n m) refl refl
      where
        go : (a b : Bool) → eqb m n ≡ a → eqb n m ≡ b → a ≡ b
        go true true d e = refl
        go false false d e = refl
        go true false d e = rw (eqb-true m n d, eq-eqb n n refl) at e
        go false true d e = sym (rw (eqb-true n m e, eq-eqb m m refl) at d)

-- A known name's number.
below_step : (b known : Bool) (m n : ℕ) → (b || known) ≡ true → (known ≡ true → m < n) → (when b then 0 else suc m) < suc n
unfolding when◌then◌else◌
below_step true known m n h k = omega arith
below_step false known m n h k = omega (arith, k h)

pub number_below : (f : Bytes) (names : List Bytes) → KnownName names f → number_of f names < length names
unfolding number_of any
number_below f [] h = let z : ◌≡◌ {A = ℕ} 0 1 = cc in absurd (omega arith)
number_below f (g ∷ names) h =
    below_step (same f g) (any (same f) names) (number_of f names) (length names) h (number_below f names)

apart_step : (a b k l : Bool) (m n : ℕ) → (a || k) ≡ true → (b || l) ≡ true → (a ≡ true → b ≡ true → ⊥) → (k ≡ true → l ≡ true → m ≢ n)
    → (when a then 0 else suc m) ≢ (when b then 0 else suc n)
unfolding when◌then◌else◌
apart_step true true k l m n g h both rest e = both refl refl
apart_step true false k l m n g h both rest e = omega arith
apart_step false true k l m n g h both rest e = omega arith
apart_step false false k l m n g h both rest e = rest g h (omega arith)

pub number_apart : (f g : Bytes) (names : List Bytes) → same f g ≡ false → KnownName names f → KnownName names g
    → number_of f names ≢ number_of g names
unfolding number_of any
number_apart f g [] d h k = let z : ◌≡◌ {A = ℕ} 0 1 = cc in absurd (omega arith)
number_apart f g (n ∷ names) d h k =
    apart_step (same f n) (same g n) (any (same f) names) (any (same g) names) (number_of f names) (number_of g names) h k
    (λ a b. never a b) (number_apart f g names d)
  where
    never : same f n ≡ true → same g n ≡ true → ⊥
    never a b =
        let e : f ≡ g = same_equal f n a ∙ sym (same_equal g n b) in
        let t : same f g ≡ true = rw e (same_refl g) in
        let z : ◌≡◌ {A = ℕ} 0 1 = cc in
        omega arith
