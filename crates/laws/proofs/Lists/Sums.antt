-- Sums over lists: how they go with `++`, `map`, `those` and one element replaced.
-- A sum does not see in which order or in which of several lists a goal stands; so a step is arithmetic.
use Prim.Native.Nat.{ℕ, zero, suc, ◌+◌, ◌≤◌, ◌<◌}
use mathlib.Core.Path.{◌≡◌, refl, ap}
use mathlib.Core.Bool.{Bool, true, false, not}
use mathlib.Core.List.{List, [], ◌∷◌, ◌++◌, map}
use native.Mathlib.Nat.{not-suc-le-zero, le_of_suc-le-suc}
use native.Mathlib.Omega.{arith}
use lib.ListN.{length, get_or, set}
use Rattle.meaning.specs.Bytes.{when◌then◌else◌, those}
use Rattle.laws.proofs.Lists.Among.{In, here, there}

abbrev pub sum : {A : Type 0} → (A → ℕ) → List A → ℕ
sum f [] = 0
sum f (a ∷ l) = f a + sum f l

module _ {A : Type 0} where
  pub sum_append : (f : A → ℕ) (l m : List A) → sum f (l ++ m) ≡ sum f l + sum f m
  sum_append f [] m = omega arith
  sum_append f (a ∷ l) m = omega (arith, sum_append f l m)

  -- Those that pass a test and those that do not are all.
  pub sum_parted : (f : A → ℕ) (test : A → Bool) (l : List A) → sum f (those test l) + sum f (those (λ a. not (test a)) l) ≡ sum f l
  unfolding those when◌then◌else◌
  sum_parted f test [] = refl
  sum_parted f test (a ∷ l) = go (test a) refl (sum_parted f test l)
    where
      go : (b : Bool) → test a ≡ b → sum f (those test l) + sum f (those (λ a. not (test a)) l) ≡ sum f l
          → sum f (those test (a ∷ l)) + sum f (those (λ a. not (test a)) (a ∷ l)) ≡ sum f (a ∷ l)
      go true e further = rw (e, those, when◌then◌else◌) (omega arith)
      go false e further = rw (e, those, when◌then◌else◌) (omega arith)

  -- A sum over those that pass a test.
  pub sum_those : (f : A → ℕ) (test : A → Bool) (l : List A) → sum f (those test l) ≡ sum (λ a. when test a then f a else 0) l
  unfolding those when◌then◌else◌
  sum_those f test [] = refl
  sum_those f test (a ∷ l) = go (test a) refl (sum_those f test l)
    where
      go : (b : Bool) → test a ≡ b → sum f (those test l) ≡ sum (λ a. when test a then f a else 0) l
          → sum f (those test (a ∷ l)) ≡ sum (λ a. when test a then f a else 0) (a ∷ l)
      go true e further = rw (e, those, when◌then◌else◌) (omega arith)
      go false e further = rw (e, those, when◌then◌else◌) (omega arith)

  -- Equal counts, and counts that are no greater.
  pub sum_same : (f g : A → ℕ) → ((a : A) → f a ≡ g a) → (l : List A) → sum f l ≡ sum g l
  sum_same f g same [] = refl
  sum_same f g same (a ∷ l) = omega (arith, same a, sum_same f g same l)

  pub sum_no_greater : (f g : A → ℕ) → ((a : A) → f a ≤ g a) → (l : List A) → sum f l ≤ sum g l
  sum_no_greater f g less [] = omega arith
  sum_no_greater f g less (a ∷ l) = omega (arith, less a, sum_no_greater f g less l)

  -- One element replaced.
  pub sum_set : (f : A → ℕ) (l : List A) (i : ℕ) (a d : A) → i < length l → sum f (set l i a) + f (get_or l i d) ≡ sum f l + f a
  sum_set f [] i a d h = absurd (not-suc-le-zero h)
  sum_set f (b ∷ l) zero a d h = omega arith
  sum_set f (b ∷ l) (suc i) a d h = let further = sum_set f l i a d (le_of_suc-le-suc h) in omega arith

-- A member counts.
pub in_sum : {A : Type 0} (f : A → ℕ) {a : A} {l : List A} → In a l → f a ≤ sum f l
in_sum f (here {x = b} {xs = l} e) = rw e (omega arith)
in_sum f (there {x = b} {xs = l} m) = omega (arith, in_sum f m)

pub sum_map : {A B : Type 0} (f : B → ℕ) (g : A → B) (l : List A) → sum f (map g l) ≡ sum (λ a. f (g a)) l
sum_map f g [] = refl
sum_map f g (a ∷ l) = ap (λ (n : ℕ). f (g a) + n) (sum_map f g l)
