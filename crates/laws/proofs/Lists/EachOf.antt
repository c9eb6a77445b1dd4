-- What holds of each of a list: how it goes with `++`, `map`, `those`, `set` and `replicate`, and what it says of a member.
-- It computes: of no element it says nothing, of a first element and others it is a pair.
use Prim.Native.Nat.{ℕ, zero, suc, ◌<◌}
use mathlib.Core.Path.{◌≡◌, refl}
use mathlib.Core.Bool.{Bool, true, false}
use mathlib.Core.List.{List, [], ◌∷◌, ◌++◌, map}
use native.Mathlib.Omega.{arith}
use lib.ListN.{get_or, set, replicate}
use Rattle.meaning.specs.Bytes.{when◌then◌else◌, those, among, all, up_to}
use Rattle.laws.proofs.Lists.Among.{In, here, there, among_in, below_in_up_to}
use Rattle.laws.proofs.Lists.Sums.{sum, in_sum}
use Rattle.laws.proofs.Lists.Tests.{and_left, and_right}

-- Each element has the property.
abbrev pub Each : {A : Type 0} → (A → Type 0) → List A → Type 0
Each P [] = Unit {0}
Each P (a ∷ l) = P a × Each P l

module _ {A : Type 0} where
  pub each_append : (P : A → Type 0) (l m : List A) → Each P l → Each P m → Each P (l ++ m)
  each_append P [] m ps qs = qs
  each_append P (a ∷ l) m ps qs = (ps.0, each_append P l m ps.1 qs)

  pub each_implies : (P Q : A → Type 0) → ((a : A) → P a → Q a) → (l : List A) → Each P l → Each Q l
  each_implies P Q f [] ps = tt
  each_implies P Q f (a ∷ l) ps = (f a ps.0, each_implies P Q f l ps.1)

  -- What holds of each holds of each of those that pass a test, for which moreover the test is passed.
  pub each_those : (P : A → Type 0) (test : A → Bool) (l : List A) → Each (λ a. test a ≡ true → P a) l → Each P (those test l)
  unfolding those when◌then◌else◌
  each_those P test [] ps = tt
  each_those P test (a ∷ l) ps = go (test a) refl (each_those P test l ps.1)
    where
      go : (b : Bool) → test a ≡ b → Each P (those test l) → Each P (those test (a ∷ l))
      go true e further = rw (e, those, when◌then◌else◌) (ps.0 e, further)
      go false e further = rw (e, those, when◌then◌else◌) further

  pub each_of_those : (P : A → Type 0) (test : A → Bool) (l : List A) → Each P l → Each P (those test l)
  each_of_those P test l ps = each_those P test l (each_implies P _ (λ a p t. p) l ps)

  pub each_split : (P : A → Type 0) (l m : List A) → Each P (l ++ m) → Each P l × Each P m
  each_split P [] m ps = (tt, ps)
  each_split P (a ∷ l) m ps = ((ps.0, (each_split P l m ps.1).0), (each_split P l m ps.1).1)

  -- Each by membership, and a member of which it holds.
  pub each_member : (P : A → Type 0) (l : List A) → ((a : A) → In a l → P a) → Each P l
  each_member P [] f = tt
  each_member P (a ∷ l) f = (f a (here refl), each_member P l (λ b m. f b (there m)))

  pub each_in : (P : A → Type 0) {a : A} {l : List A} → Each P l → In a l → P a
  each_in P ps (here e) = rw e ps.0
  each_in P ps (there m) = each_in P ps.1 m

  -- What passes a test stood in the list.
  pub those_member : (test : A → Bool) (l : List A) {a : A} → In a (those test l) → In a l
  those_member test l m = each_in (λ b. In b l) (each_of_those (λ b. In b l) test l (each_member (λ b. In b l) l (λ b n. n))) m

  -- One place, one element replaced, the same element so many times, and every element.
  pub each_getD : (P : A → Type 0) (l : List A) (i : ℕ) (d : A) → Each P l → P d → P (get_or l i d)
  each_getD P [] i d u h = h
  each_getD P (a ∷ l) zero d u h = u.0
  each_getD P (a ∷ l) (suc i) d u h = each_getD P l i d u.1 h

  pub each_set : (P : A → Type 0) (l : List A) (i : ℕ) (a : A) → Each P l → P a → Each P (set l i a)
  each_set P [] i a u h = tt
  each_set P (b ∷ l) zero a u h = (h, u.1)
  each_set P (b ∷ l) (suc i) a u h = (u.0, each_set P l i a u.1 h)

  pub each_replicate : (P : A → Type 0) (n : ℕ) (a : A) → P a → Each P (replicate n a)
  each_replicate P zero a h = tt
  each_replicate P (suc n) a h = (h, each_replicate P n a h)

  pub each_all : (P : A → Type 0) → ((a : A) → P a) → (l : List A) → Each P l
  each_all P h l = each_member P l (λ a m. h a)

pub each_map : {A B : Type 0} (P : B → Type 0) (f : A → B) (l : List A) → Each (λ a. P (f a)) l → Each P (map f l)
each_map P f [] ps = tt
each_map P f (a ∷ l) ps = (ps.0, each_map P f l ps.1)

-- A test of all of a list, and of all numbers below n.
pub all_each : {A : Type 0} (test : A → Bool) (l : List A) → all test l ≡ true → Each (λ a. test a ≡ true) l
unfolding all
all_each test [] e = tt
all_each test (a ∷ l) e = (and_left (test a) (all test l) e, all_each test l (and_right (test a) (all test l) e))

pub all_up_to : (test : ℕ → Bool) (k : ℕ) → all test (up_to k) ≡ true → (n : ℕ) → n < k → test n ≡ true
all_up_to test k e n h = each_in (λ n. test n ≡ true) (all_each test (up_to k) e) (below_in_up_to k n h)

-- In a sum of nothing there is nothing, and what is among numbers of which each has a property has it.
pub each_zero : {A : Type 0} (f : A → ℕ) (l : List A) → sum f l ≡ 0 → Each (λ a. f a ≡ 0) l
each_zero f l e = each_member (λ a. f a ≡ 0) l (λ a m. omega (arith, in_sum f m))

pub sum_of_none : {A : Type 0} (f : A → ℕ) (l : List A) → Each (λ a. f a ≡ 0) l → sum f l ≡ 0
sum_of_none f [] zeros = refl
sum_of_none f (a ∷ l) zeros = omega (arith, zeros.0, sum_of_none f l zeros.1)

pub each_among : (P : ℕ → Type 0) (n : ℕ) (l : List ℕ) → Each P l → among n l ≡ true → P n
each_among P n l ps e = each_in P ps (among_in n l e)
