-- Two lists whose elements belong together one by one, in order.
-- Where what belongs together is settled by what stands on the one side, equal sides give equal other sides.
use Prim.Native.Nat.{ℕ, zero, suc}
use mathlib.Core.Path.{◌≡◌, refl, ap}
use mathlib.Core.List.{List, [], ◌∷◌, ◌++◌, map}
use mathlib.Core.Logic.{⊎_elim}
use lib.ListN.{length, get_elem?}
use Rattle.laws.proofs.Lists.Tests.{differ}
use Rattle.laws.proofs.Lists.Among.{In, here, there, in_none, in_cons_cases}
use Rattle.laws.proofs.Lists.EachOf.{Each}

-- The elements of two lists belong together one by one, in order.
pub data Paired {A B : Type 0} (R : A → B → Type 0) : List A → List B → Type 0 where
  done : Paired R [] []
  pair : {a : A} {b : B} {l : List A} {r : List B} → R a b → Paired R l r → Paired R (a ∷ l) (b ∷ r)

-- What belongs to something has the property: so has each.
pub each_paired : {A B : Type 0} {R : A → B → Type 0} (P : B → Type 0) → ((a : A) (b : B) → R a b → P b)
    → {l : List A} {r : List B} → Paired R l r → Each P r
each_paired P f done = tt
each_paired P f (pair {a = a} {b = b} h hs) = (f a b h, each_paired P f hs)

-- Where what belongs together is settled by what f shows of the one, equal sides give equal other sides: whole, or at one place.
module _ {A B C : Type 0} (f : A → C) {R₁ R₂ : A → B → Type 0}
    (settled : (a₁ a₂ : A) (b₁ b₂ : B) → f a₁ ≡ f a₂ → R₁ a₁ b₁ → R₂ a₂ b₂ → b₁ ≡ b₂) where
  pub paired_equal : {l₁ l₂ : List A} {r₁ r₂ : List B} → Paired R₁ l₁ r₁ → Paired R₂ l₂ r₂ → map f l₁ ≡ map f l₂ → r₁ ≡ r₂
  paired_equal done done e = refl
  paired_equal done (pair h₂ t₂) e = absurd (differ (cc))
  paired_equal (pair h₁ t₁) done e = absurd (differ (cc))
  paired_equal (pair {a = a₁} {b = b₁} h₁ t₁) (pair {a = a₂} {b = b₂} h₂ t₂) e =
      let first : b₁ ≡ b₂ = settled a₁ a₂ b₁ b₂ (cc) h₁ h₂ in
      cc (paired_equal t₁ t₂ (cc))

  pub paired_equal_at : {l₁ l₂ : List A} {r₁ r₂ : List B} → Paired R₁ l₁ r₁ → Paired R₂ l₂ r₂
      → (k : ℕ) → get_elem? (map f l₁) k ≡ get_elem? (map f l₂) k → get_elem? r₁ k ≡ get_elem? r₂ k
  paired_equal_at done done k e = refl
  paired_equal_at done (pair h₂ t₂) zero e = absurd (differ (cc))
  paired_equal_at done (pair h₂ t₂) (suc k) e = paired_equal_at done t₂ k e
  paired_equal_at (pair h₁ t₁) done zero e = absurd (differ (cc))
  paired_equal_at (pair h₁ t₁) done (suc k) e = paired_equal_at t₁ done k e
  paired_equal_at (pair {a = a₁} {b = b₁} h₁ t₁) (pair {a = a₂} {b = b₂} h₂ t₂) zero e =
      let first : b₁ ≡ b₂ = settled a₁ a₂ b₁ b₂ (cc) h₁ h₂ in
      cc
  paired_equal_at (pair h₁ t₁) (pair h₂ t₂) (suc k) e = paired_equal_at t₁ t₂ k e

pub paired_length : {A B : Type 0} {R : A → B → Type 0} {l : List A} {r : List B} → Paired R l r → length r ≡ length l
paired_length done = refl
paired_length (pair h t) = ap suc (paired_length t)

pub paired_append : {A B : Type 0} {R : A → B → Type 0} {l₁ l₂ : List A} {r₁ r₂ : List B} → Paired R l₁ r₁ → Paired R l₂ r₂
    → Paired R (l₁ ++ l₂) (r₁ ++ r₂)
paired_append done q = q
paired_append (pair h t) q = pair h (paired_append t q)

-- What stands on the one side has something beside it on the other.
pub paired_in : {A B : Type 0} {R : A → B → Type 0} {l : List A} {r : List B} → Paired R l r → {a : A} → In a l → (b : B) × In b r × R a b
paired_in done m = absurd (in_none m)
paired_in {B = B} {R = R} (pair {a = a} {b = b} {l = l} {r = r} h t) {a = c} m = ⊎_elim first (λ k. let (d, n, i) = paired_in t k in (d, there n, i)) (in_cons_cases m)
  where
    first : c ≡ a → (d : B) × In d (b ∷ r) × R c d
    first e = (b, here refl, rw e h)
