-- Truth values and numbers: what a test of both, of either or of neither says, and what holds of both branches of a choice.
-- Tests of numbers become facts by `borrow.Author.Tests`.
use Prim.Native.Nat.{ℕ, ◌≤◌, ◌<◌, ◌+◌}
use mathlib.Core.Path.{◌≡◌, refl, sym, ap, ◌∙◌}
use mathlib.Core.Logic.{◌⊎◌, inl, inr}
use mathlib.Core.Bool.{Bool, true, false, ◌&&◌, ◌||◌}
use mathlib.Core.List.{[], ◌∷◌}
use native.Mathlib.Omega.{arith}
use lib.Dec.{eqb}
use borrow.Author.Tests.{eq-eqb, eqb-true, eqb-false, ne_eqb}
use Rattle.meaning.specs.Bytes.{Bytes, same, when◌then◌else◌}

-- Two constructors differ: `cc` proves 0 ≡ 1 from their equation.
pub differ : ◌≡◌ {A = ℕ} 0 1 → ⊥
differ z = omega arith

pub false_not_true : (b : Bool) → b ≡ false → b ≡ true → ⊥
false_not_true b e f = differ (cc)

-- What holds of both branches, each where it is taken, holds of the choice.
pub if_holds {ℓ} : {A : Type ℓ} (P : A → Type 0) (b : Bool) (x y : A) → (b ≡ true → P x) → (b ≡ false → P y) → P (when b then x else y)
unfolding when◌then◌else◌
if_holds P true x y p q = p refl
if_holds P false x y p q = q refl

-- Two tests agree where each follows from the other.
pub same_answer : (a b : Bool) → (a ≡ true → b ≡ true) → (b ≡ true → a ≡ true) → a ≡ b
same_answer true true f g = refl
same_answer true false f g = sym (f refl)
same_answer false true f g = g refl
same_answer false false f g = refl

pub not_true_is_false : (a : Bool) → (a ≡ true → ⊥) → a ≡ false
not_true_is_false true f = absurd (f refl)
not_true_is_false false f = refl

-- A test of both, or of either.
pub and_left : (a b : Bool) → (a && b) ≡ true → a ≡ true
and_left true b e = refl
and_left false b e = e

pub and_right : (a b : Bool) → (a && b) ≡ true → b ≡ true
and_right true b e = e
and_right false b e = cc

pub or_true : (a b : Bool) → a || b ≡ true → (a ≡ true) ⊎ (b ≡ true)
or_true true b e = inl refl
or_true false b e = inr e

pub or_true_right : (a b : Bool) → b ≡ true → a || b ≡ true
or_true_right true b e = refl
or_true_right false b e = e

-- A spelling is the same as itself.
pub same_refl : (f : Bytes) → same f f ≡ true
unfolding same
same_refl [] = refl
same_refl (b ∷ bs) = rw (eq-eqb b b refl, same_refl bs)

-- Spellings that are the same are equal.
pub same_true : (f g : Bytes) → same f g ≡ true → f ≡ g
unfolding same
same_true [] [] e = refl
same_true [] (c ∷ cs) e = absurd (false_not_true false refl e)
same_true (b ∷ bs) [] e = absurd (false_not_true false refl e)
same_true (b ∷ bs) (c ∷ cs) e =
    let first : b ≡ c = eqb-true b c (and_left (eqb b c) (same bs cs) e) in
    cc (same_true bs cs (and_right (eqb b c) (same bs cs) e))

-- A number that is not at or beyond another is below it.
pub not_beyond : (m n : ℕ) → (n ≤ m → ⊥) → m < n
not_beyond m n d = omega arith

-- A test that fails at a number tells those that pass it from it.
pub not_this : (test : ℕ → Bool) (c d : ℕ) → test d ≡ false → test c ≡ true → eqb c d ≡ false
not_this test c d f t = go (eqb c d) refl
  where
    go : (b : Bool) → eqb c d ≡ b → eqb c d ≡ false
    go true e = absurd (false_not_true (test d) f (rw (eqb-true c d e) at t))
    go false e = e

-- Two numbers raised by the same are equal exactly if they were.
pub eqb_raised : (p n m : ℕ) → eqb (p + n) (p + m) ≡ eqb n m
eqb_raised p n m = go (eqb n m) refl
  where
    go : (b : Bool) → eqb n m ≡ b → eqb (p + n) (p + m) ≡ eqb n m
    go true e = eq-eqb (p + n) (p + m) (ap (λ (i : ℕ). p + i) (eqb-true n m e)) ∙ sym e
    go false e = ne_eqb (p + n) (p + m) (λ d. eqb-false n m e (omega arith)) ∙ sym e
