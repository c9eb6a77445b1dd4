-- Those of a list that pass a test: of one list behind another, of those that pass another test, of a mapped list, and how many they are.
-- Two filters commute, so what a query has of a state can be asked before or after a step.
use Prim.Native.Nat.{◌+◌}
use mathlib.Core.Path.{◌≡◌, refl, ◌∙◌}
use mathlib.Core.Bool.{Bool, true, false, not}
use mathlib.Core.List.{List, [], ◌∷◌, ◌++◌, map, append-nil}
use native.Mathlib.Omega.{arith}
use lib.ListN.{length}
use Rattle.meaning.specs.Bytes.{when◌then◌else◌, those}
use Rattle.laws.proofs.Lists.Tests.{false_not_true}

module _ {A : Type 0} where
  pub those_in : (p : A → Bool) (a : A) (l : List A) → p a ≡ true → those p (a ∷ l) ≡ a ∷ those p l
  unfolding those when◌then◌else◌
  those_in p a l e = rw e

  pub those_out : (p : A → Bool) (a : A) (l : List A) → p a ≡ false → those p (a ∷ l) ≡ those p l
  unfolding those when◌then◌else◌
  those_out p a l e = rw e

  pub those_append : (p : A → Bool) (l m : List A) → those p (l ++ m) ≡ those p l ++ those p m
  unfolding those when◌then◌else◌
  those_append p [] m = refl
  those_append p (a ∷ l) m = go (p a) refl (those_append p l m)
    where
      go : (b : Bool) → p a ≡ b → those p (l ++ m) ≡ those p l ++ those p m → those p ((a ∷ l) ++ m) ≡ those p (a ∷ l) ++ those p m
      go true e further = rw (e, further)
      go false e further = rw (e, further)

  pub those_behind_in : (p : A → Bool) (l : List A) (a : A) → p a ≡ true → those p (l ++ (a ∷ [])) ≡ those p l ++ (a ∷ [])
  unfolding those when◌then◌else◌
  those_behind_in p l a e = those_append p l (a ∷ []) ∙ (rw e)

  pub those_behind_out : (p : A → Bool) (l : List A) (a : A) → p a ≡ false → those p (l ++ (a ∷ [])) ≡ those p l
  unfolding those when◌then◌else◌
  those_behind_out p l a e = those_append p l (a ∷ []) ∙ (rw (e, append-nil))

  -- Two filters commute.
  pub those_commute : (p q : A → Bool) (l : List A) → those p (those q l) ≡ those q (those p l)
  unfolding those when◌then◌else◌
  those_commute p q [] = refl
  those_commute p q (a ∷ l) = go (p a) (q a) refl refl (those_commute p q l)
    where
      go : (b c : Bool) → p a ≡ b → q a ≡ c → those p (those q l) ≡ those q (those p l) → those p (those q (a ∷ l)) ≡ those q (those p (a ∷ l))
      go true true e f further = rw (e, f, e, further)
      go true false e f further = rw (e, f, further)
      go false true e f further = rw (e, f, e, further)
      go false false e f further = rw (e, f, further)

  -- A filter that asks nothing new of the elements that pass the other, and one that none of them passes.
  pub those_implied : (p q : A → Bool) → ((a : A) → p a ≡ true → q a ≡ true) → (l : List A) → those p (those q l) ≡ those p l
  unfolding those when◌then◌else◌
  those_implied p q h [] = refl
  those_implied p q h (a ∷ l) = go (p a) (q a) refl refl (those_implied p q h l)
    where
      go : (b c : Bool) → p a ≡ b → q a ≡ c → those p (those q l) ≡ those p l → those p (those q (a ∷ l)) ≡ those p (a ∷ l)
      go true true e f further = rw (e, f, e, further)
      go true false e f further = absurd (false_not_true (q a) f (h a e))
      go false true e f further = rw (e, f, e, further)
      go false false e f further = rw (e, f, further)

  pub those_excluded : (p q : A → Bool) → ((a : A) → q a ≡ true → p a ≡ false) → (l : List A) → those p (those q l) ≡ []
  unfolding those when◌then◌else◌
  those_excluded p q h [] = refl
  those_excluded p q h (a ∷ l) = go (q a) refl (those_excluded p q h l)
    where
      go : (c : Bool) → q a ≡ c → those p (those q l) ≡ [] → those p (those q (a ∷ l)) ≡ []
      go true f further = rw (f, h a f, further)
      go false f further = rw (f, further)

  pub those_all : (p : A → Bool) → ((a : A) → p a ≡ true) → (l : List A) → those p l ≡ l
  unfolding those when◌then◌else◌
  those_all p h [] = refl
  those_all p h (a ∷ l) = rw (h a, those_all p h l)

  pub those_none : (p : A → Bool) → ((a : A) → p a ≡ false) → (l : List A) → those p l ≡ []
  unfolding those when◌then◌else◌
  those_none p h [] = refl
  those_none p h (a ∷ l) = rw (h a, those_none p h l)

  -- What a filter keeps and what it leaves out are together as many as the list.
  pub length_those : (p : A → Bool) (l : List A) → length (those p l) + length (those (λ a. not (p a)) l) ≡ length l
  unfolding those when◌then◌else◌
  length_those p [] = refl
  length_those p (a ∷ l) = go (p a) refl (length_those p l)
    where
      go : (b : Bool) → p a ≡ b → length (those p l) + length (those (λ x. not (p x)) l) ≡ length l
          → length (those p (a ∷ l)) + length (those (λ x. not (p x)) (a ∷ l)) ≡ length (a ∷ l)
      go true e further = rw e (omega arith)
      go false e further = rw e (omega arith)

pub those_map : {A B : Type 0} (p : B → Bool) (f : A → B) (l : List A) → those p (map f l) ≡ map f (those (λ a. p (f a)) l)
unfolding those when◌then◌else◌
those_map p f [] = refl
those_map p f (a ∷ l) = go (p (f a)) refl (those_map p f l)
  where
    go : (b : Bool) → p (f a) ≡ b → those p (map f l) ≡ map f (those (λ x. p (f x)) l)
        → those p (map f (a ∷ l)) ≡ map f (those (λ x. p (f x)) (a ∷ l))
    go true e further = rw (e, further)
    go false e further = rw (e, further)
