-- One list is a rearrangement of another: the same elements, each as often, in any order.
-- Neighbours change places, again and again; so whole lists do that stand one behind the other.
use mathlib.Core.Logic.{⊎_elim}
use mathlib.Core.List.{List, [], ◌∷◌, ◌++◌}
use Rattle.laws.proofs.Lists.Among.{In, here, there, in_cons_cases}

pub data Rearranged {A : Type 0} : List A → List A → Type 0 where
  nothing : Rearranged [] []
  behind : {a : A} {l m : List A} → Rearranged l m → Rearranged (a ∷ l) (a ∷ m)
  swapped : {a b : A} {l : List A} → Rearranged (a ∷ b ∷ l) (b ∷ a ∷ l)
  after : {k l m : List A} → Rearranged k l → Rearranged l m → Rearranged k m

module _ {A : Type 0} where
  pub rearranged_same : (l : List A) → Rearranged l l
  rearranged_same [] = nothing
  rearranged_same (a ∷ l) = behind (rearranged_same l)

  pub rearranged_back : {l m : List A} → Rearranged l m → Rearranged m l
  rearranged_back nothing = nothing
  rearranged_back (behind r) = behind (rearranged_back r)
  rearranged_back swapped = swapped
  rearranged_back (after r s) = after (rearranged_back s) (rearranged_back r)

  -- Lists one behind the other: each rearranged, or in the other order.
  rearranged_front : (k : List A) {l m : List A} → Rearranged l m → Rearranged (k ++ l) (k ++ m)
  rearranged_front [] r = r
  rearranged_front (a ∷ k) r = behind (rearranged_front k r)

  rearranged_end : {k l : List A} (m : List A) → Rearranged k l → Rearranged (k ++ m) (l ++ m)
  rearranged_end m nothing = rearranged_same m
  rearranged_end m (behind r) = behind (rearranged_end m r)
  rearranged_end m swapped = swapped
  rearranged_end m (after r s) = after (rearranged_end m r) (rearranged_end m s)

  pub rearranged_append : {k l m n : List A} → Rearranged k l → Rearranged m n → Rearranged (k ++ m) (l ++ n)
  rearranged_append {l = l} {m = m} r s = after (rearranged_end m r) (rearranged_front l s)

  moved_behind : (a : A) (l m : List A) → Rearranged (a ∷ l ++ m) (l ++ a ∷ m)
  moved_behind a [] m = rearranged_same (a ∷ m)
  moved_behind a (b ∷ l) m = after swapped (behind (moved_behind a l m))

  pub rearranged_exchange : (l m : List A) → Rearranged (l ++ m) (m ++ l)
  rearranged_exchange [] m = back_to_end m
    where
      back_to_end : (m : List A) → Rearranged m (m ++ [])
      back_to_end [] = nothing
      back_to_end (a ∷ m) = behind (back_to_end m)
  rearranged_exchange (a ∷ l) m = after (behind (rearranged_exchange l m)) (moved_behind a m l)

  -- What stands in a list stands in each rearrangement of it.
  pub rearranged_in : {a : A} {l m : List A} → Rearranged l m → In a l → In a m
  rearranged_in nothing p = p
  rearranged_in (behind r) p = ⊎_elim here (λ q. there (rearranged_in r q)) (in_cons_cases p)
  rearranged_in swapped p = ⊎_elim (λ e. there (here e)) (λ q. ⊎_elim here (λ s. there (there s)) (in_cons_cases q)) (in_cons_cases p)
  rearranged_in (after r s) p = rearranged_in s (rearranged_in r p)
