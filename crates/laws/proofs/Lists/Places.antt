-- What stands at one place of a list: with a default, after one place was set, and in two lists that agree there.
-- By induction on the list and the place together.
use Prim.Native.Nat.{ℕ, zero, suc, ◌<◌}
use mathlib.Core.Path.{◌≡◌, refl, ap, ◌∙◌}
use mathlib.Core.List.{List, [], ◌∷◌, ◌++◌, append_assoc}
use native.Mathlib.Nat.{not-suc-le-zero, le_of_suc-le-suc}
use native.Mathlib.Omega.{arith}
use lib.ListN.{length, get_or, get_elem?, set, take, drop}
use Rattle.meaning.specs.Bytes.{joined}
use Rattle.laws.proofs.Lists.Tests.{differ}

-- What stands at a place, with a default where nothing does.
pub get_or_from_get_elem : {A : Type 0} (l r : List A) (k : ℕ) (d : A) → get_elem? l k ≡ get_elem? r k → get_or l k d ≡ get_or r k d
get_or_from_get_elem [] [] k d e = refl
get_or_from_get_elem [] (b ∷ r) zero d e = absurd (differ (cc))
get_or_from_get_elem [] (b ∷ r) (suc k) d e = get_or_from_get_elem [] r k d e
get_or_from_get_elem (a ∷ l) [] zero d e = absurd (differ (cc))
get_or_from_get_elem (a ∷ l) [] (suc k) d e = get_or_from_get_elem l [] k d e
get_or_from_get_elem (a ∷ l) (b ∷ r) zero d e = cc
get_or_from_get_elem (a ∷ l) (b ∷ r) (suc k) d e = get_or_from_get_elem l r k d e

-- Two lists that agree at a place both have it, or neither.
pub same_place : {A : Type 0} (l r : List A) (k : ℕ) → get_elem? l k ≡ get_elem? r k → k < length l → k < length r
same_place [] r k e h = absurd (omega arith)
same_place (a ∷ l) [] zero e h = absurd (differ (cc))
same_place (a ∷ l) [] (suc k) e h = absurd (let h' : k < 0 = same_place l [] k e (omega arith) in omega arith)
same_place (a ∷ l) (b ∷ r) zero e h = omega arith
same_place (a ∷ l) (b ∷ r) (suc k) e h = let h' : k < length r = same_place l r k e (omega arith) in omega arith

-- One place of a list was set: what holds of the new element, if it is the one asked for, and of the old one holds of the element there.
pub getD_set_either : {A : Type 0} (P : A → Type 0) (l : List A) (i : ℕ) (a : A) (j : ℕ) (d : A)
    → (j ≡ i → P a) → P (get_or l j d) → P (get_or (set l i a) j d)
getD_set_either P [] i a j d new old = old
getD_set_either P (x ∷ xs) zero a zero d new old = new refl
getD_set_either P (x ∷ xs) zero a (suc j) d new old = old
getD_set_either P (x ∷ xs) (suc i) a zero d new old = old
getD_set_either P (x ∷ xs) (suc i) a (suc j) d new old = getD_set_either P xs i a j d (λ e. new (ap suc e)) old

-- All the lists one behind the other, with the one at a place.
pub joined_at : {A : Type 0} (k : ℕ) (parts : List (List A)) → k < length parts
    → joined parts ≡ joined (take k parts) ++ get_or parts k [] ++ joined (drop (suc k) parts)
unfolding joined
joined_at k [] h = absurd (not-suc-le-zero h)
joined_at zero (p ∷ ps) h = refl
joined_at (suc k) (p ∷ ps) h = ap (◌++◌ p) (joined_at k ps (le_of_suc-le-suc h)) ∙ simp append_assoc
