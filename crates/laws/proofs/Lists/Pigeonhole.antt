-- A list without repetition of numbers below n has at most n of them.
-- Each of its numbers is taken out of another list that holds them all, which so loses one for each.
use Prim.Native.Nat.{ℕ, suc, ◌≤◌, ◌<◌, zero-le}
use mathlib.Core.Path.{◌≡◌, refl, sym, ap, subst, ◌∙◌}
use mathlib.Core.Logic.{⊎_elim}
use mathlib.Core.List.{List, [], ◌∷◌, ◌++◌}
use native.Mathlib.Omega.{arith}
use lib.ListN.{length}
use Rattle.meaning.specs.Bytes.{up_to}
use Rattle.laws.proofs.Lists.Among.{
  In,
  here,
  there,
  in_append_cases,
  in_cons_cases,
  in_none,
  in_same,
  in_single,
  up_to_length,
  below_in_up_to,
}

-- A list without repetition.
unfoldable pub Distinct : {A : Type 0} → List A → Type 0
Distinct [] = Unit {0}
Distinct (a ∷ l) = (In a l → ⊥) × Distinct l

-- One more behind it, that does not stand in it.
pub distinct_last : {A : Type 0} (l : List A) (a : A) → Distinct l → (In a l → ⊥) → Distinct (l ++ (a ∷ []))
unfolding Distinct
distinct_last [] a d new = (in_none, tt)
distinct_last (b ∷ l) a d new = (
  λ m. ⊎_elim d.0 (λ e. new (here (sym (in_single e)))) (in_append_cases l m),
  distinct_last l a d.1 (λ m. new (there m)),
)

-- A list without one that stands in it: it is one shorter, and holds all others.
taken_out : {n : ℕ} {l : List ℕ} → In n l
    → (rest : List ℕ) × (length l ≡ suc (length rest)) × ((m : ℕ) → In m l → (m ≡ n → ⊥) → In m rest)
taken_out {n} (here {x = k} {xs = ks} e) = (ks, refl, λ m p d. ⊎_elim (λ f. absurd (d (f ∙ sym e))) (λ q. q) (in_cons_cases p))
taken_out {n} (there {x = k} {xs = ks} p) =
    let (rest, shorter, others) = taken_out p in
    (k ∷ rest, ap suc shorter, λ m q d. ⊎_elim here (λ r. there (others m r d)) (in_cons_cases q))

pub subset_length : (l whole : List ℕ) → Distinct l → ((m : ℕ) → In m l → In m whole) → length l ≤ length whole
unfolding Distinct
subset_length [] whole d inside = zero-le
subset_length (n ∷ ns) whole d inside =
    let (rest, shorter, others) = taken_out (inside n (here refl)) in
    let fewer : length ns ≤ length rest = subset_length ns rest d.1 (λ m p. others m (inside m (there p)) (λ e. d.0 (in_same (sym e) p))) in
    omega arith

-- Numbers below n without repetition are at most n.
pub pigeonhole : (n : ℕ) (l : List ℕ) → Distinct l → ((m : ℕ) → In m l → m < n) → length l ≤ n
pigeonhole n l d below = subst (λ k. length l ≤ k) (up_to_length n) (subset_length l (up_to n) d (λ m p. below_in_up_to n m (below m p)))
