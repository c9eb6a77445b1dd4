-- Counts that are set one by one: those below an index are done, the others are left, and the places before them stay.
use Prim.Native.Nat.{ℕ, ◌+◌, ◌-◌, ◌≤◌, ◌<◌}
use mathlib.Core.Path.{◌≡◌, refl, ◌∙◌}
use mathlib.Core.List.{List}
use mathlib.Core.Logic.{⊎_elim}
use native.Mathlib.Nat.{eq-or-lt_of_le}
use native.Mathlib.Omega.{arith}
use lib.ListN.{length, get_or, set, length-set}
use lib.Seq.{get_or-set_same, get_or-set_other}

pub record Halfway (f : ℕ → ℕ) (table₀ table : List ℕ) (i : ℕ) : Type 0 where
  pub size : length table ≡ 64
  pub low : 32 ≤ i
  pub high : i ≤ 64
  pub done : (j : ℕ) → 32 ≤ j → j < i → get_or table j 0 ≡ f j
  pub left : (j : ℕ) → i ≤ j → get_or table j 0 ≡ get_or table₀ j 0
  pub first : (j : ℕ) → j < 32 → get_or table j 0 ≡ get_or table₀ j 0

pub halfway_none : (f : ℕ → ℕ) (table₀ : List ℕ) → length table₀ ≡ 64 → Halfway f table₀ table₀ 32
halfway_none f table₀ e = record {
  size = e;
  low = omega arith;
  high = omega arith;
  done = λ j l h. absurd (omega arith);
  left = λ j l. refl;
  first = λ j l. refl;
}

pub halfway_next : (f : ℕ → ℕ) (table₀ table : List ℕ) (i v : ℕ) → Halfway f table₀ table i → i < 64 → v ≡ f i → Halfway f table₀ (set table i v) (i + 1)
halfway_next f table₀ table i v h l e = record {
  size = length-set table i v ∙ h.size;
  low = omega (arith, h.low);
  high = omega arith;
  done = λ j low high.
      let below : j ≤ i = omega arith in
      ⊎_elim
      (λ (same : j ≡ i). rw same (get_or-set_same table i v 0 (omega (arith, h.size)) ∙ e))
      (λ (less : j < i). get_or-set_other table i j v 0 (λ q. omega arith) ∙ h.done j low less)
      (eq-or-lt_of_le below);
  left = λ j low. get_or-set_other table i j v 0 (λ q. omega arith) ∙ h.left j (omega arith);
  first = λ j low. get_or-set_other table i j v 0 (λ q. omega (arith, h.low)) ∙ h.first j low;
}

-- What is known of each count by its own number, by its place.
pub by_place : (P : ℕ → Type 0) → ((k : ℕ) → k < 32 → P (32 + k)) → (i : ℕ) → 32 ≤ i → i < 64 → P i
by_place P h i low high =
    let at : 32 + (i - 32) ≡ i = omega arith in
    rw at at (h (i - 32) (omega arith))
