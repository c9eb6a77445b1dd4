-- The first number of which something holds: none is left, or it is this one, or this one is passed; those before it may be counted in; and the same of what
-- holds of the same numbers.
use Prim.Native.Nat.{ℕ, zero, suc, ◌+◌, ◌≤◌, ◌<◌}
use mathlib.Core.Path.{◌≡◌, refl}
use native.Mathlib.Decide.{dec_lt, ℕ_discrete}
use native.Mathlib.Omega.{arith}
use Rattle.std.specs.Prelude.{Option, None, Some, IfSome}
use Rattle.term.specs.Words.{link_to}
use Rattle.run_index.specs.Index.{FirstOf}

module _ (P : ℕ → Type 0) where
  pub first_none : (from to r : ℕ) → to ≤ from → FirstOf P from to r → r ≡ 0
  first_none from to zero h f = refl
  first_none from to (suc i) h f = let (low, high, own, other) = f.one i (omega arith) in absurd (omega arith)

  pub first_here : (from to r : ℕ) → from < to → P from → FirstOf P from to r → r ≡ from + 1
  first_here from to zero h own f = absurd (f.none refl from (omega arith) h own)
  first_here from to (suc i) h own f = go (f.one i (omega arith)) (dec_lt from i)
    where
      go : (from ≤ i) × (i < to) × P i × ((k : ℕ) → from ≤ k → k < i → P k → ⊥) → Dec (from < i) → suc i ≡ from + 1
      go (low, high, at, other) (yes l) = absurd (other from (omega arith) l own)
      go (low, high, at, other) (no l) = omega arith

  pub first_itself : (from to : ℕ) → from < to → P from → FirstOf P from to (from + 1)
  first_itself from to h own = record {
    none = λ z. absurd (omega arith);
    one = λ k e. let same : k ≡ from = omega arith in (omega arith, omega arith, rw same own, λ i a b. absurd (omega arith));
  }

  pub first_passed : (from to r : ℕ) → (P from → ⊥) → FirstOf P from to r → FirstOf P (from + 1) to r
  first_passed from to r not f = record {
    none = λ e k a b. f.none e k (omega arith) b;
    one = λ k e.
        let (low, high, own, other) = f.one k e in
        (later k low own (ℕ_discrete k from), high, own, λ i a b. other i (omega arith) b);
  }
    where
      later : (k : ℕ) → from ≤ k → P k → Dec (k ≡ from) → from + 1 ≤ k
      later k low own (yes e) = absurd (not (rw e at own))
      later k low own (no e) = omega arith

  pub first_from : (from lo to r : ℕ) → from ≤ lo → ((i : ℕ) → from ≤ i → i < lo → P i → ⊥) → FirstOf P lo to r → FirstOf P from to r
  first_from from lo to r h before f = record {
    none = λ e k a b own. go k a own (λ l. f.none e k l b own) (dec_lt k lo);
    one = λ k e.
        let (low, high, at, other) = f.one k e in
        (omega arith, high, at, λ i a b own. go i a own (λ l. other i l b own) (dec_lt i lo));
  }
    where
      go : (k : ℕ) → from ≤ k → P k → (lo ≤ k → ⊥) → Dec (k < lo) → ⊥
      go k a own further (yes l) = before k a l own
      go k a own further (no l) = further (omega arith)

  pub first_empty : (to r : ℕ) → r ≡ 0 → FirstOf P to to r
  first_empty to r e = record { none = λ z k low high p. omega arith; one = λ k f. absurd (omega arith) }

pub first_map : (P Q : ℕ → Type 0) (from to r : ℕ) → ((k : ℕ) → k < to → P k → Q k) → ((k : ℕ) → k < to → Q k → P k) → FirstOf P from to r → FirstOf Q from to r
first_map P Q from to r there back f = record {
  none = λ e k low high q. f.none e k low high (back k high q);
  one = λ k e. let (low, high, p, before) = f.one k e in (low, high, there k high p, λ i l h q. before i l h (back i (omega arith) q));
}

-- A clause that is the first of some is one of them.
pub first_few : (P : ℕ → Type 0) (from to : ℕ) (first : Option ℕ) → to ≤ 128 → FirstOf P from to (link_to first) → IfSome first (λ k. k < 128)
first_few P from to None few f = tt
first_few P from to (Some k) few f = let (low, high, own, other) = f.one k refl in omega arith
