-- What the values of pairs are after one is set, after a trial's assignments, and with the pairs of a clause behind them; and a unit after one is set.
-- A pair beyond them has no value; a value after a trial was there before or was assigned by it.
use Prim.Native.Nat.{ℕ, zero, suc, ◌+◌, ◌≤◌, ◌<◌}
use mathlib.Core.Path.{◌≡◌, refl, sym, ap, ◌∙◌}
use mathlib.Core.Logic.{◌⊎◌, inl, inr, ⊎_elim, ◌≢◌}
use mathlib.Core.List.{List, [], ◌∷◌}
use mathlib.Core.Option.{Option, none, some}
use native.Mathlib.Decide.{dec_lt}
use native.Mathlib.Omega.{arith}
use lib.ListN.{length, set, replicate, length-append, length-set, length-replicate, get_or-eq_default}
use lib.Seq.{get_or-set_same, get_or-set_other}
use Rattle.meaning.specs.Terms.{Term, Clause}
use Rattle.meaning.specs.State.{Values, value, QueryUnit, unit_at, no_unit}
use Rattle.meaning.specs.Compare.{Assignment}
use Rattle.meaning.specs.Trial.{with_pairs, assigned, values_after}
use Rattle.laws.proofs.Lists.{In, here, there, differ, getD_set_either}

pub unit_at_set : (P : QueryUnit → Type 0) (units : List QueryUnit) (query place : ℕ) (unit : QueryUnit)
    → (place ≡ query → P unit) → P (unit_at place units) → P (unit_at place (set units query unit))
unfolding unit_at
unit_at_set P units query place unit new old = getD_set_either P units query unit place no_unit new old

pub unit_at_set_same : (units : List QueryUnit) (k : ℕ) (unit : QueryUnit) → k < length units → unit_at k (set units k unit) ≡ unit
unfolding unit_at
unit_at_set_same units k unit e = get_or-set_same units k unit no_unit e

pub unit_at_set_other : (units : List QueryUnit) (j k : ℕ) (unit : QueryUnit) → (k ≡ j → ⊥) → unit_at k (set units j unit) ≡ unit_at k units
unfolding unit_at
unit_at_set_other units j k unit d = get_or-set_other units j k unit no_unit d

-- A pair at or beyond the number of pairs has no value; one that has a value is below it.
pub value_beyond : (values : Values) (p : ℕ) → length values ≤ p → value values p ≡ none
unfolding value
value_beyond values p h = get_or-eq_default values none h

pub assigned_below : (values : Values) (p : ℕ) (t : Term) → value values p ≡ some t → p < length values
assigned_below values p t e = go (dec_lt p (length values))
  where
    go : Dec (p < length values) → p < length values
    go (yes h) = h
    go (no h) =
        let unassigned : value values p ≡ none = value_beyond values p (omega arith) in
        absurd (differ (cc))

-- Pairs without a value.
pub value_replicate : (n p : ℕ) → value (replicate n none) p ≡ none
unfolding value
value_replicate zero p = refl
value_replicate (suc n) zero = refl
value_replicate (suc n) (suc p) = value_replicate n p

-- The pairs of a clause are added without a value.
pub value_with_pairs : (n : ℕ) (values : Values) (p : ℕ) → value (with_pairs n values) p ≡ value values p
unfolding value with_pairs
value_with_pairs n [] p = value_replicate n p
value_with_pairs n (v ∷ values) zero = refl
value_with_pairs n (v ∷ values) (suc p) = value_with_pairs n values p

pub length_with_pairs : (n : ℕ) (values : Values) → length (with_pairs n values) ≡ length values + n
unfolding with_pairs
length_with_pairs n values = length-append values (replicate n none) ∙ ap (λ k. length values + k) (length-replicate n none)

-- Setting the value of a pair.
pub value_set_same : (values : Values) (p : ℕ) (v : Option Term) → p < length values → value (set values p v) p ≡ v
unfolding value
value_set_same values p v h = get_or-set_same values p v none h

pub value_set_other : (values : Values) (p q : ℕ) (v : Option Term) → q ≢ p → value (set values p v) q ≡ value values q
unfolding value
value_set_other values p q v d = get_or-set_other values p q v none d

pub value_set_cases : (values : Values) (p q : ℕ) (v : Option Term) (t : Term) → value (set values p v) q ≡ some t
    → ((p ≡ q) × (v ≡ some t)) ⊎ (value values q ≡ some t)
unfolding value
value_set_cases [] p q v t e = inr e
value_set_cases (w ∷ values) zero zero v t e = inl (refl, e)
value_set_cases (w ∷ values) zero (suc q) v t e = inr e
value_set_cases (w ∷ values) (suc p) zero v t e = inr e
value_set_cases (w ∷ values) (suc p) (suc q) v t e =
    ⊎_elim (λ (f, g). inl (ap suc f, g)) inr (value_set_cases values p q v t e)

-- "With the new assignments added": the number of pairs stays, and a value was there before or was assigned.
pub length_assigned : (given : List Assignment) (values : Values) → length (assigned given values) ≡ length values
unfolding assigned
length_assigned [] values = refl
length_assigned (a ∷ others) values =
    length_assigned others (set values a.pair (some a.value)) ∙ length-set values a.pair (some a.value)

pub length_values_after : (clause : Clause) (given : List Assignment) (unit : QueryUnit)
    → length (values_after clause given unit) ≡ length unit.values + clause.pairs
unfolding values_after
length_values_after clause given unit =
    length_assigned given (with_pairs clause.pairs unit.values) ∙ length_with_pairs clause.pairs unit.values

pub value_assigned_cases : (given : List Assignment) (values : Values) (p : ℕ) (t : Term) → value (assigned given values) p ≡ some t
    → ((a : Assignment) × In a given × (a.pair ≡ p) × (a.value ≡ t)) ⊎ (value values p ≡ some t)
unfolding assigned
value_assigned_cases [] values p t e = inr e
value_assigned_cases (a ∷ others) values p t e =
    go (value_assigned_cases others (set values a.pair (some a.value)) p t e)
  where
    before : value (set values a.pair (some a.value)) p ≡ some t
        → ((b : Assignment) × In b (a ∷ others) × (b.pair ≡ p) × (b.value ≡ t)) ⊎ (value values p ≡ some t)
    before f = ⊎_elim (λ (g, h). inl (a, here refl, g, cc)) inr (value_set_cases values a.pair p (some a.value) t f)

    go : ((b : Assignment) × In b others × (b.pair ≡ p) × (b.value ≡ t)) ⊎ (value (set values a.pair (some a.value)) p ≡ some t)
        → ((b : Assignment) × In b (a ∷ others) × (b.pair ≡ p) × (b.value ≡ t)) ⊎ (value values p ≡ some t)
    go (inl (b, q, f, g)) = inl (b, there q, f, g)
    go (inr f) = before f

pub value_assigned_other : (given : List Assignment) (values : Values) (p : ℕ) → ((a : Assignment) → In a given → p ≢ a.pair)
    → value (assigned given values) p ≡ value values p
unfolding assigned
value_assigned_other [] values p others_only = refl
value_assigned_other (a ∷ others) values p others_only =
    value_assigned_other others (set values a.pair (some a.value)) p (λ b q. others_only b (there q))
    ∙ value_set_other values a.pair p (some a.value) (others_only a (here refl))

-- A value after a trial is one of its assignments or was there before.
pub value_after_cases : (clause : Clause) (given : List Assignment) (unit : QueryUnit) (p : ℕ) (t : Term)
    → value (values_after clause given unit) p ≡ some t
    → ((a : Assignment) × In a given × (a.pair ≡ p) × (a.value ≡ t)) ⊎ (value unit.values p ≡ some t)
unfolding values_after
value_after_cases clause given unit p t e =
    ⊎_elim inl (λ f. inr (sym (value_with_pairs clause.pairs unit.values p) ∙ f))
    (value_assigned_cases given (with_pairs clause.pairs unit.values) p t e)
