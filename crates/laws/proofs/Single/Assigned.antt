-- The values after a reduction: those before it, nothing for the clause's own pairs, and the new assignments.
-- If each pair given a value had none and is in range, and none is given one twice, then each new assignment is a value, and each old value stays.
use Prim.Native.Nat.{ℕ, ◌≤◌, ◌<◌}
use mathlib.Core.Path.{◌≡◌, ◌∙◌}
use mathlib.Core.Logic.{⊎_elim}
use mathlib.Core.List.{List, [], ◌∷◌}
use mathlib.Core.Option.{some}
use native.Mathlib.Omega.{arith}
use lib.ListN.{length, set, length-set}
use Rattle.meaning.specs.Terms.{Half, writer, Term, variable, occurrences}
use Rattle.meaning.specs.State.{Values, value}
use Rattle.meaning.specs.Compare.{Assignment}
use Rattle.meaning.specs.Trial.{assigned}
use Rattle.laws.proofs.Lists.{In, in_sum, not_beyond}
use Rattle.laws.proofs.Terms.{occurs_itself}
use Rattle.laws.proofs.Trial.{value_assigned_cases, value_assigned_other, value_set_same}
use Rattle.laws.proofs.Single.LiveValues.{held, marks, Settled}

-- A pair given no value has the value that it had.
pub value_kept : (given : List Assignment) (values : Values) (n : ℕ) → marks writer writer n given ≡ 0 → value (assigned given values) n ≡ value values n
value_kept given values n e =
    value_assigned_other given values n
    (λ a m d. let i : occurrences writer n (variable writer a.pair) ≡ 1 = rw (← d) (occurs_itself writer n) in
    omega (arith, in_sum (λ a. occurrences writer n (variable writer a.pair)) m))

-- Each new assignment is a value.
pub settled_after : (given : List Assignment) (values : Values) → ((n : ℕ) → marks writer writer n given ≤ 1)
    → ((n : ℕ) → length values ≤ n → marks writer writer n given ≡ 0)
    → Settled (assigned given values) given
unfolding value assigned
settled_after [] values once inside = tt
settled_after (a ∷ given) values once inside =
    let with_a = set values a.pair (some a.value) in
    let itself = occurs_itself writer a.pair in
    let here : a.pair < length values = not_beyond a.pair (length values) (λ e. omega (arith, inside a.pair e)) in (
      value_kept given with_a a.pair (omega (arith, once a.pair))
          ∙ value_set_same values a.pair (some a.value) here,
      settled_after given with_a (λ n. omega (arith, once n)) (λ n e. omega (arith, inside n (rw length-set at e))),
    )

-- A value after the reduction was one before it, or is given by it.
pub data After (given : List Assignment) (values : Values) (n : ℕ) (t : Term) : Type 0 where
  before : value values n ≡ some t → After given values n t
  new : 1 ≤ marks writer writer n given → ((h : Half) (m : ℕ) → occurrences h m t ≤ held h m given) → After given values n t

pub value_after : (given : List Assignment) (values : Values) (n : ℕ) (t : Term) → value (assigned given values) n ≡ some t → After given values n t
value_after given values n t e = ⊎_elim given_now before (value_assigned_cases given values n t e)
  where
    given_now : (a : Assignment) × In a given × (a.pair ≡ n) × (a.value ≡ t) → After given values n t
    given_now (a, m, p, q) =
        let i : occurrences writer n (variable writer a.pair) ≡ 1 = rw p (occurs_itself writer n) in
        new (omega (arith, in_sum (λ a. occurrences writer n (variable writer a.pair)) m))
        (λ h k. rw (← q) (in_sum (λ a. occurrences h k a.value) m))
