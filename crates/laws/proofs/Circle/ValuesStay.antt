-- A trial assigns pairs that had no value; so a value is never changed by a step.
-- A writer of the head is a new pair; a writer of the goal was followed as far as it goes, which without a circle is to an unassigned one.
use Prim.Native.Nat.{ℕ, ◌≤◌}
use mathlib.Core.Path.{◌≡◌, refl, ◌∙◌}
use mathlib.Core.Bool.{false}
use mathlib.Core.List.{List}
use mathlib.Core.Option.{none, some}
use lib.ListN.{length}
use Rattle.meaning.specs.Terms.{Half, writer, Term, Terms, variable, end, more, Named, Clause, all_renamed}
use Rattle.meaning.specs.State.{value, QueryUnit, Goal, State, unit_at}
use Rattle.meaning.specs.Compare.{Assignment, succeeds, followed}
use Rattle.meaning.specs.Circle.{circle}
use Rattle.meaning.specs.Trial.{Choice, reduces, joins_waiting, joins_failed, next_pair, compared, with_pairs, values_after, choice}
use Rattle.meaning.specs.Step.{unit_after, step}
use Rattle.meaning.specs.Run.{choice_for}
use Rattle.laws.proofs.Lists.{In, differ, each_in}
use Rattle.laws.proofs.Terms.{Beyond, all_renamed_beyond, Stands}
use Rattle.laws.proofs.Trial.{
  value_beyond,
  value_with_pairs,
  value_assigned_other,
  unit_at_set,
  reduces_by_trial,
  trial_succeeds,
  EachArgument,
  each_pair,
  table_gives,
}
use Rattle.laws.proofs.Circle.Never.{NoCircle}
use Rattle.laws.proofs.Circle.Following.{followed_unassigned}

-- Nothing is asked of each argument.
each_argument : (ts : Terms) → EachArgument (λ t. Unit {0}) ts
unfolding EachArgument
each_argument end = tt
each_argument (more t ts) = (tt, each_argument ts)

module _ (clause : Clause) (unit : QueryUnit) (goal : Named) (given : List Assignment) (no_circle : circle unit.values ≡ false)
    (agree : compared clause unit goal ≡ succeeds given) where
  -- A trial assigns pairs that had no value.
  pub given_unassigned : (a : Assignment) → In a given → value unit.values a.pair ≡ none
  unfolding Stands compared next_pair
  given_unassigned a =
      each_in (λ a. value unit.values a.pair ≡ none)
      (table_gives (Beyond n) (λ t. Unit {0}) Unassigned (λ a. value unit.values a.pair ≡ none) (followed n unit.values)
      (λ m f us new. each_pair (λ p. n ≤ p) us new)
      (λ m f ts found. each_argument ts)
      (λ t _ h p. followed_unassigned unit.values no_circle t h p)
      (λ x t new found. value_beyond unit.values x (new x refl))
      (λ z u found new. found writer z refl)
      (all_renamed n unit.compounds clause.head.arguments) goal.arguments
      (each_pair (λ p. n ≤ p) (all_renamed n unit.compounds clause.head.arguments)
      (all_renamed_beyond clause.head.arguments n unit.compounds))
      (each_argument goal.arguments)
      given agree)
    where
      n : ℕ
      n = length unit.values

      Unassigned : Term → Type 0
      Unassigned t = (h : Half) (p : ℕ) → t ≡ variable h p → value unit.values p ≡ none

  -- What had a value has it after the reduction.
  pub values_after_stay : (p : ℕ) (t : Term) → value unit.values p ≡ some t → value (values_after clause given unit) p ≡ some t
  unfolding values_after
  values_after_stay p t e =
      value_assigned_other given (with_pairs clause.pairs unit.values) p other ∙ value_with_pairs clause.pairs unit.values p ∙ e
    where
      other : (a : Assignment) → In a given → p ≡ a.pair → ⊥
      other a q f =
          let unassigned : value unit.values a.pair ≡ none = given_unassigned a q in
          differ (cc)

pub unit_after_values_stay : (clauses : List Clause) (unit : QueryUnit) (goal : Named) → circle unit.values ≡ false
    → (p : ℕ) (t : Term) → value unit.values p ≡ some t → value (unit_after (choice clauses unit goal) unit).values p ≡ some t
unfolding unit_after
unit_after_values_stay clauses unit goal no_circle p t e = go (choice clauses unit goal) refl
  where
    go : (c : Choice) → choice clauses unit goal ≡ c → value (unit_after c unit).values p ≡ some t
    go (reduces clause given) f =
        let succeeded = (reduces_by_trial unit goal clause given clauses f).1 in
        values_after_stay clause unit goal given no_circle (trial_succeeds unit goal clause given succeeded.0 succeeded.1).0 p t e
    go (joins_waiting readers) f = e
    go joins_failed f = e

-- In a state without a circle, as all states of a run are, a step leaves every value as it is.
pub step_values_stay : (clauses : List Clause) (state : State) (g : Goal) (others : List Goal) → NoCircle state
    → (place p : ℕ) (t : Term) → value (unit_at place state.units).values p ≡ some t
    → value (unit_at place (step (choice_for clauses state g) g others state).units).values p ≡ some t
unfolding step choice_for
step_values_stay clauses state g others no_circle place p t e =
    unit_at_set (λ u. value u.values p ≡ some t) state.units g.query place
    (unit_after (choice_for clauses state g) (unit_at g.query state.units))
    (λ same. unit_after_values_stay clauses (unit_at g.query state.units) g.goal (no_circle g.query) p t (rw same at e))
    e
