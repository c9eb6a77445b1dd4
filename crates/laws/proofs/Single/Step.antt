-- What every state of a run keeps of each query: the balance of its goals, and a chain from each waiting goal to each pair that it waits on.
-- A step on a goal of the query, wherever it stands in the queue, is a reduction or moves the goal; a step on another's goal leaves unit and counts as they are.
use Prim.Native.Nat.{ℕ, ◌+◌, ◌≤◌, ◌<◌}
use mathlib.Core.Path.{◌≡◌, refl, sym, ◌∙◌}
use mathlib.Core.Bool.{Bool, true, false, not}
use mathlib.Core.List.{List, [], ◌∷◌, map}
use mathlib.Core.Option.{none, some}
use native.Mathlib.Omega.{arith}
use lib.Dec.{eqb}
use lib.ListN.{length}
use borrow.Author.Tests.{eqb-true, eqb-false, eq-eqb}
use Rattle.meaning.specs.Terms.{writer, reader, Term, Terms, Named, Clause, renamed_goal, all_occurrences, goals_occurrences}
use Rattle.meaning.specs.Table.{licensed}
use Rattle.meaning.specs.State.{Values, value, QueryUnit, Goal, Waiting, Goals, State, unit_at, of}
use Rattle.meaning.specs.Compare.{Assignment, succeeds}
use Rattle.meaning.specs.Circle.{circle}
use Rattle.meaning.specs.Trial.{next_pair, compared, with_pairs, values_after, trial, procedure, Choice, reduces, joins_waiting, joins_failed, choice}
use Rattle.meaning.specs.Bytes.{among, those, when◌then◌else◌}
use Rattle.meaning.specs.Step.{unit_after, wakes, made_by, body_goals, goals_after, without_front, step}
use Rattle.meaning.specs.Run.{choice_for}
use Rattle.laws.proofs.Lists.{differ, false_not_true, in_any, in_among, each_member, In, here, there, those_member, Each, each_in, each_append, each_implies, each_of_those, TakenOut}
use Rattle.laws.proofs.Terms.{occurs_in_other}
use Rattle.laws.proofs.Trial.{reduces_by_trial, trial_succeeds, trial_guards, assigned_below, value_with_pairs, unit_at_set_same, unit_at_set_other}
use Rattle.laws.proofs.Circle.{given_unassigned}
use Rattle.laws.proofs.Reading.{ClauseOk}
use Rattle.laws.proofs.Single.Chains.{Reaches, reaches_kept, waits_reach}
use Rattle.laws.proofs.Single.Closed.{both_true, closed, closed_new, licensed_closes, given_found}
use Rattle.laws.proofs.Single.LiveValues.{Count, marks, Settled}
use Rattle.laws.proofs.Single.Assigned.{value_kept}
use Rattle.laws.proofs.Single.Balance.{Balanced, balanced_less, balanced_and_live, settled_given, values_kept}
use Rattle.laws.proofs.Single.Counting.{
  own_of,
  count_of,
  entered,
  entered_at_other,
  count_taken,
  count_reduced,
  count_waiting,
  count_failed,
}

-- The arguments of a waiting goal.
abbrev pub arguments_of : Waiting → Terms
arguments_of w = w.goal.goal.arguments

-- A waiting goal has a chain to each pair that it waits on.
abbrev pub Chained : Values → Waiting → Type 0
Chained values w = Each (λ p. Reaches values p (arguments_of w)) w.readers

-- What is kept of the query at one place.
pub record Sound (k : ℕ) (values : Values) (goals : Goals) : Type 0 where
  pub no_circle : circle values ≡ false
  pub balanced : Balanced values (count_of k goals)
  pub chained : Each (λ w. of k w.goal ≡ true → Chained values w) goals.waiting
  pub idle : Each (λ w. of k w.goal ≡ true → Each (λ p. value values p ≡ none) w.readers) goals.waiting

-- The goal that is taken, counted apart from the others.
pub balanced_taken : (values : Values) (g : Goal) (goals : Goals) (others : List Goal) → TakenOut g others goals.queue → Sound g.query values goals
    → Balanced values (λ h n. all_occurrences h n g.goal.arguments + count_of g.query (without_front others goals) h n)
unfolding of
balanced_taken values g goals others taken s =
    let k = g.query in
    balanced_less values (count_of k goals) _
    (λ h n. omega (arith, count_taken k h n goals g others taken, own_of k h n g (eq-eqb k k refl)))
    s.balanced

-- No assignment is of this pair.
unmarked : (n : ℕ) (given : List Assignment) → ((a : Assignment) → In a given → n ≡ a.pair → ⊥) → marks writer writer n given ≡ 0
unmarked n [] other = refl
unmarked n (a ∷ given) other =
    omega (arith, occurs_in_other writer writer n a.pair (other a (here refl)), unmarked n given (λ b m. other b (there m)))

-- No pair that has a value is given one.
pub given_fresh : (clause : Clause) (unit : QueryUnit) (goal : Named) (given : List Assignment) → circle unit.values ≡ false
    → compared clause unit goal ≡ succeeds given → (n : ℕ) (t : Term) → value unit.values n ≡ some t → marks writer writer n given ≡ 0
given_fresh clause unit goal given no_circle agreed n t e =
    unmarked n given (λ a m same.
    let none_before : value unit.values a.pair ≡ none = given_unassigned clause unit goal given no_circle agreed a m in
    let its : value unit.values a.pair ≡ some t = rw same at e in
    differ (cc))

-- A reduction: its trial succeeded, so no pair that has a value is given one, and the pairs of licensed readers are closed afterwards.
module _ (clause : Clause) (ok : ClauseOk clause) (unit : QueryUnit) (goal : Named) (given : List Assignment) (earlier : List ℕ)
    (succeeded : trial earlier clause unit goal ≡ succeeds given) (no_circle : circle unit.values ≡ false)
    (around : Count) (b : Balanced unit.values (λ h n. all_occurrences h n goal.arguments + around h n)) where
  agreed : compared clause unit goal ≡ succeeds given
  agreed = (trial_succeeds unit goal clause given earlier succeeded).0

  fresh : (n : ℕ) (t : Term) → value unit.values n ≡ some t → marks writer writer n given ≡ 0
  fresh = given_fresh clause unit goal given no_circle agreed

  shut : (n : ℕ) → licensed clause.guards n ≡ true → closed (values_after clause given unit) (next_pair unit + n) ≡ true
  unfolding next_pair
  shut n l =
      let after = values_after clause given unit in
      let only = licensed_closes earlier given unit.values (next_pair unit) clause.guards ok.guards_in_table
      (trial_guards unit goal clause given earlier succeeded) n l in
      let (a, m, same, holds) = given_found given unit.values (next_pair unit + n) (omega arith) only in
      let its : value after a.pair ≡ some a.value = each_in (λ a. value after a.pair ≡ some a.value) (settled_given unit clause goal given around ok agreed fresh b) m in
      let below : next_pair unit + n < length after = assigned_below after (next_pair unit + n) a.value (rw same at its) in
      closed_new unit.values after (omega (arith, below)) (values_kept unit clause goal given around ok agreed fresh b)
      (next_pair unit + n) a.value (rw same at its) holds

  pub reduction_kept : (n : ℕ) (t : Term) → value unit.values n ≡ some t → value (values_after clause given unit) n ≡ some t
  reduction_kept = values_kept unit clause goal given around ok agreed fresh b

  -- The balance is kept, and each pair that was given a value is live.
  pub reduction_balanced_and_live : (after : Balanced (values_after clause given unit)
      (λ h n. goals_occurrences h n (map (renamed_goal (next_pair unit) unit.compounds) clause.body) + around h n))
      × ((n : ℕ) → marks writer writer n given ≤ marks reader reader n after.live)
  reduction_balanced_and_live = balanced_and_live unit clause goal given around ok agreed fresh b shut

  pub reduction_balanced : Balanced (values_after clause given unit)
      (λ h n. goals_occurrences h n (map (renamed_goal (next_pair unit) unit.compounds) clause.body) + around h n)
  reduction_balanced = reduction_balanced_and_live.0

  -- Each assignment is the value of its pair.
  pub reduction_settled : Settled (values_after clause given unit) given
  reduction_settled = settled_given unit clause goal given around ok agreed fresh b

  -- A pair that is not given a value has none afterwards if it had none.
  unassigned_still : (p : ℕ) → ((a : Assignment) → In a given → p ≡ a.pair → ⊥) → value unit.values p ≡ none
      → value (values_after clause given unit) p ≡ none
  unfolding values_after
  unassigned_still p other e =
      value_kept given (with_pairs clause.pairs unit.values) p (unmarked p given other)
      ∙ value_with_pairs clause.pairs unit.values p
      ∙ e

  -- "Every waiting goal that waits on a pair assigned in this step" is woken: the others wait on pairs that still have no value.
  pub still_idle : (k : ℕ) (waiting : List Waiting)
      → Each (λ w. of k w.goal ≡ true → Each (λ p. value unit.values p ≡ none) w.readers) waiting
      → Each (λ w. of k w.goal ≡ true → Each (λ p. value (values_after clause given unit) p ≡ none) w.readers)
      (those (λ w. not (wakes k given w)) waiting)
  unfolding those wakes when◌then◌else◌
  still_idle k [] idle = tt
  still_idle k (w ∷ waiting) idle = go (wakes k given w) refl (still_idle k waiting idle.1)
    where
      others : Type 0
      others =
          Each (λ w. of k w.goal ≡ true → Each (λ p. value (values_after clause given unit) p ≡ none) w.readers)
          (those (λ w. not (wakes k given w)) waiting)

      go : (b : Bool) → wakes k given w ≡ b → others
          → Each (λ w. of k w.goal ≡ true → Each (λ p. value (values_after clause given unit) p ≡ none) w.readers)
          (those (λ w. not (wakes k given w)) (w ∷ waiting))
      go true e further = rw (e, those) further
      go false e further =
          rw (e, those) (
            (λ its_own.
                each_member _ w.readers (λ p m.
                unassigned_still p
                (λ a n same. false_not_true (wakes k given w) e
                (both_true _ _ its_own (in_any (λ a. among a.pair w.readers) n (rw (← same) (in_among m)))))
                (each_in _ (idle.0 its_own) m))),
            further,
          )

module _ (clauses : List Clause) (ok : Each ClauseOk clauses) (unit : QueryUnit) (g : Goal) (goals : Goals) (others : List Goal)
    (taken : TakenOut g others goals.queue) where
  abbrev rest : Goals
  rest = without_front others goals

  -- A step on a goal of the query.
  own_step : Sound g.query unit.values goals → (c : Choice) → choice clauses unit g.goal ≡ c
      → Sound g.query (unit_after c unit).values (goals_after c unit g (without_front others goals))
  unfolding unit_after goals_after without_front body_goals procedure
  own_step s (reduces clause given) e =
      let k = g.query in
      let (member, (earlier, succeeded)) = reduces_by_trial unit g.goal clause given clauses e in
      let clause_ok = each_in ClauseOk ok (those_member _ clauses member) in
      let b = balanced_taken unit.values g goals others taken s in
      record {
        no_circle = (trial_succeeds unit g.goal clause given earlier succeeded).1;
        balanced =
            balanced_less _ _ _
            (λ h n.
            omega (
              arith,
              count_reduced k h n clause given unit g rest,
              entered k h n (made_by clause unit) (map (renamed_goal (next_pair unit) unit.compounds) clause.body),
            ))
            (reduction_balanced clause clause_ok unit g.goal given earlier succeeded s.no_circle (count_of k rest) b);
        chained =
            each_of_those _ _ goals.waiting
            (each_implies _ _
            (λ w chains its_own.
            each_implies _ _
            (λ p. reaches_kept _ (reduction_kept clause clause_ok unit g.goal given earlier succeeded s.no_circle (count_of k rest) b))
            w.readers (chains its_own))
            goals.waiting s.chained);
        idle =
            still_idle clause clause_ok unit g.goal given earlier succeeded s.no_circle (count_of k rest) b k goals.waiting s.idle;
      }
  own_step s (joins_waiting readers) e =
      let b = balanced_taken unit.values g goals others taken s in
      let waited = waits_reach unit g.goal s.no_circle (λ h n past. omega (arith, b.below h n past)) b.values_below clauses readers e in
      record {
        no_circle = s.no_circle;
        balanced =
            balanced_less _ _ _
            (λ h n. omega (arith, count_taken g.query h n goals g others taken, count_waiting g.query h n readers unit g rest))
            s.balanced;
        chained = each_append _ goals.waiting _ s.chained ((λ its_own. each_implies _ _ (λ p (r, i). r) readers waited), tt);
        idle = each_append _ goals.waiting _ s.idle ((λ its_own. each_implies _ _ (λ p (r, i). i) readers waited), tt);
      }
  own_step s joins_failed e =
      record {
        no_circle = s.no_circle;
        balanced =
            balanced_less _ _ _
            (λ h n. omega (arith, count_taken g.query h n goals g others taken, count_failed g.query h n unit g rest))
            s.balanced;
        chained = s.chained;
        idle = s.idle;
      }

  -- A step on another query's goal.
  other_step : (k : ℕ) (values : Values) → (g.query ≡ k → ⊥) → Sound k values goals → (c : Choice)
      → Sound k values (goals_after c unit g (without_front others goals))
  unfolding goals_after without_front body_goals of
  other_step k values d s (reduces clause given) =
      record {
        no_circle = s.no_circle;
        balanced =
            balanced_less _ _ _
            (λ h n.
            omega (
              arith,
              count_taken k h n goals g others taken,
              count_reduced k h n clause given unit g rest,
              entered_at_other k h n (made_by clause unit) g.query (map (renamed_goal (next_pair unit) unit.compounds) clause.body) d,
            ))
            s.balanced;
        chained = each_of_those _ _ goals.waiting s.chained;
        idle = each_of_those _ _ goals.waiting s.idle;
      }
  other_step k values d s (joins_waiting readers) =
      record {
        no_circle = s.no_circle;
        balanced =
            balanced_less _ _ _
            (λ h n. omega (arith, count_taken k h n goals g others taken, count_waiting k h n readers unit g rest))
            s.balanced;
        chained =
            each_append _ goals.waiting _ s.chained ((λ its_own. absurd (d (eqb-true g.query k its_own))), tt);
        idle = each_append _ goals.waiting _ s.idle ((λ its_own. absurd (d (eqb-true g.query k its_own))), tt);
      }
  other_step k values d s joins_failed =
      record {
        no_circle = s.no_circle;
        balanced =
            balanced_less _ _ _
            (λ h n. omega (arith, count_taken k h n goals g others taken, count_failed k h n unit g rest))
            s.balanced;
        chained = s.chained;
        idle = s.idle;
      }

-- What is kept of a query's part of the state.
abbrev pub SoundAt : ℕ → State → Type 0
SoundAt k state = Sound k (unit_at k state.units).values state.goals

-- Each step keeps it, whichever goal of the queue it takes.
pub step_sound : (clauses : List Clause) → Each ClauseOk clauses → (state : State) (g : Goal) (others : List Goal)
    → TakenOut g others state.goals.queue → (k : ℕ) → k < length state.units → SoundAt k state
    → SoundAt k (step (choice_for clauses state g) g others state)
unfolding step choice_for
step_sound clauses ok state g others taken k inside s = go (eqb g.query k) refl
  where
    unit : QueryUnit
    unit = unit_at g.query state.units

    go : (b : Bool) → eqb g.query k ≡ b → SoundAt k (step (choice_for clauses state g) g others state)
    go true e =
        let same : g.query ≡ k = eqb-true g.query k e in
        rw (← same, unit_at_set_same state.units g.query (unit_after (choice clauses unit g.goal) unit) (rw same inside))
        (own_step clauses ok unit g state.goals others taken (rw same s) (choice clauses unit g.goal) refl)
    go false e =
        let d : g.query ≡ k → ⊥ = eqb-false g.query k e in
        rw (unit_at_set_other state.units g.query k (unit_after (choice clauses unit g.goal) unit) (λ i. d (sym i)))
        (other_step clauses ok unit g state.goals others taken k _ d s (choice clauses unit g.goal))
