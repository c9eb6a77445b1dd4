-- Which goal reads a pair after a reduction: what a pair's home is, where its reader stands written out.
-- Where a pair is given a value, the unassigned readers in the value are read by the goals that read the pair: by none if none reads it.
-- A new pair's reader that stands in no such value and in no goal of the body is read by none.
use Prim.Native.Nat.{ℕ, ◌+◌, ◌≤◌, ◌<◌}
use mathlib.Core.Path.{◌≡◌, refl, ap}
use mathlib.Core.Logic.{◌↔◌, ⊎_elim}
use mathlib.Core.List.{List, map}
use mathlib.Core.Option.{none, some}
use native.Mathlib.Omega.{arith}
use lib.ListN.{length}
use borrow.Author.Tests.{eq-eqb}
use Rattle.meaning.specs.Terms.{Half, reader, Term, end, more, Clause, renamed_goal, occurrences, all_occurrences, goals_occurrences}
use Rattle.meaning.specs.State.{Values, value, QueryUnit, Goal, Goals, State, unit_at, of}
use Rattle.meaning.specs.Compare.{Assignment, succeeds}
use Rattle.meaning.specs.Trial.{next_pair, values_after, trial, reduces}
use Rattle.meaning.specs.Step.{unit_after, made_by, body_goals, goals_after, without_front, step}
use Rattle.meaning.specs.Run.{choice_for}
use Rattle.laws.proofs.Lists.{In, in_sum, Each, each_in, not_beyond, TakenOut}
use Rattle.laws.proofs.Trial.{reduces_agrees, reduces_by_trial, value_after_cases, unit_at_set_same}
use Rattle.laws.proofs.Runs.Charges.{step_units}
use Rattle.laws.proofs.Reading.{ClauseOk}
use Rattle.laws.proofs.Single.Closed.{unassigned_open}
use Rattle.laws.proofs.Single.Chains.{Reaches, here, reaches_then, reaches_unheld}
use Rattle.laws.proofs.Single.Balance.{Balanced}
use Rattle.laws.proofs.Single.Counting.{together, own, own_of, count_of, sum_together, count_reduced, entered}
use Rattle.laws.proofs.Single.Step.{SoundAt, balanced_taken, reduction_balanced, reduction_settled}
use Rattle.laws.proofs.Elsewhere.Handed.{read_where_given}
use Rattle.laws.proofs.Elsewhere.StaysUnread.{Unread, UnreadAt}
use Rattle.laws.proofs.Elsewhere.Staying.{ReachedBy, each_together, together_each}

-- A reduction of a goal of the queue, wherever it stands there, in a state that is sound at its query.
module _ (clauses : List Clause) (oks : Each ClauseOk clauses) (state : State) (g : Goal) (others : List Goal) (taken : TakenOut g others state.goals.queue)
    (place : g.query < length state.units) (sound : SoundAt g.query state)
    (clause : Clause) (given : List Assignment) (chosen : choice_for clauses state g ≡ reduces clause given) where
  abbrev unit : QueryUnit
  unit = unit_at g.query state.units

  abbrev rest : Goals
  rest = without_front others state.goals

  abbrev after : Values
  after = values_after clause given unit

  abbrev goals_then : Goals
  goals_then = goals_after (reduces clause given) unit g rest

  abbrev later : State
  later = step (choice_for clauses state g) g others state

  later_values : (unit_at g.query later.units).values ≡ after
  unfolding step unit_after
  later_values = rw chosen (ap (λ (u : QueryUnit). u.values) (unit_at_set_same state.units g.query (unit_after (reduces clause given) unit) place))

  later_goals : later.goals ≡ goals_then
  unfolding step
  later_goals = rw chosen

  clause_ok : ClauseOk clause
  unfolding choice_for
  clause_ok = each_in ClauseOk oks (reduces_agrees unit g.goal clause given clauses chosen).0

  -- Its trial succeeded, behind earlier clauses that wait on some readers.
  succeeded : (earlier : List ℕ) × (trial earlier clause unit g.goal ≡ succeeds given)
  unfolding choice_for
  succeeded = (reduces_by_trial unit g.goal clause given clauses chosen).1

  balanced : Balanced unit.values (λ h n. all_occurrences h n g.goal.arguments + count_of g.query rest h n)
  balanced = balanced_taken unit.values g state.goals others taken sound

  balanced_then : Balanced after
      (λ h n. goals_occurrences h n (map (renamed_goal (next_pair unit) unit.compounds) clause.body) + count_of g.query rest h n)
  balanced_then =
      reduction_balanced clause clause_ok unit g.goal given succeeded.0 succeeded.1 sound.no_circle (count_of g.query rest) balanced

  -- Each assignment is a value.
  given_value : (a : Assignment) → In a given → value after a.pair ≡ some a.value
  given_value a m =
      each_in (λ a. value after a.pair ≡ some a.value)
      (reduction_settled clause clause_ok unit g.goal given succeeded.0 succeeded.1 sound.no_circle (count_of g.query rest) balanced) m

  -- A goal that is there after the step, and of the query, is counted.
  counted : (o : Goal) → In o (together goals_then) → o.query ≡ g.query → (h : Half) (n : ℕ)
      → all_occurrences h n o.goal.arguments
      ≤ goals_occurrences h n (map (renamed_goal (next_pair unit) unit.compounds) clause.body) + count_of g.query rest h n
  unfolding of body_goals
  counted o m its h n =
      omega (
        arith,
        in_sum (own g.query h n) m,
        sum_together (own g.query h n) goals_then,
        own_of g.query h n o (eq-eqb o.query g.query its),
        count_reduced g.query h n clause given unit g rest,
        entered g.query h n (made_by clause unit) (map (renamed_goal (next_pair unit) unit.compounds) clause.body),
      )

  -- The goals that read what a pair is given are those that read the pair. Only of an unassigned x: a reader that a guard licenses may stand several
  -- times in the body, but its pair's value is ground.
  pub sound_reads_alike : let unit = unit_at g.query state.units in
      let after = values_after clause given unit in
      (a : Assignment) → In a given → (x : ℕ) → 1 ≤ occurrences reader x a.value → value after x ≡ none
      → (o : Goal) → In o (together (goals_after (reduces clause given) unit g (without_front others state.goals))) → o.query ≡ g.query
      → Reaches after x o.goal.arguments ↔ Reaches after a.pair o.goal.arguments
  sound_reads_alike a m x inside free o present its =
      read_where_given clause clause_ok unit g.goal given succeeded.0 succeeded.1 sound.no_circle (count_of g.query rest) balanced
      a.pair x a.value (a, m, refl) (given_value a m) inside (unassigned_open after x free) o.goal.arguments (counted o present its)

  -- So a goal that reads the pair reads what it is given: the pair's home is handed on.
  pub sound_reached_by_handed_on : let later = step (choice_for clauses state g) g others state in
      let values = (unit_at g.query later.units).values in
      (a : Assignment) → In a given → (x : ℕ) → 1 ≤ occurrences reader x a.value
      → (o : Goal) → ReachedBy g.query a.pair values later.goals o → ReachedBy g.query x values later.goals o
  unfolding all_occurrences
  sound_reached_by_handed_on a m x inside o r =
      record {
        present = r.present;
        its_own = r.its_own;
        reached =
            reaches_then o.goal.arguments a.value r.reached (rw later_values (given_value a m))
            (here {ts = more a.value end} (omega arith));
      }

  -- All goals after the step, from those of the query.
  unread_then : (x : ℕ) → x < length after
      → ((o : Goal) → In o (together goals_then) → o.query ≡ g.query → ¬ Reaches after x o.goal.arguments)
      → UnreadAt g.query x later
  unread_then x old none_reads =
      record {
        place = rw (step_units (choice_for clauses state g) g others state) place;
        old = rw later_values old;
        unread = rw (later_values, later_goals) (together_each (Unread g.query x after) goals_then none_reads);
      }

  -- Where no goal reads the pair, none reads an unassigned pair of what it is given.
  pub sound_unread_handed_on : let later = step (choice_for clauses state g) g others state in
      (a : Assignment) → In a given → (x : ℕ) → 1 ≤ occurrences reader x a.value
      → value (unit_at g.query later.units).values x ≡ none
      → UnreadAt g.query a.pair later → UnreadAt g.query x later
  sound_unread_handed_on a m x inside free u =
      unread_then x (not_beyond x (length after) (λ past. omega (arith, balanced_then.values_below a.pair a.value (given_value a m) reader x past)))
      (λ o present its r.
      each_together (Unread g.query a.pair after) goals_then (rw (later_values, later_goals) at u.unread) o present its
      ((sound_reads_alike a m x inside (rw later_values at free) o present its).0 r))

  -- A new pair whose reader stands neither in what is given nor in the body: no goal reads it.
  pub sound_new_unread : let unit = unit_at g.query state.units in
      (x : ℕ) → length unit.values ≤ x → x < length (values_after clause given unit)
      → Each (λ a. occurrences reader x a.value ≡ 0) given
      → goals_occurrences reader x (map (renamed_goal (next_pair unit) unit.compounds) clause.body) ≡ 0
      → UnreadAt g.query x (step (choice_for clauses state g) g others state)
  sound_new_unread x new old not_given not_in_body =
      unread_then x old
      (λ o present its r.
      omega (
        arith,
        reaches_unheld unheld o.goal.arguments r,
        counted o present its reader x,
        balanced.below reader x new,
      ))
    where
      unheld : (q : ℕ) (u : Term) → value after q ≡ some u → occurrences reader x u ≡ 0
      unheld q u e =
          ⊎_elim (λ (a, m, p, v). rw (← v) (each_in (λ a. occurrences reader x a.value ≡ 0) not_given m))
          (λ f. balanced.values_below q u f reader x new)
          (value_after_cases clause given unit q u e)
