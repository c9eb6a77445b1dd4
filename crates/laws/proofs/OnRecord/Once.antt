-- Each pair is assigned at most once on the way to a state, and its value there is what it was assigned.
-- A pair that was assigned has a value, which stays, and a reduction assigns pairs that have none; so no step assigns it again.
use Prim.Native.Nat.{ℕ, ◌+◌, ◌≤◌, ◌<◌}
use mathlib.Core.Path.{◌≡◌, refl, sym}
use mathlib.Core.Logic.{⊎_elim}
use mathlib.Core.Bool.{Bool, true, false, ◌&&◌}
use mathlib.Core.List.{List, [], ◌++◌, map, append-nil}
use mathlib.Core.Option.{Option, none, some}
use native.Mathlib.Omega.{arith}
use lib.Dec.{eqb}
use lib.ListN.{length}
use borrow.Author.Tests.{eqb-true}
use Rattle.meaning.specs.Bytes.{when◌then◌else◌}
use Rattle.meaning.specs.Terms.{writer, Term, variable, Clause, Job, same_half, occurrences}
use Rattle.meaning.specs.State.{value, QueryUnit, Goal, State, unit_at}
use Rattle.meaning.specs.Compare.{Assignment}
use Rattle.meaning.specs.Trial.{Choice, reduces, joins_waiting, joins_failed, values_after}
use Rattle.meaning.specs.Step.{unit_after, step}
use Rattle.meaning.specs.Run.{choice_for}
use Rattle.laws.proofs.Lists.{
  differ,
  and_left,
  and_right,
  In,
  in_map,
  in_same,
  in_append_left,
  in_append_right,
  Each,
  each_in,
  each_append,
  each_implies,
  each_map,
  each_member,
  sum,
  sum_append,
  sum_map,
  sum_no_greater,
  sum_of_none,
  TakenOut,
  taken_each,
}
use Rattle.laws.proofs.Trial.{reduces_agrees, value_after_cases, unit_at_set, unit_at_set_same}
use Rattle.laws.proofs.Circle.{given_unassigned, step_values_stay}
use Rattle.laws.proofs.Reading.{ClauseOk, JobOk}
use Rattle.laws.proofs.Single.LiveValues.{marks}
use Rattle.laws.proofs.Single.Balance.{given_once, settled_given}
use Rattle.laws.proofs.Single.Step.{balanced_taken, given_fresh}
use Rattle.laws.proofs.Single.FailedGoals.{Steady}
use Rattle.laws.proofs.OnRecord.Log.{Made, made_by}

-- Whether it is the pair n of the query at place k that is assigned, as a number.
abbrev pub assigns : ℕ → ℕ → Made → ℕ
assigns k n m = when eqb m.query k && eqb n m.pair then 1 else 0

-- The value of that pair.
abbrev pub value_of : State → ℕ → ℕ → Option Term
value_of state k n = value (unit_at k state.units).values n

pub record AssignedOnceSoFar (state : State) (made : List Made) : Type 0 where
  pub at_most_once : (k n : ℕ) → sum (assigns k n) made ≤ 1
  pub made_is_value : Each (λ m. value_of state m.query m.pair ≡ some m.value) made
  pub value_is_made : (k n : ℕ) (t : Term) → value_of state k n ≡ some t → In (record { query = k; pair = n; value = t }) made

-- An assignment of another pair.
assigns_none : (k n : ℕ) (m : Made) → (m.query ≡ k → m.pair ≡ n → ⊥) → assigns k n m ≡ 0
unfolding when◌then◌else◌
assigns_none k n m other = go (eqb m.query k && eqb n m.pair) refl
  where
    go : (b : Bool) → (eqb m.query k && eqb n m.pair) ≡ b → assigns k n m ≡ 0
    go true e =
        absurd (other (eqb-true m.query k (and_left (eqb m.query k) (eqb n m.pair) e))
        (sym (eqb-true n m.pair (and_right (eqb m.query k) (eqb n m.pair) e))))
    go false e = rw e

-- It is no more than the number of times that the pair's writer stands in what is assigned, by which reductions are counted.
assigns_few : (k n : ℕ) (m : Made) → assigns k n m ≤ occurrences writer n (variable writer m.pair)
unfolding when◌then◌else◌ occurrences same_half
assigns_few k n m = go (eqb m.query k) refl
  where
    go : (b : Bool) → eqb m.query k ≡ b → assigns k n m ≤ occurrences writer n (variable writer m.pair)
    go true e = rw e (omega arith)
    go false e = rw e (omega arith)

-- A step on the goal g, at any place of the queue.
module _ (job : Job) (ok : JobOk job) (state : State) (g : Goal) (others : List Goal) (taken : TakenOut g others state.goals.queue)
    (s : Steady job state) where
  abbrev unit : QueryUnit
  unit = unit_at g.query state.units

  placed : g.query < length state.units
  placed = (taken_each _ taken s.summed.placed.queue).0

  -- A reduction: its assignments are of pairs without a value, no two of one pair, and are values afterwards.
  pub record Gives (clause : Clause) (given : List Assignment) : Type 0 where
    pub unassigned : (a : Assignment) → In a given → value unit.values a.pair ≡ none
    pub once : (n : ℕ) → marks writer writer n given ≤ 1
    pub settles : Each (λ a. value (values_after clause given unit) a.pair ≡ some a.value) given

  reduction_gives : (clause : Clause) (given : List Assignment) → choice_for job.clauses state g ≡ reduces clause given → Gives clause given
  unfolding choice_for
  reduction_gives clause given e =
      let (member, agrees) = reduces_agrees unit g.goal clause given job.clauses e in
      let clause_ok = each_in ClauseOk ok.clauses_ok member in
      let no_circle = s.no_circle g.query in
      let fresh = given_fresh clause unit g.goal given no_circle agrees in
      let b = balanced_taken unit.values g state.goals others taken (s.sound.sound g.query (rw s.sound.units at placed)) in
      record {
        unassigned = given_unassigned clause unit g.goal given no_circle agrees;
        once = given_once unit clause g.goal given _ clause_ok agrees fresh b;
        settles = settled_given unit clause g.goal given _ clause_ok agrees fresh b;
      }

  module _ (made : List Made) (so_far : AssignedOnceSoFar state made) where
    abbrev with_query : Assignment → Made
    with_query a = record { query = g.query; pair = a.pair; value = a.value }

    -- What was assigned is assigned still.
    old_stay : Each (λ m. value_of (step (choice_for job.clauses state g) g others state) m.query m.pair ≡ some m.value) made
    old_stay =
        each_implies _ _ (λ m e. step_values_stay job.clauses state g others s.no_circle m.query m.pair m.value e) made
        so_far.made_is_value

    once_next : (clause : Clause) (given : List Assignment) → Gives clause given
        → (k n : ℕ) (o : Option Term) → value_of state k n ≡ o → sum (assigns k n) made + sum (assigns k n) (map with_query given) ≤ 1
    once_next clause given gives k n none e =
        let none_so_far = sum_of_none (assigns k n) made
        (each_implies _ _ (λ m f. assigns_none k n m (λ q p. differ (cc))) made so_far.made_is_value) in
        omega (
          arith,
          none_so_far,
          sum_map (assigns k n) with_query given,
          sum_no_greater (λ a. assigns k n (with_query a)) (λ a. occurrences writer n (variable writer a.pair)) (λ a. assigns_few k n (with_query a)) given,
          gives.once n,
        )
    once_next clause given gives k n (some t) e =
        let none_now = sum_of_none (λ a. assigns k n (with_query a)) given
        (each_member _ given (λ a m. assigns_none k n (with_query a)
        (λ q p. let free : value unit.values a.pair ≡ none = gives.unassigned a m in differ (cc)))) in
        omega (arith, none_now, sum_map (assigns k n) with_query given, so_far.at_most_once k n)

    -- A value after the step was one before it, or is made by it.
    made_next : (c : Choice) (k n : ℕ) (t : Term)
        → (value (unit_after c unit).values n ≡ some t → In (record { query = g.query; pair = n; value = t }) (made ++ made_by g.query c))
        → value_of (step c g others state) k n ≡ some t → In (record { query = k; pair = n; value = t }) (made ++ made_by g.query c)
    unfolding step
    made_next c k n t new =
        unit_at_set (λ u. value u.values n ≡ some t → In (record { query = k; pair = n; value = t }) (made ++ made_by g.query c))
        state.units g.query k (unit_after c unit)
        (λ same. rw same new)
        (λ e. in_append_left (made_by g.query c) (so_far.value_is_made k n t e))

    after : (c : Choice) → choice_for job.clauses state g ≡ c → AssignedOnceSoFar (step c g others state) (made ++ made_by g.query c)
    unfolding step unit_after made_by
    after (reduces clause given) e =
        let gives = reduction_gives clause given e in
        let stay = rw e at old_stay in
        record {
          at_most_once = λ k n. omega (arith, sum_append (assigns k n) made (map with_query given), once_next clause given gives k n (value_of state k n) refl);
          made_is_value =
              each_append _ made (map with_query given) stay
              (each_map _ with_query given
              (each_implies _ _ (λ a f. rw (unit_at_set_same state.units g.query (unit_after (reduces clause given) unit) placed) f) given gives.settles));
          value_is_made = λ k n t.
              made_next (reduces clause given) k n t
              (λ f. ⊎_elim
              (λ (a, m, p, q). in_append_right made (in_same (cc) (in_map with_query m)))
              (λ before. in_append_left (map with_query given) (so_far.value_is_made g.query n t before))
              (value_after_cases clause given unit n t f));
        }
    after (joins_waiting readers) e =
        let stay = rw e at old_stay in
        record {
          at_most_once = λ k n. rw (append-nil made) (so_far.at_most_once k n);
          made_is_value = rw (append-nil made) stay;
          value_is_made = λ k n t. made_next (joins_waiting readers) k n t (λ f. in_append_left [] (so_far.value_is_made g.query n t f));
        }
    after joins_failed e =
        let stay = rw e at old_stay in
        record {
          at_most_once = λ k n. rw (append-nil made) (so_far.at_most_once k n);
          made_is_value = rw (append-nil made) stay;
          value_is_made = λ k n t. made_next joins_failed k n t (λ f. in_append_left [] (so_far.value_is_made g.query n t f));
        }

    pub step_assigns_once_so_far : AssignedOnceSoFar (step (choice_for job.clauses state g) g others state)
        (made ++ made_by g.query (choice_for job.clauses state g))
    step_assigns_once_so_far = after (choice_for job.clauses state g) refl
