-- "One writer, one reader, nothing dropped" (02, T-11): for every accepted text, of every state of every run of its job, under any budget, in any room.
-- The parts stand in one record, and the theorem under one name, `text_on_record`; it is derived from what a step keeps at any place of the queue.
-- Read `OnRecord` first, then the theorem at the end; Example has one job at each of its budgets.
pub mod Log
pub mod Together
pub mod Once
pub mod Example
use Prim.Native.Nat.{ℕ, suc, ◌+◌, ◌≤◌}
use mathlib.Core.Path.{◌≡◌, refl}
use mathlib.Core.Logic.{◌↔◌}
use mathlib.Core.List.{List, [], ◌∷◌}
use mathlib.Core.Option.{some}
use native.Mathlib.Omega.{arith}
use lib.ListN.{length, length-append, length-map}
use Rattle.meaning.specs.Bytes.{Bytes}
use Rattle.meaning.specs.Terms.{Half, Term, Clause, Query, Job}
use Rattle.meaning.specs.Items.{job, reading}
use Rattle.meaning.specs.State.{Room, Goal, State, number_of, unit_at, goals_at, all_goals, start}
use Rattle.meaning.specs.Compare.{Assignment}
use Rattle.meaning.specs.Trial.{reduces}
use Rattle.meaning.specs.Run.{choice_for, run}
use Rattle.laws.proofs.Lists.{differ, In, each_in, sum, sum_append, TakenOut}
use Rattle.laws.proofs.Runs.{Reached, reached_keeps}
use Rattle.laws.proofs.Runs.Dropped.{clause_taken, body_goals_of, step_drops_none}
use Rattle.laws.proofs.Circle.{NoCircle, step_no_circle, step_values_stay}
use Rattle.laws.proofs.Circle.Never.{first_value}
use Rattle.laws.proofs.Reading.{JobOk, accepted_keeps_the_occurrence_rules}
use Rattle.laws.proofs.AnyPlace.{taken_assigns_once}
use Rattle.laws.proofs.Single.{AssignedOnce, sound_single}
use Rattle.laws.proofs.Single.Counting.{together}
use Rattle.laws.proofs.Single.FailedGoals.{reached_steady}
use Rattle.laws.proofs.OnRecord.Log.{Made, Logged, nothing_yet, one_more, logged_reached, taken_in_run, made_in_run, run_logged}
use Rattle.laws.proofs.OnRecord.Together.{times_in, written_once_together}
use Rattle.laws.proofs.OnRecord.Once.{assigns, value_of, AssignedOnceSoFar, step_assigns_once_so_far}

-- What is on record of a state, with the clauses taken on the way to it, one for each reduction made, and the assignments made there.
pub record OnRecord (j : Job) (figures : Room) (state : State) (taken : List Clause) (made : List Made) : Type 0 where
  -- "All goals written out with every assignment applied hold no writer and no reader twice": active, waiting and failed, of all queries together.
  pub no_half_twice : (k : ℕ) (h : Half) (n : ℕ) → sum (times_in state k h n) (together state.goals) ≤ 1
  -- "Each pair is assigned at most once": among all the assignments made; and its value is the one that was.
  pub assigned_at_most_once : (k n : ℕ) → sum (assigns k n) made ≤ 1
  pub value_is_the_assignment : (k n : ℕ) (t : Term) → (value_of state k n ≡ some t) ↔ In (record { query = k; pair = n; value = t }) made
  -- For a reduction assigns only pairs without a value, and none twice, whichever goal is taken next; and values stay, whatever goals are taken.
  pub reduction_assigns_unassigned : (g : Goal) (others : List Goal) → TakenOut g others state.goals.queue
      → (clause : Clause) (given : List Assignment) → choice_for j.clauses state g ≡ reduces clause given
      → AssignedOnce (unit_at g.query state.units).values clause.pairs given
  pub values_stay : (later : State) → Reached j.clauses figures state later
      → (k n : ℕ) (t : Term) → value_of state k n ≡ some t → value_of later k n ≡ some t
  -- "Active, waiting and failed goals together number the query goals plus the body goals of the reductions made, less one for each reduction."
  pub nothing_dropped : number_of state.goals + length taken ≡ sum (λ q. length q.goals) j.queries + sum (λ c. length c.body) taken

-- Before the first step: the query goals, and no pair has a value.
all_goals_number : (place : ℕ) (queries : List Query) → length (all_goals place queries) ≡ sum (λ q. length q.goals) queries
unfolding all_goals goals_at
all_goals_number place [] = refl
all_goals_number place (q ∷ queries) = simp (length-append, length-map) (omega (arith, all_goals_number (suc place) queries))

start_number : (queries : List Query) → number_of (start queries).goals ≡ sum (λ q. length q.goals) queries
unfolding number_of start
start_number queries = omega (arith, all_goals_number 0 queries)

start_unassigned : (queries : List Query) (k n : ℕ) (t : Term) → value_of (start queries) k n ≡ some t → ⊥
unfolding start
start_unassigned queries k n t e = let first = first_value queries k n in differ (cc)

module _ (j : Job) (ok : JobOk j) (figures : Room) where
  -- Along a log: each pair is assigned at most once, and no goal is dropped.
  logged_once : {state : State} {taken : List Clause} {made : List Made}
      → Logged j.clauses figures (start j.queries) state taken made → AssignedOnceSoFar state made
  logged_once nothing_yet =
      record {
        at_most_once = λ k n. omega arith;
        made_is_value = tt;
        value_is_made = λ k n t e. absurd (start_unassigned j.queries k n t e);
      }
  logged_once (one_more {state} {made = made} g others l t fit) =
      step_assigns_once_so_far j ok state g others t (reached_steady j ok figures state (logged_reached l)) made (logged_once l)

  logged_drops_none : {state : State} {taken : List Clause} {made : List Made} → Logged j.clauses figures (start j.queries) state taken made
      → number_of state.goals + length taken ≡ sum (λ q. length q.goals) j.queries + sum (λ c. length c.body) taken
  unfolding body_goals_of
  logged_drops_none nothing_yet = omega (arith, start_number j.queries)
  logged_drops_none (one_more {state} {taken = taken} g others l t fit) =
      let now = clause_taken (choice_for j.clauses state g) in
      omega (
        arith,
        logged_drops_none l,
        step_drops_none (choice_for j.clauses state g) g others state t,
        length-append taken now,
        sum_append (λ c. length c.body) taken now,
      )

  -- Values stay, whatever goals are taken.
  reached_values_stay : (state later : State) → NoCircle state → Reached j.clauses figures state later
      → (k n : ℕ) (t : Term) → value_of state k n ≡ some t → value_of later k n ≡ some t
  reached_values_stay state later none_now r =
      (reached_keeps j.clauses figures (λ later. NoCircle later × ((k n : ℕ) (t : Term) → value_of state k n ≡ some t → value_of later k n ≡ some t))
      (λ before g others taken fit (no_circle, stays). (
        step_no_circle j.clauses before g others no_circle,
        λ k n t e. step_values_stay j.clauses before g others no_circle k n t (stays k n t e),
      ))
      r (none_now, λ k n t e. e)).1

  logged_on_record : (state : State) (taken : List Clause) (made : List Made)
      → Logged j.clauses figures (start j.queries) state taken made → OnRecord j figures state taken made
  logged_on_record state taken made l =
      let s = reached_steady j ok figures state (logged_reached l) in
      let so_far = logged_once l in
      record {
        no_half_twice = λ k h n.
            written_once_together state k h n (length state.units) s.summed.placed
            (λ i inside. sound_single i state (s.sound.sound i (rw s.sound.units at inside)));
        assigned_at_most_once = so_far.at_most_once;
        value_is_the_assignment = λ k n t. (
          so_far.value_is_made k n t,
          λ m. each_in (λ m. value_of state m.query m.pair ≡ some m.value) so_far.made_is_value m,
        );
        reduction_assigns_unassigned = λ g others t. taken_assigns_once j figures ok state g others t s.sound s.summed s.no_circle;
        values_stay = λ later. reached_values_stay state later s.no_circle;
        nothing_dropped = logged_drops_none l;
      }

module _ (text : Bytes) (j : Job) (reads : reading text ≡ job j) (figures : Room) where
  -- One writer, one reader, nothing dropped: in the state in which the run with any budget ends. These are all the states of all runs: with no budget a
  -- run ends before its first step (`no_steps`), one step more ends it behind the next step (`run_steps_on`), and a larger budget goes on from there
  -- (`run_goes_on`).
  pub text_on_record : (limit : ℕ) → OnRecord j figures (run j limit figures).state (taken_in_run j limit figures) (made_in_run j limit figures)
  text_on_record limit =
      logged_on_record j (accepted_keeps_the_occurrence_rules text j reads) figures (run j limit figures).state
      (taken_in_run j limit figures) (made_in_run j limit figures) (run_logged j limit figures)

  -- And in every state that is reached by taking goals at any places of the queues.
  pub text_on_record_at_any_places : (state : State) (taken : List Clause) (made : List Made)
      → Logged j.clauses figures (start j.queries) state taken made → OnRecord j figures state taken made
  text_on_record_at_any_places = logged_on_record j (accepted_keeps_the_occurrence_rules text j reads) figures
