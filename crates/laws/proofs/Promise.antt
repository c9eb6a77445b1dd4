-- The laws joined, with no hypothesis left over but that a text is accepted or that a call ran.
-- What the reader guarantees of every accepted text discharges what the laws of a run ask of its job.
use Prim.Native.Nat.{ℕ, ◌≤◌, ◌<◌}
use mathlib.Core.Path.{◌≡◌, refl, ap}
use mathlib.Core.Logic.{◌⊎◌, ⊎_elim}
use mathlib.Core.Bool.{true}
use mathlib.Core.List.{List, ◌∷◌, ◌++◌, map}
use mathlib.Core.Option.{some}
use native.Mathlib.Omega.{arith}
use lib.Dec.{ltb}
use lib.ListN.{length}
use borrow.Author.Tests.{eq-eqb}
use Rattle.meaning.specs.Bytes.{Bytes, among, any, those, up_to}
use Rattle.meaning.specs.Terms.{Half, Term, Clause, Job, occurrences, all_occurrences, as_term}
use Rattle.meaning.specs.Items.{job, reading}
use Rattle.meaning.specs.State.{Room, value, Goal, Waiting, unit_at, of, goals_of, part_of}
use Rattle.meaning.specs.Compare.{Assignment, succeeds}
use Rattle.meaning.specs.Circle.{circle_at, circle}
use Rattle.meaning.specs.Trial.{compared, values_after, reduces}
use Rattle.meaning.specs.Step.{step}
use Rattle.meaning.specs.Run.{choice_for, run}
use Rattle.meaning.specs.Call.{Given, ran, call}
use Rattle.laws.proofs.Lists.{In, here, in_append_left, in_map, in_those, each_in, each_implies}
use Rattle.laws.proofs.Runs.{run_placed, Comes, run_goals_come}
use Rattle.laws.proofs.Runs.AllGoals.{EachGoal}
use Rattle.laws.proofs.Circle.{run_no_circle, circle_by_assignments, circle_by_pairs, assigns}
use Rattle.laws.proofs.Reading.{JobOk, accepted_keeps_the_occurrence_rules, clause_numbered}
use Rattle.laws.proofs.Single.{
  SingleOccurrence,
  AssignedOnce,
  FailedFail,
  single_occurrence,
  no_two_wait_on_one_pair,
  reduction_assigns_once,
  value_stays,
  run_failed_goals_fail_again,
}
use Rattle.laws.proofs.Circle.Starts.{Assigns}
use Rattle.laws.proofs.Elsewhere.{NotHere, circle_by_readers_here}
use Rattle.laws.proofs.Report.{tries_shown}
use Rattle.laws.proofs.Call.{ran_read_a_job}
use Rattle.laws.proofs.Own.{
  Alike,
  TextsAlike,
  texts_alike_jobs_alike,
  section_shown,
  rest_shown,
  left_by,
  same_tries_shown_same_section,
  both_rest_shown_same_section,
}

-- An accepted text, and any state of the run of its job: every budget ends a run in a state, and every state of a run is where one ends.
module _ (text : Bytes) (j : Job) (reads : reading text ≡ job j) (limit : ℕ) (figures : Room) where
  rules : JobOk j
  rules = accepted_keeps_the_occurrence_rules text j reads

  -- Single occurrence: with every assignment applied, the goals of a query together hold no writer twice and no reader twice.
  pub text_single_occurrence : (k : ℕ) → k < length j.queries → SingleOccurrence (part_of k (run j limit figures).state)
  text_single_occurrence = single_occurrence j rules limit figures

  -- No two waiting goals of one query wait on one pair: an assignment wakes at most one goal.
  pub text_no_two_wait_on_one_pair : (p : ℕ) (first between behind : List Waiting) (v w : Waiting)
      → (run j limit figures).state.goals.waiting ≡ first ++ v ∷ between ++ w ∷ behind
      → v.goal.query ≡ w.goal.query
      → among p v.readers ≡ true → among p w.readers ≡ true
      → ⊥
  text_no_two_wait_on_one_pair = no_two_wait_on_one_pair j rules limit figures

  -- Each pair is assigned at most once: a reduction assigns pairs that have no value, and none of them twice.
  pub text_reduction_assigns_once : (g : Goal) (others : List Goal) → (run j limit figures).state.goals.queue ≡ g ∷ others
      → (clause : Clause) (given : List Assignment) → choice_for j.clauses (run j limit figures).state g ≡ reduces clause given
      → AssignedOnce (unit_at g.query (run j limit figures).state.units).values clause.pairs given
  text_reduction_assigns_once = reduction_assigns_once j rules limit figures

  -- And a value once given stays, whatever step follows.
  pub text_value_stays : (g : Goal) (others : List Goal) → (run j limit figures).state.goals.queue ≡ g ∷ others
      → (k : ℕ) → k < length j.queries
      → (n : ℕ) (t : Term) → value (unit_at k (run j limit figures).state.units).values n ≡ some t
      → value (unit_at k (step (choice_for j.clauses (run j limit figures).state g) g others (run j limit figures).state).units).values n
      ≡ some t
  text_value_stays = value_stays j rules limit figures

  -- Each failed goal would fail again: no clause of it succeeds, and none waits; whatever was assigned since it failed, and guards too.
  pub text_failed_goals_fail_again : FailedFail j.clauses (run j limit figures).state
  text_failed_goals_fail_again = run_failed_goals_fail_again j rules figures limit

  -- Every goal comes from the query, at 0, or from one of the text's clauses, counted from 1, at one of its own query's tries so far.
  pub text_goals_come : EachGoal (λ g. (g.origin.clause ≤ length j.clauses)
      × (g.origin.tries ≤ (unit_at g.query (run j limit figures).state.units).tries)) (run j limit figures).state.goals
  text_goals_come =
      let all = run_goals_come j limit figures in
      record {
        queue = each_implies _ _ numbered (run j limit figures).state.goals.queue all.queue;
        waiting = each_implies _ _ (λ w. numbered w.goal) (run j limit figures).state.goals.waiting all.waiting;
        failed = each_implies _ _ numbered (run j limit figures).state.goals.failed all.failed;
      }
    where
      numbered : (g : Goal) → Comes j.clauses (run j limit figures).state.units g
          → (g.origin.clause ≤ length j.clauses) × (g.origin.tries ≤ (unit_at g.query (run j limit figures).state.units).tries)
      numbered g h =
          (⊎_elim (λ q. omega (arith, q.0)) (λ (c, m, e, l). omega (arith, e, (clause_numbered text j reads c m).1)) h.from, h.at)

  -- The goal in front holds pairs of its unit only.
  front_in_range : (g : Goal) (others : List Goal) → (run j limit figures).state.goals.queue ≡ g ∷ others
      → SingleOccurrence (part_of g.query (run j limit figures).state)
      → (h : Half) (n : ℕ) → length (unit_at g.query (run j limit figures).state.units).values ≤ n
      → all_occurrences h n g.goal.arguments ≡ 0
  unfolding part_of goals_of of occurrences as_term
  front_in_range g others front s h n beyond =
      let its : In g (those (of g.query) (run j limit figures).state.goals.queue) =
      in_those (of g.query) (rw front (here refl)) (eq-eqb g.query g.query refl) in
      each_in (λ t. occurrences h n t ≡ 0) (s.goals_in_range h n beyond) (in_map (λ g. as_term g.goal) (in_append_left _ (in_append_left _ its)))

  -- "If all places agree, the circle test follows": started only at the goal's writers that the trial assigned, it gives the same answer;
  -- these in the order of the assignments, or in the order of the pairs.
  module _ (g : Goal) (others : List Goal) (front : (run j limit figures).state.goals.queue ≡ g ∷ others)
      (clause : Clause) (given : List Assignment)
      (agree : compared clause (unit_at g.query (run j limit figures).state.units) g.goal ≡ succeeds given) where
    part_single : SingleOccurrence (part_of g.query (run j limit figures).state)
    part_single = text_single_occurrence g.query (rw front at (run_placed j limit figures).queue).0

    pub text_circle_by_assignments : let unit = unit_at g.query (run j limit figures).state.units in
        circle (values_after clause given unit)
        ≡ any (circle_at (values_after clause given unit)) (map (λ a. a.pair) (those (λ a. ltb a.pair (length unit.values)) given))
    unfolding part_of
    text_circle_by_assignments =
        circle_by_assignments clause _ g.goal given
        part_single.values_in_range (front_in_range g others front part_single) agree (run_no_circle j limit figures g.query)

    -- And it may leave out each pair whose reader another goal of the query, written out, holds, or none does: no circle runs through it.
    pub text_circle_by_readers_here : In clause j.clauses → (starts : List ℕ) → let state = (run j limit figures).state in
        let unit = unit_at g.query state.units in
        ((z : ℕ) → z < length unit.values → Assigns given z → In z starts ⊎ NotHere state g others z)
        → circle (values_after clause given unit) ≡ any (circle_at (values_after clause given unit)) starts
    text_circle_by_readers_here member = circle_by_readers_here j rules limit figures g others front clause member given agree

    pub text_circle_by_pairs : let unit = unit_at g.query (run j limit figures).state.units in
        circle (values_after clause given unit)
        ≡ any (circle_at (values_after clause given unit)) (those (assigns given) (up_to (length unit.values)))
    unfolding part_of
    text_circle_by_pairs =
        circle_by_pairs clause _ g.goal given
        part_single.values_in_range (front_in_range g others front part_single) agree (run_no_circle j limit figures g.query)

-- Two calls that answer `ran`, whatever scratch they need, under any budgets, in any rooms, with any buffers; and their texts have, token by
-- token, the same clauses and the same query at place k.
module _ (k : ℕ) (need₁ need₂ : Room → ℕ) (given₁ given₂ : Given) (n₁ n₂ : ℕ)
    (ran₁ : (call need₁ given₁).answer ≡ ran n₁) (ran₂ : (call need₂ given₂).answer ≡ ran n₂)
    (alike : TextsAlike k given₁.text given₂.text) where
  -- Demand 3, first part: if both reports show the same tries of the query, they show the same section of it, byte for byte.
  pub same_tries_same_section : tries_shown k (section_shown k (left_by need₁ given₁ n₁)) ≡ tries_shown k (section_shown k (left_by need₂ given₂ n₂))
      → section_shown k (left_by need₁ given₁ n₁) ≡ section_shown k (left_by need₂ given₂ n₂)
  same_tries_same_section e =
      let (j₁, r₁) = ran_read_a_job need₁ given₁ n₁ ran₁ in
      let (j₂, r₂) = ran_read_a_job need₂ given₂ n₂ ran₂ in
      let jobs : Alike k j₁ j₂ = texts_alike_jobs_alike k given₁.text given₂.text j₁ j₂ alike r₁.reads r₂.reads in
      same_tries_shown_same_section k need₁ need₂ given₁ given₂ n₁ n₂ j₁ j₂ r₁ r₂ jobs e

  -- Second part: if both reports begin `run rest`, they show the same tries of the query, and so the same section.
  pub both_rest_same_section : rest_shown (left_by need₁ given₁ n₁) ≡ true → rest_shown (left_by need₂ given₂ n₂) ≡ true
      → (tries_shown k (section_shown k (left_by need₁ given₁ n₁)) ≡ tries_shown k (section_shown k (left_by need₂ given₂ n₂)))
      × (section_shown k (left_by need₁ given₁ n₁) ≡ section_shown k (left_by need₂ given₂ n₂))
  both_rest_same_section rests₁ rests₂ =
      let (j₁, r₁) = ran_read_a_job need₁ given₁ n₁ ran₁ in
      let (j₂, r₂) = ran_read_a_job need₂ given₂ n₂ ran₂ in
      let jobs : Alike k j₁ j₂ = texts_alike_jobs_alike k given₁.text given₂.text j₁ j₂ alike r₁.reads r₂.reads in
      let sections = both_rest_shown_same_section k need₁ need₂ given₁ given₂ n₁ n₂ j₁ j₂ r₁ r₂ jobs rests₁ rests₂ in
      (ap (tries_shown k) sections, sections)
