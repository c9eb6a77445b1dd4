-- Runs: what each step keeps holds of every state of every run; and what a run counts. The laws of 'Room and stopping'.
-- The run is an induction with a case for each way to end and one for a step.
pub mod Onward
pub mod Invariant
pub mod Further
pub mod AllGoals
pub mod Counts
pub mod Charges
pub mod Dropped
pub mod Origins
use Prim.Native.Nat.{ℕ, ◌≤◌, ◌<◌, ◌+◌}
use mathlib.Core.Path.{◌≡◌, refl, ◌∙◌}
use mathlib.Core.Logic.{◌↔◌}
use mathlib.Core.Bool.{false, true}
use mathlib.Core.List.{List, [], ◌∷◌}
use native.Mathlib.Nat.{zero-add}
use native.Mathlib.Omega.{arith}
use lib.ListN.{length}
use Rattle.meaning.specs.Terms.{Job, Clause}
use Rattle.meaning.specs.State.{Room, Goal, start, Goals, State, number_of}
use Rattle.meaning.specs.Compare.{Assignment}
use Rattle.meaning.specs.Trial.{Choice, reduces, joins_waiting, joins_failed}
use Rattle.meaning.specs.Step.{step, without_front}
use Rattle.meaning.specs.Run.{fits, choice_for, rest, budget, room, run, queries_fit}
use Rattle.laws.proofs.Lists.{differ, sum}
use Rattle.laws.proofs.Runs.Onward.{run_induction}
use Rattle.laws.proofs.Runs.Counts.{
  Why,
  Ends,
  ends,
  GoalInFront,
  rest_reason,
  budget_reason,
  room_reason,
  room_does_not_fit,
  Within,
  within_says,
  after_within,
}
use Rattle.laws.proofs.Runs.Charges.{run_summed, run_units}
use Rattle.laws.proofs.Runs.Dropped.{reductions, body_goals_of, NoneDropped, onward_drops_none}
use Rattle.laws.proofs.Runs.Further.{goes_on, no_more, steps_on, GoesOn, cases_on}
-- Where every goal comes from: the query, or a clause of the text at one of the query's tries.
pub use Origins.{Comes, run_goals_come}
-- What the first state has and each step keeps, every state of every run has.
pub use Invariant.{KeptByStep, run_keeps, no_steps}
-- What each step keeps, whichever goal of the queue it takes, every state has that is reached by such steps, as those of a run are.
pub use Invariant.{KeptAtAnyPlace, Reached, at_first, by_step, reached_keeps, run_reached}
-- Every goal is of a query at one of the first n places.
pub use Charges.{Placed}

module _ (job : Job) (limit : ℕ) (figures : Room) where
  -- "Steps never exceed the budget."
  pub steps_within_budget : (run job limit figures).state.steps ≤ limit
  unfolding Ends start
  steps_within_budget = let all = run_induction job figures (Ends job figures) (ends job figures) limit in omega (arith, all.0)

  -- Each verdict is given for its reason.
  pub verdict_for_its_reason : Why job.clauses figures limit (run job limit figures).verdict (run job limit figures).state
  unfolding Ends start
  verdict_for_its_reason = rw zero-add at (run_induction job figures (Ends job figures) (ends job figures) limit).1

  -- "Queue empty, the run ends `rest`", and it rests only then.
  pub rest_exactly_if_queue_empty : ((run job limit figures).verdict ≡ rest) ↔ ((run job limit figures).state.goals.queue ≡ [])
  rest_exactly_if_queue_empty = rest_reason job.clauses figures limit _ _ verdict_for_its_reason

  -- "Steps equal the budget, `budget`": with a goal in front, and only then.
  pub budget_exactly_if_spent : ((run job limit figures).verdict ≡ budget)
      ↔ (GoalInFront (run job limit figures).state × ((run job limit figures).state.steps ≡ limit))
  budget_exactly_if_spent = budget_reason job.clauses figures limit _ _ verdict_for_its_reason

  -- `room`, "with the goal still in front", before the budget is spent.
  pub room_exactly_if_goal_and_budget_left : ((run job limit figures).verdict ≡ room)
      ↔ (GoalInFront (run job limit figures).state × ((run job limit figures).state.steps < limit))
  room_exactly_if_goal_and_budget_left = room_reason job.clauses figures limit _ _ verdict_for_its_reason

  -- `room` only if "the step would be a reduction that doesn't fit".
  pub room_only_if_it_does_not_fit : (run job limit figures).verdict ≡ room
      → (g : Goal) (others : List Goal) → (run job limit figures).state.goals.queue ≡ g ∷ others
      → fits figures (choice_for job.clauses (run job limit figures).state g) (run job limit figures).state
      (without_front others (run job limit figures).state.goals) ≡ false
  room_only_if_it_does_not_fit = room_does_not_fit job.clauses figures limit _ _ verdict_for_its_reason

-- A step that does not fit is a reduction: waiting and failing need no room.
pub only_reductions_do_not_fit : (figures : Room) (choice : Choice) (state : State) (others : Goals) → fits figures choice state others ≡ false
    → (clause : Clause) × (given : List Assignment) × (choice ≡ reduces clause given)
unfolding fits
only_reductions_do_not_fit figures (reduces clause given) state others f = (clause, given, refl)
only_reductions_do_not_fit figures (joins_waiting readers) state others f = absurd (differ (cc))
only_reductions_do_not_fit figures joins_failed state others f = absurd (differ (cc))

-- "The pairs or compounds charged", and "active, waiting and failed goals together", never pass their figures: where the queries fit,
-- every state of the run is within the room.
pub run_within_room : (job : Job) (limit : ℕ) (figures : Room) → queries_fit figures job.queries ≡ true
    → Within figures (run job limit figures).state
unfolding queries_fit
run_within_room job limit figures f =
    let first = within_says figures _ _ _ f in
    run_keeps job figures (Within figures)
    (λ state g others e fit w. after_within figures (choice_for job.clauses state g) g others state e fit w)
    (record { pairs = first.0; compounds = first.1; goals = first.2 }) limit

module _ (job : Job) (limit : ℕ) (figures : Room) where
  -- "T is the count of the definition's steps that took a goal of that query": the steps are the tries of all queries together.
  pub steps_are_the_tries : (run job limit figures).state.steps ≡ sum (λ u. u.tries) (run job limit figures).state.units
  steps_are_the_tries = (run_summed job limit figures).steps

  -- The pairs charged are the units' pairs, the compounds charged the units' compounds: nothing is given back.
  pub charged_pairs_are_the_units : (run job limit figures).state.pairs
      ≡ sum (λ u. length u.values) (run job limit figures).state.units
  charged_pairs_are_the_units = (run_summed job limit figures).pairs

  pub charged_compounds_are_the_units : (run job limit figures).state.compounds
      ≡ sum (λ u. u.compounds) (run job limit figures).state.units
  charged_compounds_are_the_units = (run_summed job limit figures).compounds

  -- Every goal, active, waiting or failed, belongs to a query.
  pub goals_have_a_query : Placed (length (run job limit figures).state.units) (run job limit figures).state.goals
  goals_have_a_query = (run_summed job limit figures).placed

  -- And there is a unit for each query.
  pub run_placed : Placed (length job.queries) (run job limit figures).state.goals
  run_placed = rw (← run_units job limit figures) goals_have_a_query

-- No goal is dropped: those at the end and one for each reduction are those at the start and those of the bodies taken.
pub run_drops_no_goal : (job : Job) (limit : ℕ) (figures : Room)
    → number_of (run job limit figures).state.goals
    + length (reductions limit job.clauses figures (start job.queries) (start job.queries).goals.queue)
    ≡ number_of (start job.queries).goals
    + body_goals_of (reductions limit job.clauses figures (start job.queries) (start job.queries).goals.queue)
unfolding NoneDropped run
run_drops_no_goal job limit figures =
    onward_drops_none job.clauses figures limit (start job.queries) (start job.queries).goals.queue refl

-- A run with a larger budget goes on from the end of the run with the smaller.
pub run_goes_on : (job : Job) (m n : ℕ) (figures : Room)
    → (run job (m + n) figures).state ≡ goes_on job.clauses figures n (run job m figures).state
unfolding run goes_on GoesOn
run_goes_on job m n figures = run_induction job figures (GoesOn job.clauses figures) (cases_on job.clauses figures) m n

-- So runs end in every state of a run: with no budget before the first step (`no_steps`), and with one step more behind each step that is taken.
pub run_steps_on : (job : Job) (limit : ℕ) (figures : Room) (g : Goal) (others : List Goal)
    → (run job limit figures).state.goals.queue ≡ g ∷ others
    → fits figures (choice_for job.clauses (run job limit figures).state g) (run job limit figures).state
    (without_front others (run job limit figures).state.goals) ≡ true
    → (run job (limit + 1) figures).state ≡ step (choice_for job.clauses (run job limit figures).state g) g others (run job limit figures).state
run_steps_on job limit figures g others front fit =
    run_goes_on job limit 1 figures
    ∙ steps_on job.clauses figures 0 (run job limit figures).state g others front fit
    ∙ no_more job.clauses figures _
