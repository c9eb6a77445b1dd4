-- Document 01, 'Room and stopping'.
use Rattle.std.specs.Prelude.{ℕ, zero, suc, ◌+◌, Bool, true, false, ◌&&◌, List, [], ◌∷◌, leb, length}
use Rattle.meaning.specs.Terms.{Clause, Query, Job}
use Rattle.meaning.specs.State.{Room, Goal, Goals, State, number_of, unit_at, start}
use Rattle.meaning.specs.Trial.{Choice, reduces, joins_waiting, joins_failed, choice}
use Rattle.meaning.specs.Step.{pairs_charged, compounds_charged, without_front, step, step_words}

-- "Pairs or compounds charged would pass their figure, or active, waiting and failed goals together would number more than the goal figure."
unfoldable pub within : Room → ℕ → ℕ → ℕ → Bool
within room pairs compounds goals = leb pairs room.pairs && leb compounds room.compounds && leb goals room.goals

-- A reduction fits; waiting and failing need no room. `others` are the goals without the one in front.
unfoldable pub fits : Room → Choice → State → Goals → Bool
fits room (reduces clause given) state others =
    within room (state.pairs + clause.pairs) (state.compounds + clause.compounds) (number_of others + length clause.body)
fits room (joins_waiting readers) state others = true
fits room joins_failed state others = true

pub data Verdict : Type 0 where
  rest budget room : Verdict

-- How a run ended, and the state in which it did.
pub record Ended : Type 0 where
  pub verdict : Verdict
  pub state : State

unfoldable pub ended : Verdict → State → Ended
ended verdict state = record { verdict = verdict; state = state }

-- The choice for the goal in front.
unfoldable pub choice_for : List Clause → State → Goal → Choice
choice_for clauses state g = choice clauses (unit_at g.query state.units) g.goal

-- "Before each step, in this order: queue empty, the run ends `rest`; steps equal the budget, `budget`; the step would be a reduction that doesn't fit, `room`, with the goal still in front and nothing counted."
unfoldable pub onward : ℕ → List Clause → Room → State → List Goal → Ended
onward zero clauses figures state [] = ended rest state
onward zero clauses figures state (g ∷ others) = ended budget state
onward (suc left) clauses figures state [] = ended rest state
onward (suc left) clauses figures state (g ∷ others) =
    let taken = choice_for clauses state g in
    elim (fits figures taken state (without_front others state.goals)) [
      | true ↦ (let after = step taken g others state in onward left clauses figures after after.goals.queue)
      | false ↦ ended room state
    ]

-- "The queries alone pass a room figure" is number 7; otherwise the job runs.
unfoldable pub queries_fit : Room → List Query → Bool
queries_fit figures queries =
    within figures (start queries).pairs (start queries).compounds (number_of (start queries).goals)

unfoldable pub run : Job → ℕ → Room → Ended
run job limit figures = onward limit job.clauses figures (start job.queries) (start job.queries).goals.queue

unfoldable pub run_words : Unit {0}
unfolding step_words within fits ended choice_for onward queries_fit run
run_words = tt
