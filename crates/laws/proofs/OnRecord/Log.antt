-- What was done on the way to a state: the clauses taken, one for each reduction made, and the assignments that these made.
-- A log of steps whichever goals of the queues they take; a run's own is such a log, by goals in front.
use Prim.Native.Nat.{ℕ, zero, suc}
use mathlib.Core.Path.{◌≡◌, refl}
use mathlib.Core.Bool.{Bool, true, false}
use mathlib.Core.List.{List, [], ◌∷◌, ◌++◌, map, append-nil, append_assoc}
use Rattle.meaning.specs.Terms.{Term, Clause, Job}
use Rattle.meaning.specs.State.{Room, Goal, State, start}
use Rattle.meaning.specs.Trial.{Choice, reduces, joins_waiting, joins_failed}
use Rattle.meaning.specs.Step.{step, without_front}
use Rattle.meaning.specs.Run.{fits, choice_for, ended, onward, run}
use Rattle.laws.proofs.Lists.{TakenOut, taken_front}
use Rattle.laws.proofs.Runs.{Reached, at_first, by_step}
use Rattle.laws.proofs.Runs.Dropped.{clause_taken, reductions}

-- An assignment, with the place of its query: pairs of two queries are two.
pub record Made : Type 0 where
  pub query : ℕ
  pub pair : ℕ
  pub value : Term

-- Those that a step makes on a goal of the query.
unfoldable pub made_by : ℕ → Choice → List Made
made_by query (reduces clause given) = map (λ a. record { query = query; pair = a.pair; value = a.value }) given
made_by query (joins_waiting readers) = []
made_by query joins_failed = []

-- Those that a run makes, in order; `reductions` lists the clauses that it takes.
unfoldable pub assignments : ℕ → List Clause → Room → State → List Goal → List Made
assignments zero clauses figures state queue = []
assignments (suc left) clauses figures state [] = []
assignments (suc left) clauses figures state (g ∷ others) =
    let taken = choice_for clauses state g in
    elim (fits figures taken state (without_front others state.goals)) [
      | true ↦ (let after = step taken g others state in made_by g.query taken ++ assignments left clauses figures after after.goals.queue)
      | false ↦ []
    ]

-- The clauses that the run of a job takes under a budget, and the assignments that it makes.
unfoldable pub taken_in_run : Job → ℕ → Room → List Clause
taken_in_run job limit figures = reductions limit job.clauses figures (start job.queries) (start job.queries).goals.queue

unfoldable pub made_in_run : Job → ℕ → Room → List Made
made_in_run job limit figures = assignments limit job.clauses figures (start job.queries) (start job.queries).goals.queue

-- A state is reached by steps at any places, with these clauses taken and these assignments made.
pub data Logged (clauses : List Clause) (figures : Room) (first : State) : State → List Clause → List Made → Type 0 where
  nothing_yet : Logged clauses figures first first [] []
  one_more : {state : State} {taken : List Clause} {made : List Made} (g : Goal) (others : List Goal)
      → Logged clauses figures first state taken made
      → TakenOut g others state.goals.queue
      → fits figures (choice_for clauses state g) state (without_front others state.goals) ≡ true
      → Logged clauses figures first (step (choice_for clauses state g) g others state)
      (taken ++ clause_taken (choice_for clauses state g)) (made ++ made_by g.query (choice_for clauses state g))

module _ {clauses : List Clause} {figures : Room} {first : State} where
  -- Such a state is reached, and every state that is reached has a log.
  pub logged_reached : {state : State} {taken : List Clause} {made : List Made} → Logged clauses figures first state taken made
      → Reached clauses figures first state
  logged_reached nothing_yet = at_first
  logged_reached (one_more g others l t fit) = by_step g others (logged_reached l) t fit

  pub reached_logged : {state : State} → Reached clauses figures first state
      → (taken : List Clause) × (made : List Made) × Logged clauses figures first state taken made
  reached_logged at_first = ([], [], nothing_yet)
  reached_logged (by_step g others r t fit) = let (taken, made, l) = reached_logged r in (_, _, one_more g others l t fit)

module _ (clauses : List Clause) (figures : Room) (first : State) where
  onward_logged : (left : ℕ) (state : State) (queue : List Goal) → state.goals.queue ≡ queue
      → (taken : List Clause) (made : List Made) → Logged clauses figures first state taken made
      → Logged clauses figures first (onward left clauses figures state queue).state
      (taken ++ reductions left clauses figures state queue) (made ++ assignments left clauses figures state queue)
  unfolding onward ended reductions assignments
  onward_logged zero state [] e taken made l = rw (append-nil taken, append-nil made) l
  onward_logged zero state (g ∷ others) e taken made l = rw (append-nil taken, append-nil made) l
  onward_logged (suc left) state [] e taken made l = rw (append-nil taken, append-nil made) l
  onward_logged (suc left) state (g ∷ others) e taken made l =
      go (fits figures (choice_for clauses state g) state (without_front others state.goals)) refl
      (onward_logged left (step (choice_for clauses state g) g others state) (step (choice_for clauses state g) g others state).goals.queue refl)
    where
      after : State
      after = step (choice_for clauses state g) g others state

      go : (b : Bool) → fits figures (choice_for clauses state g) state (without_front others state.goals) ≡ b
          → ((taken : List Clause) (made : List Made) → Logged clauses figures first after taken made
          → Logged clauses figures first (onward left clauses figures after after.goals.queue).state
          (taken ++ reductions left clauses figures after after.goals.queue) (made ++ assignments left clauses figures after after.goals.queue))
          → Logged clauses figures first (onward (suc left) clauses figures state (g ∷ others)).state
          (taken ++ reductions (suc left) clauses figures state (g ∷ others)) (made ++ assignments (suc left) clauses figures state (g ∷ others))
      go true f further =
          rw (f, onward, reductions, assignments) (simp append_assoc at (further _ _ (one_more g others l (taken_front e) f)))
      go false f further = rw (f, onward, reductions, assignments, append-nil taken, append-nil made) l

-- The run of a job, under any budget, in any room.
pub run_logged : (job : Job) (limit : ℕ) (figures : Room)
    → Logged job.clauses figures (start job.queries) (run job limit figures).state (taken_in_run job limit figures) (made_in_run job limit figures)
unfolding run taken_in_run made_in_run
run_logged job limit figures =
    onward_logged job.clauses figures (start job.queries) limit (start job.queries) (start job.queries).goals.queue refl [] [] nothing_yet
