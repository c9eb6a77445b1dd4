-- What holds before the first step, and is kept by each step that is taken, holds of the state in which a run ends.
-- Every state of a run is the state in which the run with a smaller budget ends: so it holds of every state of every run.
use Prim.Native.Nat.{ℕ, zero, suc}
use mathlib.Core.Path.{◌≡◌, refl}
use mathlib.Core.Bool.{Bool, true, false}
use mathlib.Core.List.{List, [], ◌∷◌}
use Rattle.meaning.specs.Terms.{Clause, Job}
use Rattle.meaning.specs.State.{Room, Goal, State, start}
use Rattle.meaning.specs.Step.{step, without_front}
use Rattle.meaning.specs.Run.{fits, choice_for, room, ended, onward, run}
use Rattle.laws.proofs.Lists.{TakenOut, taken_front}

-- A property is kept by the steps that a run takes.
abbrev pub KeptByStep : List Clause → Room → (State → Type 0) → Type 0
KeptByStep clauses figures P =
    (state : State) (g : Goal) (others : List Goal)
    → state.goals.queue ≡ g ∷ others
    → fits figures (choice_for clauses state g) state (without_front others state.goals) ≡ true
    → P state
    → P (step (choice_for clauses state g) g others state)

-- A property is kept by every such step, whichever goal of the queue it takes.
abbrev pub KeptAtAnyPlace : List Clause → Room → (State → Type 0) → Type 0
KeptAtAnyPlace clauses figures P =
    (state : State) (g : Goal) (others : List Goal)
    → TakenOut g others state.goals.queue
    → fits figures (choice_for clauses state g) state (without_front others state.goals) ≡ true
    → P state
    → P (step (choice_for clauses state g) g others state)

-- What `onward` does where there is a goal and budget left: the step is taken, or it would be a reduction that does not fit.
module _ (clauses : List Clause) (figures : Room) (left : ℕ) (state : State) (g : Goal) (others : List Goal) where
  unfoldable pub after : State
  after = step (choice_for clauses state g) g others state

  pub onward_takes : fits figures (choice_for clauses state g) state (without_front others state.goals) ≡ true
      → onward (suc left) clauses figures state (g ∷ others) ≡ onward left clauses figures after after.goals.queue
  unfolding after onward
  onward_takes f = rw (f, onward)

  pub onward_stops : fits figures (choice_for clauses state g) state (without_front others state.goals) ≡ false
      → onward (suc left) clauses figures state (g ∷ others) ≡ ended room state
  unfolding onward
  onward_stops f = rw (f, onward)

module _ (clauses : List Clause) (figures : Room) (P : State → Type 0) (kept : KeptByStep clauses figures P) where
  pub onward_keeps : (left : ℕ) (state : State) (queue : List Goal) → state.goals.queue ≡ queue → P state
      → P (onward left clauses figures state queue).state
  unfolding onward ended after
  onward_keeps zero state [] e p = p
  onward_keeps zero state (g ∷ others) e p = p
  onward_keeps (suc left) state [] e p = p
  onward_keeps (suc left) state (g ∷ others) e p =
      go (fits figures (choice_for clauses state g) state (without_front others state.goals)) refl
      (λ q. onward_keeps left (step (choice_for clauses state g) g others state) (step (choice_for clauses state g) g others state).goals.queue refl q)
    where
      go : (b : Bool) → fits figures (choice_for clauses state g) state (without_front others state.goals) ≡ b
          → (P (step (choice_for clauses state g) g others state) → P (onward left clauses figures (step (choice_for clauses state g) g others state) (step (choice_for clauses state g) g others state).goals.queue).state)
          → P (onward (suc left) clauses figures state (g ∷ others)).state
      go true f further = rw (onward_takes clauses figures left state g others f) (further (kept state g others e f p))
      go false f further = rw (onward_stops clauses figures left state g others f) p

pub run_keeps : (job : Job) (figures : Room) (P : State → Type 0) → KeptByStep job.clauses figures P → P (start job.queries)
    → (limit : ℕ) → P (run job limit figures).state
unfolding run
run_keeps job figures P kept p limit =
    onward_keeps job.clauses figures P kept limit (start job.queries) (start job.queries).goals.queue refl p

-- With a budget of no steps a run ends in the state before the first.
pub no_steps : (job : Job) (figures : Room) → (run job 0 figures).state ≡ start job.queries
unfolding run onward ended
no_steps job figures = go (start job.queries).goals.queue
  where
    go : (queue : List Goal) → (onward 0 job.clauses figures (start job.queries) queue).state ≡ start job.queries
    go [] = refl
    go (g ∷ others) = refl

-- A state is reached from another by such steps, whichever goals of the queues they take.
pub data Reached (clauses : List Clause) (figures : Room) (first : State) : State → Type 0 where
  at_first : Reached clauses figures first first
  by_step : {state : State} (g : Goal) (others : List Goal)
      → Reached clauses figures first state
      → TakenOut g others state.goals.queue
      → fits figures (choice_for clauses state g) state (without_front others state.goals) ≡ true
      → Reached clauses figures first (step (choice_for clauses state g) g others state)

-- What every such step keeps holds of every state reached; and those of a run are reached so, by goals in front.
pub reached_keeps : (clauses : List Clause) (figures : Room) (P : State → Type 0) → KeptAtAnyPlace clauses figures P
    → {first last : State} → Reached clauses figures first last → P first → P last
reached_keeps clauses figures P kept at_first p = p
reached_keeps clauses figures P kept (by_step {state} g others r t fit) p = kept state g others t fit (reached_keeps clauses figures P kept r p)

pub run_reached : (job : Job) (limit : ℕ) (figures : Room) → Reached job.clauses figures (start job.queries) (run job limit figures).state
run_reached job limit figures =
    run_keeps job figures (Reached job.clauses figures (start job.queries))
    (λ state g others front fit r. by_step g others r (taken_front front) fit) at_first limit
