-- Induction over a run: it rests, or the budget ends it, or a reduction that does not fit, or it takes a step and goes on.
-- A statement that holds in the first three cases, and in the fourth if it holds from the state after the step, holds of every run.
use Prim.Native.Nat.{ℕ, zero, suc}
use mathlib.Core.Path.{◌≡◌, refl}
use mathlib.Core.Bool.{Bool, true, false}
use mathlib.Core.List.{List, [], ◌∷◌}
use Rattle.meaning.specs.Terms.{Clause, Job}
use Rattle.meaning.specs.State.{Room, Goal, State, start}
use Rattle.meaning.specs.Step.{step, without_front}
use Rattle.meaning.specs.Run.{fits, choice_for, Ended, rest, budget, room, ended, onward, run}

module _ (clauses : List Clause) (figures : Room) where
  -- The goal in front is such a one, and its step is a reduction that does not fit, or else may be taken.
  abbrev pub Fits : State → Goal → List Goal → Bool → Type 0
  Fits state g others b = fits figures (choice_for clauses state g) state (without_front others state.goals) ≡ b

  pub record Cases (P : ℕ → State → Ended → Type 0) : Type 0 where
    pub rests : (left : ℕ) (state : State) → state.goals.queue ≡ [] → P left state (ended rest state)
    pub budget_ends : (state : State) (g : Goal) (others : List Goal) → state.goals.queue ≡ g ∷ others → P zero state (ended budget state)
    pub room_ends : (left : ℕ) (state : State) (g : Goal) (others : List Goal) → state.goals.queue ≡ g ∷ others
        → Fits state g others false → P (suc left) state (ended room state)
    pub steps : (left : ℕ) (state : State) (g : Goal) (others : List Goal) → state.goals.queue ≡ g ∷ others
        → Fits state g others true
        → (last : Ended) → P left (step (choice_for clauses state g) g others state) last → P (suc left) state last

  pub onward_induction : (P : ℕ → State → Ended → Type 0) → Cases P
      → (left : ℕ) (state : State) (queue : List Goal) → state.goals.queue ≡ queue → P left state (onward left clauses figures state queue)
  unfolding onward
  onward_induction P cases zero state [] e = cases.rests zero state e
  onward_induction P cases zero state (g ∷ others) e = cases.budget_ends state g others e
  onward_induction P cases (suc left) state [] e = cases.rests (suc left) state e
  onward_induction P cases (suc left) state (g ∷ others) e =
      go (fits figures (choice_for clauses state g) state (without_front others state.goals)) refl
      (onward_induction P cases left (step (choice_for clauses state g) g others state) (step (choice_for clauses state g) g others state).goals.queue refl)
    where
      after : State
      after = step (choice_for clauses state g) g others state

      go : (b : Bool) → Fits state g others b → P left after (onward left clauses figures after after.goals.queue)
          → P (suc left) state (onward (suc left) clauses figures state (g ∷ others))
      go true f further =
          rw (f, onward) (cases.steps left state g others e f (onward left clauses figures after after.goals.queue) further)
      go false f further = rw (f, onward) (cases.room_ends left state g others e f)

pub run_induction : (job : Job) (figures : Room) (P : ℕ → State → Ended → Type 0) → Cases job.clauses figures P
    → (limit : ℕ) → P limit (start job.queries) (run job limit figures)
unfolding run
run_induction job figures P cases limit =
    onward_induction job.clauses figures P cases limit (start job.queries) (start job.queries).goals.queue refl
