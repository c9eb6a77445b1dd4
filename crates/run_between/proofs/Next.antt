-- One step more: the run with one step more has the step's state, if there is a goal in front and the step fits.
use Prim.Native.Nat.{ℕ, ◌+◌}
use mathlib.Core.Path.{◌≡◌, refl, ap, ◌∙◌}
use mathlib.Core.Bool.{true}
use mathlib.Core.List.{List, [], ◌∷◌}
use Rattle.meaning.specs.Terms.{Job}
use Rattle.meaning.specs.State.{Room, Goal, State}
use Rattle.meaning.specs.Step.{without_front, step}
use Rattle.meaning.specs.Run.{fits, choice_for, ended, onward, run}
use Rattle.meaning.specs.Terms.{Clause}
use Rattle.laws.proofs.Runs.{run_goes_on}
use Rattle.laws.proofs.Runs.Further.{goes_on}

last_state : (clauses : List Clause) (figures : Room) (state : State) (queue : List Goal) → (onward 0 clauses figures state queue).state ≡ state
unfolding onward ended
last_state clauses figures state [] = refl
last_state clauses figures state (g ∷ others) = refl

module _ (clauses : List Clause) (figures : Room) (state : State) (g : Goal) (others : List Goal) (front : state.goals.queue ≡ g ∷ others) where
  goes_one : fits figures (choice_for clauses state g) state (without_front others state.goals) ≡ true
      → goes_on clauses figures 1 state ≡ step (choice_for clauses state g) g others state
  unfolding goes_on onward
  goes_one f =
      let next = step (choice_for clauses state g) g others state in
      ap (λ queue. (onward 1 clauses figures state queue).state) front ∙ rw (f, onward) (last_state clauses figures next next.goals.queue)

pub run_next : (j : Job) (limit : ℕ) (figures : Room) (g : Goal) (others : List Goal)
    → (run j limit figures).state.goals.queue ≡ g ∷ others
    → fits figures (choice_for j.clauses (run j limit figures).state g) (run j limit figures).state
    (without_front others (run j limit figures).state.goals) ≡ true
    → (run j (limit + 1) figures).state
    ≡ step (choice_for j.clauses (run j limit figures).state g) g others (run j limit figures).state
run_next j limit figures g others front f =
    run_goes_on j limit 1 figures ∙ goes_one j.clauses figures (run j limit figures).state g others front f
