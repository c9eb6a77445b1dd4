-- Nothing is dropped: the goals of the queries and of the bodies taken are the goals that are left and those that were reduced, one by each clause taken.
-- `reductions` lists the clauses taken, along the run.
use Prim.Native.Nat.{ℕ, zero, suc, ◌+◌}
use mathlib.Core.Path.{◌≡◌, refl}
use mathlib.Core.Bool.{Bool, true, false}
use mathlib.Core.List.{List, [], ◌∷◌, ◌++◌}
use native.Mathlib.Omega.{arith}
use lib.ListN.{length, length-append}
use Rattle.meaning.specs.Terms.{Clause}
use Rattle.meaning.specs.State.{Room, Goal, State, number_of, unit_at}
use Rattle.meaning.specs.Trial.{Choice, reduces, joins_waiting, joins_failed}
use Rattle.meaning.specs.Step.{step, without_front}
use Rattle.meaning.specs.Run.{fits, choice_for, ended, onward}
use Rattle.laws.proofs.Lists.{sum, sum_append, TakenOut, taken_front}
use Rattle.laws.proofs.Runs.Counts.{goals_added, number_after, number_before}

unfoldable pub clause_taken : Choice → List Clause
clause_taken (reduces clause given) = clause ∷ []
clause_taken (joins_waiting readers) = []
clause_taken joins_failed = []

-- The clauses that a run takes, in order, one for each reduction made.
unfoldable pub reductions : ℕ → List Clause → Room → State → List Goal → List Clause
reductions zero clauses figures state queue = []
reductions (suc left) clauses figures state [] = []
reductions (suc left) clauses figures state (g ∷ others) =
    let taken = choice_for clauses state g in
    elim (fits figures taken state (without_front others state.goals)) [
      | true ↦ (let after = step taken g others state in clause_taken taken ++ reductions left clauses figures after after.goals.queue)
      | false ↦ []
    ]

-- The number of all the bodies' goals.
unfoldable pub body_goals_of : List Clause → ℕ
body_goals_of taken = sum (λ c. length c.body) taken

-- One step: the goal that is taken, at any place, is reduced and its body comes in, or it is put aside.
pub step_drops_none : (choice : Choice) (g : Goal) (others : List Goal) (state : State) → TakenOut g others state.goals.queue
    → number_of (step choice g others state).goals + length (clause_taken choice)
    ≡ number_of state.goals + body_goals_of (clause_taken choice)
unfolding clause_taken step goals_added body_goals_of
step_drops_none (reduces clause given) g others state t =
    let after = number_after (reduces clause given) (unit_at g.query state.units) g (without_front others state.goals) in
    let before = number_before state.goals g others t in
    omega arith
step_drops_none (joins_waiting readers) g others state t =
    let after = number_after (joins_waiting readers) (unit_at g.query state.units) g (without_front others state.goals) in
    let before = number_before state.goals g others t in
    omega arith
step_drops_none joins_failed g others state t =
    let after = number_after joins_failed (unit_at g.query state.units) g (without_front others state.goals) in
    let before = number_before state.goals g others t in
    omega arith

module _ (clauses : List Clause) (figures : Room) where
  -- What is to be shown of a run from some state on.
  unfoldable pub NoneDropped : ℕ → State → List Goal → Type 0
  NoneDropped left state queue =
      number_of (onward left clauses figures state queue).state.goals + length (reductions left clauses figures state queue)
      ≡ number_of state.goals + body_goals_of (reductions left clauses figures state queue)

  pub onward_drops_none : (left : ℕ) (state : State) (queue : List Goal) → state.goals.queue ≡ queue → NoneDropped left state queue
  unfolding NoneDropped onward reductions ended body_goals_of
  onward_drops_none zero state [] e = refl
  onward_drops_none zero state (g ∷ others) e = refl
  onward_drops_none (suc left) state [] e = refl
  onward_drops_none (suc left) state (g ∷ others) e =
      go (fits figures (choice_for clauses state g) state (without_front others state.goals)) refl
      (onward_drops_none left (step (choice_for clauses state g) g others state) (step (choice_for clauses state g) g others state).goals.queue refl)
    where
      taken : Choice
      taken = choice_for clauses state g

      after : State
      after = step taken g others state

      go : (b : Bool) → fits figures taken state (without_front others state.goals) ≡ b → NoneDropped left after after.goals.queue
          → NoneDropped (suc left) state (g ∷ others)
      go true f further =
          let here = step_drops_none taken g others state (taken_front e) in
          rw (f, onward, reductions) (simp (length-append, sum_append) (omega arith))
      go false f further = rw (f, onward, reductions)
