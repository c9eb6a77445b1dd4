-- A larger budget only goes on: the run with budget m + n ends in the state in which n steps more, at most, from the end of the run with budget m end.
-- So the state after each step of a run is the state in which the run with that many steps for its budget ends, and laws of runs are laws of all their states.
use Prim.Native.Nat.{ℕ, zero, suc, ◌+◌}
use mathlib.Core.Path.{◌≡◌, refl, sym, ap, ◌∙◌}
use mathlib.Core.Bool.{true, false}
use mathlib.Core.List.{List, [], ◌∷◌}
use native.Mathlib.Nat.{zero-add, suc-add}
use Rattle.meaning.specs.Terms.{Clause}
use Rattle.meaning.specs.State.{Room, Goal, State}
use Rattle.meaning.specs.Step.{step}
use Rattle.meaning.specs.Run.{choice_for, Ended, ended, onward}
use Rattle.laws.proofs.Runs.Onward.{Fits, Cases}

module _ (clauses : List Clause) (figures : Room) where
  -- So many steps more, at most, from a state.
  unfoldable pub goes_on : ℕ → State → State
  goes_on n state = (onward n clauses figures state state.goals.queue).state

  pub no_more : (state : State) → goes_on 0 state ≡ state
  unfolding goes_on onward ended
  no_more state = go state.goals.queue
    where
      go : (queue : List Goal) → (onward 0 clauses figures state queue).state ≡ state
      go [] = refl
      go (g ∷ others) = refl

  rests_on : (n : ℕ) (state : State) → state.goals.queue ≡ [] → goes_on n state ≡ state
  unfolding goes_on onward ended
  rests_on zero state e = rw e
  rests_on (suc n) state e = rw e

  room_ends_on : (n : ℕ) (state : State) (g : Goal) (others : List Goal) → state.goals.queue ≡ g ∷ others
      → Fits clauses figures state g others false → goes_on n state ≡ state
  unfolding goes_on onward ended
  room_ends_on zero state g others e f = rw e
  room_ends_on (suc n) state g others e f = ap (λ queue. (onward (suc n) clauses figures state queue).state) e ∙ rw (f, onward)

  pub steps_on : (n : ℕ) (state : State) (g : Goal) (others : List Goal) → state.goals.queue ≡ g ∷ others
      → Fits clauses figures state g others true → goes_on (suc n) state ≡ goes_on n (step (choice_for clauses state g) g others state)
  unfolding goes_on onward
  steps_on n state g others e f = ap (λ queue. (onward (suc n) clauses figures state queue).state) e ∙ rw (f, onward)

  unfoldable pub GoesOn : ℕ → State → Ended → Type 0
  GoesOn m state last = (n : ℕ) → goes_on (m + n) state ≡ goes_on n last.state

  pub cases_on : Cases clauses figures GoesOn
  unfolding GoesOn ended
  cases_on =
      record {
        rests = λ m state e n. rests_on (m + n) state e ∙ sym (rests_on n state e);
        budget_ends = λ state g others e n. rw zero-add;
        room_ends = λ m state g others e f n. room_ends_on (suc m + n) state g others e f ∙ sym (room_ends_on n state g others e f);
        steps = λ m state g others e f last further n. rw suc-add (steps_on (m + n) state g others e f ∙ further n);
      }
