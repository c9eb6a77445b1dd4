-- How a run ends, told from the state after some of its steps: what `go_on` sees before each step decides how the whole run ends.
use Prim.Native.Nat.{ℕ, zero, suc, ◌+◌, ◌<◌}
use mathlib.Core.Path.{◌≡◌, refl, ap, ◌∙◌}
use mathlib.Core.Bool.{false}
use mathlib.Core.List.{List, [], ◌∷◌}
use Rattle.meaning.specs.Terms.{Clause, Job}
use Rattle.meaning.specs.State.{Room, Goal, State, start}
use Rattle.meaning.specs.Step.{without_front}
use Rattle.meaning.specs.Run.{rest, budget, room, ended, fits, choice_for, onward, run}
use Rattle.laws.proofs.Runs.{run_goes_on, rest_exactly_if_queue_empty, budget_exactly_if_spent, room_exactly_if_goal_and_budget_left}
use Rattle.laws.proofs.Runs.Further.{goes_on}

pub run_starts : (j : Job) (figures : Room) → (run j 0 figures).state ≡ start j.queries
unfolding run onward ended
run_starts j figures = go (start j.queries).goals.queue
  where
    go : (queue : List Goal) → (onward 0 j.clauses figures (start j.queries) queue).state ≡ start j.queries
    go [] = refl
    go (g ∷ others) = refl

module _ (clauses : List Clause) (figures : Room) where
  rests_on : (n : ℕ) (state : State) → state.goals.queue ≡ [] → goes_on clauses figures n state ≡ state
  unfolding goes_on onward ended
  rests_on zero state e = rw e
  rests_on (suc n) state e = rw e

  room_ends_on : (n : ℕ) (state : State) (g : Goal) (others : List Goal) → state.goals.queue ≡ g ∷ others
      → fits figures (choice_for clauses state g) state (without_front others state.goals) ≡ false → goes_on clauses figures n state ≡ state
  unfolding goes_on onward ended
  room_ends_on zero state g others e f = rw e
  room_ends_on (suc n) state g others e f = ap (λ queue. (onward (suc n) clauses figures state queue).state) e ∙ rw (f, onward)

module _ (j : Job) (figures : Room) (m n : ℕ) where
  -- The queue is empty after m steps.
  pub ends_at_rest : (run j m figures).state.goals.queue ≡ []
      → ((run j (m + n) figures).state ≡ (run j m figures).state) × ((run j (m + n) figures).verdict ≡ rest)
  ends_at_rest e =
      let still : (run j (m + n) figures).state ≡ (run j m figures).state =
      run_goes_on j m n figures ∙ rests_on j.clauses figures n (run j m figures).state e in
      (still, (rest_exactly_if_queue_empty j (m + n) figures).1 (rw still e))

  -- The goal in front would be reduced, and that does not fit; there is budget left.
  pub ends_for_room : (g : Goal) (others : List Goal) → (run j m figures).state.goals.queue ≡ g ∷ others
      → fits figures (choice_for j.clauses (run j m figures).state g) (run j m figures).state (without_front others (run j m figures).state.goals) ≡ false
      → (run j m figures).state.steps < m + n
      → ((run j (m + n) figures).state ≡ (run j m figures).state) × ((run j (m + n) figures).verdict ≡ room)
  ends_for_room g others e f less =
      let still : (run j (m + n) figures).state ≡ (run j m figures).state =
      run_goes_on j m n figures ∙ room_ends_on j.clauses figures n (run j m figures).state g others e f in
      (still, (room_exactly_if_goal_and_budget_left j (m + n) figures).1 ((g, others, rw still e), rw still less))

-- As many steps are taken as the budget has, and there is a goal in front.
pub ends_by_budget : (j : Job) (figures : Room) (m : ℕ) (g : Goal) (others : List Goal) → (run j m figures).state.goals.queue ≡ g ∷ others
    → (run j m figures).state.steps ≡ m → (run j m figures).verdict ≡ budget
ends_by_budget j figures m g others e spent = (budget_exactly_if_spent j m figures).1 ((g, others, e), spent)
