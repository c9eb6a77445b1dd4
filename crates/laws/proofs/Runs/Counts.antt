-- Why a run ends, how a step changes the number of goals, and that what fits stays within the room.
-- A reason excludes the others; a step that does not fit is not taken.
use Prim.Native.Nat.{ℕ, suc, ◌+◌, ◌≤◌, ◌<◌}
use mathlib.Core.Path.{◌≡◌, refl}
use mathlib.Core.Logic.{◌↔◌}
use mathlib.Core.Bool.{true, false, ◌&&◌}
use mathlib.Core.List.{List, [], ◌∷◌}
use native.Mathlib.Omega.{arith}
use lib.Dec.{leb}
use lib.ListN.{length, length-append, length-map}
use borrow.Author.Tests.{leb-true}
use Rattle.meaning.specs.Terms.{Clause, Job}
use Rattle.meaning.specs.State.{Room, Goal, Goals, QueryUnit, State, number_of, goals_at, unit_at}
use Rattle.meaning.specs.Trial.{Choice, reduces, joins_waiting, joins_failed}
use Rattle.meaning.specs.Step.{step, without_front, goals_after, body_goals, wakes, pairs_charged, compounds_charged}
use Rattle.meaning.specs.Run.{within, fits, choice_for, Verdict, rest, budget, room, Ended, ended}
use Rattle.laws.proofs.Lists.{and_left, and_right, differ, length_those, TakenOut, taken_front, taken_length}
use Rattle.laws.proofs.Runs.Onward.{Cases}

-- Why a run ended: "queue empty, the run ends `rest`; steps equal the budget, `budget`; the step would be a reduction that doesn't fit,
-- `room`, with the goal still in front".
unfoldable pub Why : List Clause → Room → ℕ → Verdict → State → Type 0
Why clauses figures limit rest state = state.goals.queue ≡ []
Why clauses figures limit budget state =
    (g : Goal) × (others : List Goal) × (state.goals.queue ≡ g ∷ others) × (state.steps ≡ limit)
Why clauses figures limit room state =
    (g : Goal) × (others : List Goal) × (state.goals.queue ≡ g ∷ others) × (state.steps < limit)
    × (fits figures (choice_for clauses state g) state (without_front others state.goals) ≡ false)

module _ (job : Job) (figures : Room) where
  unfoldable pub Ends : ℕ → State → Ended → Type 0
  Ends left state last =
      (last.state.steps ≤ state.steps + left) × Why job.clauses figures (state.steps + left) last.verdict last.state

  pub ends : Cases job.clauses figures Ends
  unfolding Ends Why step ended
  ends =
      record {
        rests = λ left state e. (omega arith, e);
        budget_ends = λ state g others e. (omega arith, (g, others, e, omega arith));
        room_ends = λ left state g others e f. (omega arith, (g, others, e, omega arith, f));
        steps = λ left state g others e f last p.
            (let same : state.steps + suc left ≡ state.steps + 1 + left = omega arith in rw same p);
      }

-- A reason excludes the others: each verdict is given exactly for its reason.
abbrev pub GoalInFront : State → Type 0
GoalInFront state = (g : Goal) × (others : List Goal) × (state.goals.queue ≡ g ∷ others)

module _ (clauses : List Clause) (figures : Room) (limit : ℕ) where
  pub rest_reason : (verdict : Verdict) (state : State) → Why clauses figures limit verdict state → (verdict ≡ rest) ↔ (state.goals.queue ≡ [])
  unfolding Why
  rest_reason rest state w = (λ e. w, λ q. refl)
  rest_reason budget state w = (λ e. cc, λ q. cc)
  rest_reason room state w = (λ e. cc, λ q. cc)

  pub budget_reason : (verdict : Verdict) (state : State) → Why clauses figures limit verdict state
      → (verdict ≡ budget) ↔ (GoalInFront state × (state.steps ≡ limit))
  unfolding Why
  budget_reason rest state w = (λ e. absurd (differ (cc)), λ q. cc)
  budget_reason budget state w = (λ e. ((w.0, w.1, w.2), w.3), λ q. refl)
  budget_reason room state w = (λ e. absurd (differ (cc)), λ q. (let h : state.steps ≡ limit = q.1 in absurd (omega (arith, w.3))))

  pub room_reason : (verdict : Verdict) (state : State) → Why clauses figures limit verdict state
      → (verdict ≡ room) ↔ (GoalInFront state × (state.steps < limit))
  unfolding Why
  room_reason rest state w = (λ e. absurd (differ (cc)), λ q. cc)
  room_reason budget state w = (λ e. absurd (differ (cc)), λ q. (let h : state.steps < limit = q.1 in absurd (omega (arith, w.3))))
  room_reason room state w = (λ e. ((w.0, w.1, w.2), w.3), λ q. refl)

  pub room_does_not_fit : (verdict : Verdict) (state : State) → Why clauses figures limit verdict state → verdict ≡ room
      → (g : Goal) (others : List Goal) → state.goals.queue ≡ g ∷ others
      → fits figures (choice_for clauses state g) state (without_front others state.goals) ≡ false
  unfolding Why
  room_does_not_fit rest state w e g others q = absurd (differ (cc))
  room_does_not_fit budget state w e g others q = absurd (differ (cc))
  room_does_not_fit room state w e g others q =
      let front : w.0 ≡ g = cc in
      let behind : w.1 ≡ others = cc in
      rw (← front, ← behind) w.4

-- Of the goals that are not taken, a step drops none: it adds the body's, or puts the one that is taken aside.
unfoldable pub goals_added : Choice → ℕ
goals_added (reduces clause given) = length clause.body
goals_added (joins_waiting readers) = 1
goals_added joins_failed = 1

pub number_after : (choice : Choice) (unit : QueryUnit) (g : Goal) (others : Goals)
    → number_of (goals_after choice unit g others) ≡ number_of others + goals_added choice
unfolding number_of goals_after goals_added body_goals goals_at
number_after (reduces clause given) unit g others =
    let moved = length_those (wakes g.query given) others.waiting in
    simp (length-append, length-map) (omega arith)
number_after (joins_waiting readers) unit g others = simp length-append (omega arith)
number_after joins_failed unit g others = simp length-append (omega arith)

-- The number of goals before a step, with the one that is taken.
pub number_before : (goals : Goals) (g : Goal) (others : List Goal) → TakenOut g others goals.queue
    → number_of goals ≡ number_of (without_front others goals) + 1
unfolding number_of without_front
number_before goals g others t = omega (arith, taken_length t)

-- What was charged is within the room.
pub record Within (figures : Room) (state : State) : Type 0 where
  pub pairs : state.pairs ≤ figures.pairs
  pub compounds : state.compounds ≤ figures.compounds
  pub goals : number_of state.goals ≤ figures.goals

pub within_says : (figures : Room) (pairs compounds goals : ℕ) → within figures pairs compounds goals ≡ true
    → (pairs ≤ figures.pairs) × (compounds ≤ figures.compounds) × (goals ≤ figures.goals)
unfolding within
within_says figures pairs compounds goals e =
    let charges = and_left (leb pairs figures.pairs && leb compounds figures.compounds) (leb goals figures.goals) e in (
      leb-true pairs figures.pairs (and_left (leb pairs figures.pairs) (leb compounds figures.compounds) charges),
      leb-true compounds figures.compounds (and_right (leb pairs figures.pairs) (leb compounds figures.compounds) charges),
      leb-true goals figures.goals (and_right (leb pairs figures.pairs && leb compounds figures.compounds) (leb goals figures.goals) e),
    )

-- What fits stays within it, whichever goal is taken; the one in front, for one.
pub taken_within : (figures : Room) (choice : Choice) (g : Goal) (others : List Goal) (state : State) → TakenOut g others state.goals.queue
    → fits figures choice state (without_front others state.goals) ≡ true → Within figures state → Within figures (step choice g others state)
unfolding fits step pairs_charged compounds_charged goals_added
taken_within figures (reduces clause given) g others state t f w =
    let charged = within_says figures _ _ _ f in
    let number = number_after (reduces clause given) (unit_at g.query state.units) g (without_front others state.goals) in
    record { pairs = charged.0; compounds = charged.1; goals = rw number charged.2 }
taken_within figures (joins_waiting readers) g others state t f w =
    let number = number_after (joins_waiting readers) (unit_at g.query state.units) g (without_front others state.goals) in
    let before = number_before state.goals g others t in
    record { pairs = omega (arith, w.pairs); compounds = omega (arith, w.compounds); goals = omega (arith, w.goals) }
taken_within figures joins_failed g others state t f w =
    let number = number_after joins_failed (unit_at g.query state.units) g (without_front others state.goals) in
    let before = number_before state.goals g others t in
    record { pairs = omega (arith, w.pairs); compounds = omega (arith, w.compounds); goals = omega (arith, w.goals) }

pub after_within : (figures : Room) (choice : Choice) (g : Goal) (others : List Goal) (state : State) → state.goals.queue ≡ g ∷ others
    → fits figures choice state (without_front others state.goals) ≡ true → Within figures state → Within figures (step choice g others state)
after_within figures choice g others state e f w = taken_within figures choice g others state (taken_front e) f w
