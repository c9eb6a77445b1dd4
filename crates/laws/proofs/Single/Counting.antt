-- How often a half occurs in the goals of one query, and how a step changes that, by arithmetic over sums:
-- a reduction brings the body's goals, and whatever else moves from list to list is counted as before.
use Prim.Native.Nat.{ℕ, suc, ◌+◌, ◌<◌}
use mathlib.Core.Path.{◌≡◌, refl}
use mathlib.Core.Bool.{true, false}
use mathlib.Core.List.{List, [], ◌∷◌, ◌++◌, map}
use native.Mathlib.Omega.{arith}
use borrow.Author.Tests.{eq-eqb, ne_eqb}
use Rattle.meaning.specs.Bytes.{when◌then◌else◌, those}
use Rattle.meaning.specs.Terms.{Half, Named, Clause, Query, all_occurrences, goals_occurrences}
use Rattle.meaning.specs.State.{QueryUnit, Goal, Goals, goals_at, all_goals, of, goals_of, Origin, from_query}
use Rattle.meaning.specs.Compare.{Assignment}
use Rattle.meaning.specs.Trial.{reduces, joins_waiting, joins_failed}
use Rattle.meaning.specs.Step.{body_goals, wakes, goals_after, without_front}
use Rattle.laws.proofs.Lists.{sum, sum_append, sum_map, sum_parted, sum_those, TakenOut, taken_sum}
use Rattle.laws.proofs.Single.LiveValues.{Count}

-- Active, waiting and failed goals together.
abbrev pub together : Goals → List Goal
together goals = goals.queue ++ map (λ w. w.goal) goals.waiting ++ goals.failed

-- How often a half occurs in a goal, if the goal is of the query.
abbrev pub own : ℕ → Half → ℕ → Goal → ℕ
own k h n g = when of k g then all_occurrences h n g.goal.arguments else 0

-- How often it occurs in the goals of the query.
abbrev pub count_of : ℕ → Goals → Count
count_of k goals h n = sum (own k h n) goals.queue + sum (λ w. own k h n w.goal) goals.waiting + sum (own k h n) goals.failed

pub sum_together : (f : Goal → ℕ) (goals : Goals)
    → sum f (together goals) ≡ sum f goals.queue + sum (λ w. f w.goal) goals.waiting + sum f goals.failed
sum_together f goals =
    let queue_and_waiting = goals.queue ++ map (λ w. w.goal) goals.waiting in
    omega (
      arith,
      sum_append f queue_and_waiting goals.failed,
      sum_append f goals.queue (map (λ w. w.goal) goals.waiting),
      sum_map f (λ w. w.goal) goals.waiting,
    )

-- Counted over the query's own lists it is the same.
pub count_of_own : (k : ℕ) (goals : Goals) (h : Half) (n : ℕ)
    → sum (λ g. all_occurrences h n g.goal.arguments) (together (goals_of k goals)) ≡ count_of k goals h n
unfolding goals_of
count_of_own k goals h n =
    let f : Goal → ℕ = λ g. all_occurrences h n g.goal.arguments in
    omega (
      arith,
      sum_together f (goals_of k goals),
      sum_those f (of k) goals.queue,
      sum_those (λ w. f w.goal) (λ w. of k w.goal) goals.waiting,
      sum_those f (of k) goals.failed,
    )

module _ (k : ℕ) (h : Half) (n : ℕ) where
  pub own_of : (g : Goal) → of k g ≡ true → own k h n g ≡ all_occurrences h n g.goal.arguments
  unfolding when◌then◌else◌
  own_of g e = rw e

  pub own_of_other : (g : Goal) → of k g ≡ false → own k h n g ≡ 0
  unfolding when◌then◌else◌
  own_of_other g e = rw e

  -- A query's goals, or a body's, entered at its place, and at another.
  pub entered : (origin : Origin) (gs : List Named) → sum (own k h n) (goals_at origin k gs) ≡ goals_occurrences h n gs
  unfolding goals_at goals_occurrences of
  entered origin [] = refl
  entered origin (g ∷ gs) = omega (arith, entered origin gs, own_of (record { query = k; goal = g; origin = origin }) (eq-eqb k k refl))

  pub entered_at_other : (origin : Origin) (j : ℕ) (gs : List Named) → (j ≡ k → ⊥) → sum (own k h n) (goals_at origin j gs) ≡ 0
  unfolding goals_at of
  entered_at_other origin j [] d = refl
  entered_at_other origin j (g ∷ gs) d =
      omega (arith, entered_at_other origin j gs d, own_of_other (record { query = j; goal = g; origin = origin }) (ne_eqb j k d))

  -- Queries at later places are others.
  pub entered_later : (place : ℕ) (qs : List Query) → k < place → sum (own k h n) (all_goals place qs) ≡ 0
  unfolding all_goals
  entered_later place [] e = refl
  entered_later place (q ∷ qs) e =
      omega (
        arith,
        sum_append (own k h n) (goals_at from_query place q.goals) (all_goals (suc place) qs),
        entered_at_other from_query place q.goals (λ i. omega arith),
        entered_later (suc place) qs (omega arith),
      )

  -- The goal that is taken, and the others.
  pub count_taken : (goals : Goals) (g : Goal) (others : List Goal) → TakenOut g others goals.queue
      → count_of k goals h n ≡ own k h n g + count_of k (without_front others goals) h n
  unfolding without_front
  count_taken goals g others t = omega (arith, taken_sum (own k h n) t)

  -- A reduction brings the body's goals; waking moves goals from list to list.
  pub count_reduced : (clause : Clause) (given : List Assignment) (unit : QueryUnit) (g : Goal) (others : Goals)
      → count_of k (goals_after (reduces clause given) unit g others) h n
      ≡ sum (own k h n) (body_goals clause unit g.query) + count_of k others h n
  unfolding goals_after
  count_reduced clause given unit g others =
      let woken = those (wakes g.query given) others.waiting in
      let body = body_goals clause unit g.query in
      omega (
        arith,
        sum_append (own k h n) (others.queue ++ body) (map (λ w. w.goal) woken),
        sum_append (own k h n) others.queue body,
        sum_map (own k h n) (λ w. w.goal) woken,
        sum_parted (λ w. own k h n w.goal) (wakes g.query given) others.waiting,
      )

  -- A goal that joins the waiting or the failed goals is counted as before.
  pub count_waiting : (readers : List ℕ) (unit : QueryUnit) (g : Goal) (others : Goals)
      → count_of k (goals_after (joins_waiting readers) unit g others) h n ≡ own k h n g + count_of k others h n
  unfolding goals_after
  count_waiting readers unit g others =
      omega (arith, sum_append (λ w. own k h n w.goal) others.waiting (record { goal = g; readers = readers } ∷ []))

  pub count_failed : (unit : QueryUnit) (g : Goal) (others : Goals)
      → count_of k (goals_after joins_failed unit g others) h n ≡ own k h n g + count_of k others h n
  unfolding goals_after
  count_failed unit g others = omega (arith, sum_append (own k h n) others.failed (g ∷ []))
