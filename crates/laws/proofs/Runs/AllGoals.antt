-- What holds of each goal, active, waiting or failed: a step keeps it, if it holds of the goals of the body that is taken.
-- For a step makes no other goals: it moves them from one of the three lists to another.
use Prim.Native.Nat.{ℕ}
use mathlib.Core.Path.{◌≡◌, refl}
use mathlib.Core.Bool.{true, not}
use mathlib.Core.List.{List, [], ◌∷◌, ◌++◌, map}
use Rattle.meaning.specs.Bytes.{those}
use Rattle.meaning.specs.Terms.{Named, Clause}
use Rattle.meaning.specs.State.{QueryUnit, Goal, Waiting, Goals, goals_at, of, goals_of, Origin}
use Rattle.meaning.specs.Compare.{Assignment}
use Rattle.meaning.specs.Trial.{Choice, reduces, joins_waiting, joins_failed}
use Rattle.meaning.specs.Step.{body_goals, wakes, goals_after, without_front}
use Rattle.laws.proofs.Lists.{Each, each_append, each_implies, each_map, each_those, each_of_those, TakenOut, taken_each, taken_front}

pub record EachGoal (P : Goal → Type 0) (goals : Goals) : Type 0 where
  pub queue : Each P goals.queue
  pub waiting : Each (λ w. P w.goal) goals.waiting
  pub failed : Each P goals.failed

pub each_goal_implies : (P Q : Goal → Type 0) → ((g : Goal) → P g → Q g) → (goals : Goals) → EachGoal P goals → EachGoal Q goals
each_goal_implies P Q f goals e =
    record {
      queue = each_implies P Q f goals.queue e.queue;
      waiting = each_implies (λ w. P w.goal) (λ w. Q w.goal) (λ w. f w.goal) goals.waiting e.waiting;
      failed = each_implies P Q f goals.failed e.failed;
    }

module _ (P : Goal → Type 0) where
  -- The goals of one query, made of terms.
  pub each_goal_at : (origin : Origin) (place : ℕ) (gs : List Named) → Each (λ g. P (record { query = place; goal = g; origin = origin })) gs
      → Each P (goals_at origin place gs)
  unfolding goals_at
  each_goal_at origin place gs ps = each_map P (λ g. record { query = place; goal = g; origin = origin }) gs ps

  -- What a state has of one query.
  pub each_goal_of : (k : ℕ) (goals : Goals) → EachGoal P goals → EachGoal P (goals_of k goals)
  unfolding goals_of
  each_goal_of k goals e =
      record {
        queue = each_of_those P (of k) goals.queue e.queue;
        waiting = each_of_those (λ w. P w.goal) (λ w. of k w.goal) goals.waiting e.waiting;
        failed = each_of_those P (of k) goals.failed e.failed;
      }

  -- And what holds of each goal if it is of the query holds of these.
  pub each_goal_own : (k : ℕ) (goals : Goals) → EachGoal (λ g. of k g ≡ true → P g) goals → EachGoal P (goals_of k goals)
  unfolding goals_of
  each_goal_own k goals e =
      record {
        queue = each_those P (of k) goals.queue e.queue;
        waiting = each_those (λ w. P w.goal) (λ w. of k w.goal) goals.waiting e.waiting;
        failed = each_those P (of k) goals.failed e.failed;
      }

  -- The goal that is taken, and the others; at the front, for one.
  pub each_goal_taken : (goals : Goals) (g : Goal) (others : List Goal) → TakenOut g others goals.queue → EachGoal P goals
      → P g × EachGoal P (without_front others goals)
  unfolding without_front
  each_goal_taken goals g others taken e =
      let (its, behind) = taken_each P taken e.queue in
      (its, record { queue = behind; waiting = e.waiting; failed = e.failed })

  pub each_goal_front : (goals : Goals) (g : Goal) (others : List Goal) → goals.queue ≡ g ∷ others → EachGoal P goals
      → P g × EachGoal P (without_front others goals)
  each_goal_front goals g others front e = each_goal_taken goals g others (taken_front front) e

  pub each_goal_after : (choice : Choice) (unit : QueryUnit) (g : Goal) (others : Goals) → P g
      → ((clause : Clause) (given : List Assignment) → choice ≡ reduces clause given → Each P (body_goals clause unit g.query))
      → EachGoal P others → EachGoal P (goals_after choice unit g others)
  unfolding goals_after
  each_goal_after (reduces clause given) unit g others p body e =
      let new = body_goals clause unit g.query in
      let woken = those (wakes g.query given) others.waiting in
      record {
        queue =
            each_append P (others.queue ++ new) (map (λ w. w.goal) woken)
            (each_append P others.queue new e.queue (body clause given refl))
            (each_map P (λ (w : Waiting). w.goal) woken (each_of_those (λ w. P w.goal) (wakes g.query given) others.waiting e.waiting));
        waiting = each_of_those (λ w. P w.goal) (λ w. not (wakes g.query given w)) others.waiting e.waiting;
        failed = e.failed;
      }
  each_goal_after (joins_waiting readers) unit g others p body e =
      record {
        queue = e.queue;
        waiting = each_append (λ w. P w.goal) others.waiting (record { goal = g; readers = readers } ∷ []) e.waiting (p, tt);
        failed = e.failed;
      }
  each_goal_after joins_failed unit g others p body e =
      record { queue = e.queue; waiting = e.waiting; failed = each_append P others.failed (g ∷ []) e.failed (p, tt) }
