-- Where a goal comes from (02, T-09): from the query, at no try; or from a clause of the text, at one of its own query's tries so far.
use Prim.Native.Nat.{ℕ, suc, ◌+◌, ◌≤◌, ◌<◌}
use mathlib.Core.Path.{◌≡◌, refl, sym}
use mathlib.Core.Logic.{◌⊎◌, inl, inr}
use mathlib.Core.List.{List, [], ◌∷◌, map}
use native.Mathlib.Omega.{arith}
use lib.ListN.{length, set}
use Rattle.meaning.specs.Terms.{Named, Clause, Query, Job, renamed_goal}
use Rattle.meaning.specs.State.{Room, QueryUnit, Origin, Goal, Waiting, Goals, State, unit_at, goals_at, from_query, all_goals, start}
use Rattle.meaning.specs.Compare.{Assignment}
use Rattle.meaning.specs.Trial.{Choice, reduces, next_pair}
use Rattle.meaning.specs.Step.{unit_after, made_by, body_goals, without_front, step}
use Rattle.meaning.specs.Run.{choice_for, run}
use Rattle.laws.proofs.Lists.{In, Each, each_all, each_append, each_implies, TakenOut, taken_front, taken_each}
use Rattle.laws.proofs.Trial.{unit_at_set, unit_at_set_same, reduces_agrees}
use Rattle.laws.proofs.Runs.Invariant.{run_keeps}
use Rattle.laws.proofs.Runs.AllGoals.{EachGoal, each_goal_at, each_goal_taken, each_goal_after}
use Rattle.laws.proofs.Runs.Charges.{Summed, tries_after, step_summed, start_summed}

pub record Comes (clauses : List Clause) (units : List QueryUnit) (g : Goal) : Type 0 where
  pub from : ((g.origin.clause ≡ 0) × (g.origin.tries ≡ 0))
      ⊎ ((c : Clause) × In c clauses × (g.origin.clause ≡ c.place) × (1 ≤ g.origin.tries))
  pub at : g.origin.tries ≤ (unit_at g.query units).tries

module _ (clauses : List Clause) where
  -- Tries only rise.
  module _ (units : List QueryUnit) (choice : Choice) (q : ℕ) where
    abbrev later : List QueryUnit
    later = set units q (unit_after choice (unit_at q units))

    tries_rise : (k : ℕ) → (unit_at k units).tries ≤ (unit_at k later).tries
    tries_rise k =
        unit_at_set (λ u. (unit_at k units).tries ≤ u.tries) units q k (unit_after choice (unit_at q units))
        (λ e. rw e (omega (arith, tries_after (unit_at q units) choice))) (omega arith)

    still_comes : (g : Goal) → Comes clauses units g → Comes clauses later g
    still_comes g h = record { from = h.from; at = omega (arith, h.at, tries_rise g.query) }

    all_still : (goals : Goals) → EachGoal (Comes clauses units) goals → EachGoal (Comes clauses later) goals
    all_still goals e =
        record {
          queue = each_implies _ _ still_comes goals.queue e.queue;
          waiting = each_implies _ _ (λ w. still_comes w.goal) goals.waiting e.waiting;
          failed = each_implies _ _ still_comes goals.failed e.failed;
        }

  step_comes : (state : State) (g : Goal) (others : List Goal) → TakenOut g others state.goals.queue → Summed state
      → EachGoal (Comes clauses state.units) state.goals
      → EachGoal (Comes clauses (step (choice_for clauses state g) g others state).units) (step (choice_for clauses state g) g others state).goals
  unfolding step choice_for body_goals made_by without_front
  step_comes state g others t s all =
      let unit = unit_at g.query state.units in
      let choice = choice_for clauses state g in
      let units' = later state.units choice g.query in
      let here : g.query < length state.units = (taken_each _ t s.placed.queue).0 in
      let (its, behind) = each_goal_taken (Comes clauses state.units) state.goals g others t all in
      let now : unit_at g.query units' ≡ unit_after choice unit = unit_at_set_same state.units g.query (unit_after choice unit) here in
      each_goal_after (Comes clauses units') choice unit g (without_front others state.goals)
      (still_comes state.units choice g.query g its)
      (λ clause given e.
      let goals = map (renamed_goal (next_pair unit) unit.compounds) clause.body in
      let one : (n : Named) → Comes clauses units' (record { query = g.query; goal = n; origin = made_by clause unit }) =
      λ n. record {
        from = inr (clause, (reduces_agrees unit g.goal clause given clauses e).0, refl, omega arith);
        at = rw now (omega (arith, tries_after unit choice));
      } in
      each_goal_at (Comes clauses units') (made_by clause unit) g.query goals (each_all _ one goals))
      (all_still state.units choice g.query (without_front others state.goals) behind)

  all_come_first : (units : List QueryUnit) (place : ℕ) (queries : List Query) → Each (Comes clauses units) (all_goals place queries)
  unfolding all_goals from_query
  all_come_first units place [] = tt
  all_come_first units place (q ∷ qs) =
      each_append (Comes clauses units) (goals_at from_query place q.goals) (all_goals (suc place) qs)
      (each_goal_at (Comes clauses units) from_query place q.goals (each_all _ one q.goals))
      (all_come_first units (suc place) qs)
    where
      one : (n : Named) → Comes clauses units (record { query = place; goal = n; origin = from_query })
      one n = record { from = inl (refl, refl); at = omega arith }

-- Of every goal of every state of every run.
pub run_goals_come : (job : Job) (limit : ℕ) (figures : Room)
    → EachGoal (Comes job.clauses (run job limit figures).state.units) (run job limit figures).state.goals
unfolding start
run_goals_come job limit figures =
    (run_keeps job figures (λ state. Summed state × EachGoal (Comes job.clauses state.units) state.goals)
    (λ state g others front fit (s, all). (
      step_summed (choice_for job.clauses state g) g others state (taken_front front) s,
      step_comes job.clauses state g others (taken_front front) s all,
    ))
    (start_summed job.queries, record { queue = all_come_first job.clauses _ 0 job.queries; waiting = tt; failed = tt })
    limit).1
