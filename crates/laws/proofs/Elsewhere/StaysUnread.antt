-- A pair whose reader no goal of its query has a chain to is unread for ever.
-- A step makes no chain to an old pair that neither the goal that it takes nor another had.
use Prim.Native.Nat.{ℕ, ◌+◌, ◌≤◌, ◌<◌}
use mathlib.Core.Path.{◌≡◌, refl, sym}
use mathlib.Core.Logic.{⊎_elim}
use mathlib.Core.Bool.{Bool, true, false}
use mathlib.Core.List.{List, map}
use native.Mathlib.Omega.{arith}
use lib.Dec.{eqb}
use lib.ListN.{length, length-map}
use borrow.Author.Tests.{eqb-true, eqb-false, eq-eqb}
use Rattle.meaning.specs.Terms.{reader, Terms, Clause, Query, Job, renamed_goal, all_occurrences}
use Rattle.meaning.specs.State.{Room, Values, QueryUnit, Goal, Goals, State, first_unit, unit_at, goals_at, all_goals, of, start}
use Rattle.meaning.specs.Trial.{next_pair, Choice, reduces, joins_waiting, joins_failed, choice}
use Rattle.meaning.specs.Step.{unit_after, made_by, body_goals, goals_after, without_front, step}
use Rattle.meaning.specs.Run.{choice_for, run}
use Rattle.laws.proofs.Lists.{Each, each_all, each_implies, each_map, each_member, in_sum, differ, TakenOut, taken_front}
use Rattle.laws.proofs.Terms.{all_renamed_beyond}
use Rattle.laws.proofs.Trial.{reduces_agrees, unit_at_set_same, unit_at_set_other}
use Rattle.laws.proofs.Runs.{KeptAtAnyPlace, run_goes_on}
use Rattle.laws.proofs.Runs.AllGoals.{EachGoal, each_goal_implies, each_goal_at, each_goal_taken, each_goal_after}
use Rattle.laws.proofs.Runs.Charges.{step_units, pairs_after}
use Rattle.laws.proofs.Runs.Further.{goes_on}
use Rattle.laws.proofs.Runs.Invariant.{onward_keeps}
use Rattle.laws.proofs.Circle.Never.{first_value}
use Rattle.laws.proofs.Single.Chains.{Reaches, here, through}
use Rattle.laws.proofs.Single.Counting.{own, own_of, count_of}
use Rattle.laws.proofs.Elsewhere.Before.{reached_before, beyond_reaches_none}

-- A goal, if it is of the query, has no chain to the pair's reader.
abbrev pub Unread : ℕ → ℕ → Values → Goal → Type 0
Unread k z values g = g.query ≡ k → ¬ Reaches values z g.goal.arguments

-- A pair of the unit at place k whose reader no goal of that query has a chain to.
pub record UnreadAt (k z : ℕ) (state : State) : Type 0 where
  pub place : k < length state.units
  pub old : z < length (unit_at k state.units).values
  pub unread : EachGoal (Unread k z (unit_at k state.units).values) state.goals

module _ (clauses : List Clause) (unit : QueryUnit) (g : Goal) (goals : Goals) (others : List Goal) (taken : TakenOut g others goals.queue) where
  -- A step on a goal of the query.
  own_unread : (z : ℕ) → z < length unit.values → EachGoal (Unread g.query z unit.values) goals → (c : Choice) → choice clauses unit g.goal ≡ c
      → EachGoal (Unread g.query z (unit_after c unit).values) (goals_after c unit g (without_front others goals))
  unfolding unit_after body_goals goals_at renamed_goal next_pair
  own_unread z old unread c e =
      let (first, behind) = each_goal_taken (Unread g.query z unit.values) goals g others taken unread in
      go c e first behind
    where
      stays : (c : Choice) → choice clauses unit g.goal ≡ c → Unread g.query z unit.values g
          → (h : Goal) → Unread g.query z unit.values h → Unread g.query z (unit_after c unit).values h
      stays (reduces clause given) e first h none =
          λ own r. ⊎_elim (none own) (first refl)
          (reached_before clause unit g.goal given (reduces_agrees unit g.goal clause given clauses e).1 h.goal.arguments old r)
      stays (joins_waiting readers) e first h none = none
      stays joins_failed e first h none = none

      body : (clause : Clause) → Each (Unread g.query z unit.values) (body_goals clause unit g.query)
      body clause =
          each_goal_at (Unread g.query z unit.values) (made_by clause unit) g.query (map (renamed_goal (next_pair unit) unit.compounds) clause.body)
          (each_map (λ b. Unread g.query z unit.values (record { query = g.query; goal = b; origin = made_by clause unit })) (renamed_goal (next_pair unit) unit.compounds) clause.body
          (each_all (λ b. Unread g.query z unit.values (record { query = g.query; goal = renamed_goal (next_pair unit) unit.compounds b; origin = made_by clause unit }))
          (λ b own. beyond_reaches_none unit.values z _ old (all_renamed_beyond b.arguments (next_pair unit) unit.compounds)) clause.body))

      go : (c : Choice) → choice clauses unit g.goal ≡ c → Unread g.query z unit.values g
          → EachGoal (Unread g.query z unit.values) (without_front others goals)
          → EachGoal (Unread g.query z (unit_after c unit).values) (goals_after c unit g (without_front others goals))
      go c e first behind =
          each_goal_after (Unread g.query z (unit_after c unit).values) c unit g (without_front others goals) (stays c e first g first)
          (λ clause given i. each_implies (Unread g.query z unit.values) (Unread g.query z (unit_after c unit).values) (stays c e first)
          (body_goals clause unit g.query) (body clause))
          (each_goal_implies (Unread g.query z unit.values) (Unread g.query z (unit_after c unit).values) (stays c e first)
          (without_front others goals) behind)

  -- A step on another query's goal.
  other_unread : (k z : ℕ) (values : Values) → (g.query ≡ k → ⊥) → EachGoal (Unread k z values) goals → (c : Choice)
      → EachGoal (Unread k z values) (goals_after c unit g (without_front others goals))
  unfolding body_goals
  other_unread k z values d unread c =
      let (first, behind) = each_goal_taken (Unread k z values) goals g others taken unread in
      each_goal_after (Unread k z values) c unit g (without_front others goals) first
      (λ clause given i. each_goal_at (Unread k z values) (made_by clause unit) g.query _
      (each_all (λ b. Unread k z values (record { query = g.query; goal = b; origin = made_by clause unit })) (λ b own. absurd (d own))
      (map (renamed_goal (next_pair unit) unit.compounds) clause.body))) behind

-- Each step keeps it, whichever goal of the queue it takes.
pub step_unread : (clauses : List Clause) (figures : Room) (k z : ℕ) → KeptAtAnyPlace clauses figures (UnreadAt k z)
unfolding step choice_for
step_unread clauses figures k z state g others taken fit u = go (eqb g.query k) refl
  where
    unit : QueryUnit
    unit = unit_at g.query state.units

    after : QueryUnit
    after = unit_after (choice clauses unit g.goal) unit

    go : (b : Bool) → eqb g.query k ≡ b → UnreadAt k z (step (choice_for clauses state g) g others state)
    go true e =
        let same : g.query ≡ k = eqb-true g.query k e in
        let at_k = unit_at_set_same state.units g.query after (rw same u.place) in
        record {
          place = rw (step_units (choice_for clauses state g) g others state) u.place;
          old = rw (← same, at_k) (omega (arith, pairs_after unit (choice clauses unit g.goal), rw (← same) at u.old));
          unread = rw (← same, at_k) (own_unread clauses unit g state.goals others taken z (rw (← same) at u.old) (rw (← same) at u.unread) _ refl);
        }
    go false e =
        let d : g.query ≡ k → ⊥ = eqb-false g.query k e in
        let at_k = unit_at_set_other state.units g.query k after (λ i. d (sym i)) in
        record {
          place = rw (step_units (choice_for clauses state g) g others state) u.place;
          old = rw at_k u.old;
          unread = rw at_k (other_unread clauses unit g state.goals others taken k z _ d u.unread _);
        }

-- So once unread, unread in every later state of the run.
pub unread_stays : (job : Job) (m n : ℕ) (figures : Room) (k z : ℕ) → UnreadAt k z (run job m figures).state → UnreadAt k z (run job (m + n) figures).state
unfolding goes_on
unread_stays job m n figures k z u =
    rw (run_goes_on job m n figures)
    (onward_keeps job.clauses figures (UnreadAt k z)
    (λ state g others front fit u. step_unread job.clauses figures k z state g others (taken_front front) fit u) n (run job m figures).state _ refl u)

-- Before the first step: a pair whose reader stands in no goal of the query.
module _ (queries : List Query) (k z : ℕ) where
  reached_at_start : (ts : Terms) → Reaches (unit_at k (map first_unit queries)).values z ts → 1 ≤ all_occurrences reader z ts
  reached_at_start ts (here m) = m
  reached_at_start ts (through h q u m e further) =
      let unassigned = first_value queries k q in
      absurd (differ (cc))

  pub start_unread : k < length queries → z < length (unit_at k (start queries).units).values → count_of k (start queries).goals reader z ≡ 0
      → UnreadAt k z (start queries)
  unfolding start of
  start_unread inside old nowhere =
      record {
        place = omega (arith, length-map queries first_unit);
        old = old;
        unread =
            record {
              queue =
                  each_member (Unread k z (unit_at k (map first_unit queries)).values) (all_goals 0 queries)
                  (λ g m own_goal r.
                  omega (
                    arith,
                    reached_at_start g.goal.arguments r,
                    in_sum (own k reader z) m,
                    own_of k reader z g (eq-eqb g.query k own_goal),
                  ));
              waiting = tt;
              failed = tt;
            };
      }
