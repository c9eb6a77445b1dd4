-- Steps and charges are the sums of what the queries' units count: each step is a try of the query of its goal, each pair and compound charged belongs to a query.
-- For it every goal's query is a place of a unit, in each of the three lists.
use Prim.Native.Nat.{ℕ, suc, ◌+◌, ◌≤◌, ◌<◌}
use mathlib.Core.Path.{◌≡◌, refl, ◌∙◌}
use mathlib.Core.List.{List, [], ◌∷◌, map}
use native.Mathlib.Omega.{arith}
use lib.ListN.{length, length-map, length-set, length-replicate}
use Rattle.meaning.specs.Terms.{Named, Query, Job}
use Rattle.meaning.specs.State.{QueryUnit, Goal, Goals, State, Room, no_unit, unit_at, first_unit, goals_at, all_goals, query_pairs, query_compounds, start, Origin, from_query}
use Rattle.meaning.specs.Trial.{Choice, reduces, joins_waiting, joins_failed}
use Rattle.meaning.specs.Step.{unit_after, body_goals, goals_after, pairs_charged, compounds_charged, without_front, step}
use Rattle.meaning.specs.Run.{choice_for, run}
use Rattle.laws.proofs.Lists.{Each, each_all, each_append, sum, sum_set, TakenOut, taken_front}
use Rattle.laws.proofs.Trial.{length_values_after}
use Rattle.laws.proofs.Runs.Invariant.{run_keeps}
use Rattle.laws.proofs.Runs.AllGoals.{EachGoal, each_goal_at, each_goal_taken, each_goal_after}

-- What a step adds to the unit of its goal: one try, and what is charged.
module _ (unit : QueryUnit) where
  pub tries_after : (choice : Choice) → (unit_after choice unit).tries ≡ unit.tries + 1
  unfolding unit_after
  tries_after (reduces clause given) = refl
  tries_after (joins_waiting readers) = refl
  tries_after joins_failed = refl

  pub pairs_after : (choice : Choice) → length (unit_after choice unit).values ≡ length unit.values + pairs_charged choice
  unfolding unit_after pairs_charged
  pairs_after (reduces clause given) = length_values_after clause given unit
  pairs_after (joins_waiting readers) = omega arith
  pairs_after joins_failed = omega arith

  pub compounds_after : (choice : Choice) → (unit_after choice unit).compounds ≡ unit.compounds + compounds_charged choice
  unfolding unit_after compounds_charged
  compounds_after (reduces clause given) = refl
  compounds_after (joins_waiting readers) = omega arith
  compounds_after joins_failed = omega arith

-- Every goal's query is one of the first n places.
abbrev pub Placed : ℕ → Goals → Type 0
Placed n goals = EachGoal (λ g. g.query < n) goals

goals_at_placed : (origin : Origin) (n place : ℕ) (gs : List Named) → place < n → Each (λ g. g.query < n) (goals_at origin place gs)
goals_at_placed origin n place gs h = each_goal_at (λ g. g.query < n) origin place gs (each_all (λ g. place < n) (λ g. h) gs)

after_placed : (n : ℕ) (choice : Choice) (unit : QueryUnit) (g : Goal) (others : Goals) → g.query < n → Placed n others
    → Placed n (goals_after choice unit g others)
unfolding body_goals
after_placed n choice unit g others h p =
    each_goal_after (λ g. g.query < n) choice unit g others h (λ clause given e. goals_at_placed _ n g.query _ h) p

-- What the units count, against the state's own counts.
pub record Summed (state : State) : Type 0 where
  pub placed : Placed (length state.units) state.goals
  pub steps : state.steps ≡ sum (λ u. u.tries) state.units
  pub pairs : state.pairs ≡ sum (λ u. length u.values) state.units
  pub compounds : state.compounds ≡ sum (λ u. u.compounds) state.units

-- A step keeps it, whichever goal of the queue it takes.
pub step_summed : (choice : Choice) (g : Goal) (others : List Goal) (state : State) → TakenOut g others state.goals.queue → Summed state
    → Summed (step choice g others state)
unfolding step without_front unit_at
step_summed choice g others state t c =
    let unit = unit_at g.query state.units in
    let (its, behind) = each_goal_taken (λ g. g.query < length state.units) state.goals g others t c.placed in
    let tries = sum_set (λ u. u.tries) state.units g.query (unit_after choice unit) no_unit its in
    let pairs = sum_set (λ u. length u.values) state.units g.query (unit_after choice unit) no_unit its in
    let compounds = sum_set (λ u. u.compounds) state.units g.query (unit_after choice unit) no_unit its in
    record {
      placed = rw length-set (after_placed _ choice unit g (without_front others state.goals) its behind);
      steps = omega (arith, tries, tries_after unit choice, c.steps);
      pairs = omega (arith, pairs, pairs_after unit choice, c.pairs);
      compounds = omega (arith, compounds, compounds_after unit choice, c.compounds);
    }

-- Before the first step.
all_goals_placed : (place n : ℕ) (qs : List Query) → place + length qs ≤ n → Each (λ g. g.query < n) (all_goals place qs)
unfolding all_goals
all_goals_placed place n [] h = tt
all_goals_placed place n (q ∷ qs) h =
    each_append _ (goals_at from_query place q.goals) (all_goals (suc place) qs) (goals_at_placed from_query n place q.goals (omega arith)) (all_goals_placed (suc place) n qs (omega arith))

start_tries : (qs : List Query) → 0 ≡ sum (λ u. u.tries) (map first_unit qs)
unfolding first_unit
start_tries [] = refl
start_tries (q ∷ qs) = let further = start_tries qs in omega arith

start_pairs : (qs : List Query) → query_pairs qs ≡ sum (λ u. length u.values) (map first_unit qs)
unfolding first_unit query_pairs
start_pairs [] = refl
start_pairs (q ∷ qs) = let further = start_pairs qs in simp length-replicate (omega arith)

start_compounds : (qs : List Query) → query_compounds qs ≡ sum (λ u. u.compounds) (map first_unit qs)
unfolding first_unit query_compounds
start_compounds [] = refl
start_compounds (q ∷ qs) = let further = start_compounds qs in omega arith

pub start_summed : (qs : List Query) → Summed (start qs)
unfolding start
start_summed qs =
    record {
      placed =
          record {
            queue = rw length-map (all_goals_placed 0 (length qs) qs (omega arith));
            waiting = tt;
            failed = tt;
          };
      steps = start_tries qs;
      pairs = start_pairs qs;
      compounds = start_compounds qs;
    }

pub run_summed : (job : Job) (limit : ℕ) (figures : Room) → Summed (run job limit figures).state
run_summed job limit figures =
    run_keeps job figures Summed
    (λ state g others e fit c. step_summed (choice_for job.clauses state g) g others state (taken_front e) c)
    (start_summed job.queries) limit

-- A step takes no unit away and adds none.
pub step_units : (c : Choice) (g : Goal) (others : List Goal) (state : State) → length (step c g others state).units ≡ length state.units
unfolding step
step_units c g others state = length-set state.units g.query _

-- A unit for each query.
pub run_units : (job : Job) (limit : ℕ) (figures : Room) → length (run job limit figures).state.units ≡ length job.queries
unfolding start
run_units job limit figures =
    run_keeps job figures (λ state. length state.units ≡ length job.queries)
    (λ state g others e fit same. step_units (choice_for job.clauses state g) g others state ∙ same)
    (length-map job.queries first_unit) limit
