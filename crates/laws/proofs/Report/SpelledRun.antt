-- A run makes no new spelling: what every name of the job satisfies, every name in the values and goals of every state satisfies.
-- A choice takes a clause of the job, with assignments that a comparison gave; a step adds the clause's renamed body and those assignments.
use Prim.Native.Nat.{ℕ, suc}
use mathlib.Core.Path.{◌≡◌, refl}
use mathlib.Core.List.{List, [], ◌∷◌, ◌++◌, map}
use mathlib.Core.Option.{none, some}
use lib.ListN.{length, set, replicate}
use Rattle.meaning.specs.Bytes.{Bytes}
use Rattle.meaning.specs.Terms.{Named, Clause, Query, Job, renamed_goal}
use Rattle.meaning.specs.State.{Values, QueryUnit, Goal, Goals, State, Room, no_unit, unit_at, first_unit, goals_at, all_goals, start, Origin, from_query}
use Rattle.meaning.specs.Compare.{Assignment}
use Rattle.meaning.specs.Trial.{Choice, reduces, joins_waiting, joins_failed, next_pair, compared, with_pairs, assigned, values_after, choice}
use Rattle.meaning.specs.Step.{unit_after, body_goals, goals_after, without_front, step}
use Rattle.meaning.specs.Run.{choice_for, run}
use Rattle.laws.proofs.Lists.{Each, each_all, each_append, each_getD, each_map, each_replicate, each_set, each_in, TakenOut, taken_front}
use Rattle.laws.proofs.Trial.{reduces_agrees}
use Rattle.laws.proofs.Runs.{run_keeps}
use Rattle.laws.proofs.Runs.AllGoals.{EachGoal, each_goal_at, each_goal_taken, each_goal_after}
use Rattle.laws.proofs.Report.Spelled.{Spelled, GoalSpelled, ValueSpelled, all_renamed_spelled, followed_spelled, given_spelled}

module _ (S : Bytes → Type 0) where
  -- Every name of a clause, of a job.
  pub record ClauseSpelled (clause : Clause) : Type 0 where
    pub head : GoalSpelled S clause.head
    pub body : Each (GoalSpelled S) clause.body

  pub record JobSpelled (job : Job) : Type 0 where
    pub clauses : Each ClauseSpelled job.clauses
    pub queries : Each (λ q. Each (GoalSpelled S) q.goals) job.queries

  -- Every name of a unit's values, of a state's values and goals.
  pub record UnitSpelled (unit : QueryUnit) : Type 0 where
    pub values : Each (ValueSpelled S) unit.values

  abbrev pub GoalsSpelled : Goals → Type 0
  GoalsSpelled goals = EachGoal (λ g. GoalSpelled S g.goal) goals

  pub record StateSpelled (state : State) : Type 0 where
    pub units : Each UnitSpelled state.units
    pub goals : GoalsSpelled state.goals

  -- A choice has a spelled clause and spelled assignments.
  ChoiceSpelled : Choice → Type 0
  ChoiceSpelled (reduces clause given) = ClauseSpelled clause × Each (λ a. Spelled S a.value) given
  ChoiceSpelled (joins_waiting readers) = Unit {0}
  ChoiceSpelled joins_failed = Unit {0}

  choice_spelled : (clauses : List Clause) (unit : QueryUnit) (goal : Named)
      → Each ClauseSpelled clauses → UnitSpelled unit → GoalSpelled S goal → ChoiceSpelled (choice clauses unit goal)
  unfolding ChoiceSpelled compared GoalSpelled
  choice_spelled clauses unit goal c u g = go (choice clauses unit goal) refl
    where
      go : (taken : Choice) → choice clauses unit goal ≡ taken → ChoiceSpelled taken
      go (reduces clause given) e =
          let (member, agrees) = reduces_agrees unit goal clause given clauses e in
          let its : ClauseSpelled clause = each_in ClauseSpelled c member in (
            its,
            given_spelled S _ (followed_spelled S (length unit.values) unit.values u.values) _ _
                (all_renamed_spelled S _ _ clause.head.arguments its.head.1) g.1 given agrees,
          )
      go (joins_waiting readers) e = tt
      go joins_failed e = tt

  -- The step.
  assigned_spelled : (given : List Assignment) (values : Values) → Each (λ a. Spelled S a.value) given → Each (ValueSpelled S) values
      → Each (ValueSpelled S) (assigned given values)
  unfolding assigned ValueSpelled
  assigned_spelled [] values a v = v
  assigned_spelled (a ∷ others) values s v =
      assigned_spelled others (set values a.pair (some a.value)) s.1
      (each_set (ValueSpelled S) values a.pair (some a.value) v s.0)

  unit_after_spelled : (choice : Choice) (unit : QueryUnit) → ChoiceSpelled choice → UnitSpelled unit → UnitSpelled (unit_after choice unit)
  unfolding unit_after values_after with_pairs ChoiceSpelled ValueSpelled
  unit_after_spelled (reduces clause given) unit c u =
      record {
        values =
            assigned_spelled given (unit.values ++ replicate clause.pairs none) c.1
            (each_append (ValueSpelled S) unit.values (replicate clause.pairs none) u.values
            (each_replicate (ValueSpelled S) clause.pairs none tt));
      }
  unit_after_spelled (joins_waiting readers) unit c u = record { values = u.values }
  unit_after_spelled joins_failed unit c u = record { values = u.values }

  goals_at_spelled : (origin : Origin) (place : ℕ) (gs : List Named) → Each (GoalSpelled S) gs → Each (λ g. GoalSpelled S g.goal) (goals_at origin place gs)
  goals_at_spelled origin place gs s = each_goal_at (λ (g : Goal). GoalSpelled S g.goal) origin place gs s

  body_spelled : (p c : ℕ) (gs : List Named) → Each (GoalSpelled S) gs → Each (GoalSpelled S) (map (renamed_goal p c) gs)
  unfolding GoalSpelled renamed_goal
  body_spelled p c [] s = tt
  body_spelled p c (g ∷ gs) s = ((s.0.0, all_renamed_spelled S p c g.arguments s.0.1), body_spelled p c gs s.1)

  goals_after_spelled : (choice : Choice) (unit : QueryUnit) (g : Goal) (others : Goals) → ChoiceSpelled choice → GoalSpelled S g.goal
      → GoalsSpelled others → GoalsSpelled (goals_after choice unit g others)
  unfolding body_goals ChoiceSpelled
  goals_after_spelled choice unit g others c s o =
      each_goal_after (λ g. GoalSpelled S g.goal) choice unit g others s
      (λ clause given e. let taken : ChoiceSpelled (reduces clause given) = rw e at c in
      goals_at_spelled _ g.query _ (body_spelled (next_pair unit) unit.compounds clause.body taken.0.body)) o

  pub unit_at_spelled : (k : ℕ) (units : List QueryUnit) → Each UnitSpelled units → UnitSpelled (unit_at k units)
  unfolding unit_at no_unit
  unit_at_spelled k units u = each_getD UnitSpelled units k no_unit u (record { values = tt })

  step_spelled : (clauses : List Clause) (state : State) (g : Goal) (others : List Goal) → TakenOut g others state.goals.queue
      → Each ClauseSpelled clauses → StateSpelled state → StateSpelled (step (choice_for clauses state g) g others state)
  unfolding step choice_for without_front
  step_spelled clauses state g others t c s =
      let unit = unit_at_spelled g.query state.units s.units in
      let (its, behind) = each_goal_taken (λ h. GoalSpelled S h.goal) state.goals g others t s.goals in
      let taken = choice_spelled clauses (unit_at g.query state.units) g.goal c unit its in
      record {
        units = each_set UnitSpelled state.units g.query _ s.units (unit_after_spelled _ _ taken unit);
        goals = goals_after_spelled _ _ g (without_front others state.goals) taken its behind;
      }

  -- Before the first step.
  first_units_spelled : (qs : List Query) → Each UnitSpelled (map first_unit qs)
  unfolding first_unit ValueSpelled
  first_units_spelled qs =
      each_map UnitSpelled first_unit qs
      (each_all _ (λ q. record { values = each_replicate (ValueSpelled S) (length q.variables) none tt }) qs)

  all_goals_spelled : (place : ℕ) (qs : List Query) → Each (λ q. Each (GoalSpelled S) q.goals) qs
      → Each (λ g. GoalSpelled S g.goal) (all_goals place qs)
  unfolding all_goals
  all_goals_spelled place [] s = tt
  all_goals_spelled place (q ∷ qs) s =
      each_append _ (goals_at from_query place q.goals) (all_goals (suc place) qs) (goals_at_spelled from_query place q.goals s.0) (all_goals_spelled (suc place) qs s.1)

  -- A run makes no new spelling.
  pub run_spelled : (job : Job) (limit : ℕ) (figures : Room) → JobSpelled job → StateSpelled (run job limit figures).state
  unfolding start
  run_spelled job limit figures s =
      run_keeps job figures StateSpelled
      (λ state g others e fit p. step_spelled job.clauses state g others (taken_front e) s.clauses p)
      (record {
        units = first_units_spelled job.queries;
        goals = record { queue = all_goals_spelled 0 job.queries s.queries; waiting = tt; failed = tt };
      })
      limit
