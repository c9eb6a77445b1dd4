-- Every term of every state of a run of an accepted text is sound: a list cell has two arguments, a constant's name has a byte.
-- The text's terms are; renaming and following keep it, and what a comparison assigns is a part of the goal or of the renamed head.
use Prim.Native.Nat.{ℕ, zero, suc, ◌≤◌}
use mathlib.Core.Path.{◌≡◌, refl, ap, sym}
use mathlib.Core.List.{List, [], ◌∷◌, ◌++◌, map}
use mathlib.Core.Option.{Option, none, some}
use lib.ListN.{length, set, replicate}
use Rattle.meaning.specs.Bytes.{Bytes}
use Rattle.meaning.specs.Terms.{
  Constant,
  integer,
  name,
  empty,
  Functor,
  cell,
  named,
  Term,
  Terms,
  variable,
  constant,
  compound,
  end,
  more,
  Named,
  Clause,
  Query,
  Job,
  count,
  renamed,
  all_renamed,
  renamed_goal,
  as_term,
}
use Rattle.meaning.specs.Items.{job, reading}
use Rattle.meaning.specs.State.{Values, value, QueryUnit, Origin, Goal, Waiting, Goals, State, Room, no_unit, unit_at, first_unit, goals_at, from_query, all_goals, start}
use Rattle.meaning.specs.Compare.{succeeds, followed, places, Assignment}
use Rattle.meaning.specs.Trial.{Choice, reduces, joins_waiting, joins_failed, next_pair, compared, with_pairs, assigned, values_after, choice}
use Rattle.meaning.specs.Step.{unit_after, made_by, body_goals, goals_after, without_front, step}
use Rattle.meaning.specs.Run.{choice_for, run}
use Rattle.laws.proofs.Lists.EachOf.{Each, each_all, each_append, each_getD, each_map, each_replicate, each_set, each_in, each_implies}
use Rattle.laws.proofs.Trial.Table.{EachArgument, table_gives}
use Rattle.laws.proofs.Trial.Chosen.{reduces_agrees}
use Rattle.laws.proofs.Runs.Invariant.{run_keeps}
use Rattle.laws.proofs.Runs.AllGoals.{EachGoal, each_goal_at, each_goal_front, each_goal_after}
use Rattle.laws.proofs.Reading.{accepted_keeps_the_figures}
use Rattle.laws.proofs.Reading.Figures.{Bounds, SpellingFits, known_in, ConstantFits, FunctorFits, TermFits, TermsFit, NamedFits, ClauseFits, QueryFits}
use Rattle.laws.proofs.Reading.ItemByItem.{names_of}
use Rattle.report_pairs.specs.Sound.{SoundConstant, SoundFunctor, Sound, AllSound, SoundValues}

-- A value, a goal, goals and values of a state.
SoundValue : Option Term → Type 0
SoundValue none = Unit {0}
SoundValue (some t) = Sound t

abbrev SoundGoal : Named → Type 0
SoundGoal g = (1 ≤ count g.arguments) × AllSound g.arguments

record SoundClause (clause : Clause) : Type 0 where
  head : SoundGoal clause.head
  body : Each SoundGoal clause.body

record SoundUnit (unit : QueryUnit) : Type 0 where
  values : Each SoundValue unit.values

abbrev SoundGoals : Goals → Type 0
SoundGoals goals = EachGoal (λ g. SoundGoal g.goal) goals

record SoundState (state : State) : Type 0 where
  units : Each SoundUnit state.units
  goals : SoundGoals state.goals

-- Renaming.
count_renamed : (p c : ℕ) (ts : Terms) → count (all_renamed p c ts) ≡ count ts
unfolding count all_renamed
count_renamed p c end = refl
count_renamed p c (more t ts) = ap suc (count_renamed p c ts)

mutual
  unfolding renamed all_renamed Sound AllSound

  renamed_sound : (p c : ℕ) (t : Term) → Sound t → Sound (renamed p c t)
  renamed_sound p c (variable h n) s = tt
  renamed_sound p c (constant k) s = s
  renamed_sound p c (compound n f ts) s = (rw (count_renamed p c ts) s.0, all_renamed_sound p c ts s.1)

  all_renamed_sound : (p c : ℕ) (ts : Terms) → AllSound ts → AllSound (all_renamed p c ts)
  all_renamed_sound p c end s = tt
  all_renamed_sound p c (more t ts) s = (renamed_sound p c t s.0, all_renamed_sound p c ts s.1)

-- Values and following.
value_sound : (values : Values) (n : ℕ) → Each SoundValue values → SoundValue (value values n)
unfolding value SoundValue
value_sound values n v = each_getD SoundValue values n none v tt

followed_sound : (links : ℕ) (values : Values) → Each SoundValue values → (t : Term) → Sound t → Sound (followed links values t)
unfolding followed SoundValue
followed_sound zero values v t s = s
followed_sound (suc links) values v (variable h p) s = go (value values p) refl (value_sound values p v) (followed_sound links values v)
  where
    go : (o : Option Term) → value values p ≡ o → SoundValue (value values p)
        → ((t : Term) → Sound t → Sound (followed links values t))
        → Sound (followed (suc links) values (variable h p))
    go none e u further = rw (e, followed) s
    go (some t) e u further = rw (e, followed) (further t (rw e at u))
followed_sound (suc links) values v (constant k) s = s
followed_sound (suc links) values v (compound n f ts) s = s

-- The table: what is assigned is the goal's term, a reader, or the head's term.
each_sound : (ts : Terms) → AllSound ts → EachArgument Sound ts
unfolding AllSound EachArgument
each_sound end s = tt
each_sound (more t ts) s = (s.0, each_sound ts s.1)

given_sound : (look : Term → Term) → ((t : Term) → Sound t → Sound (look t))
    → (us ts : Terms) → AllSound us → AllSound ts
    → (given : List Assignment) → places look us ts ≡ succeeds given → Each (λ a. Sound a.value) given
unfolding Sound
given_sound look looks us ts heads goals given agree =
    table_gives Sound Sound Sound (λ a. Sound a.value) look
    (λ n f us s. each_sound us s.1) (λ n f ts s. each_sound ts s.1) looks
    (λ x t head found. found) (λ z u found head. head)
    us ts (each_sound us heads) (each_sound ts goals) given agree

-- A choice has a clause of the job, and sound assignments.
SoundChoice : Choice → Type 0
SoundChoice (reduces clause given) = SoundClause clause × Each (λ a. Sound a.value) given
SoundChoice (joins_waiting readers) = Unit {0}
SoundChoice joins_failed = Unit {0}

choice_sound : (clauses : List Clause) (unit : QueryUnit) (goal : Named)
    → Each SoundClause clauses → SoundUnit unit → SoundGoal goal → SoundChoice (choice clauses unit goal)
unfolding SoundChoice compared
choice_sound clauses unit goal c u g = go (choice clauses unit goal) refl
  where
    go : (taken : Choice) → choice clauses unit goal ≡ taken → SoundChoice taken
    go (reduces clause given) e =
        let (member, agrees) = reduces_agrees unit goal clause given clauses e in
        let its : SoundClause clause = each_in SoundClause c member in (
          its,
          given_sound _ (followed_sound (length unit.values) unit.values u.values) _ _
              (all_renamed_sound _ _ clause.head.arguments its.head.1) g.1 given agrees,
        )
    go (joins_waiting readers) e = tt
    go joins_failed e = tt

-- The step.
assigned_sound : (given : List Assignment) (values : Values) → Each (λ a. Sound a.value) given → Each SoundValue values
    → Each SoundValue (assigned given values)
unfolding assigned SoundValue
assigned_sound [] values a v = v
assigned_sound (a ∷ others) values s v =
    assigned_sound others (set values a.pair (some a.value)) s.1 (each_set SoundValue values a.pair (some a.value) v s.0)

unit_after_sound : (choice : Choice) (unit : QueryUnit) → SoundChoice choice → SoundUnit unit → SoundUnit (unit_after choice unit)
unfolding unit_after values_after with_pairs SoundChoice SoundValue
unit_after_sound (reduces clause given) unit c u =
    record {
      values =
          assigned_sound given (unit.values ++ replicate clause.pairs none) c.1
          (each_append SoundValue unit.values (replicate clause.pairs none) u.values (each_replicate SoundValue clause.pairs none tt));
    }
unit_after_sound (joins_waiting readers) unit c u = record { values = u.values }
unit_after_sound joins_failed unit c u = record { values = u.values }

goals_at_sound : (origin : Origin) (place : ℕ) (gs : List Named) → Each SoundGoal gs → Each (λ g. SoundGoal g.goal) (goals_at origin place gs)
goals_at_sound origin place gs s = each_goal_at (λ (g : Goal). SoundGoal g.goal) origin place gs s

body_sound : (p c : ℕ) (gs : List Named) → Each SoundGoal gs → Each SoundGoal (map (renamed_goal p c) gs)
unfolding renamed_goal
body_sound p c [] s = tt
body_sound p c (g ∷ gs) s =
    ((rw (count_renamed p c g.arguments) s.0.0, all_renamed_sound p c g.arguments s.0.1), body_sound p c gs s.1)

goals_after_sound : (choice : Choice) (unit : QueryUnit) (g : Goal) (others : Goals) → SoundChoice choice → SoundGoal g.goal
    → SoundGoals others → SoundGoals (goals_after choice unit g others)
unfolding body_goals SoundChoice
goals_after_sound choice unit g others c s o =
    each_goal_after (λ g. SoundGoal g.goal) choice unit g others s
    (λ clause given e. let taken : SoundChoice (reduces clause given) = rw e at c in
    goals_at_sound (made_by clause unit) g.query _ (body_sound (next_pair unit) unit.compounds clause.body taken.0.body)) o

unit_at_sound : (k : ℕ) (units : List QueryUnit) → Each SoundUnit units → SoundUnit (unit_at k units)
unfolding unit_at no_unit
unit_at_sound k units u = each_getD SoundUnit units k no_unit u (record { values = tt })

step_sound : (clauses : List Clause) (state : State) (g : Goal) (others : List Goal) → state.goals.queue ≡ g ∷ others
    → Each SoundClause clauses → SoundState state → SoundState (step (choice_for clauses state g) g others state)
unfolding step choice_for without_front
step_sound clauses state g others e c s =
    let unit = unit_at_sound g.query state.units s.units in
    let (front, behind) = each_goal_front (λ h. SoundGoal h.goal) state.goals g others e s.goals in
    let taken = choice_sound clauses (unit_at g.query state.units) g.goal c unit front in
    record {
      units = each_set SoundUnit state.units g.query _ s.units (unit_after_sound _ _ taken unit);
      goals = goals_after_sound _ _ g (without_front others state.goals) taken front behind;
    }

-- Before the first step.
first_units_sound : (qs : List Query) → Each SoundUnit (map first_unit qs)
unfolding first_unit SoundValue
first_units_sound qs =
    each_map SoundUnit first_unit qs (each_all _ (λ q. record { values = each_replicate SoundValue (length q.variables) none tt }) qs)

all_goals_sound : (place : ℕ) (qs : List Query) → Each (λ q. Each SoundGoal q.goals) qs → Each (λ g. SoundGoal g.goal) (all_goals place qs)
unfolding all_goals
all_goals_sound place [] s = tt
all_goals_sound place (q ∷ qs) s =
    each_append _ (goals_at from_query place q.goals) (all_goals (suc place) qs) (goals_at_sound from_query place q.goals s.0) (all_goals_sound (suc place) qs s.1)

run_sound : (j : Job) (limit : ℕ) (figures : Room) → Each SoundClause j.clauses → Each (λ q. Each SoundGoal q.goals) j.queries
    → SoundState (run j limit figures).state
unfolding start
run_sound j limit figures clauses queries =
    run_keeps j figures SoundState
    (λ state g others e fit p. step_sound j.clauses state g others e clauses p)
    (record {
      units = first_units_sound j.queries;
      goals = record { queue = all_goals_sound 0 j.queries queries; waiting = tt; failed = tt };
    })
    limit

-- The text's own terms.
module _ (names : List Bytes) (spelled : Each SpellingFits names) where
  constant_sound : (b : Bounds) → b.names ≡ names → (k : Constant) → ConstantFits b k → SoundConstant k
  unfolding ConstantFits
  constant_sound b e (integer i) f = tt
  constant_sound b e (name g) f = (each_in SpellingFits (rw (sym e) at spelled) (known_in b g f)).some
  constant_sound b e empty f = tt

  functor_sound : (b : Bounds) (f : Functor) (n : ℕ) → FunctorFits b f n → SoundFunctor f n
  unfolding FunctorFits
  functor_sound b cell n h = h
  functor_sound b (named f) n h = h.1

  mutual
    unfolding TermFits TermsFit Sound AllSound

    term_sound : (t : Term) (b : Bounds) → b.names ≡ names → TermFits b t → Sound t
    term_sound (variable h n) b e f = tt
    term_sound (constant k) b e f = constant_sound b e k f
    term_sound (compound n g ts) b e f = (functor_sound b g (count ts) f.1, terms_sound ts b e f.2)

    terms_sound : (ts : Terms) (b : Bounds) → b.names ≡ names → TermsFit b ts → AllSound ts
    terms_sound end b e f = tt
    terms_sound (more t ts) b e f = (term_sound t b e f.0, terms_sound ts b e f.1)

  goal_sound : (b : Bounds) → b.names ≡ names → (g : Named) → NamedFits b g → SoundGoal g
  goal_sound b e g f = (f.some_arguments, terms_sound g.arguments b e f.arguments)

  clause_sound : (c : Clause) → ClauseFits names c → SoundClause c
  clause_sound c f =
      record { head = goal_sound _ refl c.head f.head; body = each_implies _ SoundGoal (λ g h. goal_sound _ refl g h) c.body f.body }

  query_sound : (q : Query) → QueryFits names q → Each SoundGoal q.goals
  query_sound q f = each_implies _ SoundGoal (λ g h. goal_sound _ refl g h) q.goals f.goals

-- Of an accepted text: every state of every run.
text_sound : (text : Bytes) (j : Job) → reading text ≡ job j → (limit : ℕ) (figures : Room) → SoundState (run j limit figures).state
text_sound text j reads limit figures =
    let fit = accepted_keeps_the_figures text j reads in
    let spelled = fit.names_fit.spelled in
    run_sound j limit figures
    (each_implies (ClauseFits (names_of text)) SoundClause (clause_sound (names_of text) spelled) j.clauses fit.clauses)
    (each_implies (QueryFits (names_of text)) (λ q. Each SoundGoal q.goals) (query_sound (names_of text) spelled) j.queries fit.queries)

values_sound : (values : Values) → Each SoundValue values → SoundValues values
unfolding SoundValue
values_sound values v p t e = rw e at (value_sound values p v)

module _ (text : Bytes) (j : Job) (reads : reading text ≡ job j) (limit : ℕ) (figures : Room) where
  -- The values of a query's pairs, and its goals in each of the three lists, where a run ends.
  pub sound_values : (k : ℕ) → SoundValues (unit_at k (run j limit figures).state.units).values
  sound_values k = values_sound _ (unit_at_sound k _ (text_sound text j reads limit figures).units).values

  sound_goals : SoundGoals (run j limit figures).state.goals
  sound_goals = (text_sound text j reads limit figures).goals

  goal_term : (g : Goal) → SoundGoal g.goal → Sound (as_term g.goal)
  unfolding Sound as_term
  goal_term g s = s

  pub sound_queue : Each (λ g. Sound (as_term g.goal)) (run j limit figures).state.goals.queue
  sound_queue = each_implies (λ g. SoundGoal g.goal) _ goal_term (run j limit figures).state.goals.queue sound_goals.queue

  pub sound_waiting : Each (λ g. Sound (as_term g.goal)) (map (λ w. w.goal) (run j limit figures).state.goals.waiting)
  sound_waiting =
      let waiting = (run j limit figures).state.goals.waiting in
      each_map (λ (g : Goal). Sound (as_term g.goal)) (λ (w : Waiting). w.goal) waiting
      (each_implies (λ (w : Waiting). SoundGoal w.goal.goal) _ (λ w. goal_term w.goal) waiting sound_goals.waiting)

  pub sound_failed : Each (λ g. Sound (as_term g.goal)) (run j limit figures).state.goals.failed
  sound_failed = each_implies (λ g. SoundGoal g.goal) _ goal_term (run j limit figures).state.goals.failed sound_goals.failed
