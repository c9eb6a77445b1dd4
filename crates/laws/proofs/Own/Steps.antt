-- A query's own run: what the state has of a query is what its own goals alone make of it, in as many steps as it has tries.
-- A step on a goal of the query is one own step of its part; a step on another query's goal leaves its part as it is.
use Prim.Native.Nat.{ℕ, zero, suc, ◌+◌, ◌<◌}
use mathlib.Core.Path.{◌≡◌, refl, sym, ap, ◌∙◌}
use mathlib.Core.Bool.{Bool, true, false, not}
use mathlib.Core.List.{List, [], ◌∷◌, map, append-nil}
use native.Mathlib.Omega.{arith}
use lib.Dec.{eqb}
use lib.ListN.{length, get_or, length-set, length-map, get_or-map}
use lib.Seq.{get_or-set_same, get_or-set_other}
use borrow.Author.Tests.{eqb-true, eqb-false, ne_eqb, eq-eqb}
use Rattle.meaning.specs.Bytes.{those}
use Rattle.meaning.specs.Terms.{Named, Clause, Query, Job}
use Rattle.meaning.specs.State.{QueryUnit, Goal, Waiting, Goals, State, Part, Room, no_unit, unit_at, first_unit, goals_at, all_goals, start, of, goals_of, part_of, Origin, from_query}
use Rattle.meaning.specs.Compare.{Assignment}
use Rattle.meaning.specs.Trial.{Choice, reduces, joins_waiting, joins_failed, choice}
use Rattle.meaning.specs.Step.{unit_after, made_by, body_goals, wakes, goals_after, without_front, step}
use Rattle.meaning.specs.Run.{choice_for, Ended, ended, run}
use Rattle.meaning.specs.Report.{section}
use Rattle.laws.proofs.Lists.{
  and_left,
  false_not_true,
  those_all,
  those_append,
  those_behind_in,
  those_behind_out,
  those_commute,
  those_excluded,
  those_implied,
  those_in,
  those_map,
  those_none,
  TakenOut,
  taken_front,
  taken_other,
}
use Rattle.laws.proofs.Runs.Charges.{tries_after}
use Rattle.laws.proofs.Runs.Onward.{Cases, run_induction}

-- One step on a query's own goals: the choice on its unit, and what becomes of the goal in front. No budget, no room, no other query.
unfoldable pub own_turn : List Clause → Part → List Goal → Part
own_turn clauses part [] = part
own_turn clauses part (g ∷ others) =
    let taken = choice clauses part.unit g.goal in
    record {
      unit = unit_after taken part.unit;
      goals = goals_after taken part.unit g (without_front others part.goals);
    }

unfoldable pub own_step : List Clause → Part → Part
own_step clauses part = own_turn clauses part part.goals.queue

unfoldable pub own_steps : ℕ → List Clause → Part → Part
own_steps zero clauses part = part
own_steps (suc n) clauses part = own_steps n clauses (own_step clauses part)

-- Before each of so many own steps there is a goal in the own queue.
unfoldable pub Some : List Goal → Type 0
Some [] = ⊥
Some (g ∷ others) = Unit {0}

unfoldable pub Goes : ℕ → List Clause → Part → Type 0
Goes zero clauses part = Unit {0}
Goes (suc n) clauses part = Some part.goals.queue × Goes n clauses (own_step clauses part)

-- The part of the query at place k before the first step.
unfoldable pub first_part : ℕ → Query → Part
first_part k q =
    record { unit = first_unit q; goals = record { queue = goals_at from_query k q.goals; waiting = []; failed = [] } }

same_goals : (queue queue' : List Goal) (waiting waiting' : List Waiting) (failed failed' : List Goal)
    → queue ≡ queue' → waiting ≡ waiting' → failed ≡ failed'
    → ◌≡◌ {A = Goals} (record { queue = queue; waiting = waiting; failed = failed }) (record { queue = queue'; waiting = waiting'; failed = failed' })
same_goals queue queue' waiting waiting' failed failed' p q r = λ i. record { queue = p i; waiting = q i; failed = r i }

same_part : (unit unit' : QueryUnit) (goals goals' : Goals) → unit ≡ unit' → goals ≡ goals'
    → ◌≡◌ {A = Part} (record { unit = unit; goals = goals }) (record { unit = unit'; goals = goals' })
same_part unit unit' goals goals' p q = λ i. record { unit = p i; goals = q i }

-- The goals of a query among those of one body.
goals_at_own : (origin : Origin) (k : ℕ) (gs : List Named) → those (of k) (goals_at origin k gs) ≡ goals_at origin k gs
unfolding goals_at of
goals_at_own origin k gs = those_map (of k) _ gs ∙ ap (map _) (those_all _ (λ g. eq-eqb k k refl) gs)

goals_at_other : (origin : Origin) (j k : ℕ) → eqb j k ≡ false → (gs : List Named) → those (of k) (goals_at origin j gs) ≡ []
unfolding goals_at of
goals_at_other origin j k d gs = those_map (of k) _ gs ∙ ap (map _) (those_none _ (λ g. d) gs)

own : (g : Goal) → of g.query g ≡ true
unfolding of
own g = eq-eqb g.query g.query refl

-- A step on a goal of the query does to the query's goals what it does to all.
goals_after_own : (choice : Choice) (unit : QueryUnit) (g : Goal) (others : Goals)
    → goals_of g.query (goals_after choice unit g others) ≡ goals_after choice unit g (goals_of g.query others)
unfolding goals_of goals_after body_goals
goals_after_own (reduces clause given) unit g others =
    same_goals _ _ _ _ _ _
    (simp (those_append, goals_at_own, those_map, those_commute (λ w. of g.query w.goal) (wakes g.query given) others.waiting))
    (those_commute _ _ others.waiting)
    refl
goals_after_own (joins_waiting readers) unit g others =
    same_goals _ _ _ _ _ _ refl (those_behind_in (λ w. of g.query w.goal) others.waiting _ (own g)) refl
goals_after_own joins_failed unit g others =
    same_goals _ _ _ _ _ _ refl refl (those_behind_in (of g.query) others.failed g (own g))

-- Waking asks for the same query: a goal that is woken by a step of query j belongs to no other.
woken_is_own : (j k : ℕ) (given : List Assignment) (w : Waiting) → eqb j k ≡ false → wakes j given w ≡ true → of k w.goal ≡ false
unfolding wakes of
woken_is_own j k given w d e =
    let mine : w.goal.query ≡ j = eqb-true _ _ (and_left (of j w.goal) _ e) in
    rw mine d

other_sleeps : (j k : ℕ) (given : List Assignment) (w : Waiting) → eqb j k ≡ false → of k w.goal ≡ true → not (wakes j given w) ≡ true
other_sleeps j k given w d e = go (wakes j given w) refl
  where
    go : (b : Bool) → wakes j given w ≡ b → not (wakes j given w) ≡ true
    go true f = absurd (false_not_true _ (woken_is_own j k given w d f) e)
    go false f = rw f

-- A step on another query's goal leaves the query's goals as they are.
goals_after_other : (k : ℕ) (choice : Choice) (unit : QueryUnit) (g : Goal) (others : Goals) → of k g ≡ false
    → goals_of k (goals_after choice unit g others) ≡ goals_of k others
unfolding goals_of goals_after body_goals of
goals_after_other k (reduces clause given) unit g others d =
    same_goals _ _ _ _ _ _
    (simp (
      those_append,
      goals_at_other (made_by clause unit) g.query k d,
      those_map,
      those_excluded (λ w. of k w.goal) (wakes g.query given) (λ w e. woken_is_own g.query k given w d e) others.waiting,
      append-nil,
    ))
    (those_implied (λ w. of k w.goal) _ (λ w e. other_sleeps g.query k given w d e) others.waiting)
    refl
goals_after_other k (joins_waiting readers) unit g others d =
    same_goals _ _ _ _ _ _ refl (those_behind_out (λ w. of k w.goal) others.waiting _ d) refl
goals_after_other k joins_failed unit g others d =
    same_goals _ _ _ _ _ _ refl refl (those_behind_out (of k) others.failed g d)

-- A step on the first goal of the query, wherever it stands in the queue, is one own step of the query's part.
pub step_is_own_here : (clauses : List Clause) (state : State) (g : Goal) (others : List Goal)
    → those (of g.query) state.goals.queue ≡ g ∷ those (of g.query) others
    → g.query < length state.units
    → part_of g.query (step (choice_for clauses state g) g others state) ≡ own_step clauses (part_of g.query state)
unfolding part_of step own_step own_turn goals_of unit_at choice_for without_front
step_is_own_here clauses state g others e h =
    let taken = choice_for clauses state g in
    let unit = unit_at g.query state.units in
    rw e
    (same_part _ _ _ _ (get_or-set_same state.units g.query (unit_after taken unit) no_unit h)
    (goals_after_own taken unit g (without_front others state.goals)))

step_is_own : (k : ℕ) (clauses : List Clause) (state : State) (g : Goal) (others : List Goal)
    → those (of k) state.goals.queue ≡ g ∷ those (of k) others
    → k < length state.units → of k g ≡ true
    → part_of k (step (choice_for clauses state g) g others state) ≡ own_step clauses (part_of k state)
unfolding of
step_is_own k clauses state g others e h o =
    let mine : g.query ≡ k = eqb-true g.query k o in
    rw (← mine) (step_is_own_here clauses state g others (rw (← mine) at e) (rw (← mine) at h))

-- That goal is in the queue of the query's part.
own_front : (k : ℕ) (state : State) (g : Goal) (others : List Goal) → those (of k) state.goals.queue ≡ g ∷ those (of k) others
    → Some (part_of k state).goals.queue
unfolding part_of goals_of Some
own_front k state g others e = rw e tt

-- A step on another query's goal, at any place, leaves the part as it is.
pub step_of_other : (k : ℕ) (choice : Choice) (state : State) (g : Goal) (others : List Goal) → TakenOut g others state.goals.queue
    → of k g ≡ false → part_of k (step choice g others state) ≡ part_of k state
unfolding part_of step goals_of unit_at without_front of
step_of_other k choice state g others t d =
    let unit = unit_at g.query state.units in
    same_part _ _ _ _ (get_or-set_other state.units g.query k _ no_unit (λ p. eqb-false g.query k d (sym p)))
    (goals_after_other k choice unit g (without_front others state.goals) d ∙ rw (taken_other (of k) d t))

-- An own step raises the query's tries by one.
own_tries : (clauses : List Clause) (part : Part) → Some part.goals.queue → (own_step clauses part).unit.tries ≡ part.unit.tries + 1
unfolding own_step own_turn Some
own_tries clauses part s = turn part.goals.queue s
  where
    turn : (queue : List Goal) → Some queue → (own_turn clauses part queue).unit.tries ≡ part.unit.tries + 1
    turn [] s = absurd s
    turn (g ∷ others) s = tries_after part.unit (choice clauses part.unit g.goal)

-- What the run from a state on makes of the part of the query at place k.
pub record OwnRun (clauses : List Clause) (first last : Part) : Type 0 where
  pub number : ℕ
  pub tries : last.unit.tries ≡ first.unit.tries + number
  pub part : last ≡ own_steps number clauses first
  pub goes : Goes number clauses first

own_run_nothing : (clauses : List Clause) (part : Part) → OwnRun clauses part part
unfolding own_steps Goes
own_run_nothing clauses part = record { number = 0; tries = omega arith; part = refl; goes = tt }

own_run_one : (clauses : List Clause) (first last : Part) → Some first.goals.queue → OwnRun clauses (own_step clauses first) last
    → OwnRun clauses first last
unfolding own_steps Goes
own_run_one clauses first last s r =
    record {
      number = suc r.number;
      tries = omega (arith, own_tries clauses first s, r.tries);
      part = r.part;
      goes = (s, r.goes);
    }

module _ (clauses : List Clause) (figures : Room) (k : ℕ) where
  Runs : ℕ → State → Ended → Type 0
  Runs left state last = k < length state.units → OwnRun clauses (part_of k state) (part_of k last.state)

  runs : Cases clauses figures Runs
  unfolding Runs ended step
  runs =
      record {
        rests = λ left state e h. own_run_nothing clauses (part_of k state);
        budget_ends = λ state g others e h. own_run_nothing clauses (part_of k state);
        room_ends = λ left state g others e f h. own_run_nothing clauses (part_of k state);
        steps = λ left state g others e f last further h. go left state g others e last further h (of k g) refl;
      }
    where
      more : (state : State) (g : Goal) (others : List Goal) → k < length state.units
          → k < length (step (choice_for clauses state g) g others state).units
      more state g others h = rw length-set h

      go : (left : ℕ) (state : State) (g : Goal) (others : List Goal) → state.goals.queue ≡ g ∷ others
          → (last : Ended) → Runs left (step (choice_for clauses state g) g others state) last → k < length state.units
          → (b : Bool) → of k g ≡ b → OwnRun clauses (part_of k state) (part_of k last.state)
      go left state g others e last further h true o =
          let first : those (of k) state.goals.queue ≡ g ∷ those (of k) others = rw e (those_in (of k) g others o) in
          own_run_one clauses (part_of k state) (part_of k last.state) (own_front k state g others first)
          (rw (step_is_own k clauses state g others first h o) at (further (more state g others h)))
      go left state g others e last further h false o =
          rw (step_of_other k (choice_for clauses state g) state g others (taken_front e) o) at (further (more state g others h))

-- The query at a place of a job.
unfoldable pub query_at : ℕ → List Query → Query
query_at k queries = get_or queries k (record { goals = []; variables = []; compounds = 0 })

-- The queue before the first step has the query's goals, in order, among the others'.
none_before : (k place : ℕ) (qs : List Query) → k < place → those (of k) (all_goals place qs) ≡ []
unfolding all_goals those
none_before k place [] h = refl
none_before k place (q ∷ qs) h =
    simp (those_append, goals_at_other from_query place k (ne_eqb place k (λ p. omega arith)), none_before k (suc place) qs (omega arith))

goals_of_query : (k place i : ℕ) (qs : List Query) → k ≡ place + i → those (of k) (all_goals place qs) ≡ goals_at from_query k (query_at i qs).goals
unfolding all_goals query_at goals_at those
goals_of_query k place i [] e = refl
goals_of_query k place zero (q ∷ qs) e =
    let here : place ≡ k = omega arith in
    rw here (simp (those_append, goals_at_own, none_before k (suc k) qs (omega arith), append-nil))
goals_of_query k place (suc i) (q ∷ qs) e =
    simp (those_append, goals_at_other from_query place k (ne_eqb place k (λ p. omega arith))) (goals_of_query k (suc place) i qs (omega arith))

start_part : (k : ℕ) (queries : List Query) → part_of k (start queries) ≡ first_part k (query_at k queries)
unfolding part_of start first_part goals_of unit_at query_at no_unit those first_unit
start_part k queries =
    same_part _ _ _ _ (get_or-map first_unit queries k _)
    (same_goals _ _ _ _ _ _ (goals_of_query k 0 k queries (omega arith)) refl refl)

-- The tries of the query at place k.
unfoldable pub tries_of : ℕ → State → ℕ
tries_of k state = (unit_at k state.units).tries

module _ (job : Job) (limit : ℕ) (figures : Room) (k : ℕ) (h : k < length job.queries) where
  own_run : OwnRun job.clauses (first_part k (query_at k job.queries)) (part_of k (run job limit figures).state)
  unfolding Runs start
  own_run =
      rw (start_part k job.queries) at
      (run_induction job figures (Runs job.clauses figures k) (runs job.clauses figures k) limit (rw length-map h))

  number_is_tries : own_run.number ≡ tries_of k (run job limit figures).state
  unfolding tries_of part_of first_part first_unit
  number_is_tries = omega (arith, own_run.tries)

  -- What the state has of a query is what so many own steps as it has tries make of the query, whatever the budget, the room and the other queries.
  pub part_is_own_steps : part_of k (run job limit figures).state
      ≡ own_steps (tries_of k (run job limit figures).state) job.clauses (first_part k (query_at k job.queries))
  part_is_own_steps = rw number_is_tries at own_run.part

  -- Each of those steps took a goal of the query.
  pub own_steps_take_goals : Goes (tries_of k (run job limit figures).state) job.clauses (first_part k (query_at k job.queries))
  own_steps_take_goals = rw number_is_tries at own_run.goes

  -- So is its section.
  pub section_is_own : section k (query_at k job.queries) (part_of k (run job limit figures).state)
      ≡ section k (query_at k job.queries)
      (own_steps (tries_of k (run job limit figures).state) job.clauses (first_part k (query_at k job.queries)))
  section_is_own = ap (section k (query_at k job.queries)) part_is_own_steps
