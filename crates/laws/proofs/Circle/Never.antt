-- In every state of every run no pair leans on itself through one or more links.
-- At the start no pair has a value; the values of a reduction passed the circle test; no other step changes a value.
use Prim.Native.Nat.{ℕ, zero, suc}
use mathlib.Core.Path.{◌≡◌, refl}
use mathlib.Core.Bool.{false}
use mathlib.Core.List.{List, [], ◌∷◌, map}
use mathlib.Core.Option.{none}
use lib.ListN.{length}
use Rattle.meaning.specs.Terms.{Named, Clause, Query, Job}
use Rattle.meaning.specs.State.{Room, Values, value, QueryUnit, Goal, State, unit_at, no_unit, first_unit, start}
use Rattle.meaning.specs.Circle.{circle}
use Rattle.meaning.specs.Trial.{Choice, reduces, joins_waiting, joins_failed, choice}
use Rattle.meaning.specs.Step.{unit_after, step}
use Rattle.meaning.specs.Run.{choice_for, run}
use Rattle.laws.proofs.Lists.{differ}
use Rattle.laws.proofs.Trial.{value_replicate, unit_at_set, reduces_by_trial, trial_succeeds}
use Rattle.laws.proofs.Runs.{run_keeps}
use Rattle.laws.proofs.Circle.Leaning.{Leans, Links, one, first}
use Rattle.laws.proofs.Circle.Search.{no_circle_says}

-- Where no pair has a value there is no circle.
unassigned_no_circle : (values : Values) → ((p : ℕ) → value values p ≡ none) → circle values ≡ false
unfolding Leans
unassigned_no_circle values h = (no_circle_says values).1 (λ i. no_links)
  where
    no_lean : (i j : ℕ) → Leans values i j → ⊥
    no_lean i j (t, e, s) =
        let f : value values i ≡ none = h i in
        differ (cc)

    no_links : {i j : ℕ} → Links values i j → ⊥
    no_links {i} {j} (one l) = no_lean i j l
    no_links {i} (first {j = k} l c) = no_lean i k l

-- Before the first step no pair has a value.
pub first_value : (queries : List Query) (place p : ℕ) → value (unit_at place (map first_unit queries)).values p ≡ none
unfolding unit_at no_unit first_unit value
first_value [] place p = refl
first_value (q ∷ queries) zero p = value_replicate (length q.variables) p
first_value (q ∷ queries) (suc place) p = first_value queries place p

-- In no unit does a pair lean on itself.
abbrev pub NoCircle : State → Type 0
NoCircle state = (place : ℕ) → circle (unit_at place state.units).values ≡ false

pub start_no_circle : (queries : List Query) → NoCircle (start queries)
unfolding start
start_no_circle queries place = unassigned_no_circle (unit_at place (map first_unit queries)).values (first_value queries place)

-- What becomes of the goal leaves its unit without a circle.
pub unit_after_no_circle : (clauses : List Clause) (unit : QueryUnit) (goal : Named) → circle unit.values ≡ false
    → circle (unit_after (choice clauses unit goal) unit).values ≡ false
unfolding unit_after
unit_after_no_circle clauses unit goal before = go (choice clauses unit goal) refl
  where
    go : (c : Choice) → choice clauses unit goal ≡ c → circle (unit_after c unit).values ≡ false
    go (reduces clause given) e = (let its = (reduces_by_trial unit goal clause given clauses e).1 in (trial_succeeds unit goal clause given its.0 its.1).1)
    go (joins_waiting readers) e = before
    go joins_failed e = before

-- So does a step, whatever goal it takes, in the queue or not, and whatever goals it leaves there.
pub step_no_circle : (clauses : List Clause) (state : State) (g : Goal) (others : List Goal) → NoCircle state
    → NoCircle (step (choice_for clauses state g) g others state)
unfolding step choice_for
step_no_circle clauses state g others before place =
    unit_at_set (λ u. circle u.values ≡ false) state.units g.query place
    (unit_after (choice_for clauses state g) (unit_at g.query state.units))
    (λ e. unit_after_no_circle clauses (unit_at g.query state.units) g.goal (before g.query))
    (before place)

-- The values of a query's pairs where a run ends; every state of a run is where the run with a smaller budget ends.
abbrev pub values_at : Job → ℕ → Room → ℕ → Values
values_at job limit figures place = (unit_at place (run job limit figures).state.units).values

-- In every state of every run there is no circle among the values of a query's pairs.
pub run_no_circle : (job : Job) (limit : ℕ) (figures : Room) (place : ℕ)
    → circle (unit_at place (run job limit figures).state.units).values ≡ false
run_no_circle job limit figures =
    run_keeps job figures NoCircle (λ state g others front fit before. step_no_circle job.clauses state g others before)
    (start_no_circle job.queries) limit
