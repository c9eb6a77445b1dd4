-- A unit has at least its query's own pairs, in every state of a run.
use Prim.Native.Nat.{ℕ, zero, suc, ◌+◌, ◌≤◌, ◌<◌}
use mathlib.Core.Path.{◌≡◌, ap}
use mathlib.Core.List.{List, [], ◌∷◌, map}
use mathlib.Core.Option.{Option, none}
use native.Mathlib.Omega.{arith}
use lib.ListN.{length, get_or, set, length-replicate}
use Rattle.meaning.specs.Terms.{Term, Query, Job}
use Rattle.meaning.specs.State.{Room, QueryUnit, unit_at, first_unit, start}
use Rattle.meaning.specs.Step.{step, unit_after}
use Rattle.meaning.specs.Run.{choice_for, run}
use Rattle.laws.proofs.Runs.{run_keeps}
use Rattle.laws.proofs.Runs.Charges.{pairs_after}
use Rattle.laws.proofs.Trial.Values.{unit_at_set}
use Rattle.term.specs.Jobs.{EachFrom}

pub no_query : Query
no_query = record { goals = []; variables = []; compounds = 0 }

unfoldable OwnPairs : List Query → List QueryUnit → Type 0
OwnPairs queries units = (k : ℕ) → k < length queries → length (get_or queries k no_query).variables ≤ length (unit_at k units).values

first_own : (queries : List Query) → OwnPairs queries (map first_unit queries)
unfolding OwnPairs unit_at first_unit
first_own [] k h = absurd (omega arith)
first_own (q ∷ queries) zero h = omega (arith, length-replicate {A = Option Term} (length q.variables) none)
first_own (q ∷ queries) (suc k) h = first_own queries k (omega arith)

step_own : (queries : List Query) (units : List QueryUnit) (q : ℕ) (u : QueryUnit) → length (unit_at q units).values ≤ length u.values
    → OwnPairs queries units → OwnPairs queries (set units q u)
unfolding OwnPairs
step_own queries units q u more own k h =
    unit_at_set (λ v. length (get_or queries k no_query).variables ≤ length v.values) units q k u
    (λ e. omega (arith, own k h, ap (λ i. length (unit_at i units).values) e)) (own k h)

pub run_own_pairs : (j : Job) (limit : ℕ) (figures : Room) (k : ℕ) → k < length j.queries
    → length (get_or j.queries k no_query).variables ≤ length (unit_at k (run j limit figures).state.units).values
unfolding OwnPairs step start
run_own_pairs j limit figures =
    run_keeps j figures (λ state. OwnPairs j.queries state.units)
    (λ state g others e fit own.
    step_own j.queries state.units g.query (unit_after (choice_for j.clauses state g) (unit_at g.query state.units))
    (omega (arith, pairs_after (unit_at g.query state.units) (choice_for j.clauses state g))) own)
    (first_own j.queries) limit

-- Each of a list by its place.
pub each_map_at : {A : Type 0} (P Q : ℕ → A → Type 0) (d : A) (k : ℕ) (l : List A)
    → ((i : ℕ) → i < length l → P (k + i) (get_or l i d) → Q (k + i) (get_or l i d)) → EachFrom P k l → EachFrom Q k l
unfolding EachFrom
each_map_at P Q d k [] h e = tt
each_map_at P Q d k (a ∷ l) h e =
    let first : k + 0 ≡ k = omega arith in (
      rw first at (h 0 (omega arith) (rw first e.0)),
      each_map_at P Q d (k + 1) l
          (λ i b p. let same : k + suc i ≡ k + 1 + i = omega arith in rw same at (h (suc i) (omega arith) (rw same p))) e.1,
    )
