-- What a run works on: the room figures, a unit for each query, the goals, and the state before the first step.
use Rattle.std.specs.Prelude.{ℕ, zero, suc, ◌+◌, Bool, true, false, ◌&&◌, List, [], ◌∷◌, ◌++◌, map, leb, eqb, length, get_or, replicate}
use Rattle.std.proofs.Math.Option.{Option, none, some}
use Rattle.meaning.specs.Bytes.{Bytes, bytes_words, those}
use Rattle.meaning.specs.Terms.{Term, variable, Named, Clause, Query, Job, replaced, terms_words}

-- "Three room figures (pairs, compounds, goals)."
pub record Room : Type 0 where
  pub pairs : ℕ
  pub compounds : ℕ
  pub goals : ℕ

-- What each pair was assigned, if anything; a pair's number is its place.
abbrev pub Values : Type 0
Values = List (Option Term)

unfoldable pub value : Values → ℕ → Option Term
value values n = get_or values n none

-- "Values are written out with every assignment applied", over no more links than given.
unfoldable pub applied : ℕ → Values → Term → Term
applied zero values t = t
applied (suc links) values t =
    replaced (λ h p. elim (value values p) [ none ↦ variable h p | some u ↦ applied links values u ]) t

-- What belongs to one query: the values of its pairs, the number of its compounds, its number of tries.
pub record QueryUnit : Type 0 where
  pub values : Values
  pub compounds : ℕ
  pub tries : ℕ

-- "The clause that made it (0 for the query) and its own query's number of tries when it was made, the step that made it counted" (02, T-09).
pub record Origin : Type 0 where
  pub clause : ℕ
  pub tries : ℕ

-- A goal, with the place of its query and its origin, which it keeps.
pub record Goal : Type 0 where
  pub query : ℕ
  pub goal : Named
  pub origin : Origin

-- A waiting goal, with the pairs of all the readers that it waits on.
pub record Waiting : Type 0 where
  pub goal : Goal
  pub readers : List ℕ

-- Active goals in the queue, waiting goals in the order in which they began to wait, failed goals.
pub record Goals : Type 0 where
  pub queue : List Goal
  pub waiting : List Waiting
  pub failed : List Goal

-- The units in the queries' order, the pairs and compounds charged, the goals, the steps taken.
pub record State : Type 0 where
  pub units : List QueryUnit
  pub pairs : ℕ
  pub compounds : ℕ
  pub goals : Goals
  pub steps : ℕ

unfoldable pub no_unit : QueryUnit
no_unit = record { values = []; compounds = 0; tries = 0 }

unfoldable pub unit_at : ℕ → List QueryUnit → QueryUnit
unit_at k units = get_or units k no_unit

-- "Active, waiting and failed goals together."
unfoldable pub number_of : Goals → ℕ
number_of goals = length goals.queue + length goals.waiting + length goals.failed

-- A query's unit before the first step: no pair assigned, no try made.
unfoldable pub first_unit : Query → QueryUnit
first_unit q = record { values = replicate (length q.variables) none; compounds = q.compounds; tries = 0 }

-- Goals of one query, made together.
unfoldable pub goals_at : Origin → ℕ → List Named → List Goal
goals_at origin place gs = map (λ g. record { query = place; goal = g; origin = origin }) gs

-- No clause and no try made the goals of the text.
unfoldable pub from_query : Origin
from_query = record { clause = 0; tries = 0 }

-- "The goals of all queries, in text order, form the queue."
unfoldable pub all_goals : ℕ → List Query → List Goal
all_goals place [] = []
all_goals place (q ∷ qs) = goals_at from_query place q.goals ++ all_goals (suc place) qs

-- "Queries charge their pairs and compounds."
unfoldable pub query_pairs : List Query → ℕ
query_pairs [] = 0
query_pairs (q ∷ qs) = length q.variables + query_pairs qs

unfoldable pub query_compounds : List Query → ℕ
query_compounds [] = 0
query_compounds (q ∷ qs) = q.compounds + query_compounds qs

unfoldable pub start : List Query → State
start queries =
    record {
      units = map first_unit queries;
      pairs = query_pairs queries;
      compounds = query_compounds queries;
      goals = record { queue = all_goals 0 queries; waiting = []; failed = [] };
      steps = 0;
    }

-- What the state has of one query: its unit, and its goals in each of the three lists.
pub record Part : Type 0 where
  pub unit : QueryUnit
  pub goals : Goals

unfoldable pub of : ℕ → Goal → Bool
of place g = eqb g.query place

unfoldable pub goals_of : ℕ → Goals → Goals
goals_of place goals =
    record {
      queue = those (of place) goals.queue;
      waiting = those (λ w. of place w.goal) goals.waiting;
      failed = those (of place) goals.failed;
    }

unfoldable pub part_of : ℕ → State → Part
part_of place state = record { unit = unit_at place state.units; goals = goals_of place state.goals }

unfoldable pub state_words : Unit {0}
unfolding terms_words value applied no_unit unit_at number_of first_unit goals_at from_query all_goals query_pairs query_compounds start of goals_of part_of
state_words = tt
