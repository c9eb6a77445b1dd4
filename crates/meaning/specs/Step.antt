-- Document 01, 'One step': what a step does to the unit of its goal and to the goals.
use Rattle.std.specs.Prelude.{ℕ, zero, suc, ◌+◌, Bool, true, false, not, ◌&&◌, List, [], ◌∷◌, ◌++◌, map, eqb, length, set}
use Rattle.meaning.specs.Bytes.{among, any, those}
use Rattle.meaning.specs.Terms.{Named, Clause, renamed_goal}
use Rattle.meaning.specs.State.{QueryUnit, Origin, Goal, Waiting, Goals, State, unit_at, goals_at, of}
use Rattle.meaning.specs.Compare.{Assignment}
use Rattle.meaning.specs.Trial.{Choice, reduces, joins_waiting, joins_failed, next_pair, values_after, trial_words}

-- "Its query's number of tries rises by one"; a reduction adds the clause's pairs, with the assignments, and its compounds.
unfoldable pub unit_after : Choice → QueryUnit → QueryUnit
unit_after (reduces clause given) unit =
    record { values = values_after clause given unit; compounds = unit.compounds + clause.compounds; tries = unit.tries + 1 }
unit_after (joins_waiting readers) unit = record { values = unit.values; compounds = unit.compounds; tries = unit.tries + 1 }
unit_after joins_failed unit = record { values = unit.values; compounds = unit.compounds; tries = unit.tries + 1 }

-- A reduction makes its body's goals: "the step that made it counted".
unfoldable pub made_by : Clause → QueryUnit → Origin
made_by clause unit = record { clause = clause.place; tries = unit.tries + 1 }

-- The body's goals, renamed apart as the head was.
unfoldable pub body_goals : Clause → QueryUnit → ℕ → List Goal
body_goals clause unit query =
    goals_at (made_by clause unit) query (map (renamed_goal (next_pair unit) unit.compounds) clause.body)

-- A waiting goal "that waits on a pair assigned in this step".
unfoldable pub wakes : ℕ → List Assignment → Waiting → Bool
wakes query given w = of query w.goal && any (λ a. among a.pair w.readers) given

-- "The queue is the rest, then the body goals in order, then every waiting goal that waits on a pair assigned in this step, in the order in which they began to wait."
unfoldable pub goals_after : Choice → QueryUnit → Goal → Goals → Goals
goals_after (reduces clause given) unit g others =
    record {
      queue = others.queue ++ body_goals clause unit g.query ++ map (λ w. w.goal) (those (wakes g.query given) others.waiting);
      waiting = those (λ w. not (wakes g.query given w)) others.waiting;
      failed = others.failed;
    }
goals_after (joins_waiting readers) unit g others =
    record { queue = others.queue; waiting = others.waiting ++ (record { goal = g; readers = readers } ∷ []); failed = others.failed }
goals_after joins_failed unit g others =
    record { queue = others.queue; waiting = others.waiting; failed = others.failed ++ (g ∷ []) }

-- "Each reduction charges its pairs and compounds, the whole item counted."
unfoldable pub pairs_charged : Choice → ℕ
pairs_charged (reduces clause given) = clause.pairs
pairs_charged (joins_waiting readers) = 0
pairs_charged joins_failed = 0

unfoldable pub compounds_charged : Choice → ℕ
compounds_charged (reduces clause given) = clause.compounds
compounds_charged (joins_waiting readers) = 0
compounds_charged joins_failed = 0

-- "A step takes the goal at the front": the goals without it.
unfoldable pub without_front : List Goal → Goals → Goals
without_front rest goals = record { queue = rest; waiting = goals.waiting; failed = goals.failed }

unfoldable pub step : Choice → Goal → List Goal → State → State
step choice g rest state =
    record {
      units = set state.units g.query (unit_after choice (unit_at g.query state.units));
      pairs = state.pairs + pairs_charged choice;
      compounds = state.compounds + compounds_charged choice;
      goals = goals_after choice (unit_at g.query state.units) g (without_front rest state.goals);
      steps = state.steps + 1;
    }

unfoldable pub step_words : Unit {0}
unfolding trial_words unit_after made_by body_goals wakes goals_after pairs_charged compounds_charged without_front step
step_words = tt
