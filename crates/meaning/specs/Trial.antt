-- Document 01, 'One step', with document 02's guards: the trial of a clause, and the choice of a clause.
use Rattle.std.specs.Prelude.{ℕ, zero, suc, ◌+◌, Bool, true, false, ◌&&◌, List, [], ◌∷◌, ◌++◌, eqb, length, set, replicate}
use Rattle.std.proofs.Math.Option.{Option, none, some}
use Rattle.meaning.specs.Bytes.{same, when◌then◌else◌, those}
use Rattle.meaning.specs.Terms.{Named, Clause, count, all_renamed}
use Rattle.meaning.specs.State.{Values, QueryUnit}
use Rattle.meaning.specs.Compare.{Assignment, Result, succeeds, waits, fails, followed, places, compare_words}
use Rattle.meaning.specs.Circle.{circle, circle_words}
use Rattle.meaning.specs.Guards.{in_order, guards_words}

-- "A trial renames the clause apart": its pairs and compounds come next in the unit.
unfoldable pub next_pair : QueryUnit → ℕ
next_pair unit = length unit.values

-- "Compares the arguments, reading the values as they were before the step."
unfoldable pub compared : Clause → QueryUnit → Named → Result
compared clause unit goal =
    places (followed (length unit.values) unit.values)
    (all_renamed (next_pair unit) unit.compounds clause.head.arguments)
    goal.arguments

-- The values with the clause's own pairs, and with the new assignments added.
unfoldable pub with_pairs : ℕ → Values → Values
with_pairs n values = values ++ replicate n none

unfoldable pub assigned : List Assignment → Values → Values
assigned [] values = values
assigned (a ∷ others) values = assigned others (set values a.pair (some a.value))

unfoldable pub values_after : Clause → List Assignment → QueryUnit → Values
values_after clause given unit = assigned given (with_pairs clause.pairs unit.values)

-- "If all places agree, the circle test follows."
unfoldable pub tested : Clause → QueryUnit → Result → Result
tested clause unit (succeeds given) = when circle (values_after clause given unit) then fails else succeeds given
tested clause unit (waits readers) = waits readers
tested clause unit fails = fails

-- "After the circle test, each guard in order" (02, T-02); `earlier` are the readers on which the procedure's earlier clauses wait.
unfoldable pub guarded : List ℕ → Clause → QueryUnit → Result → Result
guarded earlier clause unit (succeeds given) = in_order earlier given unit.values (next_pair unit) clause.guards
guarded earlier clause unit (waits readers) = waits readers
guarded earlier clause unit fails = fails

unfoldable pub trial : List ℕ → Clause → QueryUnit → Named → Result
trial earlier clause unit goal = guarded earlier clause unit (tested clause unit (compared clause unit goal))

-- "Name and number of arguments together select the procedure; its clauses keep text order."
unfoldable pub procedure : List Clause → Named → List Clause
procedure clauses goal =
    those (λ c. same c.head.name goal.name && eqb (count c.head.arguments) (count goal.arguments)) clauses

-- What becomes of the goal: reduced by a clause with its assignments, waiting on readers, or failed.
pub data Choice : Type 0 where
  reduces : Clause → List Assignment → Choice
  joins_waiting : List ℕ → Choice
  joins_failed : Choice

-- "If none succeeds and at least one waits, the goal joins the end of the waiting goals with the set of all those readers. If all fail, or no clause exists, it joins the end of the failed goals."
unfoldable pub none_succeeds : List ℕ → Choice
none_succeeds [] = joins_failed
none_succeeds (r ∷ readers) = joins_waiting (r ∷ readers)

-- "The first clause that succeeds is taken, also when an earlier one waits."
unfoldable pub choice_from : List ℕ → List Clause → QueryUnit → Named → Choice
choice_from readers [] unit goal = none_succeeds readers
choice_from readers (clause ∷ clauses) unit goal =
    elim (trial readers clause unit goal) [
      | succeeds given ↦ reduces clause given
      | waits others ↦ choice_from (readers ++ others) clauses unit goal
      | fails ↦ choice_from readers clauses unit goal
    ]

unfoldable pub choice : List Clause → QueryUnit → Named → Choice
choice clauses unit goal = choice_from [] (procedure clauses goal) unit goal

unfoldable pub trial_words : Unit {0}
unfolding compare_words circle_words guards_words next_pair compared with_pairs assigned values_after tested guarded trial procedure none_succeeds choice_from choice
trial_words = tt
