-- In every state of every run no value is a writer; so what is found in a goal where a reader was is never one.
-- At the start no pair has a value, and the table gives none to a pair.
use Prim.Native.Nat.{ℕ}
use mathlib.Core.Path.{◌≡◌, refl}
use mathlib.Core.Logic.{⊎_elim}
use mathlib.Core.List.{List}
use mathlib.Core.Option.{some}
use Rattle.meaning.specs.Terms.{writer, variable, Named, Clause, Query}
use Rattle.meaning.specs.State.{Values, value, QueryUnit, Goal, State, unit_at, start}
use Rattle.meaning.specs.Compare.{Assignment, succeeds}
use Rattle.meaning.specs.Trial.{Choice, reduces, joins_waiting, joins_failed, compared, values_after, choice}
use Rattle.meaning.specs.Step.{unit_after, step}
use Rattle.meaning.specs.Run.{choice_for}
use Rattle.laws.proofs.Lists.{differ, In, each_in}
use Rattle.laws.proofs.Trial.{table_gives_no_writer, value_after_cases, unit_at_set, reduces_agrees}
use Rattle.laws.proofs.Circle.Never.{first_value}

-- No value is a writer.
abbrev pub NoWriterIn : Values → Type 0
NoWriterIn values = (p q : ℕ) → value values p ≡ some (variable writer q) → ⊥

values_after_no_writer : (clause : Clause) (unit : QueryUnit) (goal : Named) (given : List Assignment) → compared clause unit goal ≡ succeeds given
    → NoWriterIn unit.values → NoWriterIn (values_after clause given unit)
unfolding compared
values_after_no_writer clause unit goal given agree before p q e =
    ⊎_elim given_now (before p q) (value_after_cases clause given unit p (variable writer q) e)
  where
    given_now : (a : Assignment) × In a given × (a.pair ≡ p) × (a.value ≡ variable writer q) → ⊥
    given_now (a, m, f, g) = each_in _ (table_gives_no_writer _ _ goal.arguments given agree) m q g

pub unit_after_no_writer : (clauses : List Clause) (unit : QueryUnit) (goal : Named) → NoWriterIn unit.values
    → NoWriterIn (unit_after (choice clauses unit goal) unit).values
unfolding unit_after
unit_after_no_writer clauses unit goal before = go (choice clauses unit goal) refl
  where
    go : (c : Choice) → choice clauses unit goal ≡ c → NoWriterIn (unit_after c unit).values
    go (reduces clause given) e = values_after_no_writer clause unit goal given (reduces_agrees unit goal clause given clauses e).1 before
    go (joins_waiting readers) e = before
    go joins_failed e = before

-- In no unit is one.
abbrev pub NoWriters : State → Type 0
NoWriters state = (place : ℕ) → NoWriterIn (unit_at place state.units).values

pub start_no_writers : (queries : List Query) → NoWriters (start queries)
unfolding start
start_no_writers queries place p q e =
    let unassigned = first_value queries place p in
    differ (cc)

pub step_no_writers : (clauses : List Clause) (state : State) (g : Goal) (others : List Goal) → NoWriters state
    → NoWriters (step (choice_for clauses state g) g others state)
unfolding step choice_for
step_no_writers clauses state g others before place =
    unit_at_set (λ u. NoWriterIn u.values) state.units g.query place
    (unit_after (choice_for clauses state g) (unit_at g.query state.units))
    (λ e. unit_after_no_writer clauses (unit_at g.query state.units) g.goal (before g.query))
    (before place)
