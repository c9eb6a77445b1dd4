-- What the laws of guards and of trials in turn say is about something: `w(1,2).` and `w(X,Y) :- otherwise | r(X?,Y?).` against goals of which the first
-- clause fails and waits; and `g(X,X?) :- ground(X?) | .` against one that waits on two readers. All computed.
use Prim.Native.Nat.{ℕ}
use mathlib.Core.Path.{◌≡◌, refl}
use mathlib.Core.List.{List, [], ◌∷◌}
use mathlib.Core.Logic.{◌≢◌}
use lib.ListN.{get_or}
use Rattle.meaning.specs.Bytes.{Bytes, bytes}
use Rattle.meaning.specs.Terms.{reader, plus, integer, variable, constant, end, Named, Clause, Query}
use Rattle.meaning.specs.Items.{job, refused, reading}
use Rattle.meaning.specs.State.{QueryUnit, first_unit}
use Rattle.meaning.specs.Compare.{succeeds, waits, fails}
use Rattle.meaning.specs.Trial.{procedure, joins_waiting, joins_failed, choice}
use Rattle.meaning.specs.Call.{everything}
use Rattle.laws.proofs.Lists.{In, here, there}
use Rattle.laws.proofs.Trial.Table.{◌:=◌}
use Rattle.laws.proofs.Trial.Needed.{trial_waits_on_none_only_behind_others}
use Rattle.laws.proofs.Trial.InTurn.{with_its_readers, trials, told, choice_waits_on_every_reader, failed_exactly_if_all_fail}

-- The pairs of the query are A, B, C, D, E, F, G, H: 0 to 7; a clause's pairs begin at 8.
unfoldable pub text : Bytes
text = bytes "w(1,2). w(X,Y) :- otherwise | r(X?,Y?). g(X,X?) :- ground(X?) | .\n?- w(A?,1), w(B?,2), g(f(C?,D?),E), g(f(F?,G),H)."

unfoldable pub clauses : List Clause
clauses = elim (reading text) [ job j ↦ j.clauses | refused r ↦ [] ]

unfoldable pub query : Query
query =
    elim (reading text) [
      | job j ↦ get_or j.queries 0 (record { goals = []; variables = []; compounds = 0 })
      | refused r ↦ record { goals = []; variables = []; compounds = 0 }
    ]

unfoldable pub goal : ℕ → Named
goal n = get_or query.goals n (record { number = 0; name = []; arguments = end })

unfoldable pub unit : QueryUnit
unit = first_unit query

-- `w(X,Y) :- otherwise | r(X?,Y?).`
unfoldable pub second : Clause
second =
    get_or clauses 1
    (record { place = 2; head = goal 0; guards = []; body = []; pairs = 0; compounds = 0 })

unfoldable example_words : Unit {0}
unfolding everything text clauses query goal unit second with_its_readers trials told
example_words = tt

-- `w(A?,1)`: the first clause fails, so the second is told of no reader, and `otherwise` succeeds.
pub example_first_fails : (trials [] (procedure clauses (goal 0)) unit (goal 0)
    ≡ fails ∷ succeeds ((8 := variable reader 0) ∷ (9 := constant (integer (plus 1))) ∷ []) ∷ [])
    × (told [] (procedure clauses (goal 0)) unit (goal 0) ≡ [])
unfolding example_words
example_first_fails = (refl, refl)

-- `w(B?,2)`: the first waits on B, so the second is told of B and waits with it, on no reader of its own.
pub example_first_waits : (trials [] (procedure clauses (goal 1)) unit (goal 1) ≡ waits (1 ∷ []) ∷ waits [] ∷ [])
    × (told [] (procedure clauses (goal 1)) unit (goal 1) ≡ 1 ∷ [])
    × (choice clauses unit (goal 1) ≡ joins_waiting (1 ∷ []))
unfolding example_words
example_first_waits = (refl, refl, refl)

-- `g(f(C?,D?),E)`: all places agree, and `ground` waits on both readers; `g(f(F?,G),H)`: it fails, whatever readers stand before the writer.
pub example_ground : (trials [] (procedure clauses (goal 2)) unit (goal 2) ≡ waits (2 ∷ 3 ∷ []) ∷ [])
    × (choice clauses unit (goal 3) ≡ joins_failed)
unfolding example_words
example_ground = (refl, refl)

-- The same by the laws.
pub example_waits_on_the_second : In {A = ℕ} 3 (2 ∷ 3 ∷ [])
unfolding example_words
example_waits_on_the_second =
    choice_waits_on_every_reader unit (goal 2) clauses (2 ∷ 3 ∷ []) refl (2 ∷ 3 ∷ []) (here refl) 3 (there {x = 2} (here refl))

pub example_all_fail : choice clauses unit (goal 3) ≡ joins_failed
unfolding example_words
example_all_fail = (failed_exactly_if_all_fail unit (goal 3) clauses).1 (refl, tt)

pub example_waits_behind_another : ◌≢◌ {A = List ℕ} (1 ∷ []) []
unfolding example_words
example_waits_behind_another = trial_waits_on_none_only_behind_others (1 ∷ []) second unit (goal 1) refl
