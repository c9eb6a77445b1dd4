-- What is on record is about something: `d(X) :- ground(X?) | q(X?), q(X?).` with `set(X,X?).` and `?- d(A?), set(f(B?),A), set(1,B).`, at each of its
-- budgets 0 to 6: d waits, both sets are reduced, d is reduced to two goals, and these fail. All computed.
-- That as they stand the goals hold X's reader twice after four steps is `example_reader_twice` of Single/Example: over goals as they stand the first
-- part would be false.
use Prim.Native.Nat.{ℕ}
use mathlib.Core.Path.{◌≡◌, refl}
use mathlib.Core.List.{List, [], ◌∷◌, map}
use lib.ListN.{length}
use Rattle.meaning.specs.Bytes.{bytes}
use Rattle.meaning.specs.Terms.{Half, writer, reader, plus, integer, named, Term, variable, constant, compound, end, more, Clause, occurrences}
use Rattle.meaning.specs.State.{Room, State, number_of, start}
use Rattle.meaning.specs.Run.{run}
use Rattle.meaning.specs.Call.{everything}
use Rattle.laws.proofs.Lists.{sum, taken_at}
use Rattle.laws.proofs.Runs.{by_step}
use Rattle.laws.proofs.Runs.Dropped.{reductions, clause_taken}
use Rattle.laws.proofs.Single.Counting.{together}
use Rattle.laws.proofs.Single.Example.{text, the_job}
use Rattle.laws.proofs.AnyPlace.Example.{
  text as two_queries_text,
  the_job as two_queries,
  figures as ten_each,
  words as two_queries_words,
  next as two_taken,
  two_of_B,
  same_of_A,
  end_of_C,
  example_reached,
}
use Rattle.laws.proofs.OnRecord.{OnRecord, text_on_record, text_on_record_at_any_places}
use Rattle.laws.proofs.OnRecord.Log.{Made, made_by, assignments, taken_in_run, made_in_run, reached_logged}
use Rattle.laws.proofs.OnRecord.Together.{goal_written, times_in}
use Rattle.laws.proofs.OnRecord.Once.{assigns}

unfoldable pub figures : Room
figures = record { pairs = 100; compounds = 100; goals = 100 }

-- Where the run ends under a budget, and what is to be told of each.
unfoldable pub at_budget : ℕ → State
at_budget n = (run the_job n figures).state

abbrev pub at_each : {A : Type 0} → (ℕ → A) → List A
at_each f = map f (0 ∷ 1 ∷ 2 ∷ 3 ∷ 4 ∷ 5 ∷ 6 ∷ [])

unfoldable example_words : Unit {0}
unfolding everything text the_job figures at_budget reductions clause_taken made_by assignments taken_in_run made_in_run
example_words = tt

-- The theorem, at every budget.
pub example_on_record : (n : ℕ) → OnRecord the_job figures (at_budget n) (taken_in_run the_job n figures) (made_in_run the_job n figures)
unfolding example_words
example_on_record = text_on_record text the_job refl figures

-- Goals active, waiting and failed; the reductions made, and the goals of their bodies. The query has three: 3 + 2 - 3 is 2.
pub example_how_many : (at_each (λ n. number_of (at_budget n).goals) ≡ 3 ∷ 3 ∷ 2 ∷ 1 ∷ 2 ∷ 2 ∷ 2 ∷ [])
    × (at_each (λ n. length (at_budget n).goals.waiting) ≡ 0 ∷ 1 ∷ 0 ∷ 0 ∷ 0 ∷ 0 ∷ 0 ∷ [])
    × (at_each (λ n. length (at_budget n).goals.failed) ≡ 0 ∷ 0 ∷ 0 ∷ 0 ∷ 0 ∷ 1 ∷ 2 ∷ [])
    × (sum (λ q. length q.goals) the_job.queries ≡ 3)
    × (at_each (λ n. sum (λ c. length c.body) (taken_in_run the_job n figures)) ≡ 0 ∷ 0 ∷ 0 ∷ 0 ∷ 2 ∷ 2 ∷ 2 ∷ [])
    × (at_each (λ n. length (taken_in_run the_job n figures)) ≡ 0 ∷ 0 ∷ 1 ∷ 2 ∷ 3 ∷ 3 ∷ 3 ∷ [])
unfolding example_words
example_how_many = (refl, refl, refl, refl, refl, refl)

-- The goals written out: A is pair 0, B is pair 1.
abbrev d : Term → Term
d t = compound 0 (named (bytes "d")) (more t end)

abbrev f : Term → Term
f t = compound 2 (named (bytes "f")) (more t end)

abbrev q : ℕ → Term
q number = compound number (named (bytes "q")) (more (f (constant (integer (plus 1)))) end)

abbrev set_A : Term
set_A = compound 1 (named (bytes "set")) (more (f (variable reader 1)) (more (variable writer 0) end))

abbrev set_B : Term
set_B = compound 3 (named (bytes "set")) (more (constant (integer (plus 1))) (more (variable writer 1) end))

pub example_written_out : at_each (λ n. map (goal_written (at_budget n)) (together (at_budget n).goals))
    ≡ (d (variable reader 0) ∷ set_A ∷ set_B ∷ [])
    ∷ (set_A ∷ set_B ∷ d (variable reader 0) ∷ [])
    ∷ (set_B ∷ d (f (variable reader 1)) ∷ [])
    ∷ (d (f (constant (integer (plus 1)))) ∷ [])
    ∷ (q 8 ∷ q 9 ∷ [])
    ∷ (q 9 ∷ q 8 ∷ [])
    ∷ (q 8 ∷ q 9 ∷ [])
    ∷ []
unfolding example_words
example_written_out = refl

-- In them a half of A, a half of B, and the reader of d's X, which two goals hold as they stand.
abbrev pub halves : Half → ℕ → List ℕ
halves h p = at_each (λ n. sum (times_in (at_budget n) 0 h p) (together (at_budget n).goals))

pub example_halves : (halves writer 0 ≡ 1 ∷ 1 ∷ 0 ∷ 0 ∷ 0 ∷ 0 ∷ 0 ∷ [])
    × (halves reader 0 ≡ 1 ∷ 1 ∷ 0 ∷ 0 ∷ 0 ∷ 0 ∷ 0 ∷ [])
    × (halves writer 1 ≡ 1 ∷ 1 ∷ 1 ∷ 0 ∷ 0 ∷ 0 ∷ 0 ∷ [])
    × (halves reader 1 ≡ 1 ∷ 1 ∷ 1 ∷ 0 ∷ 0 ∷ 0 ∷ 0 ∷ [])
    × (halves reader 4 ≡ 0 ∷ 0 ∷ 0 ∷ 0 ∷ 0 ∷ 0 ∷ 0 ∷ [])
unfolding example_words
example_halves = (refl, refl, refl, refl, refl)

-- The pairs assigned, in order: X of the first set and A, X of the second and B, X of d. So each of the five once.
pub example_assigned : (map (λ m. m.pair) (made_in_run the_job 6 figures) ≡ 2 ∷ 0 ∷ 3 ∷ 1 ∷ 4 ∷ [])
    × (at_each (λ n. length (made_in_run the_job n figures)) ≡ 0 ∷ 0 ∷ 2 ∷ 4 ∷ 5 ∷ 5 ∷ 5 ∷ [])
    × (map (λ p. sum (assigns 0 p) (made_in_run the_job 6 figures)) (0 ∷ 1 ∷ 2 ∷ 3 ∷ 4 ∷ 5 ∷ []) ≡ 1 ∷ 1 ∷ 1 ∷ 1 ∷ 1 ∷ 0 ∷ [])
unfolding example_words
example_assigned = (refl, refl, refl)

-- Pairs of two queries are two: in `?- two(B,B?). ?- end(A?), same([],A), end(C).` B and A are pair 0, each of its query. Without the place it were twice.
pub example_two_queries : let state = start two_queries.queries in
    (sum (times_in state 0 writer 0) (together state.goals) ≡ 1)
    × (sum (times_in state 1 writer 0) (together state.goals) ≡ 1)
    × (sum (λ g. occurrences writer 0 (goal_written state g)) (together state.goals) ≡ 2)
unfolding two_queries_words
example_two_queries = (refl, refl, refl)

-- Of that job, the state after two steps neither of which took the goal in front.
pub example_at_any_places : (taken : List Clause) × (made : List Made) × OnRecord two_queries ten_each two_taken taken made
unfolding two_queries_words
example_at_any_places =
    let (taken, made, log) =
    reached_logged (by_step same_of_A (two_of_B ∷ end_of_C ∷ []) example_reached (taken_at (two_of_B ∷ []) (end_of_C ∷ []) refl) refl) in
    (taken, made, text_on_record_at_any_places two_queries_text two_queries refl ten_each two_taken taken made log)
