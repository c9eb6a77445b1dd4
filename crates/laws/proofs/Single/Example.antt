-- That written out no half stands twice, though as they stand goals hold a reader twice, is about something: `d(X) :- ground(X?) | q(X?), q(X?).`
-- makes two goals of one, both with X's reader; its pair was closed by that very step. All computed.
use Prim.Native.Nat.{ℕ}
use mathlib.Core.Path.{◌≡◌, refl}
use mathlib.Core.Bool.{true}
use mathlib.Core.List.{[], ◌∷◌}
use mathlib.Core.Option.{none, some}
use Rattle.meaning.specs.Bytes.{Bytes, bytes}
use Rattle.meaning.specs.Terms.{writer, reader, plus, integer, named, variable, constant, compound, end, more, Job, occurrences}
use Rattle.meaning.specs.Items.{job, refused, reading}
use Rattle.meaning.specs.State.{Goal, Part, State, unit_at, part_of, from_query}
use Rattle.meaning.specs.Trial.{joins_failed}
use Rattle.meaning.specs.Run.{choice_for, run}
use Rattle.meaning.specs.Call.{everything}
use Rattle.laws.proofs.Lists.{sum}
use Rattle.laws.proofs.Single.{goal_terms, written_out}
use Rattle.laws.proofs.Single.Closed.{holds_only, all_hold_only, closed_within, closed}

unfoldable pub text : Bytes
text = bytes "d(X) :- ground(X?) | q(X?), q(X?). set(X,X?).\n?- d(A?), set(f(B?),A), set(1,B)."

unfoldable pub the_job : Job
the_job = elim (reading text) [ job j ↦ j | refused r ↦ record { clauses = []; queries = [] } ]

-- After so many steps.
unfoldable pub after_steps : ℕ → Part
after_steps n = part_of 0 (run the_job n (record { pairs = 100; compounds = 100; goals = 100 })).state

unfoldable example_words : Unit {0}
unfolding everything text the_job after_steps holds_only all_hold_only closed_within closed
example_words = tt

-- The pairs are A, B, then those of the clauses taken: X of `set(f(B?),A)`, X of `set(1,B)`, and X of `d(A?)`, which was tried again.
pub example_values : (after_steps 4).unit.values
    ≡ some (variable reader 2)
    ∷ some (variable reader 3)
    ∷ some (compound 2 (named (bytes "f")) (more (variable reader 1) end))
    ∷ some (constant (integer (plus 1)))
    ∷ some (compound 2 (named (bytes "f")) (more (variable reader 1) end))
    ∷ []
unfolding example_words
example_values = refl

-- As they stand, the goals are twice `q(X?)`; every pair is closed, and written out neither of them holds a variable.
pub example_stands_twice : goal_terms (after_steps 4)
    ≡ compound 8 (named (bytes "q")) (more (variable reader 4) end) ∷ compound 9 (named (bytes "q")) (more (variable reader 4) end) ∷ []
unfolding example_words
example_stands_twice = refl

pub example_reader_twice : sum (λ t. occurrences reader 4 t) (goal_terms (after_steps 4)) ≡ 2
unfolding example_words
example_reader_twice = refl

pub example_closed : closed (after_steps 4).unit.values 4 ≡ true
unfolding example_words
example_closed = refl

pub example_written_once : sum (λ t. occurrences reader 4 (written_out (after_steps 4) t)) (goal_terms (after_steps 4)) ≡ 0
unfolding example_words
example_written_once = refl

-- That failed goals would fail again is about something: `g(f(A?,B),Z)` fails by its writer B, whatever readers stand before it; A is assigned then.
unfoldable pub failing_text : Bytes
failing_text = bytes "g(X,X?) :- ground(X?) | . set(X,X?).\n?- g(f(A?,B),Z), set(1,A)."

unfoldable pub failing_job : Job
failing_job = elim (reading failing_text) [ job j ↦ j | refused r ↦ record { clauses = []; queries = [] } ]

unfoldable pub failing_after : ℕ → State
failing_after n = (run failing_job n (record { pairs = 100; compounds = 100; goals = 100 })).state

unfoldable pub failing_goal : Goal
failing_goal =
    record {
      query = 0;
      goal =
          record {
            number = 0;
            name = bytes "g";
            arguments =
                more (compound 1 (named (bytes "f")) (more (variable reader 0) (more (variable writer 1) end))) (more (variable writer 2) end);
          };
      origin = from_query;
    }

unfoldable failing_words : Unit {0}
unfolding example_words failing_text failing_job failing_after failing_goal
failing_words = tt

pub example_failed : ((failing_after 1).goals.failed ≡ failing_goal ∷ []) × ((failing_after 2).goals.failed ≡ failing_goal ∷ [])
unfolding failing_words
example_failed = (refl, refl)

pub example_assigned_since : ((unit_at 0 (failing_after 1).units).values ≡ none ∷ none ∷ none ∷ [])
    × ((unit_at 0 (failing_after 2).units).values ≡ some (variable reader 3) ∷ none ∷ none ∷ some (constant (integer (plus 1))) ∷ [])
unfolding failing_words
example_assigned_since = (refl, refl)

pub example_fails_again : choice_for failing_job.clauses (failing_after 2) failing_goal ≡ joins_failed
unfolding failing_words
example_fails_again = refl
