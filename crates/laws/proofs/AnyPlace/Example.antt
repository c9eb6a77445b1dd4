-- A step at the second place of three is about something: `?- two(B,B?). ?- end(A?), same([],A), end(C).`, where no step takes the goal in front.
-- The first takes `end(A?)`, which waits; the next `same([],A)`, between the others: it assigns A and wakes `end(A?)`. All computed.
use Prim.Native.Nat.{ℕ}
use mathlib.Core.Path.{◌≡◌, refl}
use mathlib.Core.List.{[], ◌∷◌}
use mathlib.Core.Option.{none, some}
use Rattle.meaning.specs.Bytes.{Bytes, bytes}
use Rattle.meaning.specs.Terms.{writer, reader, empty, Terms, variable, constant, end, more, Job}
use Rattle.meaning.specs.Items.{reading}
use Rattle.meaning.specs.State.{Room, Goal, State, unit_at, part_of, from_query, start}
use Rattle.meaning.specs.Step.{step}
use Rattle.meaning.specs.Run.{choice_for, run}
use Rattle.meaning.specs.Call.{everything}
use Rattle.laws.proofs.Lists.{taken_at}
use Rattle.laws.proofs.Runs.{Reached, at_first, by_step}
use Rattle.laws.proofs.Reading.{JobOk, accepted_keeps_the_occurrence_rules}
use Rattle.laws.proofs.Own.Steps.{own_step}
use Rattle.laws.proofs.Own.Example.{job_of}
use Rattle.laws.proofs.AnyPlace.{StepKeeps, step_at_any_place_keeps, reached_kept}

unfoldable pub text : Bytes
text = bytes "end([]). same(X,X?). two(1,1).\n?- two(B,B?). ?- end(A?), same([],A), end(C)."

unfoldable pub the_job : Job
unfolding text
the_job = job_of (reading text)

unfoldable pub figures : Room
figures = record { pairs = 10; compounds = 10; goals = 10 }

-- Its goals.
abbrev goal_of : ℕ → ℕ → Bytes → Terms → Goal
goal_of query number name arguments =
    record { query = query; goal = record { number = number; name = name; arguments = arguments }; origin = from_query }

unfoldable pub two_of_B : Goal
two_of_B = goal_of 0 0 (bytes "two") (more (variable writer 0) (more (variable reader 0) end))

unfoldable pub end_of_A : Goal
end_of_A = goal_of 1 0 (bytes "end") (more (variable reader 0) end)

unfoldable pub same_of_A : Goal
same_of_A = goal_of 1 1 (bytes "same") (more (constant empty) (more (variable writer 0) end))

unfoldable pub end_of_C : Goal
end_of_C = goal_of 1 2 (bytes "end") (more (variable writer 1) end)

-- The state after a step on the second of four, and the state after one more on the second of three.
unfoldable pub now : State
now =
    step (choice_for the_job.clauses (start the_job.queries) end_of_A) end_of_A (two_of_B ∷ same_of_A ∷ end_of_C ∷ [])
    (start the_job.queries)

unfoldable pub next : State
next = step (choice_for the_job.clauses now same_of_A) same_of_A (two_of_B ∷ end_of_C ∷ []) now

unfoldable pub words : Unit {0}
unfolding text the_job figures two_of_B end_of_A same_of_A end_of_C now next everything job_of
words = tt

pub example_before : (now.goals.queue ≡ two_of_B ∷ same_of_A ∷ end_of_C ∷ [])
    × (now.goals.waiting ≡ record { goal = end_of_A; readers = 0 ∷ [] } ∷ [])
    × ((unit_at 1 now.units).values ≡ none ∷ none ∷ [])
unfolding words
example_before = (refl, refl, refl)

-- A is assigned the clause's reader, whose pair is assigned `[]`; the woken goal joins the end; the others are left as they stood.
pub example_after : (next.goals.queue ≡ two_of_B ∷ end_of_C ∷ end_of_A ∷ [])
    × (next.goals.waiting ≡ [])
    × ((unit_at 1 next.units).values ≡ some (variable reader 2) ∷ none ∷ some (constant empty) ∷ [])
unfolding words
example_after = (refl, refl, refl)

-- After as many steps a run stands elsewhere.
pub example_run_elsewhere : (run the_job 2 figures).state.goals.queue ≡ same_of_A ∷ end_of_C ∷ []
unfolding words
example_run_elsewhere = refl

-- What the law says of that step.
example_ok : JobOk the_job
unfolding words
example_ok = accepted_keeps_the_occurrence_rules text the_job refl

pub example_reached : Reached the_job.clauses figures (start the_job.queries) now
unfolding words
example_reached =
    by_step end_of_A (two_of_B ∷ same_of_A ∷ end_of_C ∷ []) at_first (taken_at (two_of_B ∷ []) (same_of_A ∷ end_of_C ∷ []) refl) refl

pub example_kept : StepKeeps the_job figures now same_of_A (two_of_B ∷ end_of_C ∷ [])
unfolding words
example_kept =
    step_at_any_place_keeps the_job figures example_ok now same_of_A (two_of_B ∷ []) (end_of_C ∷ []) example_before.0 refl
    (reached_kept the_job figures example_ok refl now example_reached)

-- It is one own step of the second query, and leaves the first as it is.
pub example_own : (part_of 1 next ≡ own_step the_job.clauses (part_of 1 now)) × (part_of 0 next ≡ part_of 0 now)
unfolding words
example_own = (example_kept.first_is_own refl, example_kept.others_stay 0 refl)
