-- That no circle runs through a pair that is read elsewhere is about something: `p(f(Y?),Y).` closes a circle against `p(Z,Z?)`, which reads Z itself.
-- Against `p(Z,X?)` it closes none, for `q(Z?,X?)` reads Z; though X, which a guard licensed, stands in both of the goals. All computed but for the law.
use Prim.Native.Nat.{ℕ, ◌<◌}
use mathlib.Core.Path.{◌≡◌, refl, ap, sym, ◌∙◌}
use mathlib.Core.Logic.{◌⊎◌, inl, inr}
use mathlib.Core.Bool.{true, false}
use mathlib.Core.List.{List, [], ◌∷◌}
use mathlib.Core.Option.{none, some}
use native.Mathlib.Omega.{arith}
use Rattle.meaning.specs.Bytes.{Bytes, bytes}
use Rattle.meaning.specs.Terms.{writer, reader, plus, integer, named, Terms, variable, constant, compound, end, more, Clause, Job, goals_occurrences}
use Rattle.meaning.specs.Items.{reading}
use Rattle.meaning.specs.State.{Room, Origin, Goal, State, unit_at, from_query}
use Rattle.meaning.specs.Compare.{Assignment, succeeds}
use Rattle.meaning.specs.Circle.{circle}
use Rattle.meaning.specs.Trial.{compared, values_after}
use Rattle.meaning.specs.Step.{without_front}
use Rattle.meaning.specs.Run.{run}
use Rattle.meaning.specs.Call.{everything}
use Rattle.laws.proofs.Lists.{In, here, there, in_cons_cases, in_single}
use Rattle.laws.proofs.Reading.{JobOk, accepted_keeps_the_occurrence_rules}
use Rattle.laws.proofs.Circle.Starts.{Assigns}
use Rattle.laws.proofs.Own.Example.{job_of}
use Rattle.laws.proofs.Single.Chains as chains
use Rattle.laws.proofs.Elsewhere.{ReachedBy, circle_by_readers_here}

unfoldable pub text : Bytes
text = bytes "d(X) :- ground(X?) | p(Z,X?), q(Z?,X?). p(f(Y?),Y).\n?- d(1). ?- p(Z,Z?)."

unfoldable pub the_job : Job
unfolding text
the_job = job_of (reading text)

unfoldable pub figures : Room
figures = record { pairs = 10; compounds = 20; goals = 10 }

unfoldable pub after_steps : ℕ → State
after_steps n = (run the_job n figures).state

abbrev goal_of : ℕ → ℕ → Bytes → Origin → Terms → Goal
goal_of query number name origin arguments =
    record { query = query; goal = record { number = number; name = name; arguments = arguments }; origin = origin }

-- The goal that reads Z itself, and the goals of the body, which share X.
unfoldable pub p_of_Z_alone : Goal
p_of_Z_alone = goal_of 1 0 (bytes "p") from_query (more (variable writer 0) (more (variable reader 0) end))

unfoldable pub p_of_Z : Goal
p_of_Z = goal_of 0 3 (bytes "p") (record { clause = 1; tries = 1 }) (more (variable writer 1) (more (variable reader 0) end))

unfoldable pub q_of_Z : Goal
q_of_Z = goal_of 0 4 (bytes "q") (record { clause = 1; tries = 1 }) (more (variable reader 1) (more (variable reader 0) end))

-- The clause `p(f(Y?),Y).`
unfoldable pub the_clause : Clause
the_clause =
    record {
      place = 2;
      head =
          record {
            number = 0;
            name = bytes "p";
            arguments = more (compound 1 (named (bytes "f")) (more (variable reader 0) end)) (more (variable writer 0) end);
          };
      guards = [];
      body = [];
      pairs = 1;
      compounds = 2;
    }

unfoldable pub words : Unit {0}
unfolding text the_job figures after_steps p_of_Z_alone p_of_Z q_of_Z the_clause everything job_of
words = tt

pub example_queues : ((after_steps 1).goals.queue ≡ p_of_Z_alone ∷ p_of_Z ∷ q_of_Z ∷ [])
    × ((after_steps 2).goals.queue ≡ p_of_Z ∷ q_of_Z ∷ [])
    × ((unit_at 0 (after_steps 2).units).values ≡ some (constant (integer (plus 1))) ∷ none ∷ [])
unfolding words
example_queues = (refl, refl, refl)

-- X's reader stands in both of the goals; Z's in the second alone.
pub example_shared : (goals_occurrences reader 0 (p_of_Z.goal ∷ q_of_Z.goal ∷ []) ≡ 2) × (goals_occurrences reader 1 (p_of_Z.goal ∷ q_of_Z.goal ∷ []) ≡ 1)
unfolding words
example_shared = (refl, refl)

-- Against the goal that reads Z itself: the places agree, and a circle runs through Z.
unfoldable pub given_alone : List Assignment
given_alone =
    record { pair = 0; value = compound 2 (named (bytes "f")) (more (variable reader 1) end) }
    ∷ record { pair = 1; value = variable reader 0 }
    ∷ []

pub example_circle : (compared the_clause (unit_at 1 (after_steps 1).units) p_of_Z_alone.goal ≡ succeeds given_alone)
    × (circle (values_after the_clause given_alone (unit_at 1 (after_steps 1).units)) ≡ true)
unfolding words given_alone
example_circle = (refl, refl)

-- Against the other: the places agree.
unfoldable pub given_shared : List Assignment
given_shared =
    record { pair = 1; value = compound 6 (named (bytes "f")) (more (variable reader 2) end) }
    ∷ record { pair = 2; value = constant (integer (plus 1)) }
    ∷ []

pub example_agrees : compared the_clause (unit_at 0 (after_steps 2).units) p_of_Z.goal ≡ succeeds given_shared
unfolding words given_shared
example_agrees = refl

-- And the other goal reads Z: so the law says that there is no circle, from no start at all.
example_ok : JobOk the_job
unfolding words
example_ok = accepted_keeps_the_occurrence_rules text the_job refl

example_reached : ReachedBy 0 1 (unit_at 0 (after_steps 2).units).values (without_front (q_of_Z ∷ []) (after_steps 2).goals) q_of_Z
unfolding words
example_reached = record { present = here refl; its_own = refl; reached = chains.here {ts = q_of_Z.goal.arguments} (omega arith) }

pub example_no_circle : circle (values_after the_clause given_shared (unit_at 0 (after_steps 2).units)) ≡ false
unfolding words given_shared
example_no_circle =
    circle_by_readers_here the_job example_ok 2 figures p_of_Z (q_of_Z ∷ []) example_queues.1 the_clause (there (here refl)) given_shared example_agrees []
    (λ z old assigns. inr (inl (q_of_Z, known z old assigns)))
  where
    known : (z : ℕ) → z < 2 → Assigns given_shared z
        → ReachedBy 0 z (unit_at 0 (after_steps 2).units).values (without_front (q_of_Z ∷ []) (after_steps 2).goals) q_of_Z
    known z old (a, m, p) = go (in_cons_cases m)
      where
        go : (a ≡ record { pair = 1; value = compound 6 (named (bytes "f")) (more (variable reader 2) end) })
            ⊎ In a (record { pair = 2; value = constant (integer (plus 1)) } ∷ [])
            → ReachedBy 0 z (unit_at 0 (after_steps 2).units).values (without_front (q_of_Z ∷ []) (after_steps 2).goals) q_of_Z
        go (inl e) =
            let same : z ≡ 1 = sym p ∙ ap (λ (a : Assignment). a.pair) e in
            rw same example_reached
        go (inr i) =
            let same : z ≡ 2 = sym p ∙ ap (λ (a : Assignment). a.pair) (in_single i) in
            absurd (omega (arith, same))
