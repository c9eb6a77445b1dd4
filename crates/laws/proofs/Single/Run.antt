-- Every state of every run is sound at the place of each query: the first is, since no pair has a value, and each step keeps it.
-- By the law that what each step keeps holds of every state of every run.
use Prim.Native.Nat.{ℕ, zero, suc, ◌+◌, ◌<◌}
use mathlib.Core.Path.{◌≡◌, ◌∙◌}
use mathlib.Core.List.{List, [], ◌∷◌, map}
use mathlib.Core.Option.{none, some}
use native.Mathlib.Omega.{arith}
use lib.ListN.{length, replicate, length-map, length-replicate}
use Rattle.meaning.specs.Terms.{Term, Query, Job, goals_occurrences}
use Rattle.meaning.specs.State.{Room, value, Goal, State, unit_at, first_unit, goals_at, all_goals, start, from_query}
use Rattle.meaning.specs.Step.{step}
use Rattle.meaning.specs.Run.{choice_for, run}
use Rattle.laws.proofs.Lists.{Each, sum, sum_append, differ, TakenOut, taken_front}
use Rattle.laws.proofs.Trial.{value_replicate}
use Rattle.laws.proofs.Runs.{run_keeps}
use Rattle.laws.proofs.Runs.Charges.{step_units}
use Rattle.laws.proofs.Circle.Never.{start_no_circle}
use Rattle.laws.proofs.Reading.{QueryOk, JobOk}
use Rattle.laws.proofs.Single.Balance.{Balanced, balanced_less}
use Rattle.laws.proofs.Single.Counting.{own, entered, entered_at_other, entered_later}
use Rattle.laws.proofs.Single.Step.{SoundAt, step_sound}

-- Before the first step no pair has a value.
valueless : (pairs n : ℕ) (t : Term) → value (replicate pairs none) n ≡ some t → ⊥
valueless pairs n t e = let i = value_replicate pairs n in differ (cc)

first_balanced : (q : Query) → QueryOk q → Balanced (first_unit q).values (λ h n. goals_occurrences h n q.goals)
unfolding first_unit
first_balanced q ok =
    record {
      live = [];
      settled = tt;
      once = λ h n o. omega (arith, ok.once h n);
      fair = λ h n t o e. absurd (valueless (length q.variables) n t e);
      gone = λ n t e. absurd (valueless (length q.variables) n t e);
      below = λ h n e. omega (arith, ok.below h n (rw length-replicate at e));
      values_below = λ m t e. absurd (valueless (length q.variables) m t e);
    }

-- The goals of the query at place k, of the queries from some place on.
start_balanced : (queries : List Query) (place i k : ℕ) → k ≡ place + i → i < length queries → Each QueryOk queries
    → Balanced (unit_at i (map first_unit queries)).values (λ h n. sum (own k h n) (all_goals place queries))
unfolding all_goals unit_at
start_balanced [] place i k e inside oks = absurd (omega arith)
start_balanced (q ∷ queries) place zero k e inside oks =
    let here : k ≡ place = omega arith in
    rw (← here)
    (balanced_less _ _ _
    (λ h n.
    omega (
      arith,
      sum_append (own k h n) (goals_at from_query k q.goals) (all_goals (suc k) queries),
      entered k h n from_query q.goals,
      entered_later k h n (suc k) queries (omega arith),
    ))
    (first_balanced q oks.0))
start_balanced (q ∷ queries) place (suc i) k e inside oks =
    balanced_less _ _ _
    (λ h n.
    omega (
      arith,
      sum_append (own k h n) (goals_at from_query place q.goals) (all_goals (suc place) queries),
      entered_at_other k h n from_query place q.goals (λ j. omega arith),
    ))
    (start_balanced queries (suc place) i k (omega arith) (omega arith) oks.1)

start_sound : (queries : List Query) → Each QueryOk queries → (k : ℕ) → k < length queries → SoundAt k (start queries)
unfolding start
start_sound queries oks k inside =
    record {
      no_circle = start_no_circle queries k;
      balanced = balanced_less _ _ _ (λ h n. omega arith) (start_balanced queries 0 k k (omega arith) inside oks);
      chained = tt;
      idle = tt;
    }

-- As many units as queries, each sound.
pub record SoundAll (number : ℕ) (state : State) : Type 0 where
  pub units : length state.units ≡ number
  pub sound : (k : ℕ) → k < number → SoundAt k state

-- A step keeps that, whichever goal of the queue it takes.
pub step_sound_all : (job : Job) → JobOk job → (state : State) (g : Goal) (others : List Goal) → TakenOut g others state.goals.queue
    → SoundAll (length job.queries) state
    → SoundAll (length job.queries) (step (choice_for job.clauses state g) g others state)
step_sound_all job ok state g others t s =
    record {
      units = step_units (choice_for job.clauses state g) g others state ∙ s.units;
      sound = λ k inside. step_sound job.clauses ok.clauses_ok state g others t k (rw s.units inside) (s.sound k inside);
    }

-- Every state of every run of a job that was read is sound at the place of each query.
pub run_sound : (job : Job) → JobOk job → (limit : ℕ) (figures : Room) → SoundAll (length job.queries) (run job limit figures).state
unfolding start
run_sound job ok limit figures =
    run_keeps job figures (SoundAll (length job.queries))
    (λ state g others front fit s. step_sound_all job ok state g others (taken_front front) s) first limit
  where
    first : SoundAll (length job.queries) (start job.queries)
    first =
        record {
          units = length-map job.queries first_unit;
          sound = start_sound job.queries ok.queries_ok;
        }
