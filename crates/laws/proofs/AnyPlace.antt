-- What every state of a run has, every step keeps that fits, whichever goal of the queue it takes: the one in front, as a run does, or another.
-- Each law's own lemma of a step is for any place; here they stand together, and so hold of every state that is reached by taking goals at any places.
pub mod Example
use Prim.Native.Nat.{ℕ, ◌+◌, ◌<◌}
use mathlib.Core.Path.{◌≡◌}
use mathlib.Core.Bool.{true, false}
use mathlib.Core.List.{List, ◌∷◌, ◌++◌}
use mathlib.Core.Option.{some}
use lib.ListN.{length}
use Rattle.meaning.specs.Bytes.{those}
use Rattle.meaning.specs.Terms.{Term, Clause, Job}
use Rattle.meaning.specs.State.{Room, value, Goal, State, number_of, unit_at, of, part_of, start}
use Rattle.meaning.specs.Compare.{Assignment}
use Rattle.meaning.specs.Trial.{reduces}
use Rattle.meaning.specs.Step.{step, without_front}
use Rattle.meaning.specs.Run.{fits, choice_for, queries_fit, run}
use Rattle.laws.proofs.Lists.{each_in, TakenOut, taken_at, taken_each}
use Rattle.laws.proofs.Trial.{reduces_agrees}
use Rattle.laws.proofs.Runs.{Reached, reached_keeps, no_steps, run_within_room}
use Rattle.laws.proofs.Runs.Counts.{Within, taken_within}
use Rattle.laws.proofs.Runs.Charges.{Summed, step_summed, run_summed}
use Rattle.laws.proofs.Runs.Dropped.{clause_taken, body_goals_of, step_drops_none}
use Rattle.laws.proofs.Circle.{NoCircle, step_no_circle, step_values_stay, run_no_circle}
use Rattle.laws.proofs.Reading.{ClauseOk, JobOk}
use Rattle.laws.proofs.Own.Steps.{own_step, step_is_own_here, step_of_other}
use Rattle.laws.proofs.Single.{SingleOccurrence, sound_single, AssignedOnce, sound_assigns_once}
use Rattle.laws.proofs.Single.Run.{SoundAll, step_sound_all, run_sound}

-- What is kept of a state.
pub record Kept (job : Job) (figures : Room) (state : State) : Type 0 where
  -- A unit for each query, and what single occurrence comes from.
  pub sound : SoundAll (length job.queries) state
  -- Steps and charges are the sums of what the units count, and every goal is of a query.
  pub summed : Summed state
  -- In no unit does a pair lean on itself.
  pub no_circle : NoCircle state
  -- Charges and goals are within the room.
  pub within : Within figures state

module _ (job : Job) (figures : Room) where
  -- What a step on the goal g that leaves the others in the queue does to such a state.
  pub record StepKeeps (state : State) (g : Goal) (others : List Goal) : Type 0 where
    pub kept : Kept job figures (step (choice_for job.clauses state g) g others state)
    -- Of each query: single occurrence, and no two goals wait on one pair.
    pub single : (k : ℕ) → k < length job.queries → SingleOccurrence (part_of k (step (choice_for job.clauses state g) g others state))
    -- Each pair is assigned at most once, and a value stays.
    pub assigns_once : (clause : Clause) (given : List Assignment) → choice_for job.clauses state g ≡ reduces clause given
        → AssignedOnce (unit_at g.query state.units).values clause.pairs given
    pub values_stay : (k n : ℕ) (t : Term) → value (unit_at k state.units).values n ≡ some t
        → value (unit_at k (step (choice_for job.clauses state g) g others state).units).values n ≡ some t
    -- The parts of other queries are left as they are; if it is the first goal of its query, the step is one own step of its query's part.
    pub others_stay : (k : ℕ) → of k g ≡ false → part_of k (step (choice_for job.clauses state g) g others state) ≡ part_of k state
    pub first_is_own : those (of g.query) state.goals.queue ≡ g ∷ those (of g.query) others
        → part_of g.query (step (choice_for job.clauses state g) g others state) ≡ own_step job.clauses (part_of g.query state)
    -- No goal is dropped: the goal goes and the body's come in, or as many are left.
    pub none_dropped : number_of (step (choice_for job.clauses state g) g others state).goals
        + length (clause_taken (choice_for job.clauses state g))
        ≡ number_of state.goals + body_goals_of (clause_taken (choice_for job.clauses state g))

  -- Single occurrence is in what is kept.
  pub kept_single : (state : State) → Kept job figures state → (k : ℕ) → k < length job.queries → SingleOccurrence (part_of k state)
  kept_single state s k inside = sound_single k state (s.sound.sound k inside)

  module _ (ok : JobOk job) where
    taken_kept : (state : State) (g : Goal) (others : List Goal) → TakenOut g others state.goals.queue
        → fits figures (choice_for job.clauses state g) state (without_front others state.goals) ≡ true
        → Kept job figures state → Kept job figures (step (choice_for job.clauses state g) g others state)
    taken_kept state g others t fit s =
        record {
          sound = step_sound_all job ok state g others t s.sound;
          summed = step_summed (choice_for job.clauses state g) g others state t s.summed;
          no_circle = step_no_circle job.clauses state g others s.no_circle;
          within = taken_within figures (choice_for job.clauses state g) g others state t fit s.within;
        }

    pub taken_assigns_once : (state : State) (g : Goal) (others : List Goal) → TakenOut g others state.goals.queue
        → SoundAll (length job.queries) state → Summed state → NoCircle state
        → (clause : Clause) (given : List Assignment) → choice_for job.clauses state g ≡ reduces clause given
        → AssignedOnce (unit_at g.query state.units).values clause.pairs given
    unfolding choice_for
    taken_assigns_once state g others t sound summed no_circle clause given e =
        let (member, agrees) = reduces_agrees (unit_at g.query state.units) g.goal clause given job.clauses e in
        let inside = rw sound.units at (taken_each _ t summed.placed.queue).0 in
        sound_assigns_once state g others t (sound.sound g.query inside) no_circle
        clause (each_in ClauseOk ok.clauses_ok member) given agrees

    -- What every step keeps that fits, for any goal of the queue.
    pub step_at_any_place_keeps : (state : State) (g : Goal) (before after : List Goal) → state.goals.queue ≡ before ++ g ∷ after
        → fits figures (choice_for job.clauses state g) state (without_front (before ++ after) state.goals) ≡ true
        → Kept job figures state → StepKeeps state g (before ++ after)
    step_at_any_place_keeps state g before after e fit s =
        let t = taken_at before after e in
        record {
          kept = taken_kept state g (before ++ after) t fit s;
          single = kept_single _ (taken_kept state g (before ++ after) t fit s);
          assigns_once = taken_assigns_once state g (before ++ after) t s.sound s.summed s.no_circle;
          values_stay = step_values_stay job.clauses state g (before ++ after) s.no_circle;
          others_stay = λ k d. step_of_other k (choice_for job.clauses state g) state g (before ++ after) t d;
          first_is_own = λ first.
              step_is_own_here job.clauses state g (before ++ after) first (taken_each _ t s.summed.placed.queue).0;
          none_dropped = step_drops_none (choice_for job.clauses state g) g (before ++ after) state t;
        }

    -- Every state of a run has it; and so has every state that is reached by taking goals at any places.
    module _ (fit : queries_fit figures job.queries ≡ true) where
      pub run_kept : (limit : ℕ) → Kept job figures (run job limit figures).state
      run_kept limit =
          record {
            sound = run_sound job ok limit figures;
            summed = run_summed job limit figures;
            no_circle = run_no_circle job limit figures;
            within = run_within_room job limit figures fit;
          }

      pub reached_kept : (state : State) → Reached job.clauses figures (start job.queries) state → Kept job figures state
      reached_kept state r = reached_keeps job.clauses figures (Kept job figures) taken_kept r (rw (no_steps job figures) at (run_kept 0))
