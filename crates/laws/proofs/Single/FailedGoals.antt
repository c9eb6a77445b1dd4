-- In every state of every run each failed goal would fail again: no clause of it succeeds, and none waits. A goal that failed is never reduced, so no
-- writer that it holds is assigned; and what failed fails later, by a place, by the circle test or by a guard.
use Prim.Native.Nat.{ℕ, ◌≤◌, ◌<◌}
use mathlib.Core.Path.{◌≡◌, refl}
use mathlib.Core.Logic.{◌⊎◌, inl, inr, ⊎_elim}
use mathlib.Core.Bool.{false}
use mathlib.Core.List.{List, ◌++◌, map}
use mathlib.Core.Option.{some}
use native.Mathlib.Omega.{arith}
use lib.ListN.{length}
use borrow.Author.Tests.{eq-eqb}
use Rattle.meaning.specs.Terms.{Half, Term, Named, Clause, Job, occurrences, all_occurrences}
use Rattle.meaning.specs.State.{Room, value, QueryUnit, Goal, State, unit_at, of, start}
use Rattle.meaning.specs.Compare.{Assignment}
use Rattle.meaning.specs.Circle.{circle}
use Rattle.meaning.specs.Trial.{Choice, reduces, joins_waiting, joins_failed, choice}
use Rattle.meaning.specs.Step.{unit_after, goals_after, without_front, step}
use Rattle.meaning.specs.Run.{choice_for, run}
use Rattle.laws.proofs.Lists.{differ, In, here, in_single, in_append_cases, in_append_left, in_append_right, Each, each_in, each_member, each_implies, TakenOut, taken_front}
use Rattle.laws.proofs.Trial.{unit_at_set, reduces_agrees}
use Rattle.laws.proofs.Runs.{run_keeps, Reached, reached_keeps, no_steps}
use Rattle.laws.proofs.Runs.Charges.{pairs_after, Summed, step_summed, run_summed}
use Rattle.laws.proofs.Circle.{StillOpen, GoalLater, NoCircle, start_no_circle, step_no_circle, NoWriters, start_no_writers, step_no_writers, failed_stays_failed}
use Rattle.laws.proofs.Circle.Never.{unit_after_no_circle}
use Rattle.laws.proofs.Circle.ValuesStay.{unit_after_values_stay}
use Rattle.laws.proofs.Circle.NoWriter.{NoWriterIn, unit_after_no_writer}
use Rattle.laws.proofs.Reading.{ClauseOk, JobOk}
use Rattle.laws.proofs.Single.Counting.{together, count_of}
use Rattle.laws.proofs.Single.Step.{SoundAt, balanced_taken}
use Rattle.laws.proofs.Single.Run.{SoundAll, step_sound_all, run_sound}
use Rattle.laws.proofs.Single.StillOpen.{others_stay_open, counted, goal_settles}

-- A goal whose unit a step leaves, and one whose unit it changes.
module _ (unit : QueryUnit) (goal : Named) (no_circle : circle unit.values ≡ false) (no_writer : NoWriterIn unit.values)
    (goal_inside : (h : Half) (n : ℕ) → length unit.values ≤ n → all_occurrences h n goal.arguments ≡ 0)
    (values_inside : (p : ℕ) (t : Term) → value unit.values p ≡ some t → (h : Half) (n : ℕ) → length unit.values ≤ n → occurrences h n t ≡ 0) where
  unit_left : GoalLater unit unit goal
  unit_left =
      record {
        grew = record { no_circle = no_circle; no_circle_after = no_circle; stays = λ p t e. e; no_writer = no_writer };
        longer = omega arith;
        still_open = λ z held e. e;
        goal_in_range = goal_inside;
        values_in_range = values_inside;
      }

  unit_changed : (clauses : List Clause) (front : Named) → StillOpen unit.values (unit_after (choice clauses unit front) unit).values goal.arguments
      → GoalLater unit (unit_after (choice clauses unit front) unit) goal
  unit_changed clauses front stays_open =
      record {
        grew =
            record {
              no_circle = no_circle;
              no_circle_after = unit_after_no_circle clauses unit front no_circle;
              stays = unit_after_values_stay clauses unit front no_circle;
              no_writer = unit_after_no_writer clauses unit front no_writer;
            };
        longer = omega (arith, pairs_after unit (choice clauses unit front));
        still_open = stays_open;
        goal_in_range = goal_inside;
        values_in_range = values_inside;
      }

-- If the step reduces a goal, it is another than this one.
abbrev pub Spared : List Clause → State → Goal → List Goal → Goal → Type 0
Spared clauses state g others o =
    (clause : Clause) (given : List Assignment) → choice_for clauses state g ≡ reduces clause given → In o (together (without_front others state.goals))

module _ (clauses : List Clause) (state : State) (g : Goal) (others : List Goal) (taken : TakenOut g others state.goals.queue) where
  stays_open : (o : Goal) → o.query ≡ g.query → SoundAt g.query state → Spared clauses state g others o
      → (c : Choice) → choice_for clauses state g ≡ c
      → StillOpen (unit_at g.query state.units).values (unit_after c (unit_at g.query state.units)).values o.goal.arguments
  unfolding unit_after choice_for of
  stays_open o same s spared (reduces clause given) e =
      others_stay_open (unit_at g.query state.units) clause g.goal given (count_of g.query (without_front others state.goals))
      (reduces_agrees (unit_at g.query state.units) g.goal clause given clauses e).1
      (balanced_taken _ g state.goals others taken s) o.goal.arguments
      (counted g.query state s o (eq-eqb o.query g.query same) (without_front others state.goals) (spared clause given e))
  stays_open o same s spared (joins_waiting readers) e = λ z held i. i
  stays_open o same s spared joins_failed e = λ z held i. i

  -- A goal that the step does not reduce is later as it was, but that values grew.
  pub step_goal_later : NoCircle state → NoWriters state → (o : Goal) → SoundAt o.query state → In o (together state.goals)
      → Spared clauses state g others o
      → GoalLater (unit_at o.query state.units) (unit_at o.query (step (choice_for clauses state g) g others state).units) o.goal
  unfolding step choice_for of
  step_goal_later no_circle no_writers o s stands spared =
      unit_at_set (λ u. GoalLater (unit_at o.query state.units) u o.goal) state.units g.query o.query _ own
      (unit_left (unit_at o.query state.units) o.goal (no_circle o.query) (no_writers o.query) inside s.balanced.values_below)
    where
      inside : (h : Half) (n : ℕ) → length (unit_at o.query state.units).values ≤ n → all_occurrences h n o.goal.arguments ≡ 0
      inside h n past =
          omega (arith, counted o.query state s o (eq-eqb o.query o.query refl) state.goals stands h n, s.balanced.below h n past)

      own : o.query ≡ g.query
          → GoalLater (unit_at o.query state.units)
          (unit_after (choice clauses (unit_at g.query state.units) g.goal) (unit_at g.query state.units)) o.goal
      own same =
          rw (← same)
          (unit_changed (unit_at o.query state.units) o.goal (no_circle o.query) (no_writers o.query) inside s.balanced.values_below
          clauses g.goal (rw same (stays_open o same (rw (← same) s) spared _ refl)))

-- Each failed goal would fail again.
abbrev pub FailedFail : List Clause → State → Type 0
FailedFail clauses state = Each (λ o. choice_for clauses state o ≡ joins_failed) state.goals.failed

-- What is kept of a state.
pub record Steady (job : Job) (state : State) : Type 0 where
  pub sound : SoundAll (length job.queries) state
  pub summed : Summed state
  pub no_circle : NoCircle state
  pub no_writers : NoWriters state
  pub failed_fail : FailedFail job.clauses state

module _ (job : Job) (ok : JobOk job) (state : State) (g : Goal) (others : List Goal) (taken : TakenOut g others state.goals.queue)
    (s : Steady job state) where
  abbrev next : State
  next = step (choice_for job.clauses state g) g others state

  -- The failed goals after the step: those before it, and the goal that it took if that failed.
  failed_cases : (c : Choice) (o : Goal) → In o (goals_after c (unit_at g.query state.units) g (without_front others state.goals)).failed
      → In o state.goals.failed ⊎ ((o ≡ g) × (c ≡ joins_failed))
  unfolding goals_after without_front
  failed_cases (reduces clause given) o m = inl m
  failed_cases (joins_waiting readers) o m = inl m
  failed_cases joins_failed o m = ⊎_elim inl (λ k. inr (in_single k, refl)) (in_append_cases state.goals.failed m)

  sound_next : SoundAll (length job.queries) next
  sound_next = step_sound_all job ok state g others taken s.sound

  summed_next : Summed next
  summed_next = step_summed (choice_for job.clauses state g) g others state taken s.summed

  -- A goal that fails before the step, and stands among the failed goals after it.
  fails_again : (o : Goal) → choice_for job.clauses state o ≡ joins_failed → In o (together state.goals) → Spared job.clauses state g others o
      → In o next.goals.failed → choice_for job.clauses next o ≡ joins_failed
  unfolding choice_for of
  fails_again o before stands spared after =
      let inside : o.query < length job.queries = rw sound_next.units at (each_in _ summed_next.placed.failed after) in
      failed_stays_failed (unit_at o.query state.units) (unit_at o.query next.units) o.goal
      (step_goal_later job.clauses state g others taken s.no_circle s.no_writers o (s.sound.sound o.query inside) stands spared)
      job.clauses
      (each_implies ClauseOk _
      (λ clause clause_ok given agrees.
      goal_settles o.query next (sound_next.sound o.query inside) o (eq-eqb o.query o.query refl)
      (in_append_right (next.goals.queue ++ map (λ w. w.goal) next.goals.waiting) after) clause clause_ok given agrees)
      job.clauses ok.clauses_ok)
      before

  failed_fail_next : FailedFail job.clauses next
  unfolding step without_front
  failed_fail_next =
      each_member (λ o. choice_for job.clauses next o ≡ joins_failed) next.goals.failed
      (λ o after. ⊎_elim (old o after) (new o after) (failed_cases (choice_for job.clauses state g) o after))
    where
      old : (o : Goal) → In o next.goals.failed → In o state.goals.failed → choice_for job.clauses next o ≡ joins_failed
      old o after m =
          fails_again o (each_in _ s.failed_fail m) (in_append_right (state.goals.queue ++ map (λ w. w.goal) state.goals.waiting) m)
          (λ clause given e. in_append_right (others ++ map (λ w. w.goal) state.goals.waiting) m) after

      new : (o : Goal) → In o next.goals.failed → (o ≡ g) × (choice_for job.clauses state g ≡ joins_failed)
          → choice_for job.clauses next o ≡ joins_failed
      new o after (same, failed) =
          let front : In g state.goals.queue = rw taken.stood (in_append_right taken.before (here refl)) in
          fails_again o (rw same failed) (rw same (in_append_left state.goals.failed (in_append_left (map (λ w. w.goal) state.goals.waiting) front)))
          (λ clause given e. absurd (differ (cc))) after

  pub step_steady : Steady job next
  step_steady =
      record {
        sound = sound_next;
        summed = summed_next;
        no_circle = step_no_circle job.clauses state g others s.no_circle;
        no_writers = step_no_writers job.clauses state g others s.no_writers;
        failed_fail = failed_fail_next;
      }

-- Every state of every run has it, and every state that is reached by taking goals at any places.
module _ (job : Job) (ok : JobOk job) (figures : Room) where
  start_steady : Steady job (start job.queries)
  unfolding start
  start_steady =
      record {
        sound = rw (no_steps job figures) at (run_sound job ok 0 figures);
        summed = rw (no_steps job figures) at (run_summed job 0 figures);
        no_circle = start_no_circle job.queries;
        no_writers = start_no_writers job.queries;
        failed_fail = tt;
      }

  pub run_failed_goals_fail_again : (limit : ℕ) → FailedFail job.clauses (run job limit figures).state
  run_failed_goals_fail_again limit =
      (run_keeps job figures (Steady job) (λ state g others front fit s. step_steady job ok state g others (taken_front front) s) start_steady limit).failed_fail

  pub reached_steady : (state : State) → Reached job.clauses figures (start job.queries) state → Steady job state
  reached_steady state r =
      reached_keeps job.clauses figures (Steady job) (λ state g others taken fit s. step_steady job ok state g others taken s) r start_steady

  pub reached_failed_goals_fail_again : (state : State) → Reached job.clauses figures (start job.queries) state → FailedFail job.clauses state
  reached_failed_goals_fail_again state r = (reached_steady state r).failed_fail
