-- The scratch between two steps of a run: it holds the state and the index of the clauses, the waiting goals' sets are chains through their pairs, later
-- stamps are unused, and the ends that are kept are right.
use Rattle.std.specs.Prelude.{ℕ, ◌+◌, ◌*◌, ◌≤◌, ◌<◌, ◌≡◌, true, false, ◌≢◌, List, [], map, length, get_or, Option as Perhaps, Some, None}
use Rattle.std.proofs.Math.Option.{Option}
use Rattle.meaning.specs.Bytes.{Bytes}
use Rattle.meaning.specs.Terms.{Job}
use Rattle.meaning.specs.Items.{job, reading}
use Rattle.meaning.specs.State.{Room, QueryUnit, Goal, Waiting, unit_at}
use Rattle.meaning.specs.Step.{without_front}
use Rattle.meaning.specs.Run.{fits, choice_for, queries_fit, run}
use Rattle.term.specs.Jobs.{HoldsJob}
use Rattle.term.specs.Layout.{waiters_region, sets_region, marks_region, ends_region, waiting_region, need_of, InRange, queries_region, items_region, trial_region, query_record, query_stride, tries_at}
use Rattle.term.specs.Chains.{EndOf}
use Rattle.term.specs.States.{Atlas, setting_at, goal_word, HoldsState}
use Rattle.term.specs.declared.state.Standing.{Standing}
use Rattle.run_circle.specs.Ground.{Tells, IsSo}
use Rattle.run_index.specs.Index.{Indexed}
use Rattle.run_trial.specs.Choosing.{MarksBelow}
use Rattle.run_queues.specs.Log.{Slot, waits, gathered, present, LogOk}

-- A waiting goal as the log has it: its word, and the places of its pairs.
abbrev pub slot_of : Atlas → Waiting → Slot
slot_of atlas w = waits (goal_word atlas w.goal) (gathered [] (map (λ p. (atlas w.goal.query).pair p) w.readers))

-- What a run may change: of the queries' records the tries alone; the trial's region; and what the room has.
pub record RunOnly (figures : Room) (s s' : List ℕ) : Type 0 where
  pub size : length s' ≡ length s
  pub before : (k : ℕ) → k < queries_region → get_or s' k 0 ≡ get_or s k 0
  pub records : (q i : ℕ) → q < 8 → i < query_stride → i ≢ tries_at → get_or s' (query_record q + i) 0 ≡ get_or s (query_record q + i) 0
  pub items : (k : ℕ) → items_region ≤ k → k < trial_region → get_or s' k 0 ≡ get_or s k 0
  pub behind : (k : ℕ) → need_of figures ≤ k → get_or s' k 0 ≡ get_or s k 0

-- The word w is the end of a pair of some query's unit, whose place is p.
pub record EndAt (s : List ℕ) (figures : Room) (atlas : Atlas) (units : List QueryUnit) (p w : ℕ) : Type 0 where
  pub query : ℕ
  pub known : query < length units
  pub pair : ℕ
  pub inside : pair < length (unit_at query units).values
  pub place : (atlas query).pair pair ≡ p
  pub end : EndOf s (setting_at figures atlas units query) pair w

-- Of each place the word for its pair's end is 0, or that end.
abbrev pub AllEnds : List ℕ → Room → Atlas → List QueryUnit → Type 0
AllEnds s figures atlas units =
    (p : ℕ) → p < figures.pairs → get_or s (ends_region figures + p) 0 ≢ 0 → EndAt s figures atlas units p (get_or s (ends_region figures + p) 0)

-- What a mark tells is so, in the unit of some query.
abbrev pub GroundMarks : List ℕ → Room → Atlas → List QueryUnit → Type 0
GroundMarks s figures atlas units = (o : Option ℕ) (p : ℕ) → p < figures.pairs → Tells o (get_or s (marks_region figures + p) 0)
    → (k : ℕ) × (k < length units) × IsSo (atlas k) (unit_at k units).values o p

-- The job's run after `limit` steps; the stamps from one on are unused.
pub record Running (s : List ℕ) (text : Bytes) (names : List Bytes) (j : Job) (figures : Room) (limit : ℕ) (atlas : Atlas) (slots : List Slot) (t : Standing)
    (stamp : ℕ) : Type 0 where
  pub in_range : InRange figures
  pub inside : need_of figures ≤ length s
  pub reads : reading text ≡ job j
  pub fit : queries_fit figures j.queries ≡ true
  pub few_steps : t.steps ≤ 1000000
  pub held : HoldsJob s names j
  pub indexed : Indexed s (length j.clauses)
  pub state : HoldsState s names figures j.queries atlas (run j limit figures).state t
  pub log : LogOk s (waiting_region figures) (waiters_region figures) (sets_region figures) figures.pairs slots
  pub log_number : t.log ≡ length slots
  pub waiting : present slots (length slots) ≡ map (slot_of atlas) (run j limit figures).state.goals.waiting
  pub marks : MarksBelow s (marks_region figures) figures.pairs stamp
  pub ends : AllEnds s figures atlas (run j limit figures).state.units
  pub grounds : GroundMarks s figures atlas (run j limit figures).state.units

-- After a step: the next state of the run; or the reduction does not fit, and the state is as it was.
abbrev pub SteppedIs : List ℕ → Bytes → List Bytes → Job → Room → ℕ → Atlas → Goal → List Goal → Standing → Perhaps Standing → Type 0
SteppedIs s' text names j figures limit atlas g others t (Some u) =
    (fits figures (choice_for j.clauses (run j limit figures).state g) (run j limit figures).state
    (without_front others (run j limit figures).state.goals) ≡ true)
    × (atlas' : Atlas) × (slots' : List Slot) × (u.steps ≡ t.steps + 1)
    × Running s' text names j figures (limit + 1) atlas' slots' u (u.steps * 32768 + 2)
SteppedIs s' text names j figures limit atlas g others t None =
    (fits figures (choice_for j.clauses (run j limit figures).state g) (run j limit figures).state
    (without_front others (run j limit figures).state.goals) ≡ false)
    × HoldsState s' names figures j.queries atlas (run j limit figures).state t

-- A step's contract: the goal in front is taken.
pub record StepIs (s s' : List ℕ) (text : Bytes) (names : List Bytes) (j : Job) (figures : Room) (limit : ℕ) (atlas : Atlas) (g : Goal) (others : List Goal)
    (t : Standing) (r : Perhaps Standing) : Type 0 where
  pub only : RunOnly figures s s'
  pub told : SteppedIs s' text names j figures limit atlas g others t r
