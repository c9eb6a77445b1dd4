-- Between two steps: what a change of words leaves of the run's state, and what the goal in front is to the choice.
use Prim.Native.Nat.{ℕ, zero, suc, ◌+◌, ◌*◌, ◌≤◌, ◌<◌}
use mathlib.Core.Path.{◌≡◌, refl, ◌∙◌}
use mathlib.Core.Logic.{inl, inr}
use mathlib.Core.List.{List, [], ◌∷◌, map}
use native.Mathlib.Omega.{arith}
use lib.ListN.{length, get_or}
use Rattle.meaning.specs.Bytes.{Bytes}
use Rattle.meaning.specs.Terms.{Query, Job, as_term}
use Rattle.meaning.specs.State.{Room, QueryUnit, Goal, Goals, State, unit_at, number_of}
use Rattle.meaning.specs.Run.{run}
use Rattle.laws.proofs.Circle.{run_no_circle}
use Rattle.laws.proofs.Lists.Sums.{sum}
use Rattle.laws.proofs.Runs.{steps_are_the_tries, charged_pairs_are_the_units}
use Rattle.laws.proofs.Runs.Charges.{run_units}
use Rattle.term.specs.Jobs.{JobKept}
use Rattle.term.specs.Layout.{values_region, waiters_region, sets_region, marks_region, queue_region, waiting_region, need_of, InRange, compounds_region, query_record, query_first_pair_word, query_tries_word}
use Rattle.term.specs.Setting.{Within}
use Rattle.term.specs.Chains.{EndsStand}
use Rattle.term.specs.States.{Atlas, setting_at, goal_word, ring, GoalStands, AllStand, QueueStands, HoldsState}
use Rattle.term.specs.declared.state.Standing.{Standing}
use Rattle.term.proofs.Chains.{chains_end}
use Rattle.term.proofs.Jobs.{holds_job_kept}
use Rattle.run_index.proofs.Kept.{indexed_kept}
use Rattle.run_trial.specs.Choosing.{Trying, MarksBelow, TrialOnly}
use Rattle.run_queues.specs.Log.{Slot}
use Rattle.run_between.specs.Running.{RunOnly, AllEnds, Running, GroundMarks}
use Rattle.run_between.proofs.Ends.{ends_alike}
use Rattle.run_between.proofs.Frames.{UnitsKept, cells_before, units_same, units_kept, goals_kept, first_pairs_kept, queue_kept, failed_kept, waiting_kept}
use Rattle.run_between.proofs.GroundMarks.{grounds_of}
use Rattle.run_queues.proofs.Ring.{round_below}
use Rattle.run_queues.proofs.Waking.{log_kept}

-- The words that a state reads stay.
pub record StateKept (figures : Room) (s s' : List ℕ) : Type 0 where
  pub size : length s' ≡ length s
  pub first_pairs : (q : ℕ) → q < 8 → get_or s' (query_first_pair_word q) 0 ≡ get_or s (query_first_pair_word q) 0
  pub tries : (q : ℕ) → q < 8 → get_or s' (query_tries_word q) 0 ≡ get_or s (query_tries_word q) 0
  pub units : (k : ℕ) → compounds_region ≤ k → k < waiters_region figures → get_or s' k 0 ≡ get_or s k 0
  pub goals : (k : ℕ) → queue_region figures ≤ k → k < need_of figures → get_or s' k 0 ≡ get_or s k 0

pub state_units_kept : (figures : Room) (s s' : List ℕ) (cells : ℕ) → cells ≤ values_region figures → StateKept figures s s'
    → UnitsKept figures cells s s'
state_units_kept figures s s' cells fits kept = record {
  size = kept.size;
  cells = λ k a b. kept.units k a (omega arith);
  values = λ k a b. kept.units k (omega arith) b;
}

-- How many goals there are in each list.
pub queue_fits : (goals : Goals) (n : ℕ) → number_of goals ≤ n → length goals.queue + length goals.waiting + length goals.failed ≤ n
unfolding number_of
queue_fits goals n h = h

pub state_kept : (s s' : List ℕ) (names : List Bytes) (figures : Room) (queries : List Query) (atlas : Atlas) (state : State) (t : Standing)
    → length queries ≤ 8 → length state.units ≤ 8 → StateKept figures s s' → HoldsState s names figures queries atlas state t
    → HoldsState s' names figures queries atlas state t
state_kept s s' names figures queries atlas state t few few_units kept h =
    let units = state.units in
    let pairs = state.pairs in
    let compounds = state.compounds in
    let cells = t.cells in
    let own = state_units_kept figures s s' cells (cells_before h.lies) kept in
    let stay = goals_kept s s' names figures atlas units units pairs compounds cells h.lies own (units_same units) in
    let all = queue_fits state.goals figures.goals h.fits in
    record {
      pairs = h.pairs;
      compounds = h.compounds;
      steps = h.steps;
      fits = h.fits;
      lies = h.lies;
      units = units_kept s s' names figures atlas units pairs compounds cells h.lies own (λ k l. kept.tries k (omega arith)) h.units;
      first_pairs = first_pairs_kept s s' atlas queries few kept.first_pairs h.first_pairs;
      queue_held = stay state.goals.queue h.queue_held;
      waiting_held = stay (map (λ w. w.goal) state.goals.waiting) h.waiting_held;
      failed_held = stay state.goals.failed h.failed_held;
      queue = queue_kept s s' figures atlas t.front t.active state.goals.queue (omega (arith, h.queue.number, all))
          (λ k a b. kept.goals k a (omega arith)) h.queue;
      waiting = waiting_kept s s' figures atlas t.log t.waiting state.goals.waiting
          (λ k a b. kept.goals k (omega arith) (omega (arith, h.waiting.fits))) h.waiting;
      failed = failed_kept s s' figures atlas t.failed state.goals.failed
          (λ k a b. kept.goals k (omega arith) (omega (arith, h.failed.number, all))) h.failed;
    }

-- A unit's share of a sum over the units.
pub unit_in_sum : (f : QueryUnit → ℕ) (units : List QueryUnit) (k : ℕ) → k < length units → f (unit_at k units) ≤ sum f units
unfolding unit_at
unit_in_sum f [] k h = absurd (omega arith)
unit_in_sum f (u ∷ units) zero h = omega arith
unit_in_sum f (u ∷ units) (suc k) h = omega (arith, unit_in_sum f units k (omega arith))

module _ (s : List ℕ) (text : Bytes) (names : List Bytes) (j : Job) (figures : Room) (limit : ℕ) (atlas : Atlas) (slots : List Slot) (t : Standing)
    (stamp : ℕ) (r : Running s text names j figures limit atlas slots t stamp) where
  pub few_units : length (run j limit figures).state.units ≤ 8
  few_units = omega (arith, run_units j limit figures, r.held.few_queries)

  -- A query's tries are among the steps.
  pub tries_below : (k : ℕ) → k < length (run j limit figures).state.units → get_or s (query_tries_word k) 0 ≤ t.steps
  tries_below k h =
      omega (
        arith,
        r.state.units.tries k h,
        unit_in_sum (λ u. u.tries) (run j limit figures).state.units k h,
        steps_are_the_tries j limit figures,
        r.state.steps,
      )

  -- The state is as it was where its words and those of the job and of the log stay.
  pub running_kept : (s' : List ℕ) (stamp' : ℕ) → StateKept figures s s' → JobKept s s'
      → ((k : ℕ) → waiters_region figures ≤ k → k < marks_region figures → get_or s' k 0 ≡ get_or s k 0)
      → MarksBelow s' (marks_region figures) figures.pairs stamp'
      → AllEnds s' figures atlas (run j limit figures).state.units
      → GroundMarks s' figures atlas (run j limit figures).state.units
      → Running s' text names j figures limit atlas slots t stamp'
  running_kept s' stamp' kept job own marks ends grounds = record {
    in_range = r.in_range;
    inside = omega (arith, r.inside, kept.size);
    reads = r.reads;
    fit = r.fit;
    few_steps = r.few_steps;
    held = holds_job_kept s s' names job j r.held;
    indexed = indexed_kept s s' names j r.held (holds_job_kept s s' names job j r.held) job.before 0 r.indexed;
    state = state_kept s s' names figures j.queries atlas (run j limit figures).state t r.held.few_queries few_units kept r.state;
    log = log_kept s s' (waiting_region figures) (waiters_region figures) (sets_region figures) figures.pairs slots r.log kept.size
        (λ k a b. own k a (omega arith))
        (λ k a b. kept.goals k (omega arith) (omega (arith, r.log_number, r.state.waiting.fits)));
    log_number = r.log_number;
    waiting = r.waiting;
    marks = marks;
    ends = ends;
    grounds = grounds;
  }

-- What the choice changes: the trial's region, the marks, and the readers with their ranks.
module _ (figures : Room) (s s' : List ℕ) (only : TrialOnly compounds_region (marks_region figures) (3 * figures.pairs) s s') where
  pub trial_state_kept : StateKept figures s s'
  trial_state_kept = record {
    size = only.size;
    first_pairs = λ q h. only.same (query_first_pair_word q) (inl (omega arith)) (inl (omega arith));
    tries = λ q h. only.same (query_tries_word q) (inl (omega arith)) (inl (omega arith));
    units = λ k a b. only.same k (inr (omega arith)) (inl (omega arith));
    goals = λ k a b. only.same k (inr (omega arith)) (inr (omega arith));
  }

  pub trial_job_kept : JobKept s s'
  trial_job_kept = record {
    size = omega (arith, only.size);
    before = λ k h. only.same k (inl (omega arith)) (inl (omega arith));
    records = λ q i h m x y. only.same (query_record q + i) (inl (omega arith)) (inl (omega arith));
    items = λ k a b. only.same k (inl b) (inl (omega arith));
  }

  pub trial_run_only : RunOnly figures s s'
  trial_run_only = record {
    size = only.size;
    before = λ k h. only.same k (inl (omega arith)) (inl (omega arith));
    records = λ q i h m x. only.same (query_record q + i) (inl (omega arith)) (inl (omega arith));
    items = λ k a b. only.same k (inl b) (inl (omega arith));
    behind = λ k a. only.same k (inr (omega arith)) (inr (omega arith));
  }

pub run_only_then : (figures : Room) (s t u : List ℕ) → RunOnly figures s t → RunOnly figures t u → RunOnly figures s u
run_only_then figures s t u a b = record {
  size = b.size ∙ a.size;
  before = λ k h. b.before k h ∙ a.before k h;
  records = λ q i h m x. b.records q i h m x ∙ a.records q i h m x;
  items = λ k l h. b.items k l h ∙ a.items k l h;
  behind = λ k h. b.behind k h ∙ a.behind k h;
}

pub running_tried : (s s' : List ℕ) (text : Bytes) (names : List Bytes) (j : Job) (figures : Room) (limit : ℕ) (atlas : Atlas) (slots : List Slot) (t : Standing)
    (stamp stamp' : ℕ) → Running s text names j figures limit atlas slots t stamp → TrialOnly compounds_region (marks_region figures) (3 * figures.pairs) s s'
    → MarksBelow s' (marks_region figures) figures.pairs stamp' → GroundMarks s' figures atlas (run j limit figures).state.units
    → Running s' text names j figures limit atlas slots t stamp'
running_tried s s' text names j figures limit atlas slots t stamp stamp' r only marks grounds =
    running_kept s text names j figures limit atlas slots t stamp r s' stamp' (trial_state_kept figures s s' only) (trial_job_kept figures s s' only)
    (λ k a b. only.same k (inr (omega arith)) (inl (omega arith))) marks
    (ends_alike s s' names figures atlas (run j limit figures).state.units (run j limit figures).state.units (run j limit figures).state.pairs
    (run j limit figures).state.compounds t.cells r.state.lies (state_units_kept figures s s' t.cells (cells_before r.state.lies)
    (trial_state_kept figures s s' only)) (units_same (run j limit figures).state.units)
    (λ k a b. only.same k (inr (omega arith)) (inr (omega arith))) r.ends) grounds

-- The goal in front: its word, and what the choice asks.
first_of_ring : (s : List ℕ) (figures : Room) (atlas : Atlas) (front active : ℕ) (g : Goal) (others : List Goal)
    → QueueStands s figures atlas front active (g ∷ others) → get_or s (queue_region figures + front) 0 ≡ goal_word atlas g
unfolding ring
first_of_ring s figures atlas front zero g others q = absurd (omega (arith, q.number))
first_of_ring s figures atlas front (suc n) g others q =
    let e = q.words in
    let f = round_below figures.goals front q.front_inside in
    let first : get_or s (queue_region figures + front) 0 ≡ goal_word atlas g = cc in
    first

pub goal_within : (p c : ℕ) (g : Goal) → Within p c (as_term g.goal) → g.goal.number < c
unfolding Within as_term
goal_within p c g w = w.0

module _ (s : List ℕ) (names : List Bytes) (figures : Room) (queries : List Query) (atlas : Atlas) (state : State) (t : Standing)
    (h : HoldsState s names figures queries atlas state t) (g : Goal) (others : List Goal) (front : state.goals.queue ≡ g ∷ others) where
  pub front_word : get_or s (queue_region figures + t.front) 0 ≡ goal_word atlas g
  front_word = first_of_ring s figures atlas t.front t.active g others (rw front at h.queue)

  pub front_stands : GoalStands s figures atlas state.units g
  front_stands = (rw front at h.queue_held).0

  pub others_stand : AllStand s figures atlas state.units others
  others_stand = (rw front at h.queue_held).1

  pub front_number : g.goal.number < (unit_at g.query state.units).compounds
  front_number =
      goal_within (length (unit_at g.query state.units).values) (unit_at g.query state.units).compounds g front_stands.term.of.within

  pub front_place : compounds_region ≤ (atlas g.query).compound g.goal.number
  front_place = h.lies.compound_behind g.query g.goal.number front_stands.query front_number

  -- Its place is small enough for its word.
  pub front_low : InRange figures → (atlas g.query).compound g.goal.number < 1048576
  front_low range =
      omega (
        arith,
        h.lies.compound_below g.query g.goal.number front_stands.query front_number,
        h.lies.cells_fit,
        h.lies.compounds_fit,
        range.compounds,
      )

-- The ends of a query's own unit.
pub unit_ends : (s : List ℕ) (text : Bytes) (names : List Bytes) (j : Job) (figures : Room) (limit : ℕ) (atlas : Atlas) (slots : List Slot) (t : Standing)
    (stamp : ℕ) → Running s text names j figures limit atlas slots t stamp → (q : ℕ) → q < length (run j limit figures).state.units
    → EndsStand s (setting_at figures atlas (run j limit figures).state.units q) (values_region figures)
unit_ends s text names j figures limit atlas slots t stamp r q h =
    let state = (run j limit figures).state in
    record {
      inside = omega (arith, r.inside);
      ended = chains_end (unit_at q state.units).values (run_no_circle j limit figures q) figures.pairs
          (omega (
            arith,
            unit_in_sum (λ u. length u.values) state.units q h,
            charged_pairs_are_the_units j limit figures,
            r.state.lies.pairs_fit,
          ));
      kept = λ n b d.
          let low : (atlas q).pair n < figures.pairs = omega (arith, r.state.lies.pair_below q n h b, r.state.lies.pairs_fit) in
          let a = r.ends ((atlas q).pair n) low d in
          let same = r.state.lies.pair_apart a.query q a.pair n a.known h a.inside b a.place in
          rw (same.0, same.1) at a.end;
    }

pub trying : (s : List ℕ) (text : Bytes) (names : List Bytes) (j : Job) (figures : Room) (limit : ℕ) (atlas : Atlas) (slots : List Slot) (t : Standing)
    (stamp : ℕ) (g : Goal) (others : List Goal) → Running s text names j figures limit atlas slots t stamp
    → (run j limit figures).state.goals.queue ≡ g ∷ others
    → Trying s text names j limit figures (atlas g.query) g others (values_region figures) (marks_region figures) figures.pairs
    ((atlas g.query).compound g.goal.number)
trying s text names j figures limit atlas slots t stamp g others r front =
    let state = (run j limit figures).state in
    let h = r.state in
    let goal = front_stands s names figures j.queries atlas state t h g others front in
    let q = g.query in
    record {
      reads = r.reads;
      front = front;
      held = r.held;
      indexed = r.indexed;
      names_are = h.lies.names_are q;
      unit = h.units.unit q goal.query;
      goal_held = goal.term;
      goal_place = refl;
      apart = λ n m a b e. (h.lies.pair_apart q q n m goal.query goal.query a b e).1;
      compound_behind = λ n a. h.lies.compound_behind q n goal.query a;
      compound_before = λ n a. omega (arith, h.lies.compound_below q n goal.query a, cells_before h.lies);
      values_behind = omega arith;
      marks_behind = omega arith;
      inside = omega (arith, r.inside);
      enough = omega (
        arith,
        unit_in_sum (λ u. length u.values) state.units q goal.query,
        charged_pairs_are_the_units j limit figures,
        h.lies.pairs_fit,
      );
      links_are = refl;
      few_links = omega (arith, r.in_range.pairs);
      near = omega (arith, r.in_range.compounds);
      ends_behind = omega arith;
      ends = unit_ends s text names j figures limit atlas slots t stamp r q goal.query;
      grounds = grounds_of s names figures atlas state.units state.pairs state.compounds t.cells h.lies r.grounds q goal.query;
    }
