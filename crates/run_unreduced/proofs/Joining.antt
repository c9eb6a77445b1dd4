-- A goal that joins the waiting or the failed goals: its query has a try more, the queue passes on, and all else is as it was.
use Prim.Native.Nat.{ℕ, ◌+◌, ◌-◌, ◌*◌, ◌≤◌, ◌<◌}
use mathlib.Core.Path.{◌≡◌, refl, ap, sym, ◌∙◌}
use mathlib.Core.Logic.{◌≢◌}
use mathlib.Core.List.{List, [], ◌∷◌, ◌++◌, map}
use native.Mathlib.Omega.{arith}
use lib.ListN.{length, get_or, set, length-set, length-append}
use lib.Seq.{get_or-set_same, get_or-set_other}
use Rattle.meaning.specs.Bytes.{Bytes}
use Rattle.meaning.specs.Terms.{Query}
use Rattle.meaning.specs.State.{Room, QueryUnit, Goal, Waiting, State, unit_at, number_of}
use Rattle.meaning.specs.Trial.{joins_waiting, joins_failed}
use Rattle.meaning.specs.Step.{unit_after, goals_after, pairs_charged, compounds_charged, without_front, step}
use Rattle.term.specs.Jobs.{EachFrom, JobKept}
use Rattle.term.specs.Layout.{waiters_region, marks_region, queue_region, waiting_region, failed_region, need_of, queries_region, items_region, query_record, query_tries_word, query_stride, tries_at}
use Rattle.term.specs.States.{Atlas, goal_word, ring, listed, logged, Lies, UnitsStand, FirstPair, GoalStands, AllStand, QueueStands, HoldsState}
use Rattle.term.specs.declared.state.Standing.{Standing}
use Rattle.run_queues.specs.Ring.{Passed}
use Rattle.run_between.specs.Running.{RunOnly, AllEnds}
use Rattle.run_between.proofs.Ends.{ends_alike}
use Rattle.run_between.proofs.Frames.{cells_before, UnitsKept, units_set, units_tried, goals_kept, lies_kept, first_pairs_kept, failed_kept, waiting_kept}
use Rattle.run_between.proofs.FramesRunning.{queue_fits, front_stands, others_stand}
use Rattle.run_between.proofs.Logged.{map_both}
use Rattle.run_queues.proofs.Ring.{ring_kept}

-- What stays: all but the query's tries, the pairs' waiters and sets, the waiting and the failed goals.
pub record JoinKept (figures : Room) (q : ℕ) (s s' : List ℕ) : Type 0 where
  pub size : length s' ≡ length s
  pub before : (k : ℕ) → k < queries_region → get_or s' k 0 ≡ get_or s k 0
  pub records : (p i : ℕ) → p < 8 → i < query_stride → i ≢ tries_at → get_or s' (query_record p + i) 0 ≡ get_or s (query_record p + i) 0
  pub tries : (p : ℕ) → p < 8 → (p ≡ q → ⊥) → get_or s' (query_tries_word p) 0 ≡ get_or s (query_tries_word p) 0
  pub tried : get_or s' (query_tries_word q) 0 ≡ get_or s (query_tries_word q) 0 + 1
  pub words : (k : ℕ) → items_region ≤ k → k < waiters_region figures → get_or s' k 0 ≡ get_or s k 0
  pub ring_words : (k : ℕ) → marks_region figures ≤ k → k < waiting_region figures → get_or s' k 0 ≡ get_or s k 0
  pub behind : (k : ℕ) → need_of figures ≤ k → get_or s' k 0 ≡ get_or s k 0

-- Words of the log or of the failed goals changed, and then the try was counted.
pub counted : (figures : Room) (q : ℕ) (s s₁ s' : List ℕ) → q < 8 → items_region ≤ length s → length s₁ ≡ length s
    → ((k : ℕ) → k < waiters_region figures → get_or s₁ k 0 ≡ get_or s k 0)
    → ((k : ℕ) → marks_region figures ≤ k → k < waiting_region figures → get_or s₁ k 0 ≡ get_or s k 0)
    → ((k : ℕ) → need_of figures ≤ k → get_or s₁ k 0 ≡ get_or s k 0)
    → s' ≡ set s₁ (query_tries_word q) (get_or s₁ (query_tries_word q) 0 + 1)
    → JoinKept figures q s s'
counted figures q s s₁ s' few inside size low middle high e =
    let at = query_tries_word q in
    let v = get_or s₁ at 0 + 1 in
    let other : (k : ℕ) → k ≢ at → get_or s' k 0 ≡ get_or s₁ k 0 = λ k d. rw e (get_or-set_other s₁ at k v 0 d) in
    record {
      size = rw e (length-set s₁ at v) ∙ size;
      before = λ k h. other k (λ f. omega arith) ∙ low k (omega arith);
      records = λ p i h m x. other (query_record p + i) (λ f. x (omega arith)) ∙ low (query_record p + i) (omega arith);
      tries = λ p h d. other (query_tries_word p) (λ f. d (omega arith)) ∙ low (query_tries_word p) (omega arith);
      tried = rw e (get_or-set_same s₁ at v 0 (omega arith)) ∙ ap (λ n. n + 1) (low at (omega arith));
      words = λ k a b. other k (λ f. omega arith) ∙ low k b;
      ring_words = λ k a b. other k (λ f. omega arith) ∙ middle k a b;
      behind = λ k a. other k (λ f. omega arith) ∙ high k a;
    }

module _ (figures : Room) (q : ℕ) (s s' : List ℕ) (kept : JoinKept figures q s s') where
  pub join_run_only : RunOnly figures s s'
  join_run_only = record {
    size = kept.size;
    before = kept.before;
    records = kept.records;
    items = λ k a b. kept.words k a (omega arith);
    behind = kept.behind;
  }

  pub join_job_kept : JobKept s s'
  join_job_kept = record {
    size = omega (arith, kept.size);
    before = kept.before;
    records = λ p i h m x y. kept.records p i h m y;
    items = λ k a b. kept.words k a (omega arith);
  }

all_stand_more : (s : List ℕ) (figures : Room) (atlas : Atlas) (units : List QueryUnit) (gs : List Goal) (g : Goal)
    → AllStand s figures atlas units gs → GoalStands s figures atlas units g → AllStand s figures atlas units (gs ++ (g ∷ []))
all_stand_more s figures atlas units [] g h k = (k, tt)
all_stand_more s figures atlas units (f ∷ gs) g h k = (h.0, all_stand_more s figures atlas units gs g h.1 k)

rest_of : {l x y : List ℕ} {a b : ℕ} → l ≡ a ∷ x → l ≡ b ∷ y → x ≡ y
rest_of e f = cc

-- What the code says of the next state.
abbrev pub failed_standing : Standing → ℕ → Standing
failed_standing t front = record {
  pairs = t.pairs;
  compounds = t.compounds;
  cells = t.cells;
  front = front;
  active = t.active - 1;
  log = t.log;
  waiting = t.waiting;
  failed = t.failed + 1;
  steps = t.steps + 1;
}

abbrev pub waiting_standing : Standing → ℕ → ℕ → Standing
waiting_standing t front place = record {
  pairs = t.pairs;
  compounds = t.compounds;
  cells = t.cells;
  front = front;
  active = t.active - 1;
  log = place + 1;
  waiting = t.waiting + 1;
  failed = t.failed;
  steps = t.steps + 1;
}

module _ (s : List ℕ) (names : List Bytes) (figures : Room) (queries : List Query) (atlas : Atlas) (state : State) (t : Standing)
    (h : HoldsState s names figures queries atlas state t) (g : Goal) (others : List Goal) (front : state.goals.queue ≡ g ∷ others) where
  -- There is a goal in front, and so place for one more among the others.
  pub active_some : t.active ≡ length others + 1
  active_some = h.queue.number ∙ ap length front ∙ (omega arith)

  pub others_fit : length others + 1 + length state.goals.waiting + length state.goals.failed ≤ figures.goals
  others_fit = omega (arith, queue_fits state.goals figures.goals h.fits, ap length front)

-- What both kinds have in common, of a state that is held.
module _ (s s' : List ℕ) (names : List Bytes) (figures : Room) (queries : List Query) (atlas : Atlas) (state : State) (t : Standing)
    (h : HoldsState s names figures queries atlas state t) (few : length queries ≤ 8) (few_units : length state.units ≤ 8)
    (g : Goal) (others : List Goal) (front : state.goals.queue ≡ g ∷ others) (kept : JoinKept figures g.query s s') where
  its_query : g.query < length state.units
  its_query = (front_stands s names figures queries atlas state t h g others front).query

  own : UnitsKept figures t.cells s s'
  own = record {
    size = kept.size;
    cells = λ k a b. kept.words k (omega arith) (omega (arith, cells_before h.lies));
    values = λ k a b. kept.words k (omega arith) b;
  }

  module _ (u : QueryUnit) (v : u.values ≡ (unit_at g.query state.units).values)
      (c : u.compounds ≡ (unit_at g.query state.units).compounds) where
    pub lies_next : Lies names figures atlas (set state.units g.query u) (state.pairs + 0) (state.compounds + 0) t.cells
    lies_next =
        let p : state.pairs + 0 ≡ state.pairs = omega arith in
        let d : state.compounds + 0 ≡ state.compounds = omega arith in
        rw (p, d) (lies_kept s s' names figures atlas state.units (set state.units g.query u) state.pairs state.compounds t.cells h.lies own
        (units_set state.units g.query u its_query v c))

    pub units_next : u.tries ≡ (unit_at g.query state.units).tries + 1 → UnitsStand s' figures atlas (set state.units g.query u)
    units_next e =
        units_tried s s' names figures atlas state.units state.pairs state.compounds t.cells h.lies own g.query u its_query v c e
        (λ k l d. kept.tries k (omega arith) d) kept.tried h.units

    pub goals_next : (gs : List Goal) → AllStand s figures atlas state.units gs → AllStand s' figures atlas (set state.units g.query u) gs
    goals_next =
        goals_kept s s' names figures atlas state.units (set state.units g.query u) state.pairs state.compounds t.cells h.lies own
        (units_set state.units g.query u its_query v c)

    ends_next : AllEnds s figures atlas state.units → AllEnds s' figures atlas (set state.units g.query u)
    ends_next =
        ends_alike s s' names figures atlas state.units (set state.units g.query u) state.pairs state.compounds t.cells h.lies own
        (units_set state.units g.query u its_query v c) (λ k a b. kept.ring_words k (omega arith) (omega arith))

  pub ends_failed : AllEnds s figures atlas state.units → AllEnds s' figures atlas (step joins_failed g others state).units
  unfolding step unit_after
  ends_failed = ends_next (unit_after joins_failed (unit_at g.query state.units)) refl refl

  pub ends_waiting : (readers : List ℕ) → AllEnds s figures atlas state.units
      → AllEnds s' figures atlas (step (joins_waiting readers) g others state).units
  unfolding step unit_after
  ends_waiting readers = ends_next (unit_after (joins_waiting readers) (unit_at g.query state.units)) refl refl

  pub first_pairs_next : EachFrom (FirstPair s' atlas) 0 queries
  first_pairs_next = first_pairs_kept s s' atlas queries few (λ k l. kept.records k 3 l (omega arith) (λ e. omega arith)) h.first_pairs

  pub queue_next : (front' : ℕ) → Passed figures.goals t.front front' → QueueStands s' figures atlas front' (t.active - 1) others
  queue_next front' passed =
      let n = length others in
      let e : t.active - 1 ≡ n = omega (arith, (active_some s names figures queries atlas state t h g others front)) in
      let less : n < figures.goals = omega (arith, (others_fit s names figures queries atlas state t h g others front)) in
      let all : ring s (queue_region figures) figures.goals t.front (n + 1) ≡ map (goal_word atlas) (g ∷ others) =
      rw (active_some s names figures queries atlas state t h g others front, front) at h.queue.words
      in
      record {
        front_inside = passed.front_inside;
        number = e;
        words = rw e (
            ring_kept (queue_region figures) figures.goals s s' front' n (omega (arith, passed.front_inside))
            (λ k a b. kept.ring_words k (omega arith) (omega arith))
            ∙ rest_of (passed.items s (queue_region figures) n less) all
            );
      }

  -- The goal has failed.
  pub held_failed : (front' : ℕ) → Passed figures.goals t.front front'
      → listed s' (failed_region figures) (t.failed + 1) ≡ listed s (failed_region figures) t.failed ++ (goal_word atlas g ∷ [])
      → ((k : ℕ) → waiting_region figures ≤ k → k < failed_region figures → get_or s' k 0 ≡ get_or s k 0)
      → HoldsState s' names figures queries atlas (step joins_failed g others state) (failed_standing t front')
  unfolding step unit_after goals_after pairs_charged compounds_charged without_front number_of
  held_failed front' passed words log =
      let unit = unit_at g.query state.units in
      let u = unit_after joins_failed unit in
      let goals = state.goals in
      record {
        pairs = omega (arith, h.pairs);
        compounds = omega (arith, h.compounds);
        steps = omega (arith, h.steps);
        fits = omega (arith, (others_fit s names figures queries atlas state t h g others front), length-append goals.failed (g ∷ []));
        lies = lies_next u refl refl;
        units = units_next u refl refl refl;
        first_pairs = first_pairs_next;
        queue_held = goals_next u refl refl others (others_stand s names figures queries atlas state t h g others front);
        waiting_held = goals_next u refl refl (map (λ w. w.goal) goals.waiting) h.waiting_held;
        failed_held = goals_next u refl refl (goals.failed ++ (g ∷ []))
            (all_stand_more s figures atlas state.units goals.failed g h.failed_held
            (front_stands s names figures queries atlas state t h g others front));
        queue = queue_next front' passed;
        waiting = waiting_kept s s' figures atlas t.log t.waiting goals.waiting
            (λ k a b. log k a (omega (arith, h.waiting.fits))) h.waiting;
        failed = record {
          number = omega (arith, h.failed.number, length-append goals.failed (g ∷ []));
          words = words ∙ ap (λ l. l ++ (goal_word atlas g ∷ [])) h.failed.words ∙ sym (map_both (goal_word atlas) goals.failed (g ∷ []));
        };
      }

  -- The goal waits.
  pub held_waiting : (front' place : ℕ) (readers : List ℕ) → Passed figures.goals t.front front'
      → logged s' (waiting_region figures) (place + 1)
      ≡ map (λ w. goal_word atlas w.goal) (state.goals.waiting ++ (record { goal = g; readers = readers } ∷ []))
      → place < 2 * figures.goals
      → ((k : ℕ) → failed_region figures ≤ k → k < need_of figures → get_or s' k 0 ≡ get_or s k 0)
      → HoldsState s' names figures queries atlas (step (joins_waiting readers) g others state) (waiting_standing t front' place)
  unfolding step unit_after goals_after pairs_charged compounds_charged without_front number_of
  held_waiting front' place readers passed words space failed =
      let unit = unit_at g.query state.units in
      let u = unit_after (joins_waiting readers) unit in
      let goals = state.goals in
      let w : Waiting = record { goal = g; readers = readers } in
      record {
        pairs = omega (arith, h.pairs);
        compounds = omega (arith, h.compounds);
        steps = omega (arith, h.steps);
        fits = omega (arith, (others_fit s names figures queries atlas state t h g others front), length-append goals.waiting (w ∷ []));
        lies = lies_next u refl refl;
        units = units_next u refl refl refl;
        first_pairs = first_pairs_next;
        queue_held = goals_next u refl refl others (others_stand s names figures queries atlas state t h g others front);
        waiting_held = rw (map_both {A = Waiting} (λ w. w.goal) goals.waiting (w ∷ []))
            (goals_next u refl refl (map (λ w. w.goal) goals.waiting ++ (g ∷ []))
            (all_stand_more s figures atlas state.units (map (λ w. w.goal) goals.waiting) g h.waiting_held
            (front_stands s names figures queries atlas state t h g others front)));
        failed_held = goals_next u refl refl goals.failed h.failed_held;
        queue = queue_next front' passed;
        waiting = record {
          fits = omega arith;
          number = omega (arith, h.waiting.number, length-append goals.waiting (w ∷ []));
          words = words;
        };
        failed = failed_kept s s' figures atlas t.failed goals.failed
            (λ k a b. failed k a (omega (arith, h.failed.number, (others_fit s names figures queries atlas state t h g others front)))) h.failed;
      }
