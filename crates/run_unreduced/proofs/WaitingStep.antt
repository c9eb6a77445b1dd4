-- The step when the goal in front waits: what the code asks, and the run's next state.
use Prim.Native.Nat.{ℕ, ◌+◌, ◌*◌, ◌≤◌, ◌<◌}
use mathlib.Core.Path.{◌≡◌, refl, ap, ap₂, sym, ◌∙◌}
use mathlib.Core.Bool.{true}
use mathlib.Core.List.{List, [], ◌∷◌, ◌++◌, map}
use native.Mathlib.Omega.{arith}
use lib.ListN.{length, get_or, set, length-append, length-map}
use lib.Seq.{get_or-set_other}
use Rattle.meaning.specs.Bytes.{Bytes}
use Rattle.meaning.specs.Terms.{Job}
use Rattle.meaning.specs.State.{Room, Goal, Waiting, unit_at}
use Rattle.meaning.specs.Trial.{joins_waiting}
use Rattle.meaning.specs.Step.{unit_after, goals_after, without_front, step}
use Rattle.meaning.specs.Run.{fits, choice_for, run}
use Rattle.term.specs.Layout.{waiters_region, sets_region, marks_region, waiting_region, failed_region, readers_region, items_region, query_tries_word}
use Rattle.term.specs.States.{Atlas, goal_word, listed, logged}
use Rattle.term.specs.declared.state.Standing.{Standing}
use Rattle.term.proofs.Jobs.{holds_job_kept}
use Rattle.run_index.proofs.Kept.{indexed_kept}
use Rattle.run_readers.specs.Readers.{all_met}
use Rattle.run_queues.specs.Log.{Slot, waits, gathered, present, Waits, LogNow}
use Rattle.run_queues.specs.Ring.{Passed}
use Rattle.run_between.specs.Running.{slot_of, Running, StepIs}
use Rattle.run_between.specs.Taking.{LogHere, FreePlace, Taken, JoiningWaiting}
use Rattle.std.specs.Prelude.{Some}
use Rattle.run_unreduced.proofs.Failing.{front_query, query_below, tries_small, goals_fit, marks_after, grounds_after}
use Rattle.run_between.proofs.FramesRunning.{few_units, front_place}
use Rattle.run_unreduced.proofs.Gathering.{gathered_each_once}
use Rattle.run_unreduced.proofs.Joining.{JoinKept, counted, join_run_only, join_job_kept, waiting_standing, held_waiting, ends_waiting}
use Rattle.run_queues.proofs.Listed.{listed_kept}
use Rattle.run_between.proofs.Logged.{map_both, waiting_logged}
use Rattle.run_between.proofs.Next.{run_next}
use Rattle.run_queues.proofs.Presents.{present_more}
use Rattle.run_unreduced.proofs.Unclaimed.{Apart, readers_own, none_other, all_stand_in, reader_small, reader_unclaimed}
use Rattle.run_queues.proofs.Waking.{log_kept}

module _ (s s₁ : List ℕ) (text : Bytes) (names : List Bytes) (j : Job) (figures : Room) (limit : ℕ) (atlas : Atlas) (slots : List Slot)
    (g : Goal) (others : List Goal) (t : Standing) (goal query n : ℕ) (readers : List ℕ) (place : ℕ)
    (k : Taken s text names j figures limit atlas slots g others t) (joins : JoiningWaiting s j figures limit atlas g goal query n readers)
    (free : FreePlace s s₁ figures slots place) where
  its_fits : fits figures (choice_for j.clauses (run j limit figures).state g) (run j limit figures).state
      (without_front others (run j limit figures).state.goals) ≡ true
  unfolding fits
  its_fits = ap (λ c. fits figures c (run j limit figures).state (without_front others (run j limit figures).state.goals)) joins.chosen

  its_next : (run j (limit + 1) figures).state ≡ step (joins_waiting readers) g others (run j limit figures).state
  its_next =
      run_next j limit figures g others k.front its_fits
      ∙ ap (λ c. step c g others (run j limit figures).state) joins.chosen

  apart : Apart (run j limit figures).state.units g readers (run j limit figures).state.goals.waiting
  apart = record {
    own_query = front_query s text names j figures limit atlas slots g others t k;
    own_readers = joins.inside;
    their_query = λ w m.
        (all_stand_in s figures atlas (run j limit figures).state.units (run j limit figures).state.goals.waiting w k.running.state.waiting_held m).query;
    their_readers = λ w m p i. readers_own text j k.running.reads limit figures w m p i;
    different = λ w m e p a b. none_other text j k.running.reads limit figures g others readers its_next w m e p a b;
  }

  words : listed s₁ (readers_region figures) n ≡ all_met [] (map (λ p. (atlas g.query).pair p) readers)
  words =
      listed_kept s s₁ (readers_region figures) n (λ x a b. free.only.between x (omega arith) (omega (arith, joins.few)))
      ∙ joins.listed_are

  goals_are : present free.slots_now (length free.slots_now) ≡ map (slot_of atlas) (run j limit figures).state.goals.waiting
  goals_are = free.goals ∙ k.running.waiting

  pub place_inside : place < 2 * figures.goals
  place_inside =
      free.free (omega (
        arith,
        ap length k.running.waiting,
        length-map (run j limit figures).state.goals.waiting (slot_of atlas),
        k.running.state.waiting.number,
        goals_fit s text names j figures limit atlas slots g others t k,
      ))

  pub wait_asks : Waits s₁ (waiting_region figures) (waiters_region figures) (sets_region figures) figures.pairs free.slots_now place goal
      (readers_region figures) n
  wait_asks =
      let state = (run j limit figures).state in
      record {
        ok = free.ok;
        last = free.number;
        some = omega (
          arith,
          joins.goal_is,
          front_place s names figures j.queries atlas state t k.running.state g others k.front,
        );
        space = omega (arith, place_inside, k.running.inside, free.only.size);
        behind_sets = omega arith;
        before_log = omega (arith, joins.few);
        small = reader_small names figures atlas state.units state.pairs state.compounds t.cells k.running.state.lies g readers
            state.goals.waiting apart s₁ n words;
        unclaimed = reader_unclaimed names figures atlas state.units state.pairs state.compounds t.cells k.running.state.lies g readers
            state.goals.waiting apart s₁ n words free.slots_now goals_are;
      }

  module _ (s₂ : List ℕ) (waited : LogNow s₁ s₂ (waiting_region figures) (waiters_region figures) (sets_region figures) figures.pairs (place + 1)
      (free.slots_now ++ (waits goal (gathered [] (listed s₁ (readers_region figures) n)) ∷ []))) where
    low : (x : ℕ) → x < waiters_region figures → get_or s₂ x 0 ≡ get_or s x 0
    low x a = waited.only.below x a ∙ free.only.below x a

    middle : (x : ℕ) → marks_region figures ≤ x → x < waiting_region figures → get_or s₂ x 0 ≡ get_or s x 0
    middle x a b = waited.only.between x (omega arith) b ∙ free.only.between x (omega arith) b

    high : (x : ℕ) → failed_region figures ≤ x → get_or s₂ x 0 ≡ get_or s x 0
    high x a =
        waited.only.behind x (omega (arith, place_inside))
        ∙ free.only.behind x (omega (arith, k.running.log_number, k.running.state.waiting.fits))

    pub waits_tries : (query < 8) × (items_region ≤ length s₂) × (get_or s₂ (query_tries_word query) 0 ≤ 1000000)
    waits_tries =
        let few = query_below s text names j figures limit atlas slots g others t k in (
          omega (arith, joins.query_is),
          omega (arith, waited.only.size, free.only.size, k.running.held.inside),
          rw (low (query_tries_word query) (omega (arith, joins.query_is)))
              (rw joins.query_is (tries_small s text names j figures limit atlas slots g others t k)),
        )

    newest : waits goal (gathered [] (listed s₁ (readers_region figures) n)) ≡ slot_of atlas (record { goal = g; readers = readers })
    newest =
        ap₂ waits joins.goal_is
        (ap (gathered []) words ∙ gathered_each_once (map (λ p. (atlas g.query).pair p) readers))

    abbrev slots_next : List Slot
    slots_next = free.slots_now ++ (slot_of atlas (record { goal = g; readers = readers }) ∷ [])

    slots_ok : LogHere s₂ figures slots_next
    slots_ok = rw newest at waited.ok

    more_slots : length slots_next ≡ place + 1
    more_slots =
        omega (arith, free.number, length-append free.slots_now (slot_of atlas (record { goal = g; readers = readers }) ∷ []))

    slots_waiting : present slots_next (length slots_next)
        ≡ map (slot_of atlas) ((run j limit figures).state.goals.waiting ++ (record { goal = g; readers = readers } ∷ []))
    slots_waiting =
        let w : Waiting = record { goal = g; readers = readers } in
        present_more free.slots_now (goal_word atlas g) (gathered [] (map (λ p. (atlas g.query).pair p) readers))
        ∙ ap (λ l. l ++ (slot_of atlas w ∷ [])) goals_are
        ∙ sym (map_both (slot_of atlas) (run j limit figures).state.goals.waiting (w ∷ []))

    module _ (s' : List ℕ) (front' : ℕ) (now : s' ≡ set s₂ (query_tries_word query) (get_or s₂ (query_tries_word query) 0 + 1))
        (passed : Passed figures.goals t.front front') where
      kept : JoinKept figures g.query s s'
      kept =
          counted figures g.query s s₂ s' (query_below s text names j figures limit atlas slots g others t k) (omega (arith, k.running.held.inside))
          (waited.only.size ∙ free.only.size) low middle (λ x a. high x (omega arith)) (rw joins.query_is at now)

      last_words : (x : ℕ) → items_region ≤ x → get_or s' x 0 ≡ get_or s₂ x 0
      last_words x a =
          let few = query_below s text names j figures limit atlas slots g others t k in
          rw now (get_or-set_other s₂ (query_tries_word query) x (get_or s₂ (query_tries_word query) 0 + 1) 0 (λ e. omega (arith, joins.query_is)))

      log_next : LogHere s' figures slots_next
      log_next =
          log_kept s₂ s' (waiting_region figures) (waiters_region figures) (sets_region figures) figures.pairs slots_next slots_ok
          (kept.size ∙ sym (waited.only.size ∙ free.only.size))
          (λ x a b. last_words x (omega arith)) (λ x a b. last_words x (omega arith))

      logged_next : logged s' (waiting_region figures) (place + 1)
          ≡ map (λ w. goal_word atlas w.goal) ((run j limit figures).state.goals.waiting ++ (record { goal = g; readers = readers } ∷ []))
      logged_next =
          rw more_slots at
          (waiting_logged s' (waiting_region figures) (waiters_region figures) (sets_region figures) figures.pairs slots_next atlas
          ((run j limit figures).state.goals.waiting ++ (record { goal = g; readers = readers } ∷ [])) log_next slots_waiting)

      its_running : Running s' text names j figures (limit + 1) atlas slots_next (waiting_standing t front' place) ((t.steps + 1) * 32768 + 2)
      unfolding step unit_after goals_after without_front
      its_running =
          let r = k.running in
          let state = (run j limit figures).state in
          record {
            in_range = r.in_range;
            inside = omega (arith, r.inside, kept.size);
            reads = r.reads;
            fit = r.fit;
            few_steps = omega (arith, k.more);
            held = holds_job_kept s s' names (join_job_kept figures g.query s s' kept) j r.held;
            indexed = indexed_kept s s' names j r.held (holds_job_kept s s' names (join_job_kept figures g.query s s' kept) j r.held) kept.before 0 r.indexed;
            state = rw its_next
                (held_waiting s s' names figures j.queries atlas state t r.state r.held.few_queries
                (few_units s text names j figures limit atlas slots t (t.steps * 32768 + 32770) r) g others k.front kept front' place readers passed
                logged_next place_inside (λ x a b. last_words x (omega arith) ∙ high x a));
            log = log_next;
            log_number = sym more_slots;
            waiting = rw its_next slots_waiting;
            marks = marks_after s text names j figures limit atlas slots g others t k g.query s' kept;
            ends = rw its_next
                (ends_waiting s s' names figures j.queries atlas state t r.state r.held.few_queries
                (few_units s text names j figures limit atlas slots t (t.steps * 32768 + 32770) r) g others k.front kept readers r.ends);
            grounds = rw its_next
                (grounds_after s text names j figures limit atlas slots g others t k g.query s' kept
                (unit_after (joins_waiting readers) (unit_at g.query state.units)) refl refl);
          }

      pub step_waiting : StepIs s s' text names j figures limit atlas g others t (Some (waiting_standing t front' place))
      step_waiting = record {
        only = join_run_only figures g.query s s' kept;
        told = (its_fits, atlas, slots_next, refl, its_running);
      }
