-- The step when the goal in front fails: what the code asks, and the run's next state.
use Prim.Native.Nat.{ℕ, ◌+◌, ◌*◌, ◌≤◌, ◌<◌}
use mathlib.Core.Path.{◌≡◌, refl, ap, ◌∙◌}
use mathlib.Core.Bool.{true}
use mathlib.Core.List.{List, [], ◌∷◌, ◌++◌}
use native.Mathlib.Omega.{arith}
use lib.ListN.{length, get_or, set}
use lib.Seq.{get_or-set_other}
use Rattle.meaning.specs.Bytes.{Bytes}
use Rattle.meaning.specs.Terms.{Job}
use Rattle.meaning.specs.State.{Room, QueryUnit, Goal, unit_at}
use Rattle.meaning.specs.Trial.{joins_failed}
use Rattle.meaning.specs.Step.{unit_after, goals_after, without_front, step}
use Rattle.meaning.specs.Run.{fits, choice_for, run}
use Rattle.term.specs.Layout.{waiters_region, sets_region, marks_region, waiting_region, failed_region, items_region, query_tries_word}
use Rattle.term.specs.States.{Atlas, goal_word, listed}
use Rattle.term.specs.declared.state.Standing.{Standing}
use Rattle.term.proofs.Jobs.{holds_job_kept}
use Rattle.run_index.proofs.Kept.{indexed_kept}
use Rattle.run_trial.specs.Choosing.{MarksBelow}
use Rattle.run_queues.specs.Log.{Slot, Failed}
use Rattle.run_queues.specs.Ring.{Passed}
use Rattle.run_between.specs.Running.{GroundMarks, Running, StepIs}
use Rattle.run_between.specs.Taking.{Taken, JoiningFailed}
use Rattle.std.specs.Prelude.{Some}
use Rattle.run_between.proofs.Frames.{units_set}
use Rattle.run_between.proofs.GroundMarks.{grounds_alike}
use Rattle.run_between.proofs.FramesRunning.{few_units, tries_below, front_stands}
use Rattle.run_unreduced.proofs.Joining.{JoinKept, counted, join_run_only, join_job_kept, active_some, others_fit, failed_standing, held_failed, ends_failed}
use Rattle.run_queues.proofs.Listed.{listed_kept}
use Rattle.run_between.proofs.Next.{run_next}
use Rattle.run_queues.proofs.Waking.{log_kept}

-- What both kinds of joining ask of the goal in front.
module _ (s : List ℕ) (text : Bytes) (names : List Bytes) (j : Job) (figures : Room) (limit : ℕ) (atlas : Atlas) (slots : List Slot)
    (g : Goal) (others : List Goal) (t : Standing) (k : Taken s text names j figures limit atlas slots g others t) where
  pub front_query : g.query < length (run j limit figures).state.units
  front_query = (front_stands s names figures j.queries atlas (run j limit figures).state t k.running.state g others k.front).query

  pub query_below : g.query < 8
  query_below =
      omega (arith, front_query, few_units s text names j figures limit atlas slots t (t.steps * 32768 + 32770) k.running)

  pub tries_small : get_or s (query_tries_word g.query) 0 ≤ 1000000
  tries_small =
      omega (
        arith,
        tries_below s text names j figures limit atlas slots t (t.steps * 32768 + 32770) k.running g.query front_query,
        k.running.few_steps,
      )

  pub some_active : t.active ≡ length others + 1
  some_active = active_some s names figures j.queries atlas (run j limit figures).state t k.running.state g others k.front

  pub goals_fit : length others + 1 + t.waiting + t.failed ≤ figures.goals
  goals_fit =
      omega (
        arith,
        others_fit s names figures j.queries atlas (run j limit figures).state t k.running.state g others k.front,
        k.running.state.waiting.number,
        k.running.state.failed.number,
      )

  pub failed_space : failed_region figures + t.failed < length s
  failed_space = omega (arith, goals_fit, k.running.inside)

  pub marks_after : (q : ℕ) (s' : List ℕ) → JoinKept figures q s s' → MarksBelow s' (marks_region figures) figures.pairs ((t.steps + 1) * 32768 + 2)
  marks_after q s' kept x a b = rw (kept.ring_words x a (omega arith)) (omega (arith, k.running.marks x a b))

  pub grounds_after : (q : ℕ) (s' : List ℕ) → JoinKept figures q s s' → (u : QueryUnit)
      → u.values ≡ (unit_at g.query (run j limit figures).state.units).values
      → u.compounds ≡ (unit_at g.query (run j limit figures).state.units).compounds
      → GroundMarks s' figures atlas (set (run j limit figures).state.units g.query u)
  grounds_after q s' kept u v c =
      grounds_alike s s' figures atlas (run j limit figures).state.units (set (run j limit figures).state.units g.query u)
      (λ x a b. kept.ring_words x a (omega arith)) (units_set (run j limit figures).state.units g.query u front_query v c) k.running.grounds

-- The try can be counted.
pub fails_tries : (s s₁ : List ℕ) (text : Bytes) (names : List Bytes) (j : Job) (figures : Room) (limit : ℕ) (atlas : Atlas) (slots : List Slot)
    (g : Goal) (others : List Goal) (t : Standing) (goal query : ℕ) → Taken s text names j figures limit atlas slots g others t
    → JoiningFailed j figures limit atlas g goal query → Failed s s₁ (failed_region figures) t.failed goal
    → (query < 8) × (items_region ≤ length s₁) × (get_or s₁ (query_tries_word query) 0 ≤ 1000000)
fails_tries s s₁ text names j figures limit atlas slots g others t goal query k joins failed =
    let few = query_below s text names j figures limit atlas slots g others t k in (
      omega (arith, joins.query_is),
      omega (arith, failed.only.size, k.running.held.inside),
      rw (failed.only.below (query_tries_word query) (omega (arith, joins.query_is)))
          (rw joins.query_is (tries_small s text names j figures limit atlas slots g others t k)),
    )

-- The goal fails.
module _ (s s₁ s' : List ℕ) (text : Bytes) (names : List Bytes) (j : Job) (figures : Room) (limit : ℕ) (atlas : Atlas) (slots : List Slot)
    (g : Goal) (others : List Goal) (t : Standing) (goal query front' : ℕ) (k : Taken s text names j figures limit atlas slots g others t)
    (joins : JoiningFailed j figures limit atlas g goal query) (failed : Failed s s₁ (failed_region figures) t.failed goal)
    (now : s' ≡ set s₁ (query_tries_word query) (get_or s₁ (query_tries_word query) 0 + 1)) (passed : Passed figures.goals t.front front') where
  its_fits : fits figures (choice_for j.clauses (run j limit figures).state g) (run j limit figures).state
      (without_front others (run j limit figures).state.goals) ≡ true
  unfolding fits
  its_fits = ap (λ c. fits figures c (run j limit figures).state (without_front others (run j limit figures).state.goals)) joins.chosen

  its_next : (run j (limit + 1) figures).state ≡ step joins_failed g others (run j limit figures).state
  its_next =
      run_next j limit figures g others k.front its_fits
      ∙ ap (λ c. step c g others (run j limit figures).state) joins.chosen

  its_kept : JoinKept figures g.query s s'
  its_kept =
      let space = failed_space s text names j figures limit atlas slots g others t k in
      let fit = goals_fit s text names j figures limit atlas slots g others t k in
      counted figures g.query s s₁ s' (query_below s text names j figures limit atlas slots g others t k) (omega (arith, k.running.held.inside))
      failed.only.size
      (λ x a. failed.only.below x (omega arith))
      (λ x a b. failed.only.below x (omega arith))
      (λ x a. failed.only.above x (omega arith))
      (rw joins.query_is at now)

  other_words : (x : ℕ) → items_region ≤ x → x < failed_region figures + t.failed + 1 → (x ≡ failed_region figures + t.failed → ⊥) → get_or s' x 0 ≡ get_or s x 0
  other_words x a b d =
      let few = query_below s text names j figures limit atlas slots g others t k in
      rw now (get_or-set_other s₁ (query_tries_word query) x (get_or s₁ (query_tries_word query) 0 + 1) 0 (λ e. omega (arith, joins.query_is)))
      ∙ failed.only.below x (omega arith)

  failed_words : listed s' (failed_region figures) (t.failed + 1) ≡ listed s (failed_region figures) t.failed ++ (goal_word atlas g ∷ [])
  failed_words =
      let few = query_below s text names j figures limit atlas slots g others t k in
      listed_kept s₁ s' (failed_region figures) (t.failed + 1)
      (λ x a b. rw now (get_or-set_other s₁ (query_tries_word query) x (get_or s₁ (query_tries_word query) 0 + 1) 0 (λ e. omega (arith, joins.query_is))))
      ∙ failed.items
      ∙ ap (λ w. listed s (failed_region figures) t.failed ++ (w ∷ [])) joins.goal_is

  its_running : Running s' text names j figures (limit + 1) atlas slots (failed_standing t front') ((t.steps + 1) * 32768 + 2)
  unfolding step unit_after goals_after without_front
  its_running =
      let r = k.running in
      let state = (run j limit figures).state in
      let kept = its_kept in
      let fit = goals_fit s text names j figures limit atlas slots g others t k in
      record {
        in_range = r.in_range;
        inside = omega (arith, r.inside, kept.size);
        reads = r.reads;
        fit = r.fit;
        few_steps = omega (arith, k.more);
        held = holds_job_kept s s' names (join_job_kept figures g.query s s' kept) j r.held;
        indexed = indexed_kept s s' names j r.held (holds_job_kept s s' names (join_job_kept figures g.query s s' kept) j r.held) kept.before 0 r.indexed;
        state = rw its_next
            (held_failed s s' names figures j.queries atlas state t r.state r.held.few_queries
            (few_units s text names j figures limit atlas slots t (t.steps * 32768 + 32770) r) g others k.front kept front' passed failed_words
            (λ x a b. other_words x (omega arith) (omega arith) (λ e. omega arith)));
        log = log_kept s s' (waiting_region figures) (waiters_region figures) (sets_region figures) figures.pairs slots r.log kept.size
            (λ x a b. other_words x (omega arith) (omega arith) (λ e. omega arith))
            (λ x a b.
            let less : x < failed_region figures = omega (arith, r.log_number, r.state.waiting.fits) in
            other_words x (omega arith) (omega arith) (λ e. omega arith));
        log_number = r.log_number;
        waiting = rw its_next r.waiting;
        marks = marks_after s text names j figures limit atlas slots g others t k g.query s' kept;
        ends = rw its_next
            (ends_failed s s' names figures j.queries atlas state t r.state r.held.few_queries
            (few_units s text names j figures limit atlas slots t (t.steps * 32768 + 32770) r) g others k.front kept r.ends);
        grounds = rw its_next
            (grounds_after s text names j figures limit atlas slots g others t k g.query s' kept
            (unit_after joins_failed (unit_at g.query state.units)) refl refl);
      }

  pub step_failed : StepIs s s' text names j figures limit atlas g others t (Some (failed_standing t front'))
  step_failed = record {
    only = join_run_only figures g.query s s' its_kept;
    told = (its_fits, atlas, slots, refl, its_running);
  }
