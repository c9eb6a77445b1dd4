-- The goal in front: what the step reads of it, what it hands to the choice, and what each answer of the choice is to the rest of the step.
use Prim.Native.Nat.{ℕ, ◌+◌, ◌*◌, ◌<◌}
use mathlib.Core.Path.{◌≡◌, sym, ap, ◌∙◌}
use mathlib.Core.List.{List, ◌∷◌}
use native.Mathlib.Omega.{arith}
use lib.ListN.{length, get_or}
use Rattle.meaning.specs.Bytes.{Bytes}
use Rattle.meaning.specs.Terms.{Clause, Job}
use Rattle.meaning.specs.State.{Room, Goal}
use Rattle.meaning.specs.Compare.{Assignment}
use Rattle.meaning.specs.Trial.{choice}
use Rattle.meaning.specs.Run.{choice_for, run}
use Rattle.term.specs.Layout.{values_region, marks_region, readers_region, queue_region}
use Rattle.term.specs.States.{Atlas, goal_word, setting, GoalStands, listed}
use Rattle.term.specs.declared.state.Standing.{Standing}
use Rattle.term.specs.Words.{tag_in}
use Rattle.term.specs.Goals.{origin_word, place_in}
use Rattle.term.proofs.Goals.{goal_query, goal_place}
use Rattle.run_trial.specs.Choosing.{unit_of, Trying, MarksBelow, ChoiceTold, ChoiceIs}
use Rattle.run_queues.specs.Log.{Slot}
use Rattle.run_between.specs.Running.{RunOnly, Running, StepIs}
use Rattle.run_between.specs.Taking.{Taken, Reducing, JoiningWaiting, JoiningFailed}
use Rattle.std.specs.Prelude.{Option, Result as Outcome, Ok, Err}
use Rattle.run_asked.specs.declared.asking.Hindered.{Hindered}
use Rattle.run_asked.specs.declared.asking.Hindered.TheVariants.{Waits, Fails}
use Rattle.run_between.proofs.GroundMarks.{grounds_tried}
use Rattle.run_between.proofs.FramesRunning.{few_units, front_word, front_stands, front_low, trying, trial_run_only, run_only_then, running_tried}

-- What the step has read.
pub record Fetched (s : List ℕ) (figures : Room) (t : Standing) (goal query place values marks steps : ℕ) : Type 0 where
  pub goal_is : goal ≡ get_or s (queue_region figures + t.front) 0
  pub query_is : query ≡ tag_in goal
  pub place_is : place ≡ place_in goal
  pub values_is : values ≡ values_region figures
  pub marks_is : marks ≡ marks_region figures
  pub steps_are : steps ≡ t.steps

pub front_inside : (s : List ℕ) (text : Bytes) (names : List Bytes) (j : Job) (figures : Room) (limit : ℕ) (atlas : Atlas) (slots : List Slot) (t : Standing)
    (stamp : ℕ) → Running s text names j figures limit atlas slots t stamp → queue_region figures + t.front < length s
front_inside s text names j figures limit atlas slots t stamp r = omega (arith, r.inside, r.state.queue.front_inside)

module _ (s : List ℕ) (text : Bytes) (names : List Bytes) (j : Job) (figures : Room) (limit : ℕ) (atlas : Atlas) (slots : List Slot)
    (g : Goal) (others : List Goal) (t : Standing) (goal query place values marks steps : ℕ)
    (r : Running s text names j figures limit atlas slots t (t.steps * 32768 + 2)) (more : t.steps < 1000000)
    (front : (run j limit figures).state.goals.queue ≡ g ∷ others) (f : Fetched s figures t goal query place values marks steps) where
  its_word : goal ≡ goal_word atlas g
  its_word = f.goal_is ∙ front_word s names figures j.queries atlas (run j limit figures).state t r.state g others front

  its_front : GoalStands s figures atlas (run j limit figures).state.units g
  its_front = front_stands s names figures j.queries atlas (run j limit figures).state t r.state g others front

  few_queries : g.query < 8
  few_queries =
      omega (
        arith,
        its_front.query,
        few_units s text names j figures limit atlas slots t (t.steps * 32768 + 2) r,
      )

  low : (atlas g.query).compound g.goal.number < 1048576
  low = front_low s names figures j.queries atlas (run j limit figures).state t r.state g others front r.in_range

  its_query : query ≡ g.query
  its_query =
      f.query_is ∙ ap (λ w. tag_in w) its_word
      ∙ goal_query g.query ((atlas g.query).compound g.goal.number) few_queries low (origin_word g.origin)

  its_place : place ≡ (atlas g.query).compound g.goal.number
  its_place =
      f.place_is ∙ ap (λ w. place_in w) its_word
      ∙ goal_place g.query ((atlas g.query).compound g.goal.number) few_queries low (origin_word g.origin)

  pub choice_tries : Trying s text names j limit figures (atlas g.query) g others values marks figures.pairs place
  choice_tries =
      rw (f.values_is, f.marks_is, its_place) (trying s text names j figures limit atlas slots t (t.steps * 32768 + 2) g others r front)

  pub choice_marks : MarksBelow s marks figures.pairs (steps * 32768 + 2)
  choice_marks = rw (f.marks_is, f.steps_are) r.marks

  pub choice_stamps : (1 < steps * 32768 + 2) × (steps * 32768 + 2 + 32768 < 1099511627776)
  choice_stamps = (omega arith, omega (arith, f.steps_are))

  -- The choice is made.
  module _ (s₁ : List ℕ) (fate : Outcome (ℕ × ℕ) Hindered) (told : ChoiceIs s s₁ names j limit figures (atlas g.query) g marks (steps * 32768 + 2) fate) where
    tried_only : RunOnly figures s s₁
    tried_only = trial_run_only figures s s₁ (rw f.marks_is at told.only)

    pub choice_taken : Taken s₁ text names j figures limit atlas slots g others t
    choice_taken =
        let only = rw f.marks_is at told.only in
        let marked : MarksBelow s₁ (marks_region figures) figures.pairs (steps * 32768 + 2 + 32768) = rw f.marks_is at told.marks_now in
        record {
          running = running_tried s s₁ text names j figures limit atlas slots t (t.steps * 32768 + 2) (t.steps * 32768 + 32770) r only
              (λ x a b. omega (arith, marked x a b, f.steps_are))
              (grounds_tried s s₁ figures atlas (run j limit figures).state.units g.query its_front.query (rw f.marks_is at told.grounds) r.grounds);
          front = front;
          more = more;
        }

    pub choice_reduces : (k n : ℕ) → fate ≡ Ok (k, n)
        → (c : Clause) × (given : List Assignment) × Reducing s₁ names j figures limit atlas g query k n c given
    unfolding choice_for
    choice_reduces k n e =
        let its : ChoiceTold s₁ names (setting figures (atlas g.query) (unit_of j limit figures g)) (marks + figures.pairs)
        (choice j.clauses (unit_of j limit figures g) g.goal) (Ok (k, n)) = rw e at told.told
        in
        (its.0, its.1, record { query_is = its_query; chosen = its.2; at = its.3; gave = its.4 })

    pub choice_waits : (n : ℕ) → fate ≡ Err (Waits n) → (readers : List ℕ) × JoiningWaiting s₁ j figures limit atlas g goal query n readers
    unfolding choice_for
    choice_waits n e =
        let its : ChoiceTold s₁ names (setting figures (atlas g.query) (unit_of j limit figures g)) (marks + figures.pairs)
        (choice j.clauses (unit_of j limit figures g) g.goal) (Err (Waits n)) = rw e at told.told
        in
        let here : marks + figures.pairs ≡ readers_region figures = omega (arith, f.marks_is) in (
          its.0,
          record { goal_is = its_word; query_is = its_query; chosen = its.1; few = its.2; listed_are = ap (λ b. listed s₁ b n) (sym here) ∙ its.3; inside = its.4 },
        )

    pub choice_fails : fate ≡ Err Fails → JoiningFailed j figures limit atlas g goal query
    unfolding choice_for
    choice_fails e = record { goal_is = its_word; query_is = its_query; chosen = rw e at told.told }

    pub step_from : (s' : List ℕ) (answer : Option Standing) → StepIs s₁ s' text names j figures limit atlas g others t answer
        → StepIs s s' text names j figures limit atlas g others t answer
    step_from s' answer is = record { only = run_only_then figures s s₁ s' tried_only is.only; told = is.told }
