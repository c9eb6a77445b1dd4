-- The run between two steps, and how each way to go on ends or keeps it.
use Prim.Native.Nat.{ℕ, ◌+◌, ◌*◌, ◌-◌, ◌≤◌, ◌<◌}
use mathlib.Core.Path.{◌≡◌, refl, sym, ap}
use mathlib.Core.Logic.{◌≢◌}
use mathlib.Core.List.{List, [], ◌∷◌}
use native.Mathlib.Omega.{arith}
use lib.ListN.{length}
use Rattle.meaning.specs.Bytes.{Bytes}
use Rattle.meaning.specs.Terms.{Job}
use Rattle.meaning.specs.State.{Room, Goal}
use Rattle.meaning.specs.Run.{run}
use Rattle.term.specs.States.{Atlas}
use Rattle.term.specs.declared.state.Standing.{Standing}
use Rattle.term.specs.declared.state.Verdict.TheVariants.{Rest, Budget, Room as NoRoomLeft}
use Rattle.run_queues.specs.Log.{Slot}
use Rattle.run_between.specs.Running.{RunOnly, Running, StepIs}
use Rattle.machine.specs.Ending.{GoneOn}
use Rattle.std.specs.Prelude.{Some, None}
use Rattle.run_between.proofs.FramesRunning.{run_only_then}
use Rattle.machine.proofs.Going.{ends_at_rest, ends_for_room, ends_by_budget}

-- After so many steps, no more than the budget.
pub record GoesOn (s₀ s : List ℕ) (text : Bytes) (names : List Bytes) (j : Job) (figures : Room) (budget : ℕ) (t : Standing) : Type 0 where
  pub limit : ℕ
  pub atlas : Atlas
  pub slots : List Slot
  pub only : RunOnly figures s₀ s
  pub running : Running s text names j figures limit atlas slots t (t.steps * 32768 + 2)
  pub steps : t.steps ≡ limit
  pub within : limit ≤ budget
  pub few : budget ≤ 1000000

pub goes_starts : (s : List ℕ) (text : Bytes) (names : List Bytes) (j : Job) (figures : Room) (budget : ℕ) (t : Standing) (atlas : Atlas) (slots : List Slot)
    → Running s text names j figures 0 atlas slots t 2 → t.steps ≡ 0 → budget ≤ 1000000 → GoesOn s s text names j figures budget t
goes_starts s text names j figures budget t atlas slots r none few =
    let stamp : t.steps * 32768 + 2 ≡ 2 = omega (arith, none) in
    record {
      limit = 0;
      atlas = atlas;
      slots = slots;
      only = record {
        size = refl;
        before = λ k h. refl;
        records = λ q i h m a. refl;
        items = λ k h m. refl;
        behind = λ k h. refl;
      };
      running = rw stamp r;
      steps = none;
      within = omega arith;
      few = few;
    }

module _ {s₀ s : List ℕ} {text : Bytes} {names : List Bytes} {j : Job} {figures : Room} {budget : ℕ} {t : Standing}
    (h : GoesOn s₀ s text names j figures budget t) where
  steps_are : (run j h.limit figures).state.steps ≡ h.limit
  steps_are = omega (arith, h.running.state.steps, h.steps)

  -- The steps that the budget has left.
  abbrev left : ℕ
  left = budget - h.limit

  left_is : h.limit + left ≡ budget
  left_is = omega (arith, h.within)

  -- What stands in front, where the queue is not empty.
  pub front : t.active ≢ 0 → (g : Goal) × (others : List Goal) × ((run j h.limit figures).state.goals.queue ≡ g ∷ others)
  front more = go (run j h.limit figures).state.goals.queue refl
    where
      go : (queue : List Goal) → (run j h.limit figures).state.goals.queue ≡ queue
          → (g : Goal) × (others : List Goal) × ((run j h.limit figures).state.goals.queue ≡ g ∷ others)
      go [] e =
          let size : length (run j h.limit figures).state.goals.queue ≡ 0 = ap length e in
          absurd (more (omega (arith, size, h.running.state.queue.number)))
      go (g ∷ others) e = (g, others, e)

  queue_empty : t.active ≡ 0 → (run j h.limit figures).state.goals.queue ≡ []
  queue_empty none = go (run j h.limit figures).state.goals.queue refl
    where
      go : (queue : List Goal) → (run j h.limit figures).state.goals.queue ≡ queue → (run j h.limit figures).state.goals.queue ≡ []
      go [] e = e
      go (g ∷ others) e =
          let size : length (run j h.limit figures).state.goals.queue ≡ length (g ∷ others) = ap length e in
          let one : length (g ∷ others) ≡ 1 + length others = omega arith in
          absurd (omega (arith, size, one, none, h.running.state.queue.number))

  pub goes_to_rest : t.active ≡ 0 → GoneOn s names j figures budget (Rest, t)
  goes_to_rest none =
      let e = rw left_is at (ends_at_rest j figures h.limit left (queue_empty none)) in
      (sym e.1, h.atlas, rw e.0 h.running.state)

  pub goes_to_budget : t.active ≢ 0 → t.steps ≡ budget → GoneOn s names j figures budget (Budget, t)
  goes_to_budget more spent =
      let f = front more in
      let all : h.limit ≡ budget = omega (arith, h.steps, spent) in
      (sym (rw all at (ends_by_budget j figures h.limit f.0 f.1 f.2 steps_are)), h.atlas, rw all at h.running.state)

  -- There is budget for a step.
  pub steps_few : t.steps ≢ budget → t.steps < 1000000
  steps_few more = omega (arith, h.within, h.few, h.steps, more)

  pub steps_left : t.steps ≢ budget → t.steps < budget
  steps_left more = omega (arith, h.within, h.steps, more)

  module _ (g : Goal) (others : List Goal) (first : (run j h.limit figures).state.goals.queue ≡ g ∷ others) (some : t.steps ≢ budget) (s' : List ℕ) where
    pub goes_to_next : (u : Standing) → StepIs s s' text names j figures h.limit h.atlas g others t (Some u)
        → GoesOn s₀ s' text names j figures budget u
    goes_to_next u k =
        let n = k.told in
        record {
          limit = h.limit + 1;
          atlas = n.1;
          slots = n.2;
          only = run_only_then figures s₀ s s' h.only k.only;
          running = n.4;
          steps = omega (arith, n.3, h.steps);
          within = omega (arith, steps_left some, h.steps);
          few = h.few;
        }

    pub goes_to_room : StepIs s s' text names j figures h.limit h.atlas g others t None → GoneOn s' names j figures budget (NoRoomLeft, t)
    goes_to_room k =
        let n = k.told in
        let less : (run j h.limit figures).state.steps < h.limit + left = omega (arith, steps_are, left_is, steps_left some, h.steps) in
        let e = rw left_is at (ends_for_room j figures h.limit left g others first n.0 less) in
        (sym e.1, h.atlas, rw e.0 n.1)
