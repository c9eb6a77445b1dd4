-- A reduction that fits is the next step of the run; one that does not fit leaves the state as it was.
use Prim.Native.Nat.{ℕ, ◌+◌, ◌-◌, ◌≤◌, ◌<◌}
use mathlib.Core.Path.{◌≡◌, refl, sym, ap, ◌∙◌}
use mathlib.Core.Bool.{Bool, true, false}
use mathlib.Core.List.{List}
use native.Mathlib.Omega.{arith}
use lib.ListN.{length, get_or, set}
use Rattle.meaning.specs.Bytes.{Bytes}
use Rattle.meaning.specs.Terms.{Named, Clause, Job}
use Rattle.meaning.specs.State.{Room, Goal, State, number_of, unit_at}
use Rattle.meaning.specs.Compare.{Assignment}
use Rattle.meaning.specs.Trial.{reduces}
use Rattle.meaning.specs.Step.{made_by, without_front}
use Rattle.meaning.specs.Run.{within, fits, run}
use Rattle.term.specs.Cells.{Places}
use Rattle.term.specs.Layout.{values_region, waiters_region, sets_region, queue_region, waiting_region, items_region, compounds_region, query_tries_word, clause_goals_from}
use Rattle.term.specs.States.{Atlas}
use Rattle.term.specs.Goals.{goal_mark}
use Rattle.term.specs.declared.state.Standing.{Standing}
use Rattle.std.specs.Prelude.{Some, None}
use Rattle.run_queues.specs.Log.{Slot}
use Rattle.run_compare.specs.Gifts.{Entry}
use Rattle.run_effects.specs.Build.{Item, Copies, total}
use Rattle.run_effects.specs.Reducing.{entry_terms, HeadAssigned, Assigning, GoalAssigned, Wakes, Waked, Adding, Added, AddsWoken, WokenAdded, entry_places, hits, emptied}
use Rattle.run_queues.specs.Ring.{Passed}
use Rattle.run_between.specs.Running.{RunOnly, StepIs}
use Rattle.run_between.specs.Taking.{Taken, Reducing}
use Rattle.run_charges.specs.Counted.{Counted}
use Rattle.run_between.proofs.ClauseEntries.{clause_item}
use Rattle.run_between.proofs.NextState.{Reduced, StandingAfter, WokenAre, running_now}
use Rattle.run_between.proofs.NextUnits.{atlas_after}
use Rattle.run_between.proofs.ReduceParts as parts

-- A sum that fits.
pub small_active : (t : Standing) (b m : ℕ) → Counted t → b ≡ m → m ≤ 8 → t.active - 1 + b ≤ 2000000
small_active t b m n e h = omega (arith, n.goals)

run_only_same : (figures : Room) (s : List ℕ) → RunOnly figures s s
run_only_same figures s =
    record {
      size = refl;
      before = λ w h. refl;
      records = λ i w h l other. refl;
      items = λ w a b. refl;
      behind = λ w a. refl;
    }

module _ {s : List ℕ} {text : Bytes} {names : List Bytes} {j : Job} {figures : Room} {limit : ℕ} {atlas : Atlas} {slots : List Slot} {g : Goal}
    {others : List Goal} {t : Standing} (taken : Taken s text names j figures limit atlas slots g others t) where
  abbrev σ : State
  σ = (run j limit figures).state

  active_is : t.active ≡ length others + 1
  active_is = taken.running.state.queue.number ∙ rw taken.front (omega arith)

  goals_fit : length others + 1 + length σ.goals.waiting + length σ.goals.failed ≤ figures.goals
  unfolding number_of
  goals_fit = let e = ap (length {A = Goal}) taken.front in omega (arith, taken.running.state.fits, e)

  pub counted : Counted t
  counted =
      let st = taken.running.state in
      record {
        some = omega (arith, active_is);
        pairs = omega (arith, st.pairs, st.lies.pairs_fit, taken.running.in_range.pairs);
        compounds = omega (arith, st.compounds, st.lies.compounds_fit, taken.running.in_range.compounds);
        goals = omega (arith, active_is, st.waiting.number, st.failed.number, goals_fit, taken.running.in_range.goals);
      }

  pub front_inside : t.front < figures.goals
  front_inside = taken.running.state.queue.front_inside

  -- The test is the definition's.
  pub fits_is : (c : Clause) (given : List Assignment) (pairs compounds body : ℕ) → pairs ≡ c.pairs → compounds ≡ c.compounds → body ≡ length c.body
      → within figures (t.pairs + pairs) (t.compounds + compounds) (t.active - 1 + t.waiting + t.failed + body)
      ≡ fits figures (reduces c given) σ (without_front others σ.goals)
  unfolding fits number_of without_front
  fits_is c given pairs compounds body p d b =
      let st = taken.running.state in
      let x : t.pairs + pairs ≡ σ.pairs + c.pairs = omega (arith, st.pairs) in
      let y : t.compounds + compounds ≡ σ.compounds + c.compounds = omega (arith, st.compounds) in
      let z : t.active - 1 + t.waiting + t.failed + body ≡ length others + length σ.goals.waiting + length σ.goals.failed + length c.body =
      omega (arith, active_is, st.waiting.number, st.failed.number)
      in
      rw (x, y, z)

  module _ {query k n : ℕ} {c : Clause} {given : List Assignment} (red : Reducing s names j figures limit atlas g query k n c given) where
    pub reduction_stops : fits figures (reduces c given) (run j limit figures).state (without_front others (run j limit figures).state.goals) ≡ false
        → StepIs s s text names j figures limit atlas g others t None
    reduction_stops fit = record { only = run_only_same figures s; told = (rw red.chosen fit, taken.running.state) }

    pub reduction_steps : (s' : List ℕ) (u : Standing) (cells' : ℕ) (y : Copies) (front : ℕ) (zs : List ℕ)
        → fits figures (reduces c given) (run j limit figures).state (without_front others (run j limit figures).state.goals) ≡ true
        → Passed figures.goals t.front front
        → Reduced s s' figures atlas (run j limit figures).state.units g.query t.pairs t.compounds t.cells cells' y c red.gave.gave.list slots zs
        front (t.active - 1)
        → StandingAfter t u c cells' front (length (hits zs 0 slots))
        → WokenAre atlas g.query given (run j limit figures).state.goals.waiting slots zs
        → StepIs s s' text names j figures limit atlas g others t (Some u)
    reduction_steps s' u cells' y front zs fit passed done after waked =
        record {
          only = done.only;
          told = (
            rw red.chosen fit,
            atlas_after atlas σ.units g.query t.pairs y,
            emptied zs slots,
            after.steps,
            running_now s s' text names j figures limit atlas slots g others t u query k n c given cells' y front zs taken red fit passed done after waked,
          );
        }

  pub fit_told : (c : Clause) (given : List Assignment) (pairs compounds body : ℕ) → pairs ≡ c.pairs → compounds ≡ c.compounds → body ≡ length c.body
      → (b d : Bool) → b ≡ within figures (t.pairs + pairs) (t.compounds + compounds) (t.active - 1 + t.waiting + t.failed + body) → b ≡ d
      → fits figures (reduces c given) (run j limit figures).state (without_front others (run j limit figures).state.goals) ≡ d
  fit_told c given pairs compounds body p e f b d told is = sym (fits_is c given pairs compounds body p e f) ∙ sym told ∙ is

-- The calls of a reduction in order: what each asks, by the names that the code has for the numbers.
module _ {s : List ℕ} {text : Bytes} {names : List Bytes} {j : Job} {figures : Room} {limit : ℕ} {atlas : Atlas} {slots : List Slot} {g : Goal}
    {others : List Goal} {t : Standing} {query k n : ℕ} {c : Clause} {given : List Assignment}
    (taken : Taken s text names j figures limit atlas slots g others t)
    (red : Reducing s names j figures limit atlas g query k n c given)
    (fit : fits figures (reduces c given) (run j limit figures).state (without_front others (run j limit figures).state.goals) ≡ true) where
  pub asks_1 : {values pairs : ℕ} → values ≡ values_region figures → pairs ≡ c.pairs
      → (pairs ≤ 16) × (compounds_region ≤ values) × (values + t.pairs + pairs ≤ length s)
  asks_1 a b = (
    omega (arith, red.at.held.laid.few_pairs),
    omega arith,
    omega (arith, (parts.charges taken red fit).0, taken.running.inside),
  )

  module _ {values₁ pairs : ℕ} {s₁ : List ℕ} (e₁ : values₁ ≡ values_region figures) (e₂ : pairs ≡ c.pairs) (raw₁ : HeadAssigned s s₁ values₁ t.pairs pairs) where
    h₁ : HeadAssigned s s₁ (values_region figures) t.pairs c.pairs
    h₁ = rw (e₁, e₂) at raw₁

    module _ {values₂ : ℕ} (e₃ : values₂ ≡ values_region figures) where
      pub asks_2 : (x : Item) × (unit : Places) × (bound : ℕ) × (list : List Entry) × Assigning s₁ x unit values₂ bound t.pairs t.cells n list
      asks_2 = (clause_item (atlas g.query).names k c, atlas g.query, t.pairs, red.gave.gave.list, rw e₃ (parts.assigning taken red fit s₁ h₁))

      module _ {s₂ : List ℕ} {r₂ : ℕ} (raw₂ : (x : Item) (unit : Places) (bound : ℕ) (list : List Entry)
          → Assigning s₁ x unit values₂ bound t.pairs t.cells n list → GoalAssigned s₁ s₂ x unit values₂ bound t.pairs t.cells list r₂) where
        h₂ : GoalAssigned s₁ s₂ (clause_item (atlas g.query).names k c) (atlas g.query) (values_region figures) t.pairs t.pairs t.cells
            red.gave.gave.list r₂
        h₂ = (rw e₃ at raw₂) _ _ _ _ (parts.assigning taken red fit s₁ h₁)

        module _ {waiting₁ waiters sets : ℕ} (e₅ : waiting₁ ≡ waiting_region figures) (e₆ : waiters ≡ waiters_region figures) (e₇ : sets ≡ sets_region figures) where
          pub asks_3 : (all : ℕ) × (vs : List Slot) × Wakes s₂ waiting₁ waiters sets all vs n
          asks_3 = (figures.pairs, slots, rw (e₅, e₆, e₇) (parts.waking taken red fit s₁ h₁ s₂ r₂ h₂))

          module _ {s₃ : List ℕ} {r : ℕ} (raw₃ : (all : ℕ) (vs : List Slot) → Wakes s₂ waiting₁ waiters sets all vs n → Waked s₂ s₃ waiting₁ waiters sets all vs n r) where
            h₃ : Waked s₂ s₃ (waiting_region figures) (waiters_region figures) (sets_region figures) figures.pairs slots n r
            h₃ = (rw (e₅, e₆, e₇) at raw₃) _ _ (parts.waking taken red fit s₁ h₁ s₂ r₂ h₂)

            module _ {front active body queue₁ mark : ℕ} (passed : Passed figures.goals t.front front) (e₈ : active ≡ t.active - 1) (e₉ : body ≡ length c.body)
                (d₁ : queue₁ ≡ queue_region figures) (d₄ : mark ≡ goal_mark g.query (made_by c (unit_at g.query (run j limit figures).state.units))) where
              pub asks_4 : (x : Item) × (goals : List Named)
                  × Adding s₃ x (clause_goals_from k) body t.pairs r₂ mark queue₁ figures.goals front active goals
              asks_4 = (
                clause_item (atlas g.query).names k c,
                c.body,
                rw (h₂.behind, e₈, d₁, d₄) (parts.adding taken red fit s₁ h₁ s₂ r₂ h₂ s₃ r h₃ front body passed.front_inside e₉),
              )

              module _ {s₄ : List ℕ} {r₄ : ℕ} (raw₄ : (x : Item) (goals : List Named)
                  → Adding s₃ x (clause_goals_from k) body t.pairs r₂ mark queue₁ figures.goals front active goals
                  → Added s₃ s₄ x body t.pairs r₂ mark queue₁ figures.goals front active goals r₄) where
                h₄ : Added s₃ s₄ (clause_item (atlas g.query).names k c) body t.pairs (t.cells + total (entry_terms red.gave.gave.list))
                    (goal_mark g.query (made_by c (unit_at g.query (run j limit figures).state.units))) (queue_region figures) figures.goals front (t.active - 1) c.body r₄
                h₄ =
                    (rw (h₂.behind, e₈, d₁, d₄) at raw₄) _ _
                    (parts.adding taken red fit s₁ h₁ s₂ r₂ h₂ s₃ r h₃ front body passed.front_inside e₉)

                module _ {waiting₂ queue₂ : ℕ} (d₂ : waiting₂ ≡ waiting_region figures) (d₃ : queue₂ ≡ queue_region figures) where
                  pub asks_5 : (ws : ℕ) × (ss : ℕ) × (all : ℕ) × (vs : List Slot) × (zs : List ℕ)
                      × AddsWoken s₄ waiting₂ ws ss all vs zs r queue₂ figures.goals front (active + body)
                  asks_5 =
                      (waiters_region figures, sets_region figures, figures.pairs, slots, entry_places s₂ n, rw (d₂, d₃, e₈) (parts.adds_woken taken red fit s₁ h₁ s₂ r₂ h₂ s₃ r h₃ front body passed.front_inside e₉ s₄ r₄ h₄))

                  module _ {s₅ : List ℕ} (raw₅ : (ws ss all : ℕ) (vs : List Slot) (zs : List ℕ)
                      → AddsWoken s₄ waiting₂ ws ss all vs zs r queue₂ figures.goals front (active + body)
                      → WokenAdded s₄ s₅ waiting₂ ws ss all vs zs r queue₂ figures.goals front (active + body)) where
                    h₅ : WokenAdded s₄ s₅ (waiting_region figures) (waiters_region figures) (sets_region figures) figures.pairs slots (entry_places s₂ n) r
                        (queue_region figures) figures.goals front (t.active - 1 + body)
                    h₅ =
                        (rw (d₂, d₃, e₈) at raw₅) _ _ _ _ _
                        (parts.adds_woken taken red fit s₁ h₁ s₂ r₂ h₂ s₃ r h₃ front body passed.front_inside e₉ s₄ r₄ h₄)

                    size_5 : length s₅ ≡ length s
                    size_5 = parts.size_5 taken red fit s₁ h₁ s₂ r₂ h₂ s₃ r h₃ front body passed.front_inside e₉ s₄ r₄ h₄ s₅ h₅

                    pub asks_6 : (query < 8) × (items_region ≤ length s₅) × (get_or s₅ (query_tries_word query) 0 ≤ 1000000)
                    asks_6 =
                        rw red.query_is (
                          parts.few_query taken red fit,
                          omega (arith, size_5, taken.running.inside),
                          parts.tries_few taken red fit s₁ h₁ s₂ r₂ h₂ s₃ r h₃ front body passed.front_inside e₉ s₄ r₄ h₄ s₅ h₅,
                        )

                    pub woken_few : (active + body + r ≤ figures.goals) × (r ≤ t.waiting)
                    woken_few = (
                      rw e₈ (parts.adds_woken taken red fit s₁ h₁ s₂ r₂ h₂ s₃ r h₃ front body passed.front_inside e₉ s₄ r₄ h₄).space,
                      parts.few_woken taken red fit s₁ h₁ s₂ r₂ h₂ s₃ r h₃,
                    )

                    module _ (s₆ : List ℕ) (raw₆ : s₆ ≡ set s₅ (query_tries_word query) (get_or s₅ (query_tries_word query) 0 + 1)) where
                      pub ends : (u : Standing) → StandingAfter t u c r₄ front r → StepIs s s₆ text names j figures limit atlas g others t (Some u)
                      ends u after =
                          rw (raw₆, red.query_is)
                          (reduction_steps taken red _ u _ _ front (entry_places s₂ n) fit passed
                          (parts.reduced taken red fit s₁ h₁ s₂ r₂ h₂ s₃ r h₃ front body passed.front_inside e₉ s₄ r₄ h₄ s₅ h₅)
                          (rw (← h₃.number, ← h₄.behind) after)
                          (parts.waked_are taken red fit s₁ h₁ s₂ r₂ h₂))
