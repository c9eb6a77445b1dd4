-- The parts of a reduction, one behind the other: what each asks follows from what those before it have left.
use Prim.Native.Nat.{ℕ, ◌+◌, ◌-◌, ◌*◌, ◌≤◌, ◌<◌}
use mathlib.Core.Path.{◌≡◌, refl, sym, ap, ◌∙◌}
use mathlib.Core.Logic.{inl, inr}
use mathlib.Core.Bool.{true}
use mathlib.Core.List.{List, [], ◌∷◌, ◌++◌, map}
use native.Mathlib.Omega.{arith}
use lib.ListN.{length, get_or, set, length-set}
use lib.Seq.{get_or-set_same, get_or-set_other}
use Rattle.meaning.specs.Bytes.{Bytes, those}
use Rattle.meaning.specs.Terms.{Clause, Job}
use Rattle.meaning.specs.State.{Room, QueryUnit, Goal, Waiting, State, unit_at, number_of}
use Rattle.meaning.specs.Compare.{Assignment}
use Rattle.meaning.specs.Trial.{reduces}
use Rattle.meaning.specs.Step.{wakes, without_front, made_by}
use Rattle.meaning.specs.Run.{fits, choice_for, run}
use Rattle.laws.proofs.Lists.EachOf.{Each}
use Rattle.laws.proofs.Lists.Filters.{length_those}
use Rattle.laws.proofs.Reading.{accepted_keeps_the_occurrence_rules}
use Rattle.laws.proofs.Runs.Counts.{within_says}
use Rattle.laws.proofs.Single.{reduction_assigns_once}
use Rattle.laws.proofs.Trial.Chosen.{reduces_agrees}
use Rattle.term.specs.Cells.{Places}
use Rattle.term.specs.Jobs.{HoldsGoals}
use Rattle.term.specs.Layout.{values_region, waiters_region, sets_region, queue_region, waiting_region, need_of, items_region, trial_region, compounds_region, gift_pair, woken_part, followed_part, clause_record, query_record, query_tries_word, clause_goals_from}
use Rattle.term.specs.States.{Atlas, setting, goal_word, ring, Lies, AllStand, HoldsState}
use Rattle.term.specs.declared.state.Standing.{Standing}
use Rattle.term.proofs.Jobs.{holds_clause_kept}
use Rattle.term.specs.Words.{packed}
use Rattle.term.specs.Goals.{goal_mark}
use Rattle.run_compare.specs.Gifts.{Entry, entries_of, assignments}
use Rattle.run_compare.specs.Compare.{item_places}
use Rattle.run_trial.proofs.Once.{AllApart, once_apart, no_entry, entries_differ, entry_words, entry_held}
use Rattle.run_effects.specs.Build.{Item, Copies, total, ListSpread, Goes, Moved}
use Rattle.run_effects.proofs.Spreading.{total_append, list_spread_append, rising_later, rising_append, goals_rising, goal_copies_stay, entry_copies_stay}
use Rattle.run_trial.specs.Choosing.{template}
use Rattle.run_queues.specs.Log.{Slot, LogOk}
use Rattle.run_effects.specs.Reducing.{Apart, HeadAssigned, EntryTerms, entry_terms, Assigning, EntriesGiven, GoalAssigned, goal_terms, Adding, GoalsHeld, Added, entry_places, hit, hits, woken, quieted, emptied, NotLogged, Wakes, Waked, AddsWoken, WokenAdded}
use Rattle.run_between.specs.Running.{slot_of, RunOnly}
use Rattle.run_between.specs.Taking.{Taken, Reducing}
use Rattle.run_between.proofs.Origins.{made_fits}
use Rattle.run_between.proofs.BodyGoals.{BodyFits, body_fits}
use Rattle.run_between.proofs.ClauseEntries.{clause_item, entries_still, entries_held, entries_rising}
use Rattle.run_between.proofs.Enlarging.{CopiedTo, extended_moved}
use Rattle.run_between.proofs.FramesRunning.{few_units, tries_below, front_stands, front_number, front_place}
use Rattle.run_between.proofs.Fresh.{Fresh, fresh}
use Rattle.run_queues.proofs.Listed.{listed_kept}
use Rattle.run_between.proofs.NextState.{Reduced, WokenAre}
use Rattle.run_between.proofs.NextUnit.{enlarged}
use Rattle.run_queues.proofs.Ring.{ring_kept}
use Rattle.run_between.proofs.WaitingPairs.{OwnReaders, waiting_readers}
use Rattle.run_queues.proofs.Waking.{log_kept}
use Rattle.run_between.proofs.Woken.{woken_are, others_wait, woken_number, entry_places_are, entries_below, hit_wakes}

goals_first : (atlas : Atlas) (ws : List Waiting) → map (λ w. goal_word atlas w.goal) ws ≡ map (goal_word atlas) (map (λ w. w.goal) ws)
goals_first atlas [] = refl
goals_first atlas (w ∷ ws) = ap (λ l. goal_word atlas w.goal ∷ l) (goals_first atlas ws)

module _ {s : List ℕ} {text : Bytes} {names : List Bytes} {j : Job} {figures : Room} {limit : ℕ} {atlas : Atlas} {slots : List Slot} {g : Goal}
    {others : List Goal} {t : Standing} {query k n : ℕ} {c : Clause} {given : List Assignment}
    (taken : Taken s text names j figures limit atlas slots g others t)
    (red : Reducing s names j figures limit atlas g query k n c given)
    (fit : fits figures (reduces c given) (run j limit figures).state (without_front others (run j limit figures).state.goals) ≡ true) where
  abbrev σ : State
  σ = (run j limit figures).state

  abbrev q : ℕ
  q = g.query

  abbrev P : ℕ
  P = t.pairs

  abbrev C : ℕ
  C = t.compounds

  abbrev unit : QueryUnit
  unit = unit_at q σ.units

  -- The mark of the body's goals.
  abbrev made : ℕ
  made = goal_mark q (made_by c unit)

  abbrev vals : ℕ
  vals = values_region figures

  abbrev x : Item
  x = clause_item (atlas q).names k c

  abbrev list : List Entry
  list = red.gave.gave.list

  -- The first free word, that behind the copies of what is given, and that behind the copies of the body.
  abbrev cells : ℕ
  cells = t.cells

  abbrev middle : ℕ
  middle = t.cells + total (entry_terms list)

  abbrev cells' : ℕ
  cells' = t.cells + total (entry_terms list) + total (goal_terms c.body)

  abbrev st : HoldsState s names figures j.queries atlas σ t
  st = taken.running.state

  pub charges : (P + c.pairs ≤ figures.pairs) × (C + c.compounds ≤ figures.compounds)
      × (number_of (without_front others σ.goals) + length c.body ≤ figures.goals)
  unfolding fits
  charges =
      let a = within_says figures (σ.pairs + c.pairs) (σ.compounds + c.compounds) (number_of (without_front others σ.goals) + length c.body) fit in
      (omega (arith, a.0, st.pairs), omega (arith, a.1, st.compounds), a.2)

  here : q < length σ.units
  here = (front_stands s names figures j.queries atlas σ t st g others taken.front).query

  lies : Lies names figures atlas σ.units P C cells
  lies = rw (st.pairs, st.compounds) st.lies

  -- The goal in front is a compound.
  cells_behind : compounds_region ≤ cells
  cells_behind =
      omega (
        arith,
        front_place s names figures j.queries atlas σ t st g others taken.front,
        lies.compound_below q g.goal.number here (front_number s names figures j.queries atlas σ t st g others taken.front),
      )

  -- Where the clause's compounds are copied to.
  pub copies : Fresh t.cells (t.compounds + c.compounds) (entry_terms red.gave.gave.list ++ goal_terms c.body)
  copies =
      let gave = red.gave.gave in
      fresh gave.low c.compounds cells C (entry_terms list ++ goal_terms c.body)
      (rising_append gave.low gave.high c.compounds (entry_terms list) (goal_terms c.body)
      (entries_rising s (setting figures (atlas q) unit) (template k c) gave.low gave.high list gave.held)
      (rising_later red.gave.body_from gave.high c.compounds (goal_terms c.body) red.gave.body_behind
      (goals_rising red.gave.body_from c.compounds c.body red.gave.body)))
      cells_behind lies.cells_fit

  abbrev y : Copies
  y = copies.copies

  abbrev places : Places
  places = enlarged (atlas q) unit P y

  both : total (entry_terms list ++ goal_terms c.body) ≡ total (entry_terms list) + total (goal_terms c.body)
  both = total_append (entry_terms list) (goal_terms c.body)

  copied : CopiedTo y cells cells' (C + c.compounds)
  copied =
      let e : cells + total (entry_terms list ++ goal_terms c.body) ≡ cells' = omega (arith, both) in
      rw e at copies.copied

  spread_2 : ListSpread y cells (entry_terms list)
  spread_2 = (list_spread_append y cells (entry_terms list) (goal_terms c.body) copies.spread_there).0

  spread_4 : ListSpread y middle (goal_terms c.body)
  spread_4 = (list_spread_append y cells (entry_terms list) (goal_terms c.body) copies.spread_there).1

  -- What every part leans on, in numbers.
  pub record Sizes : Type 0 where
    pub pairs : P + c.pairs ≤ figures.pairs
    pub behind : compounds_region ≤ cells
    pub before : cells' ≤ vals
    pub space : 1 ≤ total (entry_terms list) + total (goal_terms c.body) → cells' < vals
    pub number : k < 128
    pub few_pairs : c.pairs ≤ 16
    pub few_compounds : c.compounds ≤ 32
    pub few_goals : length c.body ≤ 8
    pub room : need_of figures ≤ length s
    pub entries : n ≤ 192
    pub small_pairs : figures.pairs ≤ 65535
    pub some_goals : 1 ≤ figures.goals
    pub used : length slots ≤ 2 * figures.goals
    pub few_queries : q < 8

  sizes : Sizes
  sizes =
      record {
        pairs = charges.0;
        behind = cells_behind;
        before = omega (arith, copied.fit, charges.1);
        space = λ some. omega (arith, copies.room (omega (arith, both)), both, charges.1);
        number = red.at.number;
        few_pairs = red.at.held.laid.few_pairs;
        few_compounds = red.at.held.laid.few_compounds;
        few_goals = red.at.held.laid.few_goals;
        room = taken.running.inside;
        entries = red.gave.few;
        small_pairs = taken.running.in_range.pairs;
        some_goals = omega (arith, st.queue.front_inside);
        used = omega (arith, taken.running.log_number, st.waiting.fits);
        few_queries = omega (arith, here, few_units s text names j figures limit atlas slots t _ taken.running);
      }

  pub few_query : q < 8
  few_query = sizes.few_queries

  goes : Goes x P
  goes =
      let z = sizes in
      record {
        own = λ m. refl;
        before = λ m h. omega (arith, z.number, z.few_compounds);
        pairs_fit = omega (arith, z.pairs, z.small_pairs);
      }

  moved : Moved x places P y (length unit.values) unit.compounds
  moved = extended_moved (atlas q) (length unit.values) unit.compounds P y x refl

  -- The entries one by one.
  entry_word : (i : ℕ) → i < n → get_or s (gift_pair i) 0 ≡ (atlas q).pair (get_or list i no_entry).pair
  entry_word i h =
      let is : 0 + i ≡ i = omega arith in
      rw is at (entry_words s (item_places (atlas q).names k) (atlas q) 0 list i (omega (arith, red.gave.gave.size)) red.gave.gave.stand).0

  entry_below : (i : ℕ) → i < n → (get_or list i no_entry).pair < length unit.values
  entry_below i h = (entry_held s (setting figures (atlas q) unit) (template k c) red.gave.gave.low red.gave.gave.high list i (omega (arith, red.gave.gave.size)) red.gave.gave.held).0

  entries_apart : (i m : ℕ) → i < n → m < n → get_or s (gift_pair i) 0 ≡ get_or s (gift_pair m) 0 → i ≡ m
  entries_apart i m h l e =
      let size : length list ≡ n = red.gave.gave.size in
      let once = reduction_assigns_once j (accepted_keeps_the_occurrence_rules text j taken.running.reads) limit figures g others taken.front c given red.chosen in
      differ list red.gave.gave.list_is (rw red.gave.gave.given_are at (once_apart once)) (omega arith) (omega arith)
      (lies.pair_apart q q _ _ here here (entry_below i h) (entry_below m l) (sym (entry_word i h) ∙ e ∙ entry_word m l)).1
    where
      differ : (es : List Entry) → es ≡ entries_of red.gave.gave.gifts
          → AllApart (assignments (length (unit_at g.query (run j limit figures).state.units).values)
          (unit_at g.query (run j limit figures).state.units).compounds red.gave.gave.gifts)
          → i < length es → m < length es → (get_or es i no_entry).pair ≡ (get_or es m no_entry).pair → i ≡ m
      differ es is apart a b same =
          entries_differ _ _ red.gave.gave.gifts i m apart (rw is at a) (rw is at b) (rw is at same)

  -- The head's writers are assigned.
  module _ (s₁ : List ℕ) (h₁ : HeadAssigned s s₁ (values_region figures) t.pairs c.pairs) where
    below_1 : (w : ℕ) → w < vals + P → get_or s₁ w 0 ≡ get_or s w 0
    below_1 w h = h₁.kept.same w (inl h)

    pub assigning : Assigning s₁ x (atlas q) vals P P cells n list
    assigning =
        let z = sizes in
        let size : length s₁ ≡ length s = h₁.kept.size in
        let count : length list ≡ n = red.gave.gave.size in
        record {
          goes = goes;
          behind = z.behind;
          before = omega (arith, z.before);
          room = λ some. omega (arith, z.space (omega arith), z.room, z.some_goals);
          inside = omega (arith, z.room, z.pairs);
          few = z.entries;
          number = count;
          stand =
              entries_still s s₁ (item_places (atlas q).names k) (atlas q) 0 list
              (λ w a b. below_1 w (omega (arith, z.entries))) red.gave.gave.stand;
          terms =
              entries_held s s₁ figures unit (atlas q) P k c red.gave.gave.low red.gave.gave.high list z.number z.few_compounds size (λ w h. below_1 w (omega arith))
              (λ m h. lies.pair_below q m here h) red.gave.gave.held;
          apart = λ i m a b e.
              entries_apart i m a b
              (sym (below_1 (gift_pair i) (omega (arith, z.entries))) ∙ e ∙ below_1 (gift_pair m) (omega (arith, z.entries)));
        }

    -- The entries' pairs are assigned.
    module _ (s₂ : List ℕ) (r₂ : ℕ) (h₂ : GoalAssigned s₁ s₂ (clause_item (atlas g.query).names k c) (atlas g.query) (values_region figures) t.pairs
        t.pairs t.cells red.gave.gave.list r₂) where
      low_2 : (w : ℕ) → w < compounds_region → get_or s₂ w 0 ≡ get_or s w 0
      low_2 w h = h₂.kept.same w (inl (omega (arith, sizes.behind)), inl (omega arith)) ∙ h₁.kept.same w (inl (omega arith))

      high_2 : (w : ℕ) → vals + figures.pairs ≤ w → get_or s₂ w 0 ≡ get_or s w 0
      high_2 w h =
          let z = sizes in
          h₂.kept.same w (inr (omega (arith, z.before)), inr (omega (arith, z.pairs))) ∙ h₁.kept.same w (inr (omega (arith, z.pairs)))

      size_2 : length s₂ ≡ length s
      size_2 = h₂.kept.size ∙ h₁.kept.size

      log_2 : LogOk s₂ (waiting_region figures) (waiters_region figures) (sets_region figures) figures.pairs slots
      log_2 =
          log_kept s s₂ (waiting_region figures) (waiters_region figures) (sets_region figures) figures.pairs slots taken.running.log size_2
          (λ w a b. high_2 w (omega arith)) (λ w a b. high_2 w (omega arith))

      pub waking : Wakes s₂ (waiting_region figures) (waiters_region figures) (sets_region figures) figures.pairs slots n
      waking =
          let z = sizes in
          record {
            ok = log_2;
            few = z.entries;
            behind = omega arith;
            small = λ i h.
                rw (low_2 (gift_pair i) (omega (arith, z.entries)), entry_word i h)
                (omega (arith, lies.pair_below q _ here (entry_below i h), z.pairs));
          }

      abbrev pub zs : List ℕ
      zs = entry_places s₂ n

      zs_are : zs ≡ map (λ e. (atlas q).pair e.pair) list
      zs_are =
          let count : length list ≡ n = red.gave.gave.size in
          entry_places_are s₂ (item_places (atlas q).names k) (atlas q) n list count
          (entries_still s s₂ (item_places (atlas q).names k) (atlas q) 0 list (λ w a b. low_2 w (omega (arith, sizes.entries))) red.gave.gave.stand)

      each_hit : (ws : List Waiting) → AllStand s figures atlas σ.units (map (λ w. w.goal) ws) → Each (OwnReaders σ.units) ws
          → Each (λ w. hit zs (slot_of atlas w) ≡ wakes q given w) ws
      each_hit [] a b = tt
      each_hit (w ∷ ws) a b = (
        rw zs_are
            (hit_wakes atlas σ.units q given list here lies.pair_apart
            (entries_below s (setting figures (atlas q) unit) (template k c) red.gave.gave.low red.gave.gave.high list red.gave.gave.held) red.gave.gave.pairs_are w a.0.query b.0),
        each_hit ws a.1 b.1,
      )

      hit_all : Each (λ w. hit zs (slot_of atlas w) ≡ wakes q given w) σ.goals.waiting
      hit_all = each_hit σ.goals.waiting st.waiting_held (waiting_readers text j taken.running.reads limit figures)

      pub waked_are : WokenAre atlas q given σ.goals.waiting slots zs
      waked_are =
          record {
            woken_are = woken_are atlas q given zs slots σ.goals.waiting taken.running.waiting hit_all
                ∙ goals_first atlas (those (wakes q given) σ.goals.waiting);
            left_are = others_wait atlas q given zs slots σ.goals.waiting taken.running.waiting hit_all;
          }

      hits_number : length (hits zs 0 slots) ≡ length (those (wakes q given) σ.goals.waiting)
      hits_number = woken_number atlas q given zs slots σ.goals.waiting taken.running.waiting hit_all

      -- The woken goals are found.
      module _ (s₃ : List ℕ) (r : ℕ) (h₃ : Waked s₂ s₃ (waiting_region figures) (waiters_region figures) (sets_region figures) figures.pairs slots n r) where
        low_3 : (w : ℕ) → w < woken_part → get_or s₃ w 0 ≡ get_or s w 0
        low_3 w h = h₃.kept.same w (inl h, (inl (omega arith), inl (omega arith))) ∙ low_2 w (omega arith)

        size_3 : length s₃ ≡ length s
        size_3 = h₃.kept.size ∙ size_2

        body_held : HoldsGoals s₃ (item_places (atlas q).names k) (clause_goals_from k) 0 c.body
        body_held =
            let z = sizes in
            rw (lies.names_are q)
            (holds_clause_kept s s₃ names k (omega (arith, size_3)) c (λ i a b. low_3 (clause_record k + i) (omega (arith, z.number)))
            (λ i a b. low_3 i (omega (arith, z.number))) red.at.held).body

        fits_body : BodyFits c
        unfolding choice_for
        fits_body = body_fits text j taken.running.reads c (reduces_agrees unit g.goal c given j.clauses red.chosen).0

        goals_now : length others + length σ.goals.waiting + length σ.goals.failed + length c.body ≤ figures.goals
        unfolding number_of without_front
        goals_now = charges.2

        active_is : t.active ≡ length others + 1
        active_is = st.queue.number ∙ rw taken.front (omega arith)

        pub few_woken : r ≤ t.waiting
        few_woken = omega (arith, h₃.number, hits_number, length_those (wakes q given) σ.goals.waiting, st.waiting.number)

        module _ (front body : ℕ) (front_inside : front < figures.goals) (body_is : body ≡ length c.body) where
          pub adding : Adding s₃ x (clause_goals_from k) body P middle made (queue_region figures) figures.goals front (t.active - 1) c.body
          adding =
              let z = sizes in
              record {
                goes = goes;
                behind = omega (arith, z.behind);
                number = body_is;
                words = body_held;
                within = fits_body.within;
                from_before = omega (arith, z.number, z.few_goals);
                before = omega (arith, z.before);
                room = λ some. omega (arith, z.space (omega arith), z.room, z.some_goals, size_3);
                ring_ok = record { inside = omega (arith, z.room, size_3); front_inside = front_inside };
                space = omega (arith, goals_now, active_is);
                few = omega (arith, z.few_queries, (made_fits taken red).clause, (made_fits taken red).tries);
              }

          -- The body's goals join the queue.
          module _ (s₄ : List ℕ) (r₄ : ℕ) (h₄ : Added s₃ s₄ (clause_item (atlas g.query).names k c) body t.pairs
              (t.cells + total (entry_terms red.gave.gave.list)) made (queue_region figures) figures.goals front (t.active - 1) c.body r₄) where
            log_4 : LogOk s₄ (waiting_region figures) (waiters_region figures) (sets_region figures) figures.pairs (quieted zs slots)
            log_4 =
                let z = sizes in
                log_kept s₃ s₄ (waiting_region figures) (waiters_region figures) (sets_region figures) figures.pairs (quieted zs slots) h₃.ok h₄.kept.size
                (λ w a b. h₄.kept.same w (inr (omega (arith, z.before)), inl (omega arith)))
                (λ w a b. h₄.kept.same w (inr (omega (arith, z.before)), inr (omega arith)))

            pub adds_woken : AddsWoken s₄ (waiting_region figures) (waiters_region figures) (sets_region figures) figures.pairs slots zs r (queue_region figures)
                figures.goals front (t.active - 1 + body)
            adds_woken =
                let z = sizes in
                record {
                  ok = log_4;
                  number = h₃.number;
                  places =
                      listed_kept s₃ s₄ woken_part r (λ w a b. h₄.kept.same w (inl (omega (arith, h₃.few, z.behind)), inl (omega (arith, h₃.few)))) ∙ h₃.places;
                  few = h₃.few;
                  behind = omega arith;
                  ring_ok = record { inside = omega (arith, z.room, size_3, h₄.kept.size); front_inside = front_inside };
                  space =
                      omega (arith, goals_now, active_is, body_is, h₃.number, hits_number, length_those (wakes q given) σ.goals.waiting);
                  queue_behind = omega arith;
                  queue_before = omega arith;
                }

            -- The woken goals join it, and the query has a try more.
            module _ (s₅ : List ℕ) (h₅ : WokenAdded s₄ s₅ (waiting_region figures) (waiters_region figures) (sets_region figures) figures.pairs slots
                (entry_places s₂ n) r (queue_region figures) figures.goals front (t.active - 1 + body)) where
              -- A word of no copy is none of either part's.
              no_copy_2 : (w : ℕ) → Apart cells cells' w → Apart cells middle w
              no_copy_2 w (inl h) = inl h
              no_copy_2 w (inr h) = inr (omega arith)

              no_copy_4 : (w : ℕ) → Apart cells cells' w → Apart middle cells' w
              no_copy_4 w (inl h) = inl (omega arith)
              no_copy_4 w (inr h) = inr h

              same_5 : (w : ℕ) → Apart (vals + P) (vals + P + c.pairs) w → Apart cells cells' w → Apart vals (vals + P) w → Apart woken_part followed_part w
                  → NotLogged (waiting_region figures) (waiters_region figures) (sets_region figures) figures.pairs (length slots) w
                  → Apart (queue_region figures) (queue_region figures + figures.goals) w → get_or s₅ w 0 ≡ get_or s w 0
              same_5 w a b d e f h =
                  h₅.kept.same w (h, f) ∙ h₄.kept.same w (no_copy_4 w b, h) ∙ h₃.kept.same w (e, f) ∙ h₂.kept.same w (no_copy_2 w b, d)
                  ∙ h₁.kept.same w a

              low_5 : (w : ℕ) → w < woken_part → get_or s₅ w 0 ≡ get_or s w 0
              low_5 w h =
                  same_5 w (inl (omega arith)) (inl (omega (arith, sizes.behind))) (inl (omega arith)) (inl h) (inl (omega arith), inl (omega arith))
                  (inl (omega arith))

              size_4 : length s₄ ≡ length s
              size_4 = h₄.kept.size ∙ size_3

              pub size_5 : length s₅ ≡ length s
              size_5 = h₅.kept.size ∙ size_4

              pub tries_few : get_or s₅ (query_tries_word q) 0 ≤ 1000000
              tries_few =
                  rw (low_5 (query_tries_word q) (omega (arith, sizes.few_queries)))
                  (omega (arith, tries_below s text names j figures limit atlas slots t _ taken.running q here, taken.running.few_steps))

              abbrev s₆ : List ℕ
              s₆ = set s₅ (query_tries_word q) (get_or s₅ (query_tries_word q) 0 + 1)

              beyond : (w : ℕ) → items_region ≤ w → get_or s₆ w 0 ≡ get_or s₅ w 0
              beyond w h =
                  get_or-set_other s₅ (query_tries_word q) w (get_or s₅ (query_tries_word q) 0 + 1) 0 (λ e. omega (arith, sizes.few_queries))

              size_6 : length s₆ ≡ length s₅
              size_6 = length-set s₅ (query_tries_word q) (get_or s₅ (query_tries_word q) 0 + 1)

              only_6 : RunOnly figures s s₆
              only_6 =
                  let z = sizes in
                  record {
                    size = size_6 ∙ size_5;
                    before = λ w h.
                        get_or-set_other s₅ (query_tries_word q) w (get_or s₅ (query_tries_word q) 0 + 1) 0 (λ e. omega arith) ∙ low_5 w (omega arith);
                    records = λ i w h l other.
                        get_or-set_other s₅ (query_tries_word q) (query_record i + w) (get_or s₅ (query_tries_word q) 0 + 1) 0 (λ e. omega arith)
                        ∙ low_5 (query_record i + w) (omega arith);
                    items = λ w a b. beyond w a ∙ low_5 w (omega arith);
                    behind = λ w a.
                        beyond w (omega arith)
                        ∙ same_5 w (inr (omega (arith, z.pairs))) (inr (omega (arith, z.before))) (inr (omega (arith, z.pairs))) (inr (omega arith))
                        (inr (omega arith), inr (omega (arith, z.used))) (inr (omega arith));
                  }

              -- The pairs' values since the entries were assigned.
              since_2 : (w : ℕ) → vals ≤ w → w < vals + figures.pairs → get_or s₆ w 0 ≡ get_or s₂ w 0
              since_2 w a b =
                  let z = sizes in
                  beyond w (omega arith)
                  ∙ h₅.kept.same w (inl (omega arith), (inl b, inl (omega arith)))
                  ∙ h₄.kept.same w (inr (omega (arith, z.before)), inl (omega arith))
                  ∙ h₃.kept.same w (inr (omega arith), (inl b, inl (omega arith)))

              head_6 : (a : ℕ) → a < c.pairs → get_or s₆ (vals + (P + a)) 0 ≡ get_or s (trial_region + a) 0
              head_6 a h =
                  let z = sizes in
                  let e : vals + (P + a) ≡ vals + P + a = omega arith in
                  since_2 (vals + (P + a)) (omega arith) (omega (arith, z.pairs))
                  ∙ h₂.kept.same (vals + (P + a)) (inr (omega (arith, z.before)), inr (omega arith))
                  ∙ rw e (h₁.given a h)

              terms_2 : EntryTerms s₂ x (atlas q) P list
              terms_2 =
                  entries_held s s₂ figures unit (atlas q) P k c red.gave.gave.low red.gave.gave.high list sizes.number sizes.few_compounds size_2
                  (λ w h. low_2 w (omega arith)) (λ m h. lies.pair_below q m here h) red.gave.gave.held

              -- The copies from one scratch to a later one: of what is given, and of the body.
              entries_to : (s₀ s' : List ℕ) → length s' ≡ length s₀ → ((w : ℕ) → vals ≤ w → w < vals + P → get_or s' w 0 ≡ get_or s₀ w 0)
                  → ((w : ℕ) → cells ≤ w → w < middle → get_or s' w 0 ≡ get_or s₀ w 0)
                  → EntriesGiven s₀ (atlas q) places vals (length unit.values) unit.compounds list
                  → EntriesGiven s' (atlas q) places vals (length unit.values) unit.compounds list
              entries_to s₀ s' size words same =
                  entry_copies_stay x places P y (length unit.values) unit.compounds moved s₀ s' (omega arith) (atlas q) vals P cells list
                  (λ m h. words (vals + m) (omega arith) (omega arith)) same s₂ terms_2 spread_2

              entries_3 : EntriesGiven s₃ (atlas q) places vals (length unit.values) unit.compounds list
              entries_3 =
                  let z = sizes in
                  entries_to s₂ s₃ h₃.kept.size
                  (λ w a b. h₃.kept.same w (inr (omega arith), (inl (omega (arith, z.pairs)), inl (omega (arith, z.pairs)))))
                  (λ w a b. h₃.kept.same w (inr (omega (arith, z.behind)), (inl (omega (arith, z.before)), inl (omega (arith, z.before)))))
                  (h₂.given places y (length unit.values) unit.compounds moved spread_2)

              entries_4 : EntriesGiven s₄ (atlas q) places vals (length unit.values) unit.compounds list
              entries_4 =
                  let z = sizes in
                  entries_to s₃ s₄ h₄.kept.size
                  (λ w a b. h₄.kept.same w (inr (omega (arith, z.before)), inl (omega (arith, z.pairs))))
                  (λ w a b. h₄.kept.same w (inl b, inl (omega (arith, z.before)))) entries_3

              since_4 : (w : ℕ) → compounds_region ≤ w → w < waiters_region figures → get_or s₆ w 0 ≡ get_or s₄ w 0
              since_4 w a b = beyond w (omega arith) ∙ h₅.kept.same w (inl (omega arith), (inl b, inl (omega arith)))

              entries_6 : EntriesGiven s₆ (atlas q) places vals (length unit.values) unit.compounds list
              entries_6 =
                  let z = sizes in
                  entries_to s₄ s₆ (size_6 ∙ h₅.kept.size)
                  (λ w a b. since_4 w (omega arith) (omega (arith, z.pairs)))
                  (λ w a b. since_4 w (omega (arith, z.behind)) (omega (arith, z.before))) entries_4

              goals_6 : GoalsHeld s₆ places (length unit.values) unit.compounds c.body
              goals_6 =
                  let z = sizes in
                  let size : length s₆ ≡ length s₄ = size_6 ∙ h₅.kept.size in
                  goal_copies_stay x places P y (length unit.values) unit.compounds moved s₄ s₆ (omega arith) middle c.body
                  (λ w a b. since_4 w (omega (arith, z.behind)) (omega (arith, z.before)))
                  fits_body.within spread_4 (h₄.held places y (length unit.values) unit.compounds moved spread_4)

              log_6 : LogOk s₆ (waiting_region figures) (waiters_region figures) (sets_region figures) figures.pairs (emptied zs slots)
              log_6 =
                  log_kept s₅ s₆ (waiting_region figures) (waiters_region figures) (sets_region figures) figures.pairs (emptied zs slots) h₅.ok size_6
                  (λ w a b. beyond w (omega arith)) (λ w a b. beyond w (omega arith))

              queue_3 : ring s₃ (queue_region figures) figures.goals front (t.active - 1) ≡ ring s (queue_region figures) figures.goals front (t.active - 1)
              queue_3 =
                  ring_kept (queue_region figures) figures.goals s s₃ front (t.active - 1) (omega (arith, goals_now, active_is))
                  (λ w a b. h₃.kept.same w (inr (omega arith), (inr (omega arith), inl b)) ∙ high_2 w (omega arith))

              queue_6 : ring s₆ (queue_region figures) figures.goals front (t.active - 1 + length c.body + length (hits zs 0 slots))
                  ≡ (ring s (queue_region figures) figures.goals front (t.active - 1)
                  ++ map (λ b. packed made (places.compound (unit.compounds + b.number))) c.body)
                  ++ woken zs slots
              queue_6 =
                  rw (← body_is, ← h₃.number, ← queue_3)
                  (ring_kept (queue_region figures) figures.goals s₅ s₆ front (t.active - 1 + body + r) (omega (arith, adds_woken.space))
                  (λ w a b. beyond w (omega arith))
                  ∙ h₅.items
                  ∙ ap (λ l. l ++ woken zs slots) (h₄.items places y (length unit.values) unit.compounds moved spread_4))

              pub reduced : Reduced s s₆ figures atlas σ.units q P C cells cells' y c list slots zs front (t.active - 1)
              reduced =
                  let z = sizes in
                  record {
                    only = only_6;
                    tried =
                        get_or-set_same s₅ (query_tries_word q) (get_or s₅ (query_tries_word q) 0 + 1) 0 (omega (arith, size_5, z.room, z.few_queries))
                        ∙ ap (λ w. w + 1) (low_5 (query_tries_word q) (omega (arith, z.few_queries)));
                    tries = λ i h other.
                        get_or-set_other s₅ (query_tries_word q) (query_tries_word i) (get_or s₅ (query_tries_word q) 0 + 1) 0 (λ e. other (omega arith))
                        ∙ low_5 (query_tries_word i) (omega arith);
                    copied = copied;
                    older = λ w a b.
                        beyond w (omega arith)
                        ∙ same_5 w (inl (omega (arith, z.before))) (inl b) (inl (omega (arith, z.before))) (inr (omega arith))
                        (inl (omega (arith, z.before)), inl (omega (arith, z.before))) (inl (omega (arith, z.before)));
                    others = λ m h no.
                        since_2 (vals + m) (omega arith) (omega (arith, z.pairs)) ∙ h₂.others m no ∙ h₁.kept.same (vals + m) (inl (omega arith));
                    head = head_6;
                    entries = entries_6;
                    goals = goals_6;
                    marks = λ w a b.
                        beyond w (omega arith)
                        ∙ same_5 w (inr (omega (arith, z.pairs))) (inr (omega (arith, z.before))) (inr (omega (arith, z.pairs))) (inr (omega arith))
                        (inr (omega arith), inl (omega arith)) (inl (omega arith));
                    failed = λ w a b.
                        beyond w (omega arith)
                        ∙ same_5 w (inr (omega (arith, z.pairs))) (inr (omega (arith, z.before))) (inr (omega (arith, z.pairs))) (inr (omega arith))
                        (inr (omega arith), inr (omega (arith, z.used))) (inr (omega arith));
                    log = log_6;
                    queue = queue_6;
                    ends = λ w a b.
                        beyond w (omega arith)
                        ∙ same_5 w (inr (omega (arith, z.pairs))) (inr (omega (arith, z.before))) (inr (omega (arith, z.pairs))) (inr (omega arith))
                        (inr (omega arith), inl (omega arith)) (inl b);
                  }
