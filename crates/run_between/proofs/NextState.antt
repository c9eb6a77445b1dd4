-- The state after a reduction, in the scratch as its parts have left it.
use Prim.Native.Nat.{ℕ, suc, ◌+◌, ◌-◌, ◌*◌, ◌≤◌, ◌<◌}
use mathlib.Core.Path.{◌≡◌, refl, sym, ap, ◌∙◌}
use mathlib.Core.Bool.{Bool, true, false, not}
use mathlib.Core.List.{List, [], ◌∷◌, ◌++◌, map}
use mathlib.Core.Option.{some}
use native.Mathlib.Omega.{arith}
use lib.ListN.{length, get_or, length-append, length-map}
use Rattle.meaning.specs.Bytes.{Bytes, those, when◌then◌else◌}
use Rattle.meaning.specs.Terms.{Term, Clause, Job}
use Rattle.meaning.specs.State.{Room, QueryUnit, Goal, Waiting, State, value, unit_at, number_of, goals_at}
use Rattle.meaning.specs.Compare.{Assignment}
use Rattle.meaning.specs.Trial.{reduces}
use Rattle.meaning.specs.Step.{unit_after, body_goals, wakes, goals_after, pairs_charged, compounds_charged, without_front, step, made_by}
use Rattle.meaning.specs.Run.{fits, choice_for, run}
use Rattle.laws.proofs.Lists.EachOf.{each_of_those}
use Rattle.laws.proofs.Lists.Filters.{length_those}
use Rattle.laws.proofs.Reading.{accepted_keeps_the_occurrence_rules}
use Rattle.laws.proofs.Runs.{run_within_room}
use Rattle.laws.proofs.Runs.Charges.{run_units}
use Rattle.laws.proofs.Runs.Counts.{within_says, after_within}
use Rattle.laws.proofs.Circle.{run_no_circle, step_values_stay}
use Rattle.laws.proofs.Single.{reduction_assigns_once}
use Rattle.laws.proofs.Trial.Chosen.{reduces_agrees}
use Rattle.term.specs.Jobs.{GoalsKnown, EachFrom, JobKept}
use Rattle.term.specs.Layout.{values_region, waiters_region, sets_region, marks_region, ends_region, queue_region, waiting_region, failed_region, need_of, trial_region, compounds_region, query_tries_word}
use Rattle.term.specs.States.{Atlas, setting, goal_word, ring, UnitsStand, FirstPair, AllStand, QueueStands, WaitingStand, FailedStand, HoldsState}
use Rattle.term.specs.declared.state.Standing.{Standing}
use Rattle.term.proofs.Jobs.{holds_job_kept}
use Rattle.term.specs.Words.{packed}
use Rattle.term.specs.Goals.{goal_mark}
use Rattle.run_index.proofs.Kept.{indexed_kept}
use Rattle.run_compare.specs.Gifts.{Entry}
use Rattle.run_trial.specs.Choosing.{template, MarksBelow}
use Rattle.run_queues.specs.Log.{Slot, LogOk, present}
use Rattle.run_effects.specs.Build.{Copies}
use Rattle.run_effects.specs.Reducing.{NoEntry, EntriesGiven, GoalsHeld, hits, woken, emptied, hit, goal_in}
use Rattle.run_queues.specs.Ring.{Passed}
use Rattle.run_between.specs.Running.{slot_of, RunOnly, AllEnds, Running, GroundMarks}
use Rattle.run_between.proofs.Origins.{made_fits}
use Rattle.run_between.proofs.Ends.{ends_grow}
use Rattle.run_between.specs.Taking.{Taken, Reducing}
use Rattle.run_between.proofs.BodyGoals.{body_fits, body_goals_stand, body_words}
use Rattle.run_between.proofs.Enlarging.{CopiedTo}
use Rattle.run_between.proofs.EntryByEntry.{no_entry_of, entry_stands}
use Rattle.run_between.proofs.GroundMarks.{grounds_grow}
use Rattle.run_queues.proofs.Listed.{listed_kept}
use Rattle.run_between.proofs.Logged.{map_both, waiting_logged}
use Rattle.run_between.proofs.Next.{run_next}
use Rattle.run_between.proofs.NextUnit.{enlarged, UnitReduced, next_unit_stands}
use Rattle.run_between.proofs.NextUnits.{atlas_after, units_after, Enlarges, as_many, grown, grown_here, goals_grow, goal_words_same, lies_after, units_stand, first_pairs_after}
use Rattle.run_between.proofs.OwnPairs.{run_own_pairs}
use Rattle.run_between.proofs.WaitingPairs.{OwnReaders, waiting_readers, slots_same}

-- What the parts of a reduction have left: P pairs and C compounds were charged, the first free word was `cells` and is `cells'`, the clause's compounds
-- are copied to y, q is the goal's query.
pub record Reduced (s s' : List ℕ) (figures : Room) (atlas : Atlas) (units : List QueryUnit) (q P C cells cells' : ℕ) (y : Copies) (c : Clause) (list : List Entry) (slots : List Slot)
    (zs : List ℕ) (front active : ℕ) : Type 0 where
  pub only : RunOnly figures s s'
  pub tried : get_or s' (query_tries_word q) 0 ≡ get_or s (query_tries_word q) 0 + 1
  pub tries : (k : ℕ) → k < 8 → (k ≡ q → ⊥) → get_or s' (query_tries_word k) 0 ≡ get_or s (query_tries_word k) 0
  pub copied : CopiedTo y cells cells' (C + c.compounds)
  pub older : (k : ℕ) → compounds_region ≤ k → k < cells → get_or s' k 0 ≡ get_or s k 0
  pub others : (z : ℕ) → z < P → NoEntry (atlas q) z list → get_or s' (values_region figures + z) 0 ≡ get_or s (values_region figures + z) 0
  pub head : (a : ℕ) → a < c.pairs → get_or s' (values_region figures + (P + a)) 0 ≡ get_or s (trial_region + a) 0
  pub entries : EntriesGiven s' (atlas q) (enlarged (atlas q) (unit_at q units) P y) (values_region figures)
      (length (unit_at q units).values) (unit_at q units).compounds list
  pub goals : GoalsHeld s' (enlarged (atlas q) (unit_at q units) P y) (length (unit_at q units).values) (unit_at q units).compounds c.body
  pub marks : (k : ℕ) → marks_region figures ≤ k → k < marks_region figures + figures.pairs → get_or s' k 0 ≡ get_or s k 0
  pub failed : (k : ℕ) → failed_region figures ≤ k → k < need_of figures → get_or s' k 0 ≡ get_or s k 0
  pub log : LogOk s' (waiting_region figures) (waiters_region figures) (sets_region figures) figures.pairs (emptied zs slots)
  pub queue : ring s' (queue_region figures) figures.goals front (active + length c.body + length (hits zs 0 slots))
      ≡ (ring s (queue_region figures) figures.goals front active
      ++ map (λ g. packed (goal_mark q (made_by c (unit_at q units))) ((enlarged (atlas q) (unit_at q units) P y).compound ((unit_at q units).compounds + g.number))) c.body)
      ++ woken zs slots
  pub ends : (k : ℕ) → ends_region figures ≤ k → k < queue_region figures → get_or s' k 0 ≡ get_or s k 0

-- The standing after it.
pub record StandingAfter (t u : Standing) (c : Clause) (cells front n : ℕ) : Type 0 where
  pub pairs : u.pairs ≡ t.pairs + c.pairs
  pub compounds : u.compounds ≡ t.compounds + c.compounds
  pub cells_are : u.cells ≡ cells
  pub front_is : u.front ≡ front
  pub active : u.active ≡ t.active - 1 + length c.body + n
  pub log : u.log ≡ t.log
  pub waiting : u.waiting ≡ t.waiting - n
  pub failed : u.failed ≡ t.failed
  pub steps : u.steps ≡ t.steps + 1

-- Which waiting goals are woken, by the log.
pub record WokenAre (atlas : Atlas) (query : ℕ) (given : List Assignment) (waiting : List Waiting) (slots : List Slot) (zs : List ℕ) : Type 0 where
  pub woken_are : woken zs slots ≡ map (goal_word atlas) (map (λ w. w.goal) (those (wakes query given) waiting))
  pub left_are : present (emptied zs slots) (length (emptied zs slots)) ≡ map (slot_of atlas) (those (λ w. not (wakes query given w)) waiting)

length_emptied : (zs : List ℕ) (slots : List Slot) → length (emptied zs slots) ≡ length slots
unfolding emptied
length_emptied zs [] = refl
length_emptied zs (v ∷ slots) = ap suc (length_emptied zs slots)

length_hits : (zs : List ℕ) (i : ℕ) (slots : List Slot) → length (hits zs i slots) ≡ length (woken zs slots)
unfolding hits woken when◌then◌else◌
length_hits zs i [] = refl
length_hits zs i (v ∷ slots) = go (hit zs v) (length_hits zs (i + 1) slots)
  where
    go : (b : Bool) → length (hits zs (i + 1) slots) ≡ length (woken zs slots)
        → length (when b then i ∷ hits zs (i + 1) slots else hits zs (i + 1) slots) ≡ length (when b then goal_in v ∷ woken zs slots else woken zs slots)
    go true e = ap suc e
    go false e = e

module _ (s : List ℕ) (figures : Room) (atlas : Atlas) (units : List QueryUnit) where
  all_append : (gs hs : List Goal) → AllStand s figures atlas units gs → AllStand s figures atlas units hs → AllStand s figures atlas units (gs ++ hs)
  all_append [] hs a b = b
  all_append (g ∷ gs) hs a b = (a.0, all_append gs hs a.1 b)

  all_those : (test : Waiting → Bool) (ws : List Waiting) → AllStand s figures atlas units (map (λ w. w.goal) ws)
      → AllStand s figures atlas units (map (λ w. w.goal) (those test ws))
  unfolding those when◌then◌else◌
  all_those test [] a = tt
  all_those test (w ∷ ws) a = go (test w) (all_those test ws a.1)
    where
      go : (b : Bool) → AllStand s figures atlas units (map (λ w. w.goal) (those test ws))
          → AllStand s figures atlas units (map (λ w. w.goal) (when b then w ∷ those test ws else those test ws))
      go true later = (a.0, later)
      go false later = later

module _ (s s' : List ℕ) (text : Bytes) (names : List Bytes) (j : Job) (figures : Room) (limit : ℕ) (atlas : Atlas) (slots : List Slot) (g : Goal)
    (others : List Goal) (t u : Standing) (query k n : ℕ) (c : Clause) (given : List Assignment) (cells' : ℕ) (y : Copies) (front : ℕ) (zs : List ℕ)
    (taken : Taken s text names j figures limit atlas slots g others t)
    (red : Reducing s names j figures limit atlas g query k n c given)
    (fit : fits figures (reduces c given) (run j limit figures).state (without_front others (run j limit figures).state.goals) ≡ true)
    (passed : Passed figures.goals t.front front)
    (done : Reduced s s' figures atlas (run j limit figures).state.units g.query t.pairs t.compounds t.cells cells' y c red.gave.gave.list slots
    zs front (t.active - 1))
    (after : StandingAfter t u c cells' front (length (hits zs 0 slots)))
    (waked : WokenAre atlas g.query given (run j limit figures).state.goals.waiting slots zs) where
  abbrev σ : State
  σ = (run j limit figures).state

  abbrev q : ℕ
  q = g.query

  abbrev P : ℕ
  P = t.pairs

  abbrev C : ℕ
  C = t.compounds

  abbrev cells : ℕ
  cells = t.cells

  abbrev unit : QueryUnit
  unit = unit_at q σ.units

  abbrev atlas' : Atlas
  atlas' = atlas_after atlas σ.units q P y

  abbrev units' : List QueryUnit
  units' = units_after c given σ.units q

  abbrev st : HoldsState s names figures j.queries atlas σ t
  st = taken.running.state

  charged : (σ.pairs + c.pairs ≤ figures.pairs) × (σ.compounds + c.compounds ≤ figures.compounds)
      × (number_of (without_front others σ.goals) + length c.body ≤ figures.goals)
  unfolding fits
  charged = within_says figures (σ.pairs + c.pairs) (σ.compounds + c.compounds) (number_of (without_front others σ.goals) + length c.body) fit

  front_stand : AllStand s figures atlas σ.units (g ∷ others)
  front_stand = rw taken.front at st.queue_held

  here : q < length σ.units
  here = front_stand.0.query

  enlarges : Enlarges s s' names figures atlas σ.units q P C cells cells' y c
  enlarges =
      record {
        lies = rw (st.pairs, st.compounds) st.lies;
        inside = here;
        pairs_fit = omega (arith, charged.0, st.pairs);
        compounds_fit = omega (arith, charged.1, st.compounds);
        size = done.only.size;
        copied = done.copied;
        older = done.older;
      }

  unit_reduced : UnitReduced s s' figures unit (atlas q) (values_region figures) P y k n c given
  unit_reduced =
      record {
        stands = st.units.unit q here;
        gave = red.gave.gave;
        once = reduction_assigns_once j (accepted_keeps_the_occurrence_rules text j taken.running.reads) limit figures g others taken.front c given red.chosen;
        below = λ m h. enlarges.lies.pair_below q m here h;
        apart = λ m l h i e. (enlarges.lies.pair_apart q q m l here here h i e).1;
        fit = enlarges.pairs_fit;
        grown = grown_here s s' names figures atlas σ.units q P C cells cells' y c given enlarges;
        inside = omega (arith, taken.running.inside, done.only.size);
        others = done.others;
        head = done.head;
        entries = done.entries;
      }

  other_pair : (i m : ℕ) → i < length σ.units → (i ≡ q → ⊥) → m < length (unit_at i σ.units).values
      → get_or s' (values_region figures + (atlas i).pair m) 0 ≡ get_or s (values_region figures + (atlas i).pair m) 0
  other_pair i m h other b =
      done.others ((atlas i).pair m) (enlarges.lies.pair_below i m h b)
      (no_entry_of (atlas q) ((atlas i).pair m) red.gave.gave.list
      (λ e l same.
      other (enlarges.lies.pair_apart i q m e.pair h here b
      (entry_stands s (setting figures (atlas q) unit) (template k c) red.gave.gave.low red.gave.gave.high red.gave.gave.list e l red.gave.gave.held).0 same).0))

  units_now : UnitsStand s' figures atlas' units'
  units_now =
      units_stand s s' names figures atlas σ.units q P C cells cells' y c given enlarges
      (next_unit_stands s s' figures unit (atlas q) (values_region figures) P y k n c given unit_reduced)
      other_pair done.tried (λ i h other. done.tries i (omega (arith, run_units j limit figures, taken.running.held.few_queries)) other) st.units

  first_pairs_now : EachFrom (FirstPair s' atlas') 0 j.queries
  first_pairs_now =
      first_pairs_after s s' names figures atlas σ.units q P C cells cells' y c given enlarges j.queries (sym (run_units j limit figures))
      taken.running.held.few_queries (run_own_pairs j limit figures)
      (λ i h. done.only.records i 3 h (omega arith) (λ e. omega arith)) st.first_pairs

  -- The goals.
  abbrev woke : List Goal
  woke = map (λ w. w.goal) (those (wakes q given) σ.goals.waiting)

  abbrev left : List Waiting
  left = those (λ w. not (wakes q given w)) σ.goals.waiting

  grow : (gs : List Goal) → AllStand s figures atlas σ.units gs → AllStand s' figures atlas' units' gs
  grow gs h = goals_grow s s' names figures atlas σ.units q P C cells cells' y c given enlarges gs h

  woke_stand : AllStand s figures atlas σ.units woke
  woke_stand = all_those s figures atlas σ.units (wakes q given) σ.goals.waiting st.waiting_held

  left_stand : AllStand s figures atlas σ.units (map (λ w. w.goal) left)
  left_stand = all_those s figures atlas σ.units (λ w. not (wakes q given w)) σ.goals.waiting st.waiting_held

  known_body : GoalsKnown names c.body
  unfolding GoalsKnown
  known_body = red.at.held.laid.known.1

  body_now : AllStand s' figures atlas' units' (body_goals c unit q)
  unfolding choice_for
  body_now =
      body_goals_stand s s' names figures atlas σ.units q P C cells cells' y c given enlarges (made_fits taken red) done.goals
      (body_fits text j taken.running.reads c (reduces_agrees unit g.goal c given j.clauses red.chosen).0)
      known_body

  queue_now : AllStand s' figures atlas' units' (others ++ body_goals c unit q ++ woke)
  queue_now =
      all_append s' figures atlas' units' (others ++ body_goals c unit q) woke
      (all_append s' figures atlas' units' others (body_goals c unit q) (grow others front_stand.1) body_now)
      (grow woke woke_stand)

  words_same : (gs : List Goal) → AllStand s figures atlas σ.units gs → map (goal_word atlas') gs ≡ map (goal_word atlas) gs
  words_same gs h = goal_words_same s s' names figures atlas σ.units q P C cells cells' y c given enlarges gs h

  active_is : t.active ≡ length others + 1
  active_is = st.queue.number ∙ rw taken.front (omega arith)

  many : length others + 1 ≤ figures.goals
  unfolding number_of
  many = let e = ap (length {A = Goal}) taken.front in omega (arith, st.fits, e)

  rest_words : ring s (queue_region figures) figures.goals front (t.active - 1) ≡ map (goal_word atlas) others
  rest_words =
      let m = t.active - 1 in
      let number : t.active ≡ m + 1 = omega (arith, active_is) in
      let whole : ring s (queue_region figures) figures.goals t.front t.active ≡ goal_word atlas g ∷ map (goal_word atlas) others =
      st.queue.words ∙ ap (map (goal_word atlas)) taken.front
      in
      let first : ring s (queue_region figures) figures.goals t.front (m + 1)
      ≡ get_or s (queue_region figures + t.front) 0 ∷ ring s (queue_region figures) figures.goals front m =
      passed.items s (queue_region figures) m (omega (arith, active_is, many))
      in
      let same : ring s (queue_region figures) figures.goals t.front (m + 1) ≡ goal_word atlas g ∷ map (goal_word atlas) others = rw number at whole in
      tail_same (sym first ∙ same)
    where
      tail_same : {a b : ℕ} {l r : List ℕ} → ◌∷◌ a l ≡ ◌∷◌ b r → l ≡ r
      tail_same e = cc

  number_woken : length (hits zs 0 slots) ≡ length (those (wakes q given) σ.goals.waiting)
  number_woken =
      length_hits zs 0 slots ∙ ap (length {A = ℕ}) waked.woken_are ∙ simp length-map

  queue_words : ring s' (queue_region figures) figures.goals front (t.active - 1 + length c.body + length (hits zs 0 slots))
      ≡ map (goal_word atlas') (others ++ body_goals c unit q ++ woke)
  queue_words =
      done.queue
      ∙ rw (
        rest_words,
        waked.woken_are,
        ← words_same others front_stand.1,
        ← words_same woke woke_stand,
        ← body_words s s' names figures atlas σ.units q P C cells cells' y c given enlarges,
        map_both (goal_word atlas') (others ++ body_goals c unit q) woke,
        map_both (goal_word atlas') others (body_goals c unit q),
      )

  queue_number : t.active - 1 + length c.body + length (hits zs 0 slots) ≡ length (others ++ body_goals c unit q ++ woke)
  unfolding body_goals goals_at
  queue_number =
      simp (length-append, length-map) (omega (arith, active_is, number_woken))

  queue_stands_now : QueueStands s' figures atlas' u.front u.active (others ++ body_goals c unit q ++ woke)
  queue_stands_now =
      rw (after.front_is, after.active)
      (record { front_inside = passed.front_inside; number = queue_number; words = queue_words })

  left_is : present (emptied zs slots) (length (emptied zs slots)) ≡ map (slot_of atlas') left
  left_is =
      waked.left_are
      ∙ sym (slots_same s s' names figures atlas σ.units q P C cells cells' y c given enlarges left left_stand
      (each_of_those (OwnReaders σ.units) (λ w. not (wakes q given w)) σ.goals.waiting (waiting_readers text j taken.running.reads limit figures)))

  log_number_now : u.log ≡ length (emptied zs slots)
  log_number_now = after.log ∙ taken.running.log_number ∙ sym (length_emptied zs slots)

  waiting_now : WaitingStand s' figures atlas' u.log u.waiting left
  waiting_now =
      record {
        fits = omega (arith, after.log, st.waiting.fits);
        number = omega (arith, after.waiting, st.waiting.number, number_woken, length_those (wakes q given) σ.goals.waiting);
        words = rw log_number_now
            (waiting_logged s' (waiting_region figures) (waiters_region figures) (sets_region figures) figures.pairs (emptied zs slots) atlas' left done.log left_is);
      }

  few_failed : t.failed ≤ figures.goals
  unfolding number_of
  few_failed = omega (arith, st.failed.number, st.fits)

  failed_now : FailedStand s' figures atlas' u.failed σ.goals.failed
  failed_now =
      record {
        number = after.failed ∙ st.failed.number;
        words = rw after.failed
            (listed_kept s s' (failed_region figures) t.failed (λ x a b. done.failed x a (omega (arith, few_failed)))
            ∙ st.failed.words ∙ sym (words_same σ.goals.failed st.failed_held));
      }

  number_now : number_of (step (reduces c given) g others σ).goals ≤ figures.goals
  number_now = (after_within figures (reduces c given) g others σ taken.front fit (run_within_room j limit figures taken.running.fit)).goals

  state_now : HoldsState s' names figures j.queries atlas' (step (reduces c given) g others σ) u
  unfolding step goals_after unit_after without_front pairs_charged compounds_charged
  state_now =
      record {
        pairs = after.pairs ∙ ap (λ m. m + c.pairs) st.pairs;
        compounds = after.compounds ∙ ap (λ m. m + c.compounds) st.compounds;
        steps = after.steps ∙ ap (λ m. m + 1) st.steps;
        fits = number_now;
        lies = rw (after.cells_are, ← st.pairs, ← st.compounds) (lies_after s s' names figures atlas σ.units q P C cells cells' y c given enlarges);
        units = units_now;
        first_pairs = first_pairs_now;
        queue_held = queue_now;
        waiting_held = grow (map (λ w. w.goal) left) left_stand;
        failed_held = grow σ.goals.failed st.failed_held;
        queue = queue_stands_now;
        waiting = waiting_now;
        failed = failed_now;
      }

  next_is : (run j (limit + 1) figures).state ≡ step (reduces c given) g others σ
  next_is =
      run_next j limit figures g others taken.front (rw red.chosen fit) ∙ ap (λ o. step o g others σ) red.chosen

  job_kept : JobKept s s'
  job_kept =
      record {
        size = omega (arith, done.only.size);
        before = done.only.before;
        records = λ i w h l a b. done.only.records i w h l b;
        items = done.only.items;
      }

  left_now : present (emptied zs slots) (length (emptied zs slots)) ≡ map (slot_of atlas') (step (reduces c given) g others σ).goals.waiting
  unfolding step goals_after without_front
  left_now = left_is

  marks_now : MarksBelow s' (marks_region figures) figures.pairs (u.steps * 32768 + 2)
  marks_now x a b = rw (done.marks x a b) (omega (arith, taken.running.marks x a b, after.steps))

  stays : (i m : ℕ) (v : Term) → value (unit_at i σ.units).values m ≡ some v
      → value (unit_at i (step (reduces c given) g others σ).units).values m ≡ some v
  stays i m v e = rw red.chosen at (step_values_stay j.clauses σ g others (run_no_circle j limit figures) i m v e)

  ends_now : AllEnds s' figures atlas' (step (reduces c given) g others σ).units
  unfolding step unit_after
  ends_now =
      ends_grow s s' figures atlas atlas' σ.units units' (omega (arith, as_many s s' names figures atlas σ.units q P C cells cells' y c given enlarges))
      (grown s s' names figures atlas σ.units q P C cells cells' y c given enlarges) stays done.ends taken.running.ends

  grounds_now : GroundMarks s' figures atlas' (step (reduces c given) g others σ).units
  unfolding step unit_after
  grounds_now =
      grounds_grow s s' figures atlas atlas' σ.units units' done.marks (omega (arith, as_many s s' names figures atlas σ.units q P C cells cells' y c given enlarges))
      (λ i h. (grown s s' names figures atlas σ.units q P C cells cells' y c given enlarges i h).more_pairs)
      (λ i m h l. (grown s s' names figures atlas σ.units q P C cells cells' y c given enlarges i h).agree.pair m l)
      (λ i h. stays i) taken.running.grounds

  pub running_now : Running s' text names j figures (limit + 1) atlas' (emptied zs slots) u (u.steps * 32768 + 2)
  running_now =
      record {
        in_range = taken.running.in_range;
        inside = omega (arith, taken.running.inside, done.only.size);
        reads = taken.running.reads;
        fit = taken.running.fit;
        few_steps = omega (arith, after.steps, taken.more);
        held = holds_job_kept s s' names job_kept j taken.running.held;
        indexed = indexed_kept s s' names j taken.running.held (holds_job_kept s s' names job_kept j taken.running.held) job_kept.before 0
            taken.running.indexed;
        state = rw next_is state_now;
        log = done.log;
        log_number = log_number_now;
        waiting = rw next_is left_now;
        marks = marks_now;
        ends = rw next_is ends_now;
        grounds = rw next_is grounds_now;
      }
