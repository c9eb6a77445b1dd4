-- A query is entered: its goals are copied into the queue, and its unit stands.
use Prim.Native.Nat.{ℕ, ◌+◌, ◌≤◌, ◌<◌}
use mathlib.Core.Path.{◌≡◌, refl, sym, ap, ◌∙◌}
use mathlib.Core.Logic.{◌≢◌, inl, inr}
use mathlib.Core.List.{List, [], ◌∷◌, ◌++◌, map}
use native.Mathlib.Omega.{arith}
use lib.ListN.{length, get_or, set, length-append, length-set}
use lib.Seq.{get_or-append_seam, get_or-set_same, get_or-set_other}
use Rattle.meaning.specs.Bytes.{Bytes}
use Rattle.meaning.specs.Terms.{Term, Terms, variable, constant, compound, end, more, Named, Query, Job, renamed, all_renamed, as_term}
use Rattle.meaning.specs.State.{Room, Goal, number_of, first_unit, goals_at, from_query, all_goals, query_pairs, query_compounds, start}
use Rattle.laws.proofs.Lists.EachOf.{Each, each_split}
use Rattle.laws.proofs.Reading.{accepted_keeps_the_figures}
use Rattle.laws.proofs.Reading.Figures.{QueryFits}
use Rattle.term.specs.Cells.{Places}
use Rattle.term.specs.Holds.{Holds}
use Rattle.term.specs.Jobs.{places_from, HoldsQuery, JobKept}
use Rattle.term.specs.Layout.{values_region, queue_region, query_record, query_base, query_first_pair_word, query_goals_from, query_stride, first_pair_at}
use Rattle.term.specs.Setting.{Ranged}
use Rattle.term.specs.States.{Atlas, goal_word, ring, listed, logged, AllStand, QueueStands, WaitingStand, FailedStand, HoldsState}
use Rattle.term.specs.declared.state.Standing.{Standing}
use Rattle.term.proofs.Holds.{holds_alike}
use Rattle.term.proofs.Jobs.{each_at, holds_job_kept}
use Rattle.run_effects.specs.Build.{Item, Copies, total, Moved}
use Rattle.run_effects.proofs.Spreading.{goals_rising}
use Rattle.run_enter.specs.Entering.{EnterOnly, Entered}
use Rattle.run_between.specs.Extended.{replaced_at}
use Rattle.run_effects.specs.Reducing.{Apart, GoalsWithin, goal_terms, GoalsHeld, Adding, Added}
use Rattle.run_enter.proofs.Adjoining.{
  next_places,
  Adjoins,
  all_append,
  lies_now,
  units_now,
  first_pairs_now,
  goals_older,
  words_older,
  goals_newer,
  words_newer,
}
use Rattle.run_between.proofs.Fresh.{Fresh, fresh}
use Rattle.run_between.proofs.BodyGoals.{goals_within, goals_ranged}
use Rattle.term.proofs.Units.{within_every}
use Rattle.term.proofs.Zeroing.{pairs_zero_kept}
use Rattle.run_between.proofs.OwnPairs.{no_query}
use Rattle.run_queues.proofs.Ring.{ring_kept}
use Rattle.run_enter.proofs.Starting.{pairs_more, compounds_more, goals_one_more, goals_at_number, Fits, fits_so_far}

-- Nothing is renamed by 0.
mutual
  unfolding renamed all_renamed

  renamed_none : (t : Term) → renamed 0 0 t ≡ t
  renamed_none (variable h n) = let e : 0 + n ≡ n = omega arith in rw e
  renamed_none (constant k) = refl
  renamed_none (compound n f ts) = let e : 0 + n ≡ n = omega arith in rw (e, all_renamed_none ts)

  all_renamed_none : (ts : Terms) → all_renamed 0 0 ts ≡ ts
  all_renamed_none end = refl
  all_renamed_none (more t ts) = rw (renamed_none t, all_renamed_none ts)

map_append : {A B : Type 0} (f : A → B) (l m : List A) → map f (l ++ m) ≡ map f l ++ map f m
map_append f [] m = refl
map_append f (a ∷ l) m = ap (λ k. f a ∷ k) (map_append f l m)

-- A query as an item: its own places, pairs and compounds.
abbrev pub item_of : List Bytes → ℕ → Query → Item
item_of names q x = record { places = places_from names (query_base q); pairs = length x.variables; compounds = x.compounds }

-- The standing with a query more.
pub record Onward (t u : Standing) (pairs compounds cells goals : ℕ) : Type 0 where
  pub pairs_are : u.pairs ≡ t.pairs + pairs
  pub compounds_are : u.compounds ≡ t.compounds + compounds
  pub cells_are : u.cells ≡ cells
  pub active_is : u.active ≡ t.active + goals
  pub front : u.front ≡ 0
  pub log : u.log ≡ 0
  pub waiting : u.waiting ≡ 0
  pub failed : u.failed ≡ 0
  pub steps : u.steps ≡ 0

module _ (s : List ℕ) (text : Bytes) (names : List Bytes) (j : Job) (figures : Room) (done : List Query) (x : Query) (rest : List Query)
    (atlas : Atlas) (t : Standing) (e : Entered s text names j figures done atlas t) (is : j.queries ≡ done ++ x ∷ rest) where
  abbrev q : ℕ
  q = length done

  abbrev P : ℕ
  P = t.pairs

  abbrev C : ℕ
  C = t.compounds

  abbrev item : Item
  item = item_of names (length done) x

  abbrev cells : ℕ
  cells = t.cells

  abbrev cells' : ℕ
  cells' = t.cells + total (goal_terms x.goals)

  pub in_order : length done < length j.queries
  in_order = omega (arith, ap (length {A = Query}) is, length-append done (x ∷ rest))

  pub few : length done < 8
  few = omega (arith, in_order, e.held.few_queries)

  pub query : HoldsQuery s names (length done) x
  query =
      let n : 0 + q ≡ q = omega arith in
      let it : get_or j.queries q no_query ≡ x = ap (λ qs. get_or qs q no_query) is ∙ get_or-append_seam done x rest no_query in
      let h : HoldsQuery s names (0 + q) (get_or j.queries q no_query) =
      each_at (HoldsQuery s names) 0 q j.queries no_query in_order e.held.queries
      in
      rw (n, it) at h

  figured : (bounds : List Bytes) × QueryFits bounds x
  figured =
      let f = (accepted_keeps_the_figures text j e.reads).queries in
      (_, (each_split (QueryFits _) done (x ∷ rest) (rw is at f)).1.0)

  within : GoalsWithin (length x.variables) x.compounds x.goals
  within = goals_within _ x.goals figured.1.goals

  ranged : Each (λ g. Ranged (as_term g)) x.goals
  ranged = goals_ranged _ x.goals figured.1.goals

  room : Fits figures done x
  room = fits_so_far figures j.queries done x rest is e.fit

  pairs_are : P ≡ query_pairs done
  unfolding start
  pairs_are = e.state.pairs

  compounds_are : C ≡ query_compounds done
  unfolding start
  compounds_are = e.state.compounds

  active_is : t.active ≡ length (all_goals 0 done)
  unfolding start
  active_is = e.state.queue.number

  pub pairs_fit : t.pairs + length x.variables ≤ figures.pairs
  pairs_fit = omega (arith, pairs_are, room.pairs)

  pub compounds_fit : t.compounds + x.compounds ≤ figures.compounds
  compounds_fit = omega (arith, compounds_are, room.compounds)

  pub goals_fit : t.active + length x.goals ≤ figures.goals
  goals_fit = omega (arith, active_is, room.goals)

  -- Where its compounds are copied to.
  pub copies : Fresh t.cells (t.compounds + x.compounds) (goal_terms x.goals)
  unfolding start
  copies =
      fresh 0 x.compounds t.cells t.compounds (goal_terms x.goals) (goals_rising 0 x.compounds x.goals query.laid.numbered)
      e.cells (omega (arith, e.state.lies.cells_fit, compounds_are))

  abbrev y : Copies
  y = copies.copies

  abbrev places : Places
  places = next_places names P y

  -- They lie before the values.
  before_values : cells' ≤ values_region figures
  before_values = omega (arith, copies.copied.fit, compounds_fit)

  moved : Moved item places P y 0 0
  moved =
      record {
        names = refl;
        pair_at = λ m h. omega arith;
        compound_at = λ m h. ap y.at (omega arith);
        width_at = λ m h. ap y.width (omega arith);
      }

  module _ (n : ℕ) (number : n ≡ length x.goals) where
    pub adding : Adding s item (query_goals_from (length done)) n t.pairs t.cells (length done)
        (queue_region figures) figures.goals 0 t.active x.goals
    adding =
        record {
          goes = record {
            own = λ m. refl;
            before = λ m h. omega (arith, few, query.laid.few_compounds);
            pairs_fit = omega (arith, pairs_fit, e.in_range.pairs);
          };
          behind = e.cells;
          number = number;
          words = query.words;
          within = within;
          from_before = omega (arith, few, number, query.laid.few_goals);
          before = omega (arith, before_values);
          room = λ some. omega (arith, copies.room some, compounds_fit, e.inside, e.state.queue.front_inside);
          ring_ok = record { inside = omega (arith, e.inside); front_inside = omega (arith, e.state.queue.front_inside, e.front) };
          space = omega (arith, goals_fit, number);
          few = omega (arith, few);
        }

    module _ (s₁ : List ℕ) (r : ℕ)
        (added : Added s s₁ item n t.pairs t.cells (length done) (queue_region figures) figures.goals 0 t.active x.goals r)
        (s' : List ℕ) (set_is : s' ≡ set s₁ (query_first_pair_word (length done)) t.pairs) where
      size : length s' ≡ length s
      size = ap length set_is ∙ length-set s₁ (query_first_pair_word q) P ∙ added.kept.size

      set_same : (k : ℕ) → (k ≡ query_first_pair_word q → ⊥) → get_or s' k 0 ≡ get_or s₁ k 0
      set_same k other = ap (λ l. get_or l k 0) set_is ∙ get_or-set_other s₁ (query_first_pair_word q) k P 0 other

      same : (k : ℕ) → Apart cells cells' k → Apart (queue_region figures) (queue_region figures + figures.goals) k
          → (k ≡ query_first_pair_word q → ⊥) → get_or s' k 0 ≡ get_or s k 0
      same k a b other = set_same k other ∙ added.kept.same k (a, b)

      first : get_or s' (query_first_pair_word (length done)) 0 ≡ t.pairs
      first =
          ap (λ l. get_or l (query_first_pair_word q) 0) set_is
          ∙ get_or-set_same s₁ (query_first_pair_word q) P 0 (omega (arith, added.kept.size, e.inside, few))

      -- A word of a record but where its own pairs begin.
      record_word : (k i : ℕ) → k < 8 → i < query_stride → i ≢ first_pair_at → get_or s' (query_record k + i) 0 ≡ get_or s (query_record k + i) 0
      record_word k i h l other =
          same (query_record k + i) (inl (omega (arith, e.cells))) (inl (omega arith)) (λ f. other (omega (arith, f)))

      pub only : EnterOnly figures s s'
      only =
          record {
            size = size;
            before = λ k h. same k (inl (omega (arith, e.cells))) (inl (omega arith)) (λ f. omega (arith, f));
            records = record_word;
            items = λ k h l. same k (inl (omega (arith, e.cells))) (inl (omega arith)) (λ f. omega (arith, f, few));
            pairs = λ k h l. same k (inr (omega (arith, before_values))) (inl (omega arith)) (λ f. omega (arith, f, few));
            behind = λ k h. same k (inr (omega (arith, before_values))) (inr (omega arith)) (λ f. omega (arith, f, few));
          }

      adjoins : Adjoins s s' names figures atlas done x t.pairs t.compounds t.cells (t.cells + total (goal_terms x.goals)) y
      unfolding start
      adjoins =
          record {
            lies = rw (pairs_are, compounds_are) e.state.lies;
            pairs_fit = pairs_fit;
            compounds_fit = compounds_fit;
            few = few;
            inside = omega (arith, size, e.inside);
            size = size;
            copied = copies.copied;
            older = λ k h l. same k (inl l) (inl (omega (arith, before_values))) (λ f. omega (arith, f, few));
            values = λ k h l. only.pairs k h (omega arith);
            zero = λ k h l. e.room_zero.values_waiters k h (omega arith);
            records = λ k h. same (query_first_pair_word k) (inl (omega (arith, few, e.cells))) (inl (omega (arith, few))) (λ f. omega (arith, f));
            first = first;
            tries = λ k h. record_word k 4 h (omega arith) (λ f. omega (arith, f));
            untried = e.tries_zero q few;
          }

      -- The copies are held behind the last write too.
      here : (gs : List Named) → GoalsWithin (length x.variables) x.compounds gs → GoalsHeld s₁ places 0 0 gs
          → Each (λ g. Holds s' places (as_term g)) gs
      unfolding GoalsWithin GoalsHeld
      here [] w h = tt
      here (g ∷ gs) w h = (
        holds_alike s₁ s' places (λ m. m < x.compounds) (omega (arith, size, added.kept.size))
            (λ m b k a c. set_same k (λ f. omega (arith, f, few, copies.copied.behind, (copies.copied.at m).0))) (as_term g)
            (within_every (length x.variables) x.compounds (as_term g) w.0) (rw (renamed_none (as_term g)) at h.0),
        here gs w.1 h.1,
      )

      abbrev atlas' : Atlas
      atlas' = replaced_at atlas (length done) (next_places names t.pairs y)

      old_queue : AllStand s figures atlas (map first_unit done) (all_goals 0 done)
      unfolding start
      old_queue = e.state.queue_held

      old_words : ring s (queue_region figures) figures.goals 0 t.active ≡ map (goal_word atlas) (all_goals 0 done)
      unfolding start
      old_words = let w = e.state.queue.words in rw e.front at w

      queue_held_now : AllStand s' figures atlas' (map first_unit (done ++ x ∷ [])) (all_goals 0 (done ++ x ∷ []))
      queue_held_now =
          rw (goals_one_more done x)
          (all_append s' figures atlas' (map first_unit (done ++ x ∷ [])) (all_goals 0 done) (goals_at from_query q x.goals)
          (goals_older s s' names figures atlas done x P C cells cells' y adjoins (all_goals 0 done) old_queue)
          (goals_newer s s' names figures atlas done x P C cells cells' y adjoins x.goals (here x.goals within (added.held places y 0 0 moved copies.spread_there)) within
          query.laid.known ranged))

      number_now : t.active + length x.goals ≡ length (all_goals 0 (done ++ x ∷ []))
      number_now =
          let a = ap (length {A = Goal}) (goals_one_more done x) in
          omega (arith, a, length-append (all_goals 0 done) (goals_at from_query q x.goals), goals_at_number q x.goals, active_is)

      words_now : ring s' (queue_region figures) figures.goals 0 (t.active + n) ≡ map (goal_word atlas') (all_goals 0 (done ++ x ∷ []))
      words_now =
          ring_kept (queue_region figures) figures.goals s₁ s' 0 (t.active + n) (omega (arith, goals_fit, number))
          (λ k h l. set_same k (λ f. omega (arith, f, few)))
          ∙ added.items places y 0 0 moved copies.spread_there
          ∙ rw (
            goals_one_more done x,
            map_append (goal_word atlas') (all_goals 0 done) (goals_at from_query q x.goals),
            words_older s s' names figures atlas done x P C cells cells' y adjoins (all_goals 0 done) old_queue,
            words_newer s s' names figures atlas done x P C cells cells' y adjoins x.goals,
            old_words,
          ) refl

      module _ (u : Standing) (onward : Onward t u (length x.variables) x.compounds r n) where
        queue_now : QueueStands s' figures atlas' u.front u.active (all_goals 0 (done ++ x ∷ []))
        queue_now =
            rw (onward.front, onward.active_is)
            (record {
              front_inside = omega (arith, e.state.queue.front_inside, e.front);
              number = omega (arith, number_now, number);
              words = words_now;
            })

        waiting_now : WaitingStand s' figures atlas' u.log u.waiting []
        unfolding logged
        waiting_now = rw (onward.log, onward.waiting) (record { fits = omega arith; number = refl; words = refl })

        failed_now : FailedStand s' figures atlas' u.failed []
        unfolding listed
        failed_now = rw onward.failed (record { number = refl; words = refl })

        pairs_now : t.pairs + length x.variables ≡ query_pairs (done ++ x ∷ [])
        unfolding query_pairs
        pairs_now = omega (arith, pairs_more done x [], pairs_are)

        compounds_now : t.compounds + x.compounds ≡ query_compounds (done ++ x ∷ [])
        unfolding query_compounds
        compounds_now = omega (arith, compounds_more done x [], compounds_are)

        state_now : HoldsState s' names figures (done ++ x ∷ []) atlas' (start (done ++ x ∷ [])) u
        unfolding start number_of
        state_now =
            record {
              pairs = onward.pairs_are ∙ pairs_now;
              compounds = onward.compounds_are ∙ compounds_now;
              steps = onward.steps;
              fits = omega (arith, number_now, goals_fit);
              lies = rw (onward.cells_are, added.behind, sym pairs_now, sym compounds_now) (lies_now s s' names figures atlas done x P C cells cells' y adjoins);
              units = units_now s s' names figures atlas done x P C cells cells' y adjoins e.state.units;
              first_pairs = first_pairs_now s s' names figures atlas done x P C cells cells' y adjoins e.state.first_pairs;
              queue_held = queue_held_now;
              waiting_held = tt;
              failed_held = tt;
              queue = queue_now;
              waiting = waiting_now;
              failed = failed_now;
            }

        job_kept : JobKept s s'
        job_kept =
            record {
              size = omega (arith, size);
              before = only.before;
              records = λ k i h l a b. record_word k i h l a;
              items = λ k h l. only.items k h (omega arith);
            }

        pub entered_now : Entered s' text names j figures (done ++ x ∷ []) atlas' u
        entered_now =
            record {
              in_range = e.in_range;
              inside = omega (arith, size, e.inside);
              reads = e.reads;
              fit = e.fit;
              held = holds_job_kept s s' names job_kept j e.held;
              state = state_now;
              cells = omega (arith, onward.cells_are, added.behind, e.cells);
              front = onward.front;
              log = onward.log;
              room_zero = pairs_zero_kept s s' figures only.pairs e.room_zero;
              tries_zero = λ k h. record_word k 4 h (omega arith) (λ f. omega (arith, f)) ∙ e.tries_zero k h;
            }
