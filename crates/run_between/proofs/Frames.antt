-- What a change of words leaves of a state that the scratch holds: each part reads the words of its own region.
-- The units after the change may differ in their tries: their values and compounds are what the parts read.
use Prim.Native.Nat.{ℕ, zero, suc, ◌+◌, ◌*◌, ◌≤◌, ◌<◌}
use mathlib.Core.Path.{◌≡◌, refl, ap, ◌∙◌}
use mathlib.Core.List.{List, [], ◌∷◌}
use mathlib.Core.Option.{Option, none, some}
use native.Mathlib.Omega.{arith}
use lib.ListN.{length, get_or, set, length-set}
use lib.Seq.{get_or-set_same, get_or-set_other}
use Rattle.meaning.specs.Bytes.{Bytes}
use Rattle.meaning.specs.Terms.{Term, Query, as_term}
use Rattle.meaning.specs.State.{Room, QueryUnit, Goal, Waiting, value, no_unit, unit_at}
use Rattle.term.specs.Jobs.{EachFrom}
use Rattle.term.specs.Layout.{values_region, queue_region, waiting_region, failed_region, compounds_region, query_first_pair_word, query_tries_word}
use Rattle.term.specs.Setting.{Setting, OfUnit, UnitStands}
use Rattle.term.specs.States.{Atlas, setting_at, Lies, UnitsStand, FirstPair, GoalStands, AllStand, logged, QueueStands, FailedStand, WaitingStand}
use Rattle.term.proofs.Holds.{EveryValue, holds_value_alike}
use Rattle.term.proofs.Units.{within_every, unit_term_alike}
use Rattle.term.proofs.Jobs.{each_map}
use Rattle.run_queues.proofs.Listed.{listed_kept}
use Rattle.run_queues.proofs.Log.{by_place}
use Rattle.run_queues.proofs.Ring.{ring_kept}

-- One unit: the words of its compounds, and of its pairs, stay.
module _ (s s' : List ℕ) (x : Setting) (size : length s ≤ length s')
    (cells : (n : ℕ) → n < x.compounds → (k : ℕ) → x.places.compound n ≤ k → k < x.places.compound n + x.places.width n → get_or s' k 0 ≡ get_or s k 0) where
  every_value : (v : Option Term) → ((t : Term) → v ≡ some t → OfUnit x t) → EveryValue (λ n. n < x.compounds) v
  unfolding EveryValue
  every_value none of = tt
  every_value (some t) of = within_every (length x.values) x.compounds t (of t refl).within

  pub unit_stands_kept : (from : ℕ)
      → ((n : ℕ) → n < length x.values → get_or s' (from + x.places.pair n) 0 ≡ get_or s (from + x.places.pair n) 0)
      → UnitStands s x from → UnitStands s' x from
  unit_stands_kept from own h = record {
    held = record {
      inside = omega (arith, h.held.inside);
      place = h.held.place;
      stands = λ n l. own n l ∙ h.held.stands n l;
      held = λ n l. holds_value_alike s s' x.places (λ n. n < x.compounds) size cells (value x.values n)
          (every_value (value x.values n) (λ t e. h.of n t l e)) (h.held.held n l);
    };
    of = h.of;
  }

-- Units that differ at most in their tries.
pub record UnitsAlike (units units' : List QueryUnit) : Type 0 where
  pub number : length units' ≡ length units
  pub values : (k : ℕ) → (unit_at k units').values ≡ (unit_at k units).values
  pub compounds : (k : ℕ) → (unit_at k units').compounds ≡ (unit_at k units).compounds

pub units_same : (units : List QueryUnit) → UnitsAlike units units
units_same units = record { number = refl; values = λ k. refl; compounds = λ k. refl }

pub units_set : (units : List QueryUnit) (q : ℕ) (u : QueryUnit) → q < length units → u.values ≡ (unit_at q units).values
    → u.compounds ≡ (unit_at q units).compounds → UnitsAlike units (set units q u)
unfolding unit_at
units_set units q u h v c = record {
  number = length-set units q u;
  values = λ k. by_place k q
      (λ e. rw (e, get_or-set_same units q u no_unit h) v)
      (λ e. ap (λ w. w.values) (get_or-set_other units q k u no_unit e));
  compounds = λ k. by_place k q
      (λ e. rw (e, get_or-set_same units q u no_unit h) c)
      (λ e. ap (λ w. w.compounds) (get_or-set_other units q k u no_unit e));
}

-- The words of the compounds, which lie before a first free word, and of the values stay.
pub record UnitsKept (figures : Room) (free : ℕ) (s s' : List ℕ) : Type 0 where
  pub size : length s' ≡ length s
  pub cells : (k : ℕ) → compounds_region ≤ k → k < free → get_or s' k 0 ≡ get_or s k 0
  pub values : (k : ℕ) → values_region figures ≤ k → k < values_region figures + figures.pairs → get_or s' k 0 ≡ get_or s k 0

-- The compounds lie before the values.
pub cells_before : {names : List Bytes} {figures : Room} {atlas : Atlas} {units : List QueryUnit} {pairs compounds cells : ℕ}
    → Lies names figures atlas units pairs compounds cells → cells ≤ values_region figures
cells_before lies = omega (arith, lies.cells_fit, lies.compounds_fit)

module _ (s s' : List ℕ) (names : List Bytes) (figures : Room) (atlas : Atlas) (units units' : List QueryUnit) (pairs compounds cells : ℕ)
    (lies : Lies names figures atlas units pairs compounds cells) (kept : UnitsKept figures cells s s') (alike : UnitsAlike units units') where
  pub cells_at : (q : ℕ) → q < length units → (n : ℕ) → n < (unit_at q units).compounds
      → (k : ℕ) → (atlas q).compound n ≤ k → k < (atlas q).compound n + (atlas q).width n → get_or s' k 0 ≡ get_or s k 0
  cells_at q h n l k a b =
      kept.cells k (omega (arith, lies.compound_behind q n h l)) (omega (arith, lies.compound_below q n h l))

  pub same_setting : (q : ℕ) → setting_at figures atlas units' q ≡ setting_at figures atlas units q
  same_setting q =
      let v = alike.values q in
      let c = alike.compounds q in
      cc

  pub unit_kept : (q : ℕ) → q < length units → UnitStands s (setting_at figures atlas units q) (values_region figures)
      → UnitStands s' (setting_at figures atlas units' q) (values_region figures)
  unit_kept q h u =
      rw (same_setting q)
      (unit_stands_kept s s' (setting_at figures atlas units q) (omega (arith, kept.size)) (cells_at q h) (values_region figures)
      (λ n l. kept.values (values_region figures + (atlas q).pair n) (omega arith)
      (omega (arith, lies.pair_below q n h l, lies.pairs_fit)))
      u)

  pub goal_kept : (g : Goal) → GoalStands s figures atlas units g → GoalStands s' figures atlas units' g
  goal_kept g h = record {
    query = omega (arith, h.query, alike.number);
    term = rw (same_setting g.query)
        (unit_term_alike s s' (setting_at figures atlas units g.query) (omega (arith, kept.size)) (cells_at g.query h.query)
        (as_term g.goal) h.term);
    origin = h.origin;
  }

  pub goals_kept : (gs : List Goal) → AllStand s figures atlas units gs → AllStand s' figures atlas units' gs
  goals_kept [] h = tt
  goals_kept (g ∷ gs) h = (goal_kept g h.0, goals_kept gs h.1)

  pub lies_kept : Lies names figures atlas units' pairs compounds cells
  lies_kept = record {
    names_are = lies.names_are;
    pairs_fit = lies.pairs_fit;
    compounds_fit = lies.compounds_fit;
    cells_fit = lies.cells_fit;
    pair_below = λ k n h l. lies.pair_below k n (rw alike.number at h) (rw (alike.values k) at l);
    pair_apart = λ k m n o h i l p e.
        lies.pair_apart k m n o (rw alike.number at h) (rw alike.number at i) (rw (alike.values k) at l) (rw (alike.values m) at p) e;
    compound_behind = λ k n h l. lies.compound_behind k n (rw alike.number at h) (rw (alike.compounds k) at l);
    compound_below = λ k n h l. lies.compound_below k n (rw alike.number at h) (rw (alike.compounds k) at l);
  }

-- The units stand: their values, and their tries where those words stay.
pub units_kept : (s s' : List ℕ) (names : List Bytes) (figures : Room) (atlas : Atlas) (units : List QueryUnit) (pairs compounds cells : ℕ)
    → Lies names figures atlas units pairs compounds cells → UnitsKept figures cells s s'
    → ((k : ℕ) → k < length units → get_or s' (query_tries_word k) 0 ≡ get_or s (query_tries_word k) 0)
    → UnitsStand s figures atlas units → UnitsStand s' figures atlas units
units_kept s s' names figures atlas units pairs compounds cells lies kept own h = record {
  unit = λ k l. unit_kept s s' names figures atlas units units pairs compounds cells lies kept (units_same units) k l (h.unit k l);
  tries = λ k l. own k l ∙ h.tries k l;
}

-- One query has a try more.
pub units_tried : (s s' : List ℕ) (names : List Bytes) (figures : Room) (atlas : Atlas) (units : List QueryUnit) (pairs compounds cells : ℕ)
    → Lies names figures atlas units pairs compounds cells → UnitsKept figures cells s s' → (q : ℕ) (u : QueryUnit) → q < length units
    → u.values ≡ (unit_at q units).values → u.compounds ≡ (unit_at q units).compounds → u.tries ≡ (unit_at q units).tries + 1
    → ((k : ℕ) → k < length units → (k ≡ q → ⊥) → get_or s' (query_tries_word k) 0 ≡ get_or s (query_tries_word k) 0)
    → get_or s' (query_tries_word q) 0 ≡ get_or s (query_tries_word q) 0 + 1
    → UnitsStand s figures atlas units → UnitsStand s' figures atlas (set units q u)
unfolding unit_at
units_tried s s' names figures atlas units pairs compounds cells lies kept q u inside v c e others own h =
    let alike = units_set units q u inside v c in
    record {
      unit = λ k l.
          let m : k < length units = omega (arith, alike.number) in
          unit_kept s s' names figures atlas units (set units q u) pairs compounds cells lies kept alike k m (h.unit k m);
      tries = λ k l. tries_now k (omega (arith, alike.number));
    }
  where
    tries_now : (k : ℕ) → k < length units → get_or s' (query_tries_word k) 0 ≡ (unit_at k (set units q u)).tries
    tries_now k l = by_place k q
        (λ f. rw (f, get_or-set_same units q u no_unit inside) (omega (arith, own, h.tries q inside, e)))
        (λ f. rw (get_or-set_other units q k u no_unit f) (others k l f ∙ h.tries k l))

-- Where the queries' own pairs begin.
pub first_pairs_kept : (s s' : List ℕ) (atlas : Atlas) (queries : List Query) → length queries ≤ 8
    → ((k : ℕ) → k < 8 → get_or s' (query_first_pair_word k) 0 ≡ get_or s (query_first_pair_word k) 0)
    → EachFrom (FirstPair s atlas) 0 queries → EachFrom (FirstPair s' atlas) 0 queries
first_pairs_kept s s' atlas queries few own h =
    each_map (FirstPair s atlas) (FirstPair s' atlas) 0 queries
    (λ k q l m p n o. rw (own k (omega arith)) (p n o)) h

-- The lists of goals.
pub queue_kept : (s s' : List ℕ) (figures : Room) (atlas : Atlas) (front active : ℕ) (goals : List Goal) → active ≤ figures.goals
    → ((k : ℕ) → queue_region figures ≤ k → k < queue_region figures + figures.goals → get_or s' k 0 ≡ get_or s k 0)
    → QueueStands s figures atlas front active goals → QueueStands s' figures atlas front active goals
queue_kept s s' figures atlas front active goals few own h = record {
  front_inside = h.front_inside;
  number = h.number;
  words = ring_kept (queue_region figures) figures.goals s s' front active (omega (arith, h.front_inside)) own ∙ h.words;
}

pub failed_kept : (s s' : List ℕ) (figures : Room) (atlas : Atlas) (failed : ℕ) (goals : List Goal)
    → ((k : ℕ) → failed_region figures ≤ k → k < failed_region figures + failed → get_or s' k 0 ≡ get_or s k 0)
    → FailedStand s figures atlas failed goals → FailedStand s' figures atlas failed goals
failed_kept s s' figures atlas failed goals own h =
    record { number = h.number; words = listed_kept s s' (failed_region figures) failed own ∙ h.words }

pub logged_kept : (s s' : List ℕ) (log n : ℕ) → ((k : ℕ) → log ≤ k → k < log + 2 * n → get_or s' k 0 ≡ get_or s k 0) → logged s' log n ≡ logged s log n
unfolding logged
logged_kept s s' log zero own = refl
logged_kept s s' log (suc n) own =
    rw (logged_kept s s' log n (λ k a b. own k a (omega arith)), own (log + 2 * n) (omega arith) (omega arith))

pub waiting_kept : (s s' : List ℕ) (figures : Room) (atlas : Atlas) (log waiting : ℕ) (goals : List Waiting)
    → ((k : ℕ) → waiting_region figures ≤ k → k < waiting_region figures + 2 * log → get_or s' k 0 ≡ get_or s k 0)
    → WaitingStand s figures atlas log waiting goals → WaitingStand s' figures atlas log waiting goals
waiting_kept s s' figures atlas log waiting goals own h =
    record { fits = h.fits; number = h.number; words = logged_kept s s' (waiting_region figures) log own ∙ h.words }
