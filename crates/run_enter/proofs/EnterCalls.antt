-- What entering a query asks of the parts that it calls, and what it comes to; and the queries entered one by one, beginning with none.
use Prim.Native.Nat.{ℕ, suc, ◌+◌, ◌≤◌, ◌<◌}
use mathlib.Core.Path.{◌≡◌, refl, sym, ap, ◌∙◌}
use mathlib.Core.Bool.{true}
use mathlib.Core.Logic.{inr}
use mathlib.Core.List.{List, [], ◌∷◌, ◌++◌}
use native.Mathlib.Omega.{arith}
use native.Mathlib.Numerals.{add-one}
use lib.ListN.{length, get_or, set, take, drop}
use lib.Seq.{take-suc, split_at, length-take-le, take-length}
use Rattle.meaning.specs.Bytes.{Bytes}
use Rattle.meaning.specs.Terms.{Named, Query, Job}
use Rattle.meaning.specs.State.{Room, number_of, all_goals, query_pairs, query_compounds, start}
use Rattle.meaning.specs.Run.{queries_fit}
use Rattle.laws.proofs.Lists.EachOf.{Each}
use Rattle.laws.proofs.Reading.{accepted_keeps_the_figures}
use Rattle.laws.proofs.Reading.Figures.{QueryFits}
use Rattle.term.specs.Jobs.{EachFrom}
use Rattle.term.specs.Layout.{queue_region, compounds_region, query_record, query_pairs_word, query_compounds_word, query_first_pair_word, query_goals_from}
use Rattle.term.specs.States.{Atlas, ring, logged, listed, Ready}
use Rattle.term.specs.declared.state.Standing.{Standing}
use Rattle.run_effects.specs.Build.{Item}
use Rattle.run_enter.specs.Entering.{EnterOnly, Entered}
use Rattle.run_effects.specs.Reducing.{Adding, Added}
use Rattle.run_enter.proofs.Entering.{item_of, Onward, few, query, pairs_fit, compounds_fit, goals_fit, adding, only, entered_now}
use Rattle.run_between.proofs.OwnPairs.{no_query}
use Rattle.run_enter.proofs.Starting.{fits_so_far}

-- What `enter` asks.
abbrev pub Enters : List ℕ → Room → ℕ → Standing → Type 0
Enters s figures q t =
    (text : Bytes) × (names : List Bytes) × (j : Job) × (done : List Query) × (x : Query) × (rest : List Query) × (atlas : Atlas)
    × Entered s text names j figures done atlas t × (j.queries ≡ done ++ x ∷ rest) × (q ≡ length done)

-- The numbers of the call.
pub record Numbers (s : List ℕ) (q n pairs compounds : ℕ) : Type 0 where
  pub goals_are : n ≡ get_or s (query_record q + 0) 0
  pub pairs_are : pairs ≡ get_or s (query_pairs_word q) 0
  pub compounds_are : compounds ≡ get_or s (query_compounds_word q) 0

pub record Bounded (s : List ℕ) (q : ℕ) (t : Standing) : Type 0 where
  pub few : q < 8
  pub inside : compounds_region ≤ length s
  pub pairs : t.pairs ≤ 65535
  pub compounds : t.compounds ≤ 65535
  pub active : t.active ≤ 65535

pub bounded : (s : List ℕ) (figures : Room) (q : ℕ) (t : Standing) → Enters s figures q t → Bounded s q t
bounded s figures q t (text, names, j, done, x, rest, atlas, e, is, at) =
    record {
      few = omega (arith, few s text names j figures done x rest atlas t e is);
      inside = e.held.inside;
      pairs = omega (arith, pairs_fit s text names j figures done x rest atlas t e is, e.in_range.pairs);
      compounds = omega (arith, compounds_fit s text names j figures done x rest atlas t e is, e.in_range.compounds);
      active = omega (arith, goals_fit s text names j figures done x rest atlas t e is, e.in_range.goals);
    }

module _ (s : List ℕ) (text : Bytes) (names : List Bytes) (j : Job) (figures : Room) (done : List Query) (x : Query) (rest : List Query)
    (atlas : Atlas) (t : Standing) (e : Entered s text names j figures done atlas t) (is : j.queries ≡ done ++ x ∷ rest)
    (q n pairs compounds : ℕ) (at : q ≡ length done) (numbers : Numbers s q n pairs compounds) where
  goals_number : n ≡ length x.goals
  goals_number =
      let plain : query_record q + 0 ≡ query_record (length done) = omega arith in
      numbers.goals_are ∙ ap (λ k. get_or s k 0) plain ∙ (query s text names j figures done x rest atlas t e is).goals

  pairs_number : pairs ≡ length x.variables
  pairs_number =
      let plain : query_pairs_word q ≡ query_pairs_word (length done) = omega arith in
      numbers.pairs_are ∙ ap (λ k. get_or s k 0) plain ∙ (query s text names j figures done x rest atlas t e is).pairs

  compounds_number : compounds ≡ x.compounds
  compounds_number =
      let plain : query_compounds_word q ≡ query_compounds_word (length done) = omega arith in
      numbers.compounds_are ∙ ap (λ k. get_or s k 0) plain ∙ (query s text names j figures done x rest atlas t e is).compounds

  sums_fit : (t.pairs + pairs ≤ 65535) × (t.compounds + compounds ≤ 65535) × (t.active + n ≤ 65535)
  sums_fit = (
    omega (arith, pairs_fit s text names j figures done x rest atlas t e is, e.in_range.pairs, pairs_number),
    omega (arith, compounds_fit s text names j figures done x rest atlas t e is, e.in_range.compounds, compounds_number),
    omega (arith, goals_fit s text names j figures done x rest atlas t e is, e.in_range.goals, goals_number),
  )

  module _ (queue : ℕ) (queue_is : queue ≡ queue_region figures) where
    adds_here : (y : Item) × (goals : List Named)
        × Adding s y (query_goals_from q) n t.pairs t.cells q queue figures.goals 0 t.active goals
    adds_here = (
      item_of names (length done) x,
      x.goals,
      rw (at, queue_is) (adding s text names j figures done x rest atlas t e is n goals_number),
    )

    pub enters : (s₁ s' : List ℕ) (w r : ℕ) (u : Standing)
        → ((y : Item) (goals : List Named)
        → Adding s y (query_goals_from q) n t.pairs t.cells q queue figures.goals 0 t.active goals
        → Added s s₁ y n t.pairs t.cells q queue figures.goals 0 t.active goals r)
        → w ≡ t.pairs → s' ≡ set s₁ (query_first_pair_word q) w → Onward t u pairs compounds r n
        → EnterOnly figures s s' × ((atlas' : Atlas) × Entered s' text names j figures (done ++ x ∷ []) atlas' u)
    enters s₁ s' w r u call word_is set_is on =
        let asked = adding s text names j figures done x rest atlas t e is n goals_number in
        let added = rw (at, queue_is) at (call (item_of names (length done) x) x.goals (rw (at, queue_is) asked)) in
        let stored : s' ≡ set s₁ (query_first_pair_word (length done)) t.pairs =
        set_is ∙ ap (λ v. set s₁ (query_first_pair_word q) v) word_is ∙ ap (λ k. set s₁ (query_first_pair_word k) t.pairs) at
        in (
          only s text names j figures done x rest atlas t e is n goals_number s₁ r added s' stored,
          (
            _,
            entered_now s text names j figures done x rest atlas t e is n goals_number s₁ r added s' stored u
                (rw (sym pairs_number, sym compounds_number) on),
          ),
        )

pub sums : (s : List ℕ) (figures : Room) (q : ℕ) (t : Standing) {n pairs compounds : ℕ} → Enters s figures q t → Numbers s q n pairs compounds
    → (t.pairs + pairs ≤ 65535) × (t.compounds + compounds ≤ 65535) × (t.active + n ≤ 65535)
sums s figures q t {n} {pairs} {compounds} (text, names, j, done, x, rest, atlas, e, is, at) numbers =
    sums_fit s text names j figures done x rest atlas t e is q n pairs compounds at numbers

pub adds : (s : List ℕ) (figures : Room) (q : ℕ) (t : Standing) {n pairs compounds : ℕ} (queue : ℕ) → Enters s figures q t
    → Numbers s q n pairs compounds → queue ≡ queue_region figures
    → (y : Item) × (goals : List Named)
    × Adding s y (query_goals_from q) n t.pairs t.cells q queue figures.goals 0 t.active goals
adds s figures q t {n} {pairs} {compounds} queue (text, names, j, done, x, rest, atlas, e, is, at) numbers queue_is =
    adds_here s text names j figures done x rest atlas t e is q n pairs compounds at numbers queue queue_is

-- No goal waits or has failed, and no step is taken.
pub nothing_yet : {s : List ℕ} {text : Bytes} {names : List Bytes} {j : Job} {figures : Room} {done : List Query} {atlas : Atlas} {t : Standing}
    → Entered s text names j figures done atlas t → (t.waiting ≡ 0) × (t.failed ≡ 0) × (t.steps ≡ 0)
unfolding start
nothing_yet e = (omega (arith, e.state.waiting.number), omega (arith, e.state.failed.number), omega (arith, e.state.steps))

-- One change after another.
pub enter_same : (figures : Room) (s : List ℕ) → EnterOnly figures s s
enter_same figures s =
    record {
      size = refl;
      before = λ k h. refl;
      records = λ q i h l a. refl;
      items = λ k h l. refl;
      pairs = λ k h l. refl;
      behind = λ k h. refl;
    }

pub enter_then : (figures : Room) (s s' s'' : List ℕ) → EnterOnly figures s s' → EnterOnly figures s' s'' → EnterOnly figures s s''
enter_then figures s s' s'' a b =
    record {
      size = b.size ∙ a.size;
      before = λ k h. b.before k h ∙ a.before k h;
      records = λ q i h l n. b.records q i h l n ∙ a.records q i h l n;
      items = λ k h l. b.items k h l ∙ a.items k h l;
      pairs = λ k h l. b.pairs k h l ∙ a.pairs k h l;
      behind = λ k h. b.behind k h ∙ a.behind k h;
    }

-- No query is entered.
some_goal : (figures : Room) (names : List Bytes) (queries : List Query) → 1 ≤ length queries → Each (QueryFits names) queries
    → queries_fit figures queries ≡ true → 0 < figures.goals
some_goal figures names [] some fit ok = absurd (omega arith)
some_goal figures names (x ∷ rest) some fit ok = omega (arith, (fits_so_far figures (x ∷ rest) [] x rest refl ok).goals, fit.0.some_goals)

abbrev first_atlas : List Bytes → Atlas
first_atlas names k = record { names = names; pair = λ n. n; compound = λ n. n; width = λ n. 0 }

abbrev pub NothingStands : Standing → Type 0
NothingStands t =
    (t.pairs ≡ 0) × (t.compounds ≡ 0) × (t.cells ≡ compounds_region) × (t.front ≡ 0) × (t.active ≡ 0) × (t.log ≡ 0) × (t.waiting ≡ 0) × (t.failed ≡ 0) × (t.steps ≡ 0)

pub none_entered : (s : List ℕ) (text : Bytes) (names : List Bytes) (j : Job) (figures : Room) (t : Standing) → Ready s text names figures j
    → queries_fit figures j.queries ≡ true → NothingStands t → (atlas : Atlas) × Entered s text names j figures [] atlas t
unfolding start number_of all_goals query_pairs query_compounds EachFrom ring logged listed
none_entered s text names j figures t r fit (pairs, compounds, cells, front, active, log, waiting, failed, steps) =
    let f = accepted_keeps_the_figures text j r.reads in (
      first_atlas names,
      record {
        in_range = r.in_range;
        inside = r.inside;
        reads = r.reads;
        fit = fit;
        held = r.held;
        state = record {
          pairs = pairs;
          compounds = compounds;
          steps = steps;
          fits = omega arith;
          lies = record {
            names_are = λ k. refl;
            pairs_fit = omega arith;
            compounds_fit = omega arith;
            cells_fit = omega arith;
            pair_below = λ k n h l. absurd (omega arith);
            pair_apart = λ k l n m h i a b e. absurd (omega arith);
            compound_behind = λ k n h l. absurd (omega arith);
            compound_below = λ k n h l. absurd (omega arith);
          };
          units = record { unit = λ k h. absurd (omega arith); tries = λ k h. absurd (omega arith) };
          first_pairs = tt;
          queue_held = tt;
          waiting_held = tt;
          failed_held = tt;
          queue = rw (front, active)
              (record { front_inside = some_goal figures _ j.queries f.some_queries f.queries fit; number = refl; words = refl });
          waiting = rw (log, waiting) (record { fits = omega arith; number = refl; words = refl });
          failed = rw failed (record { number = refl; words = refl });
        };
        cells = omega arith;
        front = front;
        log = log;
        room_zero = r.zero;
        tries_zero = λ q h. r.records_zero q 4 h (inr refl);
      },
    )

-- So many of them are entered.
pub record Partly (s₀ s : List ℕ) (text : Bytes) (names : List Bytes) (j : Job) (figures : Room) (q : ℕ) (t : Standing) : Type 0 where
  pub order : q ≤ length j.queries
  pub only : EnterOnly figures s₀ s
  pub atlas : Atlas
  pub entered : Entered s text names j figures (take q j.queries) atlas t

pub partly_none : (s : List ℕ) (text : Bytes) (names : List Bytes) (j : Job) (figures : Room) (t : Standing) → Ready s text names figures j
    → queries_fit figures j.queries ≡ true → NothingStands t → Partly s s text names j figures 0 t
partly_none s text names j figures t r fit nothing =
    let (atlas, entered) = none_entered s text names j figures t r fit nothing in
    record { order = omega arith; only = enter_same figures s; atlas = atlas; entered = entered }

module _ (s₀ s : List ℕ) (text : Bytes) (names : List Bytes) (j : Job) (figures : Room) (q : ℕ) (t : Standing)
    (p : Partly s₀ s text names j figures q t) where
  pub partly_asks : q < length j.queries → Enters s figures q t
  partly_asks h = (
    text,
    names,
    j,
    take q j.queries,
    get_or j.queries q no_query,
    drop (suc q) j.queries,
    p.atlas,
    p.entered,
    split_at j.queries q no_query h,
    sym (length-take-le q j.queries p.order),
  )

  pub partly_more : (s' : List ℕ) (u : Standing) → q < length j.queries
      → ((text : Bytes) (names : List Bytes) (j : Job) (done : List Query) (x : Query) (rest : List Query) (atlas : Atlas)
      → Entered s text names j figures done atlas t → j.queries ≡ done ++ x ∷ rest → q ≡ length done
      → EnterOnly figures s s' × ((atlas' : Atlas) × Entered s' text names j figures (done ++ x ∷ []) atlas' u))
      → Partly s₀ s' text names j figures (q + 1) u
  partly_more s' u h call =
      let (change, (atlas', entered)) =
      call text names j (take q j.queries) (get_or j.queries q no_query) (drop (suc q) j.queries) p.atlas p.entered
      (split_at j.queries q no_query h) (sym (length-take-le q j.queries p.order))
      in
      let next : take (q + 1) j.queries ≡ take q j.queries ++ (get_or j.queries q no_query ∷ []) =
      rw (add-one q) (take-suc j.queries q no_query h)
      in
      record {
        order = omega arith;
        only = enter_then figures s₀ s s' p.only change;
        atlas = atlas';
        entered = rw next entered;
      }

  pub partly_all : length j.queries ≤ q → EnterOnly figures s₀ s × ((atlas : Atlas) × Entered s text names j figures j.queries atlas t)
  partly_all h =
      let full : q ≡ length j.queries = omega (arith, p.order) in
      let all : take q j.queries ≡ j.queries = ap (λ n. take n j.queries) full ∙ take-length j.queries in
      (p.only, (p.atlas, rw all at p.entered))
