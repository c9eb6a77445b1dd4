-- The sections of a run that has finished stand in the scratch when what is kept of its pairs is cleared and the trial's second word is the room's pairs.
use Prim.Native.Nat.{ℕ, zero, suc, ◌+◌, ◌*◌, ◌-◌, ◌≤◌, ◌<◌}
use mathlib.Core.Path.{◌≡◌, refl, sym, ap, ap₂, subst, ◌∙◌}
use mathlib.Core.Logic.{◌≢◌, ⊎_elim}
use mathlib.Core.List.{List, [], ◌∷◌, map}
use mathlib.Core.Option.{Option, none, some}
use native.Mathlib.Omega.{arith}
use lib.ListN.{length, get_or, set, length-set, length-replicate}
use lib.Seq.{get_or-set_same, get_or-set_other}
use Rattle.meaning.specs.Bytes.{Bytes, when◌then◌else◌, those}
use Rattle.meaning.specs.Terms.{Term, Query, Job, as_term}
use Rattle.meaning.specs.State.{Room, QueryUnit, Goal, State, value, no_unit, unit_at, first_unit, start, of}
use Rattle.meaning.specs.Trial.{Choice, reduces, joins_waiting, joins_failed}
use Rattle.meaning.specs.Step.{unit_after, step}
use Rattle.meaning.specs.Run.{run, choice_for}
use Rattle.laws.proofs.Lists.Among.{In, in_cons_cases, in_none}
use Rattle.laws.proofs.Lists.Filters.{those_map}
use Rattle.laws.proofs.Lists.Pigeonhole.{Distinct, pigeonhole}
use Rattle.laws.proofs.Runs.Invariant.{run_keeps}
use Rattle.laws.proofs.Runs.Charges.{run_units}
use Rattle.laws.proofs.Trial.Values.{unit_at_set, length_values_after}
use Rattle.laws.proofs.Circle.Never.{run_no_circle}
use Rattle.term.specs.Jobs.{EachFrom, HoldsQuery}
use Rattle.term.specs.Layout.{values_region, waiters_region, compounds_region, pairs_told, pair_facts, query_pairs_word, query_first_pair_word, query_variables_from}
use Rattle.term.specs.Setting.{Setting, UnitTerm, UnitStands}
use Rattle.term.specs.Spellings.{HoldsVariables}
use Rattle.term.specs.States.{setting_at, Lies, FirstPair, Finished}
use Rattle.term.specs.declared.state.Standing.{Standing}
use Rattle.term.specs.declared.state.Verdict.{Verdict as Told}
use Rattle.term.proofs.Holds.{holds_alike, holds_values_alike, EveryValue}
use Rattle.term.proofs.Jobs.{each_at}
use Rattle.term.proofs.Spellings.{holds_spellings_kept}
use Rattle.report_pairs.specs.Facts.{fact_place, EndAt, Readable, Cleared}
use Rattle.report_tallies.specs.Groups.{goal_place, own, own_from, active_group, waiting_group, failed_group}
use Rattle.report_tallies.specs.declared.groups.Group.{Group}
use Rattle.report_sections.specs.Sections.{Variables, GoalsHeld, Listed}
use Rattle.report_sections.specs.Whole.{Uncounted}
use Rattle.report.specs.All.{Sections, Stands, no_query, made_of}
use Rattle.term.proofs.Units.{within_every}
use Rattle.report.proofs.SoundRun.{sound_values, sound_queue, sound_waiting, sound_failed}
use Rattle.report.proofs.StateLists.{listed_active, listed_waiting, listed_failed}

-- The words apart from what is kept of pairs, and but the trial's second word, are as they were.
pub record Beside (figures : Room) (s s' : List ℕ) : Type 0 where
  pub size : length s' ≡ length s
  pub front : (k : ℕ) → k < waiters_region figures → k ≢ pairs_told → get_or s' k 0 ≡ get_or s k 0
  pub behind : (k : ℕ) → waiters_region figures + pair_facts * figures.pairs ≤ k → get_or s' k 0 ≡ get_or s k 0

pub beside_cleared : (s s₁ : List ℕ) (figures : Room) (pairs : ℕ) → pairs ≤ figures.pairs → Cleared s s₁ (waiters_region figures) pairs
    → Beside figures s (set s₁ pairs_told figures.pairs)
beside_cleared s s₁ figures pairs few c =
    record {
      size = length-set s₁ pairs_told figures.pairs ∙ c.only.size;
      front = λ k h d. get_or-set_other s₁ pairs_told k figures.pairs 0 d ∙ c.only.below k h;
      behind = λ k h. get_or-set_other s₁ pairs_told k figures.pairs 0 (λ e. omega arith) ∙ c.only.above k (omega arith);
    }

-- Places below a bound that are apart from one another are at most so many.
places_to : (ℕ → ℕ) → ℕ → List ℕ
places_to f zero = []
places_to f (suc n) = f n ∷ places_to f n

places_number : (f : ℕ → ℕ) (n : ℕ) → length (places_to f n) ≡ n
unfolding places_to
places_number f zero = refl
places_number f (suc n) = ap suc (places_number f n)

places_in : (f : ℕ → ℕ) (n m : ℕ) → In m (places_to f n) → (i : ℕ) × (i < n) × (m ≡ f i)
unfolding places_to
places_in f zero m p = absurd (in_none p)
places_in f (suc n) m p =
    ⊎_elim {C = (i : ℕ) × (i < suc n) × (m ≡ f i)} (λ e. (n, omega arith, e)) (λ q. let (i, h, e) = places_in f n m q in (i, omega arith, e)) (in_cons_cases p)

places_distinct : (f : ℕ → ℕ) (n : ℕ) → ((i j : ℕ) → i < n → j < n → f i ≡ f j → i ≡ j) → Distinct (places_to f n)
unfolding places_to Distinct
places_distinct f zero apart = tt
places_distinct f (suc n) apart = (
  λ p. let (i, h, e) = places_in f n (f n) p in let same : n ≡ i = apart n i (omega arith) (omega arith) e in omega arith,
  places_distinct f n (λ i j a b. apart i j (omega arith) (omega arith)),
)

few_places : (f : ℕ → ℕ) (n pairs : ℕ) → ((i : ℕ) → i < n → f i < pairs) → ((i j : ℕ) → i < n → j < n → f i ≡ f j → i ≡ j) → n ≤ pairs
few_places f n pairs below apart =
    subst (λ (k : ℕ). k ≤ pairs) (places_number f n)
    (pigeonhole pairs (places_to f n) (places_distinct f n apart)
    (λ m p. let (i, h, e) = places_in f n m p in let low : f i < pairs = below i h in omega arith))

-- A unit has at least its query's pairs.
grown : (choice : Choice) (unit : QueryUnit) → length unit.values ≤ length (unit_after choice unit).values
unfolding unit_after
grown (reduces clause given) unit = omega (arith, length_values_after clause given unit)
grown (joins_waiting readers) unit = omega arith
grown joins_failed unit = omega arith

first_variables : (queries : List Query) (k : ℕ) → length (get_or queries k no_query).variables ≤ length (unit_at k (map first_unit queries)).values
unfolding unit_at first_unit no_query no_unit
first_variables [] k = omega arith
first_variables (q ∷ queries) zero = simp length-replicate (omega arith)
first_variables (q ∷ queries) (suc k) = first_variables queries k

run_variables : (j : Job) (limit : ℕ) (figures : Room) (k : ℕ)
    → length (get_or j.queries k no_query).variables ≤ length (unit_at k (run j limit figures).state.units).values
unfolding step start
run_variables j limit figures k =
    run_keeps j figures (λ state. length (get_or j.queries k no_query).variables ≤ length (unit_at k state.units).values)
    (λ state g others e fit h. unit_at_set (λ u. length (get_or j.queries k no_query).variables ≤ length u.values) state.units g.query k
    (unit_after (choice_for j.clauses state g) (unit_at g.query state.units))
    (λ same. let here_is : length (get_or j.queries k no_query).variables ≤ length (unit_at g.query state.units).values =
    subst (λ (m : ℕ). length (get_or j.queries k no_query).variables ≤ length (unit_at m state.units).values) same h in
    omega (arith, grown (choice_for j.clauses state g) (unit_at g.query state.units))) h)
    (first_variables j.queries k) limit

-- Of each query, by its place.
from_first : {A : Type 0} (P : ℕ → A → Type 0) (i : ℕ) (l : List A) (d : A) → i < length l → EachFrom P 0 l → P i (get_or l i d)
from_first P i l d h e = let none : 0 + i ≡ i = omega arith in subst (λ (k : ℕ). P k (get_or l i d)) none (each_at P 0 i l d h e)

-- A unit and its goals stay.
module _ (figures : Room) (s s' : List ℕ) (b : Beside figures s s') (x : Setting) (same : x.pairs ≡ figures.pairs)
    (compound_behind : (n : ℕ) → n < x.compounds → compounds_region ≤ x.places.compound n)
    (compound_before : (n : ℕ) → n < x.compounds → x.places.compound n + x.places.width n ≤ values_region figures) where
  compound_stays : (n : ℕ) → n < x.compounds → (k : ℕ) → x.places.compound n ≤ k → k < x.places.compound n + x.places.width n → get_or s' k 0 ≡ get_or s k 0
  compound_stays n h k l m = b.front k (omega (arith, compound_before n h)) (λ e. omega (arith, compound_behind n h))

  term_stays : (t : Term) → UnitTerm s x t → UnitTerm s' x t
  term_stays t u =
      record {
        held =
            holds_alike s s' x.places (λ n. n < x.compounds) (omega (arith, b.size)) compound_stays t
            (within_every (length x.values) x.compounds t u.of.within) u.held;
        of = u.of;
      }

  value_every : UnitStands s x (values_region figures) → (n : ℕ) → n < length x.values → (v : Option Term) → value x.values n ≡ v
      → EveryValue (λ m. m < x.compounds) v
  unfolding EveryValue
  value_every r n h none e = tt
  value_every r n h (some u) e = within_every (length x.values) x.compounds u (r.of n u h e).within

  pub unit_stays : UnitStands s x (values_region figures) → UnitStands s' x (values_region figures)
  unit_stays r =
      record {
        held =
            holds_values_alike s s' x.places (λ m. m < x.compounds) (omega (arith, b.size)) compound_stays (values_region figures) x.pairs x.values
            (λ k l m. b.front k (omega arith) (λ e. omega arith))
            (λ n h. value_every r n h (value x.values n) refl) r.held;
        of = r.of;
      }

  goals_stay : (gs : List Goal) → GoalsHeld s x gs → GoalsHeld s' x gs
  goals_stay [] h = tt
  goals_stay (g ∷ gs) h = (term_stays (as_term g.goal) h.0, h.1, goals_stay gs h.2)

  own_stays : (g : Group) (q : ℕ) → waiters_region figures + pair_facts * x.pairs ≤ g.from → (n i : ℕ) → own_from s' g q i n ≡ own_from s g q i n
  unfolding own_from
  own_stays g q far zero i = refl
  own_stays g q far (suc n) i =
      ap₂ (λ (w : ℕ) (l : List ℕ). when own q w then w ∷ l else l) (b.behind (goal_place g i) (omega arith)) (own_stays g q far n (i + 1))

  pub listed_stays : (g : Group) (q : ℕ) (gs : List Goal) → Listed s x (waiters_region figures) g q gs → Listed s' x (waiters_region figures) g q gs
  listed_stays g q gs l =
      record {
        small = l.small;
        inside = record { few = l.inside.few; inside = λ i h. rw b.size (l.inside.inside i h) };
        behind = l.behind;
        low = l.low;
        words = own_stays g q l.behind g.count 0 ∙ l.words;
        origins = l.origins;
        held = goals_stay gs l.held;
      }

-- A run that has finished, what is kept of its pairs cleared.
module _ (s s₁ : List ℕ) (text : Bytes) (names : List Bytes) (figures : Room) (j : Job) (limit : ℕ) (v : Told) (t : Standing)
    (F : Finished s text names figures j limit v t) (short : length text ≤ 16384) (c : Cleared s s₁ (waiters_region figures) t.pairs) where
  abbrev s' : List ℕ
  s' = set s₁ pairs_told figures.pairs

  abbrev state : State
  state = (run j limit figures).state

  abbrev unit : ℕ → Setting
  unit k = setting_at figures F.atlas state.units k

  lies : Lies names figures F.atlas state.units state.pairs state.compounds t.cells
  lies = F.state.lies

  charged : t.pairs ≤ figures.pairs
  charged = omega (arith, F.state.pairs, lies.pairs_fit)

  beside : Beside figures s s'
  beside = beside_cleared s s₁ figures t.pairs charged c

  pub few_units : length state.units ≤ 8
  few_units = omega (arith, run_units j limit figures, F.held.few_queries)

  below : (k : ℕ) → k < length j.queries → k < length state.units
  below k h = omega (arith, run_units j limit figures)

  module _ (k : ℕ) (h : k < length j.queries) where
    pair_low : (n : ℕ) → n < length (unit k).values → (F.atlas k).pair n < t.pairs
    pair_low n l = omega (arith, F.state.pairs, lies.pair_below k n (below k h) l)

    kept_zero : (n i : ℕ) → n < length (unit k).values → i < pair_facts → get_or s' (fact_place (unit k) (waiters_region figures) n + i) 0 ≡ 0
    kept_zero n i l m =
        get_or-set_other s₁ pairs_told (fact_place (unit k) (waiters_region figures) n + i) figures.pairs 0 (λ e. omega arith)
        ∙ c.zero ((F.atlas k).pair n) i (pair_low n l) m

    compound_behind : (n : ℕ) → n < (unit k).compounds → compounds_region ≤ (F.atlas k).compound n
    compound_behind n l = lies.compound_behind k n (below k h) l

    compound_before : (n : ℕ) → n < (unit k).compounds → (F.atlas k).compound n + (F.atlas k).width n ≤ values_region figures
    compound_before n l = omega (arith, lies.compound_below k n (below k h) l, lies.cells_fit, lies.compounds_fit)

    no_end : (n : ℕ) (u : Option Term) → get_or s' (fact_place (unit k) (waiters_region figures) n) 0 ≡ 0 → EndAt s' (unit k) (waiters_region figures) n u
    no_end n none e = e
    no_end n (some u) e = λ d. absurd (d e)

    readable : Readable s' text (unit k) (waiters_region figures)
    readable =
        let place : waiters_region figures - figures.pairs ≡ values_region figures = omega arith in
        record {
          inside = omega (arith, beside.size, F.inside);
          behind = omega arith;
          room = get_or-set_same s₁ pairs_told figures.pairs 0 (omega (arith, c.only.size, F.inside));
          links = few_places (F.atlas k).pair (length (unit k).values) figures.pairs (λ n l. omega (arith, pair_low n l, charged))
              (λ n m a b e. (lies.pair_apart k k n m (below k h) (below k h) a b e).1);
          apart = λ n m a b e. (lies.pair_apart k k n m (below k h) (below k h) a b e).1;
          compound_behind = compound_behind;
          compound_before = λ n l. omega (arith, compound_before n l);
          no_circle = run_no_circle j limit figures k;
          sound = sound_values text j F.reads limit figures k;
          stands = rw place (unit_stays figures s s' beside (unit k) refl compound_behind compound_before (F.state.units.unit k (below k h)));
          ends = λ n l. let first : fact_place (unit k) (waiters_region figures) n + 0 ≡ fact_place (unit k) (waiters_region figures) n = omega arith in
              no_end n (value (unit k).values n) (rw first at (kept_zero n 0 l (omega arith)));
          few_names = rw (lies.names_are k) F.held.few_names;
          names = rw (lies.names_are k)
              (holds_spellings_kept s s' text 0 names (λ i l m. beside.front i (omega (arith, F.held.few_names)) (λ e. omega (arith, F.held.few_names)))
              F.text_held.names_held);
          short = short;
        }

    variables : Variables s' text (unit k) k (get_or j.queries k no_query).variables
    variables =
        let q = get_or j.queries k no_query in
        let query : HoldsQuery s names k q = from_first (HoldsQuery s names) k j.queries no_query h F.held.queries in
        let spelled : HoldsVariables s text k q = from_first (HoldsVariables s text) k j.queries no_query h F.text_held.variables_held in
        let first : FirstPair s F.atlas k q = from_first (FirstPair s F.atlas) k j.queries no_query h F.state.first_pairs in
        let small : k < 8 = omega (arith, F.held.few_queries) in
        let few : length q.variables ≤ 16 = spelled.few in
        let within : length q.variables ≤ length (unit k).values = run_variables j limit figures k in
        record {
          small = small;
          few = few;
          number = beside.front (query_pairs_word k) (omega arith) (λ e. omega arith) ∙ query.pairs;
          spelled = holds_spellings_kept s s' text (query_variables_from k) q.variables (λ i l m. beside.front i (omega arith) (λ e. omega arith)) spelled.held;
          pair = λ n l. first n l ∙ ap (λ (w : ℕ). w + n) (sym (beside.front (query_first_pair_word k) (omega arith) (λ e. omega arith)));
          low = λ n l. omega (arith, pair_low n (omega arith), charged, F.in_range.pairs);
          within = within;
        }

    stays : (g : Group) (gs : List Goal) → Listed s (unit k) (waiters_region figures) g k gs → Listed s' (unit k) (waiters_region figures) g k gs
    stays g gs l = listed_stays figures s s' beside (unit k) refl compound_behind compound_before g k gs l

    section : Stands s' text figures t k (made_of figures F.atlas j.queries state k)
    section =
        let small : k < 8 = omega (arith, F.held.few_queries) in
        let all = F.state in
        let waiting = stays (waiting_group figures t) (those (of k) (map (λ w. w.goal) state.goals.waiting))
        (listed_waiting s names figures j.queries F.atlas state t all few_units F.in_range F.inside k small (sound_waiting text j F.reads limit figures)) in
        record {
          readable = readable;
          here =
              record {
                in_range = F.in_range;
                variables = variables;
                active = stays (active_group figures t) (those (of k) state.goals.queue)
                    (listed_active s names figures j.queries F.atlas state t all few_units F.in_range F.inside k small
                    (sound_queue text j F.reads limit figures));
                waiting = subst (Listed s' (unit k) (waiters_region figures) (waiting_group figures t) k) (those_map (of k) (λ w. w.goal) state.goals.waiting) waiting;
                failed = stays (failed_group figures t) (those (of k) state.goals.failed)
                    (listed_failed s names figures j.queries F.atlas state t all few_units F.in_range F.inside k small
                    (sound_failed text j F.reads limit figures));
              };
        }

    uncounted : Uncounted s' (unit k) (waiters_region figures)
    uncounted = record { lengths = λ n l. kept_zero n 1 l (omega arith); numbers = λ n l. kept_zero n 2 l (omega arith) }

  pub finished_sections : Sections s' text figures t (made_of figures F.atlas j.queries state) (length j.queries)
      × ((k : ℕ) → k < length j.queries → Uncounted s' (made_of figures F.atlas j.queries state k).unit (waiters_region figures))
  finished_sections = (
    record {
      few = F.held.few_queries;
      stands = λ k h. section k h;
      apart = λ k l a b h m p q e. (lies.pair_apart k l a b (below k h) (below l m) p q e).0;
      pairs = λ k h. refl;
    },
    λ k h. uncounted k h,
  )
