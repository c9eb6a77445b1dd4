-- Where only facts of pairs have changed: the terms, values, variables and goals of a unit are as they were, and so are the section's bytes.
use Prim.Native.Nat.{ℕ, zero, suc, ◌+◌, ◌-◌, ◌*◌, ◌≤◌, ◌<◌}
use mathlib.Core.Path.{◌≡◌, refl, sym, ap, ap₂, ◌∙◌}
use mathlib.Core.List.{List, [], ◌∷◌, ◌++◌}
use mathlib.Core.Option.{Option, none, some}
use native.Mathlib.Omega.{arith}
use lib.ListN.{length, get_or}
use Rattle.meaning.specs.Bytes.{Bytes, when◌then◌else◌}
use Rattle.meaning.specs.Terms.{Term, as_term}
use Rattle.meaning.specs.State.{Room, Goal, value}
use Rattle.term.specs.Layout.{waiters_region, compounds_region, pairs_told, pair_facts, query_pairs_word, query_first_pair_word, query_tries_word, query_variables_from}
use Rattle.term.specs.Setting.{Setting, UnitTerm, UnitStands}
use Rattle.term.specs.declared.state.Standing.{Standing}
use Rattle.term.proofs.Holds.{holds_alike, holds_values_alike, EveryValue}
use Rattle.term.proofs.Spellings.{holds_spellings_kept}
use Rattle.report_pairs.specs.Facts.{fact_place, Led, EndAt, Readable, Changed}
use Rattle.report_tallies.specs.Groups.{goal_in, own, own_from, active_group, waiting_group, failed_group}
use Rattle.report_tallies.specs.declared.groups.Group.{Group}
use Rattle.report_tallies.specs.Header.{tallies_of, header_of}
use Rattle.report_sections.specs.Sections.{Variables, GoalsHeld, Listed, SectionAt}
use Rattle.report_sections.specs.Whole.{section_bytes, lines_shown}
use Rattle.report.specs.All.{Made, FactsOnly, bytes_of, sections_bytes}
use Rattle.term.proofs.Units.{within_every}

pub facts_none : (figures : Room) (s : List ℕ) → FactsOnly figures s s
facts_none figures s = record { size = refl; counter = λ k h. refl; before = λ k l h. refl; behind = λ k h. refl }

pub facts_then : (figures : Room) (s t u : List ℕ) → FactsOnly figures s t → FactsOnly figures t u → FactsOnly figures s u
facts_then figures s t u a b =
    record {
      size = b.size ∙ a.size;
      counter = λ k h. b.counter k h ∙ a.counter k h;
      before = λ k l h. b.before k l h ∙ a.before k l h;
      behind = λ k h. b.behind k h ∙ a.behind k h;
    }

-- What one unit's counting changes are facts.
pub changed_facts : (figures : Room) (s s' : List ℕ) (text : Bytes) (x : Setting) → Readable s text x (waiters_region figures) → x.pairs ≡ figures.pairs
    → Changed s s' x (waiters_region figures) → FactsOnly figures s s'
changed_facts figures s s' text x r e c =
    record {
      size = c.size;
      counter = λ k h. c.others k (λ z. omega arith) (λ n l. ((λ z. omega arith), (λ z. omega arith), (λ z. omega arith), (λ z. omega arith)));
      before = λ k l h. c.others k (λ z. omega arith) (λ n b. ((λ z. omega arith), (λ z. omega arith), (λ z. omega arith), (λ z. omega arith)));
      behind = λ k h. c.others k (λ z. omega arith)
          (λ n l. let inside = r.stands.held.place n l in ((λ z. omega arith), (λ z. omega arith), (λ z. omega arith), (λ z. omega arith)));
    }

-- The facts of a unit whose pairs are apart from those of the counted one are as they were.
pub facts_apart : (s s' : List ℕ) (x y : Setting) (facts : ℕ) → compounds_region ≤ facts → Changed s s' x facts
    → ((a b : ℕ) → a < length x.values → b < length y.values → x.places.pair a ≡ y.places.pair b → ⊥)
    → (n i k : ℕ) → n < length y.values → i < 4 → k ≡ fact_place y facts n + i → get_or s' k 0 ≡ get_or s k 0
facts_apart s s' x y facts low c apart n i k h l e =
    c.others k (λ z. omega arith)
    (λ m b. ((λ z. apart m n b h (omega arith)), (λ z. apart m n b h (omega arith)), (λ z. apart m n b h (omega arith)), (λ z. apart m n b h (omega arith))))

-- The lists of goals.
own_same : (s s' : List ℕ) (g : Group) (q : ℕ) → ((i : ℕ) → goal_in s' g i ≡ goal_in s g i) → (n i : ℕ) → own_from s' g q i n ≡ own_from s g q i n
unfolding own_from
own_same s s' g q same zero i = refl
own_same s s' g q same (suc n) i =
    ap₂ (λ (w : ℕ) (l : List ℕ). when own q w then w ∷ l else l) (same i) (own_same s s' g q same n (i + 1))

module _ (figures : Room) (s s' : List ℕ) (o : FactsOnly figures s s') where
  list_same : (g : Group) (q n : ℕ) → waiters_region figures + pair_facts * figures.pairs ≤ g.from → own_from s' g q 0 n ≡ own_from s g q 0 n
  list_same g q n h = own_same s s' g q (λ i. o.behind _ (omega arith)) n 0

  -- The bytes of a section, and of the first so many.
  tallies_same : (t : Standing) (q : ℕ) → q < 8 → tallies_of s' figures q t ≡ tallies_of s figures q t
  tallies_same t q h =
      let tries : get_or s' (query_tries_word q) 0 ≡ get_or s (query_tries_word q) 0 = o.counter (query_tries_word q) (omega arith) in
      let active = list_same (active_group figures t) q t.active (omega arith) in
      let waiting = list_same (waiting_group figures t) q t.log (omega arith) in
      let failed = list_same (failed_group figures t) q t.failed (omega arith) in
      rw (tries, active, waiting, failed)

  pub bytes_same : (t : Standing) (q : ℕ) (m : Made) → q < 8 → bytes_of s' figures t q m ≡ bytes_of s figures t q m
  unfolding section_bytes
  bytes_same t q m h =
      ap (λ c. header_of q c ++ lines_shown m.unit.values m.variables m.actives m.waits m.fails) (tallies_same t q h)

  pub sections_same : (t : Standing) (made : ℕ → Made) (n : ℕ) → n ≤ 8 → sections_bytes s' figures t made n ≡ sections_bytes s figures t made n
  unfolding sections_bytes
  sections_same t made zero h = refl
  sections_same t made (suc n) h = ap₂ ◌++◌ (sections_same t made n (omega arith)) (bytes_same t n (made n) (omega arith))

  module _ (text : Bytes) (y : Setting) (r : Readable s text y (waiters_region figures)) where
    abbrev facts : ℕ
    facts = waiters_region figures

    -- The compounds' words.
    compound_kept : (n : ℕ) → n < y.compounds → (k : ℕ) → y.places.compound n ≤ k → k < y.places.compound n + y.places.width n → get_or s' k 0 ≡ get_or s k 0
    compound_kept n h k l b = o.before k (omega (arith, r.compound_behind n h)) (omega (arith, r.compound_before n h))

    size_kept : length s ≤ length s'
    size_kept = omega (arith, o.size)

    unit_kept : (t : Term) → UnitTerm s y t → UnitTerm s' y t
    unit_kept t u =
        record {
          held =
              holds_alike s s' y.places (λ n. n < y.compounds) size_kept compound_kept t
              (within_every (length y.values) y.compounds t u.of.within) u.held;
          of = u.of;
        }

    value_every : (n : ℕ) → n < length y.values → (v : Option Term) → value y.values n ≡ v → EveryValue (λ m. m < y.compounds) v
    unfolding EveryValue
    value_every n h none e = tt
    value_every n h (some u) e = within_every (length y.values) y.compounds u (r.stands.of n u h e).within

    stands_kept : UnitStands s' y (facts - y.pairs)
    stands_kept =
        record {
          held =
              holds_values_alike s s' y.places (λ m. m < y.compounds) size_kept compound_kept (facts - y.pairs) y.pairs y.values
              (λ k l b. o.before k (omega (arith, r.behind)) (omega (arith, r.behind)))
              (λ n h. value_every n h (value y.values n) refl) r.stands.held;
          of = r.stands.of;
        }

    led_kept : (t : Term) (w : ℕ) → Led s y t w → Led s' y t w
    led_kept t w l = record { last = l.last; word = l.word; term = unit_kept l.last l.term; sound = l.sound; ended = l.ended; same = l.same }

    end_kept : (n : ℕ) (v : Option Term) → get_or s' (fact_place y facts n) 0 ≡ get_or s (fact_place y facts n) 0 → EndAt s y facts n v → EndAt s' y facts n v
    end_kept n none e a = e ∙ a
    end_kept n (some u) e a = λ d. rw e (led_kept u (get_or s (fact_place y facts n) 0) (a (λ z. d (e ∙ z))))

    -- What is read of a unit whose ends are as they were.
    pub readable_still : ((n : ℕ) → n < length y.values → get_or s' (fact_place y facts n) 0 ≡ get_or s (fact_place y facts n) 0) → Readable s' text y facts
    readable_still e =
        record {
          inside = omega (arith, o.size, r.inside);
          behind = r.behind;
          room = o.before pairs_told (omega arith) (omega arith) ∙ r.room;
          links = r.links;
          apart = r.apart;
          compound_behind = r.compound_behind;
          compound_before = r.compound_before;
          no_circle = r.no_circle;
          sound = r.sound;
          stands = stands_kept;
          ends = λ n h. end_kept n (value y.values n) (e n h) (r.ends n h);
          few_names = r.few_names;
          names = holds_spellings_kept s s' text 0 y.places.names (λ k l h. o.counter k (omega (arith, r.few_names))) r.names;
          short = r.short;
        }

    -- Its variables and goals.
    variables_still : (q : ℕ) (xs : List Bytes) → Variables s text y q xs → Variables s' text y q xs
    variables_still q xs v =
        record {
          small = v.small;
          few = v.few;
          number = o.counter (query_pairs_word q) (omega (arith, v.small)) ∙ v.number;
          spelled = holds_spellings_kept s s' text (query_variables_from q) xs (λ k l h. o.counter k (omega (arith, v.small, v.few))) v.spelled;
          pair = λ n h. v.pair n h ∙ ap (λ (k : ℕ). k + n) (sym (o.counter (query_first_pair_word q) (omega (arith, v.small))));
          low = v.low;
          within = v.within;
        }

    held_still : (gs : List Goal) → GoalsHeld s y gs → GoalsHeld s' y gs
    held_still [] h = tt
    held_still (g ∷ gs) h = (unit_kept (as_term g.goal) h.0, h.1, held_still gs h.2)

    listed_still : (g : Group) (q : ℕ) (gs : List Goal) → y.pairs ≡ figures.pairs → Listed s y facts g q gs → Listed s' y facts g q gs
    listed_still g q gs e l =
        record {
          small = l.small;
          inside = record { few = l.inside.few; inside = λ i h. rw o.size (l.inside.inside i h) };
          behind = l.behind;
          low = l.low;
          words = list_same g q g.count (omega (arith, l.behind)) ∙ l.words;
          origins = l.origins;
          held = held_still gs l.held;
        }

    pub section_still : (t : Standing) (q : ℕ) (xs : List Bytes) (actives ws fs : List Goal) → y.pairs ≡ figures.pairs
        → SectionAt s text y facts figures t q xs actives ws fs → SectionAt s' text y facts figures t q xs actives ws fs
    section_still t q xs actives ws fs e a =
        record {
          in_range = a.in_range;
          variables = variables_still q xs a.variables;
          active = listed_still _ q actives e a.active;
          waiting = listed_still _ q ws e a.waiting;
          failed = listed_still _ q fs e a.failed;
        }
