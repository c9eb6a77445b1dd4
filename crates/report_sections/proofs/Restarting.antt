-- A section is counted from no number given on: the counter is 0, and nothing is kept of its pairs' lengths and numbers.
use Prim.Native.Nat.{ℕ, ◌+◌, ◌≤◌}
use mathlib.Core.Path.{◌≡◌, sym, ap, subst, ◌∙◌}
use mathlib.Core.List.{List, [], ◌++◌}
use mathlib.Core.Option.{Option, none, some}
use native.Mathlib.Omega.{arith}
use lib.ListN.{length, get_or, set, length-set}
use lib.Seq.{get_or-set_same, get_or-set_other}
use Rattle.meaning.specs.Bytes.{Bytes, among, when◌then◌else◌}
use Rattle.meaning.specs.Terms.{Term}
use Rattle.meaning.specs.State.{Room, Values, Goal, value}
use Rattle.meaning.specs.Report.{alone, written}
use Rattle.term.specs.Layout.{waiters_region, trial_region, compounds_region, query_tries_word}
use Rattle.term.specs.Setting.{Setting}
use Rattle.term.specs.declared.state.Standing.{Standing}
use Rattle.report_pairs.specs.Threaded.{full, shown, lines_seen}
use Rattle.report_pairs.specs.Laid.{capped}
use Rattle.report_pairs.specs.Facts.{fact_place, LengthAt, Readable, Counting, PlaceAt, Placed, Changed}
use Rattle.report_leaves.specs.Fits.{StoredAt, Stored}
use Rattle.report_pairs.proofs.Having.{has_as}
use Rattle.report_count.specs.Counts.{Counts, Counted}
use Rattle.report_tallies.specs.Groups.{own_from, active_group, waiting_group, failed_group}
use Rattle.report_tallies.specs.Header.{tallies_of, header_of}
use Rattle.report_sections.specs.Sections.{SectionAt}
use Rattle.report_sections.specs.Whole.{lines_shown, section_bytes, SectionStands, Numbers, Uncounted, SectionCounted}
use Rattle.report_pairs.proofs.Keeping.{changed_then, readable_kept, ends_kept}
use Rattle.report_sections.proofs.ValueLines.{variables_kept}
use Rattle.report_sections.proofs.SectionCounts.{listed_kept}

-- What stands for a section stays when only what is kept of its unit's pairs changes; so do its counts.
pub section_kept : (s s' : List ℕ) (text : Bytes) (x : Setting) (facts : ℕ) (figures : Room) (t : Standing) (q : ℕ) (xs : List Bytes) (actives ws fs : List Goal)
    → Readable s text x facts → Changed s s' x facts → SectionAt s text x facts figures t q xs actives ws fs
    → SectionAt s' text x facts figures t q xs actives ws fs
section_kept s s' text x facts figures t q xs actives ws fs r c a =
    record {
      in_range = a.in_range;
      variables = variables_kept s s' text x facts q xs r c a.variables;
      active = listed_kept s s' text x facts _ q actives r c a.active;
      waiting = listed_kept s s' text x facts _ q ws r c a.waiting;
      failed = listed_kept s s' text x facts _ q fs r c a.failed;
    }

pub tallies_same : (s s' : List ℕ) (text : Bytes) (x : Setting) (facts : ℕ) (figures : Room) (t : Standing) (q : ℕ) (xs : List Bytes) (actives ws fs : List Goal)
    → get_or s' (query_tries_word q) 0 ≡ get_or s (query_tries_word q) 0
    → SectionAt s text x facts figures t q xs actives ws fs → SectionAt s' text x facts figures t q xs actives ws fs
    → tallies_of s' figures q t ≡ tallies_of s figures q t
tallies_same s s' text x facts figures t q xs actives ws fs e a b =
    let active : own_from s' (active_group figures t) q 0 t.active ≡ own_from s (active_group figures t) q 0 t.active =
    b.active.words ∙ sym a.active.words in
    let waiting : own_from s' (waiting_group figures t) q 0 t.log ≡ own_from s (waiting_group figures t) q 0 t.log =
    b.waiting.words ∙ sym a.waiting.words in
    let failed : own_from s' (failed_group figures t) q 0 t.failed ≡ own_from s (failed_group figures t) q 0 t.failed =
    b.failed.words ∙ sym a.failed.words in
    rw (e, active, waiting, failed)

-- The bytes of a section by its counts.
section_alike : (s s' : List ℕ) (figures : Room) (t : Standing) (values : Values) (q : ℕ) (xs : List Bytes) (actives ws fs : List Goal)
    → tallies_of s' figures q t ≡ tallies_of s figures q t
    → section_bytes s' figures t values q xs actives ws fs ≡ section_bytes s figures t values q xs actives ws fs
unfolding section_bytes
section_alike s s' figures t values q xs actives ws fs e = ap (λ c. header_of q c ++ lines_shown values xs actives ws fs) e

-- Lengths and places that are kept of values whose pairs were all seen are those in the order.
stored_at : (s : List ℕ) (x : Setting) (facts : ℕ) (order : List ℕ) (whole : Bytes) (n : ℕ) (v : Option Term) → LengthAt s x facts order n v
    → PlaceAt s x facts order whole n v → StoredAt s x facts order whole n v
unfolding shown
stored_at s x facts order whole n none l p = l
stored_at s x facts order whole n (some u) l p = λ d.
    let all = ap (λ (o : List ℕ). written o alone (full x.values u)) (l d).0 in
    ((l d).1 ∙ ap length all, has_as whole _ all (p d))

pub stored_all : (s : List ℕ) (x : Setting) (facts : ℕ) (order : List ℕ) (whole : Bytes) → Counting s x facts order → Placed s x facts order whole
    → Stored s x facts order whole
stored_all s x facts order whole c p n h = stored_at s x facts order whole n (value x.values n) (c.lengths n h) (p n h)

-- The counter set to 0.
module _ (s : List ℕ) (text : Bytes) (x : Setting) (figures : Room) (t : Standing) (q : ℕ) (xs : List Bytes) (actives ws fs : List Goal)
    (st : SectionStands s text x figures t q xs actives ws fs) (u : Uncounted s x (waiters_region figures)) where
  abbrev facts : ℕ
  facts = waiters_region figures

  abbrev s₀ : List ℕ
  s₀ = set s trial_region 0

  long : compounds_region ≤ length s
  long = omega (arith, st.readable.inside, st.readable.behind)

  changed₀ : Changed s s₀ x facts
  changed₀ = record { size = length-set s trial_region 0; others = λ k d e. get_or-set_other s trial_region k 0 0 d }

  fact_stays : (n i : ℕ) → get_or s₀ (fact_place x facts n + i) 0 ≡ get_or s (fact_place x facts n + i) 0
  fact_stays n i = get_or-set_other s trial_region (fact_place x facts n + i) 0 0 (λ e. omega (arith, st.readable.behind))

  readable₀ : Readable s₀ text x facts
  readable₀ =
      readable_kept s s₀ text x facts st.readable changed₀
      (λ n h. ends_kept s s₀ text x facts st.readable changed₀ n h
      (get_or-set_other s trial_region (fact_place x facts n) 0 0 (λ e. omega (arith, st.readable.behind))))

  no_length : (n : ℕ) (v : Option Term) → get_or s₀ (fact_place x facts n + 1) 0 ≡ 0 → LengthAt s₀ x facts [] n v
  no_length n none e = e
  no_length n (some w) e = λ d. absurd (d e)

  counting₀ : Counting s₀ x facts []
  unfolding among when◌then◌else◌
  counting₀ =
      record {
        given = get_or-set_same s trial_region 0 0 (omega (arith, long));
        numbers = λ n h. fact_stays n 2 ∙ u.numbers n h;
        lengths = λ n h. no_length n (value x.values n) (fact_stays n 1 ∙ u.lengths n h);
      }

  no_place : (whole : Bytes) (n : ℕ) (v : Option Term) → get_or s₀ (fact_place x facts n + 1) 0 ≡ 0 → PlaceAt s₀ x facts [] whole n v
  no_place whole n none e = tt
  no_place whole n (some w) e = λ d. absurd (d e)

  none_placed : (whole : Bytes) → Placed s₀ x facts [] whole
  none_placed whole n h = no_place whole n (value x.values n) (fact_stays n 1 ∙ u.lengths n h)

  pub restarted : (at : ℕ) → at ≤ 16777217 → Counts s₀ text x facts [] at
  restarted at low = record { readable = readable₀; counting = counting₀; low = low; few = omega arith }

  pub section_restarted : SectionAt s₀ text x facts figures t q xs actives ws fs
  section_restarted = section_kept s s₀ text x facts figures t q xs actives ws fs st.readable changed₀ st.here

  tallies₀ : tallies_of s₀ figures q t ≡ tallies_of s figures q t
  tallies₀ =
      tallies_same s s₀ text x facts figures t q xs actives ws fs
      (get_or-set_other s trial_region (query_tries_word q) 0 0 (λ e. omega (arith, st.here.variables.small))) st.here section_restarted

  pub section_told : (s' : List ℕ) (at r : ℕ)
      → Counted s₀ s' text x facts at [] (section_bytes s₀ figures t x.values q xs actives ws fs)
      (lines_seen x.values xs actives ws fs) r
      → SectionCounted s s' text x figures t q xs actives ws fs at r
  section_told s' at r c =
      let same = section_alike s s₀ figures t x.values q xs actives ws fs tallies₀ in
      record {
        changed = changed_then s s₀ s' x facts changed₀ c.changed;
        readable = c.readable;
        place = c.place ∙ ap (λ (l : Bytes). capped (at + length l)) same;
        numbers = λ h. subst (Numbers s' x facts) (c.exact h) c.counting.numbers;
        stored = λ h whole has.
            subst (λ (l : List ℕ). Stored s' x facts l whole) (c.exact h)
            (stored_all s' x facts c.after whole c.counting (c.placed h whole (has_as whole at (sym same) has) (none_placed whole)));
      }

  pub long_enough : compounds_region ≤ length s
  long_enough = long

  -- The same of a scratch that is this one, and of facts that begin there.
  module _ (s₁ : List ℕ) (from at : ℕ) (e : s₁ ≡ s₀) (f : from ≡ facts) (low : at ≤ 16777217) where
    pub asked_counts : Counts s₁ text x from [] at
    asked_counts =
        subst (λ (l : List ℕ). Counts l text x from [] at) (sym e) (subst (λ (k : ℕ). Counts s₀ text x k [] at) (sym f) (restarted at low))

    pub asked_section : SectionAt s₁ text x from figures t q xs actives ws fs
    asked_section =
        subst (λ (l : List ℕ). SectionAt l text x from figures t q xs actives ws fs) (sym e)
        (subst (λ (k : ℕ). SectionAt s₀ text x k figures t q xs actives ws fs) (sym f) section_restarted)

    abbrev Told : List ℕ → ℕ → List ℕ → ℕ → Type 0
    Told s' r l k =
        Counted l s' text x k at [] (section_bytes l figures t x.values q xs actives ws fs)
        (lines_seen x.values xs actives ws fs) r

    pub count_told : (s' : List ℕ) (r : ℕ) → Told s' r s₁ from → SectionCounted s s' text x figures t q xs actives ws fs at r
    count_told s' r c = section_told s' at r (subst (λ (k : ℕ). Told s' r s₀ k) f (subst (λ (l : List ℕ). Told s' r l from) e c))
