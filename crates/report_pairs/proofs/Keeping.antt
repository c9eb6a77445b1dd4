-- What counting changes leaves the unit's terms and values as they are.
use Prim.Native.Nat.{ℕ, ◌+◌, ◌-◌, ◌≤◌, ◌<◌}
use mathlib.Core.Path.{◌≡◌, refl, ◌∙◌}
use mathlib.Core.List.{List}
use mathlib.Core.Option.{Option, none, some}
use native.Mathlib.Omega.{arith}
use lib.ListN.{length, get_or}
use Rattle.meaning.specs.Bytes.{Bytes}
use Rattle.meaning.specs.Terms.{Term}
use Rattle.meaning.specs.State.{value}
use Rattle.term.specs.Setting.{Setting, UnitTerm, UnitStands}
use Rattle.term.proofs.Holds.{holds_alike, holds_values_alike, EveryValue}
use Rattle.term.proofs.Spellings.{holds_spellings_kept}
use Rattle.term.proofs.Units.{within_every}
use Rattle.term.specs.Layout.{trial_region, pairs_told}
use Rattle.report_pairs.specs.Facts.{fact_place, Led, EndAt, Readable, Shows, Changed, PlaceAt, Placed}

pub changed_none : (s : List ℕ) (x : Setting) (facts : ℕ) → Changed s s x facts
changed_none s x facts = record { size = refl; others = λ k a b. refl }

-- The places of pairs whose lengths and places stay.
pub place_kept : (s s' : List ℕ) (x : Setting) (facts : ℕ) (seen : List ℕ) (whole : Bytes) (n : ℕ) (v : Option Term)
    → get_or s' (fact_place x facts n + 1) 0 ≡ get_or s (fact_place x facts n + 1) 0 → get_or s' (fact_place x facts n + 3) 0 ≡ get_or s (fact_place x facts n + 3) 0
    → PlaceAt s x facts seen whole n v → PlaceAt s' x facts seen whole n v
place_kept s s' x facts seen whole n none e f a = tt
place_kept s s' x facts seen whole n (some u) e f a = λ d. rw f (a (λ z. d (e ∙ z)))

pub placed_kept : (s s' : List ℕ) (x : Setting) (facts : ℕ)
    → ((n : ℕ) → n < length x.values → get_or s' (fact_place x facts n + 1) 0 ≡ get_or s (fact_place x facts n + 1) 0)
    → ((n : ℕ) → n < length x.values → get_or s' (fact_place x facts n + 3) 0 ≡ get_or s (fact_place x facts n + 3) 0)
    → (seen : List ℕ) (whole : Bytes) → Placed s x facts seen whole → Placed s' x facts seen whole
placed_kept s s' x facts e f seen whole p n h = place_kept s s' x facts seen whole n (value x.values n) (e n h) (f n h) (p n h)

pub changed_then : (s t u : List ℕ) (x : Setting) (facts : ℕ) → Changed s t x facts → Changed t u x facts → Changed s u x facts
changed_then s t u x facts a b = record { size = b.size ∙ a.size; others = λ k d e. b.others k d e ∙ a.others k d e }

module _ (s s' : List ℕ) (text : Bytes) (x : Setting) (facts : ℕ) (r : Readable s text x facts) (c : Changed s s' x facts) where
  -- The words below the trial's region, the compounds' words, the values' words.
  pub before_kept : (k : ℕ) → k < trial_region → get_or s' k 0 ≡ get_or s k 0
  before_kept k h = c.others k (λ e. omega arith)
      (λ n l. (λ e. omega (arith, r.behind), λ e. omega (arith, r.behind), λ e. omega (arith, r.behind), λ e. omega (arith, r.behind)))

  pub front_kept : (k : ℕ) → pairs_told ≤ k → k < facts → get_or s' k 0 ≡ get_or s k 0
  front_kept k l h = c.others k (λ e. omega arith) (λ n b. (λ e. omega arith, λ e. omega arith, λ e. omega arith, λ e. omega arith))

  compound_kept : (n : ℕ) → n < x.compounds → (k : ℕ) → x.places.compound n ≤ k → k < x.places.compound n + x.places.width n → get_or s' k 0 ≡ get_or s k 0
  compound_kept n h k l b = front_kept k (omega (arith, r.compound_behind n h)) (omega (arith, r.compound_before n h))

  size_kept : length s ≤ length s'
  size_kept = omega (arith, c.size)

  pub unit_kept : (t : Term) → UnitTerm s x t → UnitTerm s' x t
  unit_kept t u = record {
    held = holds_alike s s' x.places (λ n. n < x.compounds) size_kept compound_kept t (within_every (length x.values) x.compounds t u.of.within) u.held;
    of = u.of;
  }

  pub led_kept : (t : Term) (w : ℕ) → Led s x t w → Led s' x t w
  led_kept t w l = record { last = l.last; word = l.word; term = unit_kept l.last l.term; sound = l.sound; ended = l.ended; same = l.same }

  pub shows_kept : (t : Term) (w : ℕ) → Shows s x t w → Shows s' x t w
  shows_kept t w l = record { term = unit_kept t l.term; sound = l.sound; word = l.word }

  value_every : (n : ℕ) → n < length x.values → (v : Option Term) → value x.values n ≡ v → EveryValue (λ m. m < x.compounds) v
  unfolding EveryValue
  value_every n h none e = tt
  value_every n h (some u) e = within_every (length x.values) x.compounds u (r.stands.of n u h e).within

  stands_kept : UnitStands s' x (facts - x.pairs)
  stands_kept = record {
    held = holds_values_alike s s' x.places (λ m. m < x.compounds) size_kept compound_kept (facts - x.pairs) x.pairs x.values
        (λ k l b. front_kept k (omega (arith, r.behind)) (omega (arith, r.behind)))
        (λ n h. value_every n h (value x.values n) refl) r.stands.held;
    of = r.stands.of;
  }

  pub readable_kept : ((n : ℕ) → n < length x.values → EndAt s' x facts n (value x.values n)) → Readable s' text x facts
  readable_kept e = record {
    inside = omega (arith, c.size, r.inside);
    behind = r.behind;
    room = front_kept pairs_told (omega arith) (omega (arith, r.behind)) ∙ r.room;
    links = r.links;
    apart = r.apart;
    compound_behind = r.compound_behind;
    compound_before = r.compound_before;
    no_circle = r.no_circle;
    sound = r.sound;
    stands = stands_kept;
    ends = e;
    few_names = r.few_names;
    names = holds_spellings_kept s s' text 0 x.places.names (λ k l h. before_kept k (omega (arith, r.few_names))) r.names;
    short = r.short;
  }

  -- The ends of pairs whose end words stay.
  end_kept : (n : ℕ) (v : Option Term) → get_or s' (fact_place x facts n) 0 ≡ get_or s (fact_place x facts n) 0 → EndAt s x facts n v → EndAt s' x facts n v
  end_kept n none e a = e ∙ a
  end_kept n (some u) e a = λ d. rw e (led_kept u (get_or s (fact_place x facts n) 0) (a (λ z. d (e ∙ z))))

  pub ends_kept : (n : ℕ) → n < length x.values → get_or s' (fact_place x facts n) 0 ≡ get_or s (fact_place x facts n) 0
      → EndAt s' x facts n (value x.values n)
  ends_kept n h e = end_kept n (value x.values n) e (r.ends n h)
