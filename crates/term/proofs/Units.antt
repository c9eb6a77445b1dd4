-- A unit's terms, values and ends go on standing where the words of its compounds and its own words stay as they were.
use Prim.Native.Nat.{ℕ, ◌+◌, ◌≤◌, ◌<◌}
use mathlib.Core.Path.{◌≡◌, refl, ◌∙◌}
use mathlib.Core.List.{List}
use mathlib.Core.Option.{Option, none, some}
use native.Mathlib.Omega.{arith}
use lib.ListN.{length, get_or}
use Rattle.meaning.specs.Terms.{Term, Terms, end, more, count}
use Rattle.meaning.specs.State.{value}
use Rattle.term.specs.Every.{Every, EveryOf}
use Rattle.term.specs.Setting.{Setting, Within, AllWithin, UnitTerm, UnitTerms, UnitStands}
use Rattle.term.specs.Chains.{EndOf, end_place, EndsStand}
use Rattle.term.proofs.Holds.{holds_alike, holds_from_alike, EveryValue, holds_values_alike}

-- A term's compounds are below the bound on them.
mutual
  unfolding Within AllWithin Every EveryOf

  pub within_every : (p c : ℕ) (t : Term) → Within p c t → Every (λ n. n < c) t
  within_every p c (Term.variable h n) w = tt
  within_every p c (Term.constant k) w = tt
  within_every p c (Term.compound n f ts) w = (w.0, all_within_every p c ts w.1)

  pub all_within_every : (p c : ℕ) (ts : Terms) → AllWithin p c ts → EveryOf (λ n. n < c) ts
  all_within_every p c end w = tt
  all_within_every p c (more t ts) w = (within_every p c t w.0, all_within_every p c ts w.1)

module _ (s s' : List ℕ) (x : Setting) (size : length s ≤ length s')
    (alike : (n : ℕ) → n < x.compounds → (k : ℕ) → x.places.compound n ≤ k → k < x.places.compound n + x.places.width n → get_or s' k 0 ≡ get_or s k 0) where
  pub unit_term_alike : (t : Term) → UnitTerm s x t → UnitTerm s' x t
  unit_term_alike t k = record {
    held = holds_alike s s' x.places (λ n. n < x.compounds) size alike t
        (within_every (length x.values) x.compounds t k.of.within) k.held;
    of = k.of;
  }

  -- The arguments of its compound n from the i-th on.
  pub unit_terms_alike : (n i : ℕ) (ts : Terms) → n < x.compounds → i + count ts < x.places.width n → UnitTerms s x n i ts → UnitTerms s' x n i ts
  unit_terms_alike n i ts h few k = record {
    held = holds_from_alike s s' x.places (λ n. n < x.compounds) size alike n i ts (λ m a b. alike n h m (omega arith) b) few
        (all_within_every (length x.values) x.compounds ts k.within) k.held;
    within = k.within;
    known = k.known;
    ranged = k.ranged;
  }

  every_value : (from n : ℕ) → UnitStands s x from → n < length x.values → (v : Option Term) → value x.values n ≡ v
      → EveryValue (λ m. m < x.compounds) v
  unfolding EveryValue
  every_value from n u h none e = tt
  every_value from n u h (some t) e = within_every (length x.values) x.compounds t (u.of n t h e).within

  pub unit_stands_alike : (from : ℕ) → ((k : ℕ) → from ≤ k → k < from + x.pairs → get_or s' k 0 ≡ get_or s k 0) → UnitStands s x from → UnitStands s' x from
  unit_stands_alike from own u = record {
    held = holds_values_alike s s' x.places (λ m. m < x.compounds) size alike from x.pairs x.values own
        (λ n h. every_value from n u h (value x.values n) refl) u.held;
    of = u.of;
  }

  pub end_alike : (n w : ℕ) → EndOf s x n w → EndOf s' x n w
  end_alike n w e = record {
    first = e.first;
    assigned = e.assigned;
    links = e.links;
    last = e.last;
    leads = e.leads;
    term = unit_term_alike e.last e.term;
    word = e.word;
  }

  pub ends_stand_alike : (from : ℕ) → ((n : ℕ) → n < length x.values → get_or s' (end_place x from n) 0 ≡ get_or s (end_place x from n) 0)
      → EndsStand s x from → EndsStand s' x from
  ends_stand_alike from own e = record {
    inside = omega (arith, e.inside);
    ended = e.ended;
    kept = λ n h d. rw (own n h) (end_alike n (get_or s (end_place x from n) 0) (e.kept n h (λ z. d (own n h ∙ z))));
  }
