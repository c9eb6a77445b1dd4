-- The ends that are kept, from one state of the run to the next: the units grow, and a value, once it is there, stays.
use Prim.Native.Nat.{ℕ, zero, suc, ◌+◌, ◌≤◌, ◌<◌}
use mathlib.Core.Path.{◌≡◌, refl, sym, ◌∙◌}
use mathlib.Core.Logic.{◌⊎◌, inl, inr}
use mathlib.Core.List.{List}
use mathlib.Core.Option.{some}
use native.Mathlib.Omega.{arith}
use lib.ListN.{length, get_or}
use Rattle.meaning.specs.Bytes.{Bytes}
use Rattle.meaning.specs.Terms.{Term}
use Rattle.meaning.specs.State.{Room, QueryUnit, value, unit_at}
use Rattle.term.specs.Chains.{EndOf}
use Rattle.term.specs.Layout.{ends_region, queue_region}
use Rattle.term.specs.Setting.{Setting}
use Rattle.term.specs.States.{Atlas, setting_at, Lies}
use Rattle.term.proofs.Chains.{leads_on}
use Rattle.run_queues.proofs.Log.{by_place}
use Rattle.run_between.specs.Running.{EndAt, AllEnds}
use Rattle.run_between.proofs.Frames.{UnitsAlike, UnitsKept, cells_at, same_setting}
use Rattle.run_between.proofs.Growing.{agree_same, Grown, word_grows, term_grows}

end_grows : (s s' : List ℕ) (x x' : Setting) → Grown s s' x x'
    → ((n : ℕ) (t : Term) → value x.values n ≡ some t → value x'.values n ≡ some t)
    → (n w : ℕ) → EndOf s x n w → EndOf s' x' n w
end_grows s s' x x' g stays n w e = record {
  first = e.first;
  assigned = stays n e.first e.assigned;
  links = e.links;
  last = e.last;
  leads = leads_on x.values x'.values stays e.links e.first e.last e.leads;
  term = term_grows s s' x x' g e.last e.term;
  word = e.word ∙ sym (word_grows s s' x x' g e.last e.term.of);
}

module _ (s s' : List ℕ) (figures : Room) (atlas atlas' : Atlas) (units units' : List QueryUnit) (number : length units ≤ length units')
    (grown : (k : ℕ) → k < length units → Grown s s' (setting_at figures atlas units k) (setting_at figures atlas' units' k))
    (stays : (k n : ℕ) (t : Term) → value (unit_at k units).values n ≡ some t → value (unit_at k units').values n ≡ some t) where
  pub end_at_grows : (p w : ℕ) → EndAt s figures atlas units p w → EndAt s' figures atlas' units' p w
  end_at_grows p w a =
      let g = grown a.query a.known in record {
        query = a.query;
        known = omega (arith, a.known);
        pair = a.pair;
        inside = omega (arith, a.inside, g.more_pairs);
        place = g.agree.pair a.pair a.inside ∙ a.place;
        end = end_grows s s' (setting_at figures atlas units a.query) (setting_at figures atlas' units' a.query) g (stays a.query) a.pair w a.end;
      }

  pub ends_grow : ((k : ℕ) → ends_region figures ≤ k → k < queue_region figures → get_or s' k 0 ≡ get_or s k 0)
      → AllEnds s figures atlas units → AllEnds s' figures atlas' units'
  ends_grow same all p h d =
      let e = same (ends_region figures + p) (omega arith) (omega arith) in
      rw e (end_at_grows p (get_or s (ends_region figures + p) 0) (all p h (λ z. d (e ∙ z))))

-- The units differ at most in their tries, and the words of their compounds stay.
module _ (s s' : List ℕ) (names : List Bytes) (figures : Room) (atlas : Atlas) (units units' : List QueryUnit) (pairs compounds cells : ℕ)
    (lies : Lies names figures atlas units pairs compounds cells) (kept : UnitsKept figures cells s s') (alike : UnitsAlike units units') where
  alike_grown : (k : ℕ) → k < length units → Grown s s' (setting_at figures atlas units k) (setting_at figures atlas units' k)
  alike_grown k h =
      rw (same_setting s s' names figures atlas units units' pairs compounds cells lies kept alike k)
      (record {
        agree = agree_same (length (unit_at k units).values) (unit_at k units).compounds (atlas k);
        more_pairs = omega arith;
        more_compounds = omega arith;
        room = refl;
        size = omega (arith, kept.size);
        words = cells_at s s' names figures atlas units units' pairs compounds cells lies kept alike k h;
      })

  pub end_at_alike : (p w : ℕ) → EndAt s figures atlas units p w → EndAt s' figures atlas units' p w
  end_at_alike =
      end_at_grows s s' figures atlas atlas units units' (omega (arith, alike.number)) alike_grown (λ k n t e. rw (alike.values k) e)

  pub ends_alike : ((k : ℕ) → ends_region figures ≤ k → k < queue_region figures → get_or s' k 0 ≡ get_or s k 0)
      → AllEnds s figures atlas units → AllEnds s' figures atlas units'
  ends_alike =
      ends_grow s s' figures atlas atlas units units' (omega (arith, alike.number)) alike_grown (λ k n t e. rw (alike.values k) e)

-- A number with a value of f, among the first n; or none has it.
pub find : (f : ℕ → ℕ) (p n : ℕ) → ((m : ℕ) × (m < n) × (f m ≡ p)) ⊎ ((m : ℕ) → m < n → f m ≡ p → ⊥)
find f p zero = inr (λ m h e. omega arith)
find f p (suc n) = go (find f p n)
  where
    go : ((m : ℕ) × (m < n) × (f m ≡ p)) ⊎ ((m : ℕ) → m < n → f m ≡ p → ⊥) → ((m : ℕ) × (m < suc n) × (f m ≡ p)) ⊎ ((m : ℕ) → m < suc n → f m ≡ p → ⊥)
    go (inl (m, h, e)) = inl (m, omega arith, e)
    go (inr none) =
        by_place (f n) p (λ e. inl (n, omega arith, e))
        (λ d. inr (λ m h e. by_place m n (λ same. d (rw (← same) e)) (λ other. none m (omega arith) e)))
