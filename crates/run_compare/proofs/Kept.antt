-- What a change of the trial's region alone leaves as it was: terms whose compounds lie outside it, and the unit's values and ends behind it.
use Prim.Native.Nat.{ℕ, ◌+◌, ◌≤◌, ◌<◌}
use mathlib.Core.Path.{◌≡◌, sym, ◌∙◌}
use mathlib.Core.Logic.{inl, inr}
use mathlib.Core.List.{List, [], ◌∷◌}
use native.Mathlib.Omega.{arith}
use lib.ListN.{get_or}
use Rattle.meaning.specs.Terms.{Functor, Term, Terms, end, more, count}
use Rattle.term.specs.Cells.{Places}
use Rattle.term.specs.Holds.{CellAt, Holds, HoldsFrom}
use Rattle.term.specs.Frames.{Only}
use Rattle.term.specs.Setting.{Setting, Within, AllWithin, UnitTerm, UnitTerms}
use Rattle.term.proofs.Units.{unit_term_alike, unit_terms_alike}
use Rattle.term.specs.Layout.{trial_region, woken_part}
use Rattle.run_chains.specs.Follow.{Chained, FollowedAt}
use Rattle.run_chains.proofs.Followed.{chained_alike, followed_alike}
use Rattle.run_compare.specs.Gifts.{to_head, to_goal}
use Rattle.run_compare.specs.Notes.{Note, given, asked}
use Rattle.run_compare.specs.Compare.{Template, item, HeadTerm, HeadTerms, Outside, TrialStands, AllNoted}

-- The other way round.
pub only_back : (lo hi : ℕ) (s s' : List ℕ) → Only lo hi s s' → Only lo hi s' s
only_back lo hi s s' o = record { size = sym o.size; below = λ k h. sym (o.below k h); above = λ k h. sym (o.above k h) }

module _ (s s' : List ℕ) (o : Only trial_region woken_part s s') where
  cell_kept : (places : Places) (n k : ℕ) → Outside places n → places.compound n ≤ k → k < places.compound n + places.width n
      → get_or s' k 0 ≡ get_or s k 0
  cell_kept places n k (inl low) a b = o.below k (omega arith)
  cell_kept places n k (inr high) a b = o.above k (omega arith)

  module _ (places : Places) (p c : ℕ) (outside : (n : ℕ) → n < c → Outside places n) where
    pub cell_at_kept : (n : ℕ) (f : Functor) (k : ℕ) → n < c → CellAt s places n f k → CellAt s' places n f k
    cell_at_kept n f k h a = record {
      inside = rw o.size a.inside;
      few = a.few;
      wide = a.wide;
      functor = cell_kept places n (places.compound n) (outside n h) (omega arith) (omega (arith, a.wide)) ∙ a.functor;
    }

    mutual
      unfolding Within AllWithin Holds HoldsFrom count

      pub holds_kept : (t : Term) → Within p c t → Holds s places t → Holds s' places t
      holds_kept (Term.variable h n) w k = tt
      holds_kept (Term.constant q) w k = tt
      holds_kept (Term.compound n f ts) w k =
          (cell_at_kept n f (count ts) w.0 k.0, holds_from_kept n 0 ts w.0 (omega (arith, k.0.wide)) w.1 k.1)

      pub holds_from_kept : (n i : ℕ) (ts : Terms) → n < c → i + count ts < places.width n → AllWithin p c ts
          → HoldsFrom s places n i ts → HoldsFrom s' places n i ts
      holds_from_kept n i end h wide w k = tt
      holds_from_kept n i (more t ts) h wide w k = (
        cell_kept places n (places.compound n + 1 + i) (outside n h) (omega arith) (omega arith) ∙ k.0,
        holds_kept t w.0 k.1,
        holds_from_kept n (i + 1) ts h (omega arith) w.1 k.2,
      )

  module _ (x : Setting) (outside : (n : ℕ) → n < x.compounds → Outside x.places n) where
    pub words_kept : (n : ℕ) → n < x.compounds → (k : ℕ) → x.places.compound n ≤ k → k < x.places.compound n + x.places.width n → get_or s' k 0 ≡ get_or s k 0
    words_kept n h k = cell_kept x.places n k (outside n h)

    pub unit_term_kept : (t : Term) → UnitTerm s x t → UnitTerm s' x t
    unit_term_kept = unit_term_alike s s' x (omega (arith, o.size)) words_kept

    pub unit_terms_kept : (n i : ℕ) (ts : Terms) → n < x.compounds → i + count ts < x.places.width n → UnitTerms s x n i ts → UnitTerms s' x n i ts
    unit_terms_kept = unit_terms_alike s s' x (omega (arith, o.size)) words_kept

    -- A goal's arguments, followed, stand in the trial's region behind what a trial changes.
    pub followed_kept : (links i : ℕ) (ts : Terms) → FollowedAt s x links i ts → FollowedAt s' x links i ts
    followed_kept links i ts = followed_alike s s' x (omega (arith, o.size)) words_kept links i ts (λ k l h. o.above k (omega arith))

    chained_kept : (from links : ℕ) → woken_part ≤ from → Chained s x from links → Chained s' x from links
    chained_kept from links b = chained_alike s s' x (omega (arith, o.size)) words_kept from links (λ k l. o.above k (omega arith))

  module _ (x : Setting) (y : Template) (small : y.number < 128) (few : y.compounds ≤ 32) where
    item_outside : (n : ℕ) → n < y.compounds → Outside (item x y) n
    item_outside n h = inl (omega arith)

    pub head_term_kept : (lo hi : ℕ) (t : Term) → HeadTerm s x y lo hi t → HeadTerm s' x y lo hi t
    head_term_kept lo hi t k = record {
      held = holds_kept (item x y) y.pairs y.compounds item_outside t k.within k.held;
      within = k.within;
      known = k.known;
      ranged = k.ranged;
      numbered = k.numbered;
      high = k.high;
    }

    pub head_terms_kept : (m i lo hi : ℕ) (ts : Terms) → m < y.compounds → i + count ts ≤ 6
        → HeadTerms s x y m i lo hi ts → HeadTerms s' x y m i lo hi ts
    head_terms_kept m i lo hi ts h least k = record {
      held = holds_from_kept (item x y) y.pairs y.compounds item_outside m i ts h (omega arith) k.within k.held;
      within = k.within;
      known = k.known;
      ranged = k.ranged;
      numbered = k.numbered;
      high = k.high;
      rising = k.rising;
    }

  pub trial_kept : (x : Setting) (y : Template) (from links : ℕ) → TrialStands s x y from links → TrialStands s' x y from links
  trial_kept x y from links t = record {
    large = rw o.size t.large;
    unit = chained_kept x t.outside from links t.behind t.unit;
    behind = t.behind;
    outside = t.outside;
    number = t.number;
    pairs = t.pairs;
    compounds = t.compounds;
  }

  module _ (x : Setting) (y : Template) (from links : ℕ) (t : TrialStands s x y from links) where
    pub all_noted_kept : (lo hi : ℕ) (ns : List Note) → AllNoted s x y lo hi ns → AllNoted s' x y lo hi ns
    unfolding AllNoted
    all_noted_kept lo hi [] k = k
    all_noted_kept lo hi (given (to_head n u) ∷ ns) k = ((k.0.0, unit_term_kept x t.outside u k.0.1), all_noted_kept lo hi ns k.1)
    all_noted_kept lo hi (given (to_goal z h) ∷ ns) k = (
      k.0,
      k.1,
      k.2,
      k.3,
      head_term_kept x y t.number t.compounds k.1 k.2 h k.4,
      all_noted_kept k.2 hi ns k.5,
    )
    all_noted_kept lo hi (asked z ∷ ns) k = (k.0, all_noted_kept lo hi ns k.1)
