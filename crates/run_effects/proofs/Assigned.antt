-- The values that a reduction assigns: the words that the head's writers were given, and the copies of the terms that the goal's pairs were given.
-- No pair is given a term twice, and each copy lies behind those before it, so what was assigned stays; the entries lie before all that is written.
use Prim.Native.Nat.{ℕ, ◌+◌, ◌≤◌, ◌<◌}
use mathlib.Core.Path.{◌≡◌, refl, sym, ◌∙◌}
use mathlib.Core.Bool.{Bool, true, false}
use mathlib.Core.Logic.{inl, inr}
use mathlib.Core.List.{List, [], ◌∷◌}
use native.Mathlib.Omega.{arith}
use lib.Dec.{eqb}
use lib.ListN.{length, get_or, set}
use lib.Seq.{get_or-set_same, get_or-set_other}
use borrow.Author.Tests.{eqb-true, eqb-false}
use Rattle.meaning.specs.Terms.{Term}
use Rattle.term.specs.Cells.{Places}
use Rattle.term.specs.Layout.{trial_region, compounds_region, gift_pair, gift_term}
use Rattle.run_compare.specs.Gifts.{Entry, EntriesAt}
use Rattle.run_effects.specs.Build.{Item, size, Copies, total, ListSpread, Original, Aside, Moved, Copied}
use Rattle.run_effects.specs.Reducing.{Apart, KeptWhere, EntryTerms, entry_terms, Assigning, EntriesGiven, NoEntry, GoalAssigned}
use Rattle.run_effects.proofs.Copies.{item_term_on}
use Rattle.run_effects.proofs.Keeping.{not_apart, apart_inside, kept_same, kept_then, kept_set}
use Rattle.run_effects.proofs.Spreading.{copy_stays}

-- The first of the head's writers.
pub record Begun (s₀ s : List ℕ) (values pair pairs x : ℕ) : Type 0 where
  pub few : x ≤ pairs
  pub kept : KeptWhere (Apart (values + pair) (values + pair + pairs)) s₀ s
  pub given : (a : ℕ) → a < x → get_or s (values + pair + a) 0 ≡ get_or s₀ (trial_region + a) 0

pub none_given : (s : List ℕ) (values pair pairs : ℕ) → Begun s s values pair pairs 0
none_given s values pair pairs = record {
  few = omega arith;
  kept = kept_same (Apart (values + pair) (values + pair + pairs)) s;
  given = λ a h. absurd (omega arith);
}

pub one_given : (s₀ s : List ℕ) (values pair pairs x w : ℕ) → pairs ≤ 16 → compounds_region ≤ values → values + pair + pairs ≤ length s₀
    → Begun s₀ s values pair pairs x → x < pairs → w ≡ get_or s (trial_region + x) 0 → Begun s₀ (set s (values + pair + x) w) values pair pairs (x + 1)
one_given s₀ s values pair pairs x w small behind inside b h e = record {
  few = omega arith;
  kept =
      kept_then P s₀ s (set s at w) b.kept
      (kept_set P s at w (λ k a z. not_apart (values + pair) (values + pair + pairs) k at a (omega arith) (omega arith) z));
  given = λ a l. go a l (eqb a x) refl;
}
  where
    at : ℕ
    at = values + pair + x

    P : ℕ → Type 0
    P = Apart (values + pair) (values + pair + pairs)

    go : (a : ℕ) → a < x + 1 → (t : Bool) → eqb a x ≡ t → get_or (set s (values + pair + x) w) (values + pair + a) 0 ≡ get_or s₀ (trial_region + a) 0
    go a l true z =
        rw (eqb-true a x z)
        (get_or-set_same s (values + pair + x) w 0 (omega (arith, b.kept.size)) ∙ e ∙ b.kept.same (trial_region + x) (inl (omega arith)))
    go a l false z =
        let other = eqb-false a x z in
        get_or-set_other s (values + pair + x) (values + pair + a) w 0 (λ y. other (omega arith)) ∙ b.given a (below a x l other)
      where
        below : (a x : ℕ) → a < x + 1 → (a ≡ x → ⊥) → a < x
        below a x l d = least (eqb a x) refl
          where
            least : (t : Bool) → eqb a x ≡ t → a < x
            least true q = absurd (d (eqb-true a x q))
            least false q = omega arith

-- Outside the copies and the values.
abbrev pub Elsewhere : ℕ → ℕ → ℕ → ℕ → ℕ → Type 0
Elsewhere values bound lo hi k = Apart lo hi k × Apart values (values + bound) k

-- The first i entries are assigned, the rest is left.
pub record Partly (s₀ s : List ℕ) (x : Item) (unit : Places) (values bound pair to n : ℕ) (list : List Entry) (i free : ℕ) (rest : List Entry)
    : Type 0 where
  pub left : i + length rest ≡ n
  pub beyond : to ≤ free
  pub ends : free + total (entry_terms rest) ≡ to + total (entry_terms list)
  pub kept : KeptWhere (Elsewhere values bound to (to + total (entry_terms list))) s₀ s
  pub stand : EntriesAt s₀ x.places unit i rest
  pub terms : EntryTerms s₀ x unit bound rest
  pub none_of : (z : ℕ) → NoEntry unit z list → NoEntry unit z rest
  pub others : (z : ℕ) → NoEntry unit z list → get_or s (values + z) 0 ≡ get_or s₀ (values + z) 0
  pub spread : (y : Copies) → ListSpread y to (entry_terms list) → ListSpread y free (entry_terms rest)
  pub whole : (places : Places) (y : Copies) (p c : ℕ) → Moved x places pair y p c → ListSpread y to (entry_terms list)
      → (s' : List ℕ) → length s ≤ length s' → ((k : ℕ) → to ≤ k → k < free → get_or s' k 0 ≡ get_or s k 0)
      → ((k : ℕ) → k < i → get_or s' (values + get_or s₀ (gift_pair k) 0) 0 ≡ get_or s (values + get_or s₀ (gift_pair k) 0) 0)
      → EntriesGiven s' unit places values p c rest → EntriesGiven s' unit places values p c list

module _ (s₀ : List ℕ) (x : Item) (unit : Places) (values bound pair to n : ℕ) (list : List Entry)
    (a : Assigning s₀ x unit values bound pair to n list) where
  P : ℕ → Type 0
  P = Elsewhere values bound to (to + total (entry_terms list))

  pub none_assigned : Partly s₀ s₀ x unit values bound pair to n list 0 to list
  unfolding P
  none_assigned = record {
    left = omega (arith, a.number);
    beyond = omega arith;
    ends = refl;
    kept = kept_same P s₀;
    stand = a.stand;
    terms = a.terms;
    none_of = λ z e. e;
    others = λ z e. refl;
    spread = λ y all. all;
    whole = λ places y p c moved all s' size same first rest. rest;
  }

  module _ (s : List ℕ) (i free : ℕ) where
    -- All entries are assigned.
    pub all_assigned : (rest : List Entry) → Partly s₀ s x unit values bound pair to n list i free rest → n ≤ i
        → GoalAssigned s₀ s x unit values bound pair to list free
    unfolding EntriesGiven total
    all_assigned [] g h = record {
      behind = omega (arith, g.ends);
      kept = g.kept;
      others = g.others;
      given = λ places y p c moved all. g.whole places y p c moved all s (omega arith) (λ k l u. refl) (λ k l. refl) tt;
    }
    all_assigned (e ∷ rest) g h = absurd (omega (arith, g.left))

    -- The trial's words and the item's terms stay as they were.
    trial_word : (rest : List Entry) → Partly s₀ s x unit values bound pair to n list i free rest → (k : ℕ) → k < compounds_region → get_or s k 0 ≡ get_or s₀ k 0
    trial_word rest g k h = g.kept.same k (inl (omega (arith, a.behind)), inl (omega (arith, a.behind, a.before)))

    pub inside : (rest : List Entry) → Partly s₀ s x unit values bound pair to n list i free rest → i < n → gift_term i < length s
    inside rest g h = omega (arith, g.kept.size, a.few, a.behind, a.before, a.inside)

    -- The next entry.
    pub next_entry : (rest : List Entry) → Partly s₀ s x unit values bound pair to n list i free rest → i < n
        → (e : Entry) × (others : List Entry) × (rest ≡ e ∷ others) × (get_or s (gift_pair i) 0 ≡ unit.pair e.pair)
        × Original s x pair free (get_or s (gift_term i) 0) e.term × Aside s (values + unit.pair e.pair) free e.term
    unfolding EntriesAt EntryTerms total
    next_entry [] g h = absurd (omega (arith, g.left))
    next_entry (e ∷ others) g h = (
      e,
      others,
      refl,
      trial_word (e ∷ others) g (gift_pair i) (omega (arith, a.few)) ∙ g.stand.0,
      record {
        goes = a.goes;
        word = trial_word (e ∷ others) g (gift_term i) (omega (arith, a.few)) ∙ g.stand.1;
        term =
            item_term_on x pair a.goes s₀ s (omega (arith, g.kept.size)) (λ k l. trial_word (e ∷ others) g k (omega arith)) e.term g.terms.0.1;
        behind = omega (arith, a.behind, g.beyond);
        inside = omega (arith, a.before, a.inside, g.ends, g.kept.size);
        room = λ some. omega (arith, a.room (omega (arith, g.ends, g.beyond)), g.ends, g.kept.size);
      },
      record {
        behind = omega (arith, a.behind, a.before);
        inside = omega (arith, a.inside, g.terms.0.0, g.kept.size);
        apart = inr (omega (arith, a.before, g.ends));
      },
    )

    module _ (e : Entry) (others : List Entry) (g : Partly s₀ s x unit values bound pair to n list i free (e ∷ others)) (h : i < n) (s₁ : List ℕ) (r : ℕ)
        (d : Copied s s₁ x pair (values + unit.pair e.pair) free e.term r) where
      place : ℕ
      place = unit.pair e.pair

      place_is : get_or s₀ (gift_pair i) 0 ≡ place
      unfolding EntriesAt place
      place_is = g.stand.0

      place_small : place < bound
      unfolding EntryTerms place
      place_small = g.terms.0.0

      -- Where the copy ends.
      last : free + size e.term ≤ to + total (entry_terms list)
      unfolding total
      last = omega (arith, g.ends)

      copied_kept : KeptWhere P s s₁
      unfolding P place
      copied_kept = record {
        size = d.size_kept;
        same = λ k q.
            d.same k (λ z. not_apart values (values + bound) k (values + place) q.1 (omega arith) (omega (arith, place_small)) z)
            (apart_inside to (to + total (entry_terms list)) free (free + size e.term) k g.beyond last q.0);
      }

      -- A value of another pair.
      other_value : (z : ℕ) → (z ≡ place → ⊥) → get_or s₁ (values + z) 0 ≡ get_or s (values + z) 0
      unfolding place
      other_value z apart = d.same (values + z) (λ y. apart (omega arith)) (inr (omega (arith, a.before, last)))

      -- A word of an earlier copy.
      earlier : (k : ℕ) → k < free → get_or s₁ k 0 ≡ get_or s k 0
      earlier k l = d.same k (λ y. omega (arith, a.before, last)) (inl l)

      earlier_apart : (k : ℕ) → k < i → get_or s₀ (gift_pair k) 0 ≡ place → ⊥
      earlier_apart k l z = let same : k ≡ i = a.apart k i (omega arith) h (z ∙ sym place_is) in omega arith

      entry_assigned : (places : Places) (y : Copies) (p c : ℕ) → Moved x places pair y p c → ListSpread y to (entry_terms list)
          → (s' : List ℕ) → length s₁ ≤ length s' → ((k : ℕ) → to ≤ k → k < r → get_or s' k 0 ≡ get_or s₁ k 0)
          → ((k : ℕ) → k < i + 1 → get_or s' (values + get_or s₀ (gift_pair k) 0) 0 ≡ get_or s₁ (values + get_or s₀ (gift_pair k) 0) 0)
          → EntriesGiven s' unit places values p c others → EntriesGiven s' unit places values p c list
      unfolding EntriesGiven EntryTerms ListSpread place
      entry_assigned places y p c moved all s' more same first rest =
          let own = (g.spread y all).0 in
          let ends : r ≡ free + size e.term = d.behind in
          let value : get_or s' (values + place) 0 ≡ get_or s₁ (values + place) 0 = rw place_is at (first i (omega arith)) in
          g.whole places y p c moved all s' (omega (arith, d.size_kept)) (λ k l u. same k l (omega arith) ∙ earlier k u)
          (λ k l. first k (omega arith) ∙ other_value (get_or s₀ (gift_pair k) 0) (earlier_apart k l)) (
            (
              value ∙ d.word places y p c moved own,
              copy_stays x places pair y p c moved s₁ s' more free e.term (λ k l u. same k (omega (arith, g.beyond)) (omega arith))
                  g.terms.0.1.within own (d.held places y p c moved own),
            ),
            rest,
          )

      pub one_assigned : Partly s₀ s₁ x unit values bound pair to n list (i + 1) r others
      unfolding EntriesAt EntryTerms NoEntry ListSpread total P place
      one_assigned =
          let ends : r ≡ free + size e.term = d.behind in
          record {
            left = omega (arith, g.left);
            beyond = omega (arith, g.beyond);
            ends = omega (arith, g.ends);
            kept = kept_then P s₀ s s₁ g.kept copied_kept;
            stand = g.stand.2;
            terms = g.terms.1;
            none_of = λ z q. (g.none_of z q).1;
            others = λ z q. other_value z (g.none_of z q).0 ∙ g.others z q;
            spread = λ y all. rw ends (g.spread y all).1;
            whole = entry_assigned;
          }

    -- The next entry assigned, as the code reads and writes it.
    pub again : (rest : List Entry) → Partly s₀ s x unit values bound pair to n list i free rest → i < n → (s₁ : List ℕ) (r h z : ℕ)
        → z ≡ get_or s (gift_pair i) 0 → h ≡ get_or s (gift_term i) 0
        → ((x : Item) (t : Term) → Original s x pair free h t → Aside s (values + z) free t → Copied s s₁ x pair (values + z) free t r)
        → (rest' : List Entry) × Partly s₀ s₁ x unit values bound pair to n list (i + 1) r rest'
    again rest g taken s₁ r h z place word told =
        let (e, others, is, at, b, aside) = next_entry rest g taken in
        let where_it_is : z ≡ unit.pair e.pair = place ∙ at in
        let b' : Original s x pair free h e.term = rw word b in
        let aside' : Aside s (values + z) free e.term = rw where_it_is aside in
        let d : Copied s s₁ x pair (values + unit.pair e.pair) free e.term r = rw where_it_is at (told x e.term b' aside') in
        (others, one_assigned e others (rw is at g) taken s₁ r d)
