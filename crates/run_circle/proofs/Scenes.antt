-- The scene that the search meets while a trial is tested: the unit's pairs with their values' words or their entries' numbers, and the clause's
-- pairs with what they are given. The terms of the head stand renamed apart, at the item's places raised.
use Prim.Native.Nat.{ℕ, ◌+◌, ◌-◌, ◌≤◌, ◌<◌}
use mathlib.Core.Path.{◌≡◌, refl, sym, ap, subst, ◌∙◌}
use mathlib.Core.Logic.{◌⊎◌, inl, inr}
use mathlib.Core.Bool.{true, false}
use mathlib.Core.List.{List}
use mathlib.Core.Option.{Option, none, some}
use native.Mathlib.Omega.{arith}
use lib.ListN.{length, get_or, take, replicate, length-append, length-replicate, get_or-append}
use lib.Seq.{get_or-take, length-take-le}
use Rattle.meaning.specs.Terms.{Term}
use Rattle.meaning.specs.State.{value}
use Rattle.laws.proofs.Trial.Values.{assigned_below}
use Rattle.term.specs.Holds.{HoldsValue, value_word}
use Rattle.term.specs.Setting.{Within}
use Rattle.term.specs.Layout.{trial_region, gift_term}
use Rattle.run_circle.specs.Circle.{entry_pair, entry_term, Held, Trial, old, Tried}
use Rattle.run_circle.specs.Search.{Scene, whole, On, Told, Given, Shown}
use Rattle.run_circle.proofs.Parts.{raised, within_stands, renamed_stands, raised_word, holds_part, holds_renamed}
use Rattle.run_circle.proofs.Through.{entry_or_not}

abbrev pub scene : Trial → ℕ → List ℕ → ℕ → Scene
scene y values front size =
    record {
      front = front;
      size = size;
      values = values;
      pairs = y.unit.pairs;
      before = y.unit.values;
      after = y.after;
      old = old y;
      unit = y.unit.places;
      clause = raised y.item (old y) y.unit.compounds;
    }

module _ (s₀ s : List ℕ) (y : Trial) (values marks n stamp : ℕ) (tried : Tried s₀ y values marks n stamp) (held : Held s₀ s values n true) where
  abbrev x : Scene
  x = scene y values (take marks s) (length s)

  pub front_marks : length (take marks s) ≡ marks
  front_marks = length-take-le marks s (omega (arith, held.size, tried.room))

  -- Before the values all is as it was.
  pub before_same : (k : ℕ) → k < values → get_or (take marks s) k 0 ≡ get_or s₀ k 0
  before_same k h =
      get_or-take marks s k 0 (omega (arith, tried.marks_behind)) ∙ held.others k (λ i l e. omega arith)

  whole_same : (k : ℕ) → k < values → get_or (whole x) k 0 ≡ get_or s₀ k 0
  whole_same k h =
      get_or-append (take marks s) (replicate (length s - length (take marks s)) 7) 0 k (omega (arith, front_marks, tried.marks_behind)) ∙ before_same k h

  whole_long : length s₀ ≤ length (whole x)
  whole_long =
      omega (
        arith,
        length-append (take marks s) (replicate (length s - length (take marks s)) 7),
        length-replicate {A = ℕ} (length s - length (take marks s)) 7,
        held.size,
      )

  -- A value that is a term of the unit.
  unit_told : (w : ℕ) (v : Option Term) → w ≡ value_word y.unit.places v
      → HoldsValue s₀ y.unit.places v → ((t : Term) → v ≡ some t → Within (old y) y.unit.compounds t) → Told x false w v
  unit_told w none e h within = record { word = e; held = tt; pairs = λ j r. absurd r }
  unit_told w (some t) e h within = record {
    word = e;
    held =
        holds_part s₀ (whole x) values whole_long whole_same y.unit.places (old y) y.unit.compounds
        tried.unit_before t h (within t refl);
    pairs = within_stands (old y) y.unit.compounds t (within t refl);
  }

  holds_value : (v : Option Term) → ((t : Term) → v ≡ some t → HoldsValue s₀ y.unit.places (some t)) → HoldsValue s₀ y.unit.places v
  holds_value none h = tt
  holds_value (some t) h = h t refl

  -- The value of an entry's pair: its term, renamed apart.
  pub entry_told : (i : ℕ) (h : i < n) → Told x true (entry_term (take marks s) i) (value y.after (tried.entry i h).pair)
  entry_told i h =
      let e = tried.entry i h in
      let words : entry_term (take marks s) i ≡ entry_term s₀ i = before_same (gift_term i) (omega (arith, tried.entries_before)) in
      rw e.given (record {
        word = words ∙ e.word ∙ sym (raised_word y.item (old y) y.unit.compounds e.term);
        held =
            holds_renamed s₀ (whole x) values whole_long whole_same y.item y.pairs y.compounds
            tried.item_before (old y) y.unit.compounds e.term e.held e.within;
        pairs = λ j r.
            let b = renamed_stands (old y) y.unit.compounds y.pairs y.compounds e.term e.within j r in
            (b.0, omega (arith, tried.after_length, b.1));
      })

  -- What a pair of the clause is given.
  clause_place : (j : ℕ) → old y ≤ j → trial_region + x.clause.pair j ≡ trial_region + (j - old y)
  clause_place j l = ap (λ k. trial_region + k) (tried.item_pair (j - old y))

  clause_told : (j : ℕ) → On x true j → Told x false (get_or (take marks s) (trial_region + x.clause.pair j) 0) (value y.after j)
  clause_told j on =
      let m = j - old y in
      let h : m < y.pairs = omega (arith, on.0, on.1, tried.after_length) in
      let is : old y + m ≡ j = omega (arith, on.0) in
      let g = tried.given m h in
      let words : get_or (take marks s) (trial_region + x.clause.pair j) 0 ≡ get_or s₀ (trial_region + m) 0 =
      ap (λ k. get_or (take marks s) k 0) (clause_place j on.0)
      ∙ before_same (trial_region + m) (omega (arith, tried.few, tried.entries_before)) in
      subst (λ k. Told x false (get_or (take marks s) (trial_region + x.clause.pair j) 0) (value y.after k)) is
      (unit_told (get_or (take marks s) (trial_region + x.clause.pair j) 0) (value y.after (old y + m)) (words ∙ g.word)
      (holds_value (value y.after (old y + m)) g.held) g.within)

  -- A pair of the unit, an entry's or not.
  unit_shown : (j : ℕ) → j < old y
      → ((value y.after j ≡ value y.unit.values j)
      × Told x false (get_or (take marks s) (values + y.unit.places.pair j) 0) (value y.after j))
      ⊎ ((value y.unit.values j ≡ none) × Given x (get_or (take marks s) (values + y.unit.places.pair j) 0) (value y.after j))
  unit_shown j l = go (entry_or_not s₀ n (y.unit.places.pair j))
    where
      at : get_or (take marks s) (values + y.unit.places.pair j) 0 ≡ get_or s (values + y.unit.places.pair j) 0
      at = get_or-take marks s (values + y.unit.places.pair j) 0 (omega (arith, tried.marks_behind, tried.unit.held.place j l))

      go : ((i : ℕ) × (i < n) × (y.unit.places.pair j ≡ entry_pair s₀ i))
          ⊎ ((i : ℕ) → i < n → y.unit.places.pair j ≡ entry_pair s₀ i → ⊥)
          → ((value y.after j ≡ value y.unit.values j)
          × Told x false (get_or (take marks s) (values + y.unit.places.pair j) 0) (value y.after j))
          ⊎ ((value y.unit.values j ≡ none) × Given x (get_or (take marks s) (values + y.unit.places.pair j) 0) (value y.after j))
      go (inl (i, h, e)) =
          let is : j ≡ (tried.entry i h).pair = tried.unit_apart j (tried.entry i h).pair l (tried.entry i h).of_unit (e ∙ (tried.entry i h).place) in
          inr (
            ap (value y.unit.values) is ∙ (tried.entry i h).unassigned,
            record {
              number = i;
              word = at ∙ ap (λ k. get_or s (values + k) 0) e ∙ held.entry i h;
              inside = omega (arith, front_marks, tried.marks_behind, tried.entries_before);
              told = subst (λ k. Told x true (entry_term (take marks s) i) (value y.after k)) (sym is) (entry_told i h);
            },
          )
      go (inr d) =
          let same = tried.others j l d in
          let word : get_or (take marks s) (values + y.unit.places.pair j) 0 ≡ value_word y.unit.places (value y.unit.values j) =
          at ∙ held.others (values + y.unit.places.pair j) (λ i h e. d i h (omega arith)) ∙ tried.unit.held.stands j l in
          inl (
            same,
            subst (Told x false (get_or (take marks s) (values + y.unit.places.pair j) 0)) (sym same)
                (unit_told (get_or (take marks s) (values + y.unit.places.pair j) 0) (value y.unit.values j) word
                (tried.unit.held.held j l) (λ t e. (tried.unit.of j t l e).within)),
          )

  -- A pair that had a value is no entry's.
  stays : (j : ℕ) (t : Term) → value y.unit.values j ≡ some t → value y.after j ≡ some t
  stays j t e = tried.others j low (λ i h f. differ (sym (unassigned i h f) ∙ e)) ∙ e
    where
      low : j < old y
      low = assigned_below y.unit.values j t e

      unassigned : (i : ℕ) (h : i < n) → y.unit.places.pair j ≡ entry_pair s₀ i → value y.unit.values j ≡ none
      unassigned i h f =
          let is : j ≡ (tried.entry i h).pair = tried.unit_apart j (tried.entry i h).pair low (tried.entry i h).of_unit (f ∙ (tried.entry i h).place) in
          ap (value y.unit.values) is ∙ (tried.entry i h).unassigned

      differ : none ≡ some t → ⊥
      differ f = let z : ◌≡◌ {A = ℕ} 0 1 = cc in absurd (omega arith)

  pub shown : Shown (scene y values (take marks s) (length s))
  shown = record {
    room = omega (arith, front_marks, tried.marks_behind);
    place = tried.unit.held.place;
    apart = tried.unit_apart;
    clause_inside = λ j on.
        omega (arith, clause_place j on.0, on.0, on.1, tried.after_length, tried.few, tried.entries_before, front_marks, tried.marks_behind);
    clause_value = clause_told;
    old_is = refl;
    stays = stays;
    unit_value = unit_shown;
  }
