-- The units after a reduction: one has grown, and the others are as they were. Goals go on standing, with the same words.
use Prim.Native.Nat.{ℕ, ◌+◌, ◌-◌, ◌≤◌, ◌<◌}
use mathlib.Core.Path.{◌≡◌, refl, sym, ap, ◌∙◌}
use mathlib.Core.List.{List, [], ◌∷◌, map}
use native.Mathlib.Decide.{dec_lt}
use native.Mathlib.Omega.{arith}
use lib.ListN.{length, get_or, set, length-set}
use Rattle.meaning.specs.Bytes.{Bytes}
use Rattle.meaning.specs.Terms.{Clause, Query, as_term}
use Rattle.meaning.specs.State.{Room, QueryUnit, Goal, unit_at}
use Rattle.meaning.specs.Compare.{Assignment}
use Rattle.laws.proofs.Trial.Values.{unit_at_set_same, unit_at_set_other, length_values_after}
use Rattle.term.specs.Cells.{Places}
use Rattle.term.specs.Jobs.{EachFrom}
use Rattle.term.specs.Layout.{values_region, compounds_region, query_first_pair_word, query_tries_word}
use Rattle.term.specs.Setting.{Within, UnitStands}
use Rattle.term.specs.States.{Atlas, setting, setting_at, goal_word, Lies, UnitsStand, FirstPair, GoalStands, AllStand}
use Rattle.term.specs.Goals.{origin_word, packed_goal}
use Rattle.run_effects.specs.Build.{Copies}
use Rattle.run_between.specs.Extended.{replaced_at}
use Rattle.run_queues.proofs.Deciding.{if_beyond}
use Rattle.run_between.proofs.Enlarging.{CopiedTo, extended_agrees, replaced_there, replaced_elsewhere}
use Rattle.run_between.proofs.Frames.{unit_stands_kept}
use Rattle.run_between.proofs.Growing.{agree_same, Grown, term_grows}
use Rattle.run_queues.proofs.Log.{by_place}
use Rattle.run_between.proofs.NextUnit.{after_unit, enlarged}
use Rattle.run_between.proofs.OwnPairs.{no_query, each_map_at}

abbrev pub atlas_after : Atlas → List QueryUnit → ℕ → ℕ → Copies → Atlas
atlas_after atlas units q P y = replaced_at atlas q (enlarged (atlas q) (unit_at q units) P y)

abbrev pub units_after : Clause → List Assignment → List QueryUnit → ℕ → List QueryUnit
units_after c given units q = set units q (after_unit c given (unit_at q units))

-- Where all lies, that the clause fits, where its compounds are copied to, and that the older compounds' words stay.
pub record Enlarges (s s' : List ℕ) (names : List Bytes) (figures : Room) (atlas : Atlas) (units : List QueryUnit) (q P C cells cells' : ℕ) (y : Copies) (c : Clause) : Type 0 where
  pub lies : Lies names figures atlas units P C cells
  pub inside : q < length units
  pub pairs_fit : P + c.pairs ≤ figures.pairs
  pub compounds_fit : C + c.compounds ≤ figures.compounds
  pub size : length s' ≡ length s
  pub copied : CopiedTo y cells cells' (C + c.compounds)
  pub older : (k : ℕ) → compounds_region ≤ k → k < cells → get_or s' k 0 ≡ get_or s k 0

module _ (s s' : List ℕ) (names : List Bytes) (figures : Room) (atlas : Atlas) (units : List QueryUnit) (q P C cells cells' : ℕ) (y : Copies) (c : Clause) (given : List Assignment)
    (r : Enlarges s s' names figures atlas units q P C cells cells' y c) where
  abbrev atlas' : Atlas
  atlas' = atlas_after atlas units q P y

  abbrev units' : List QueryUnit
  units' = units_after c given units q

  abbrev p : ℕ
  p = length (unit_at q units).values

  abbrev c₀ : ℕ
  c₀ = (unit_at q units).compounds

  pub as_many : length units' ≡ length units
  as_many = length-set units q (after_unit c given (unit_at q units))

  pub setting_here : setting_at figures atlas' units' q ≡ setting figures (enlarged (atlas q) (unit_at q units) P y) (after_unit c given (unit_at q units))
  setting_here =
      let a = replaced_there atlas q (enlarged (atlas q) (unit_at q units) P y) in
      let u = unit_at_set_same units q (after_unit c given (unit_at q units)) r.inside in
      cc

  pub setting_elsewhere : (k : ℕ) → (k ≡ q → ⊥) → setting_at figures atlas' units' k ≡ setting_at figures atlas units k
  setting_elsewhere k other =
      let a = replaced_elsewhere atlas q k (enlarged (atlas q) (unit_at q units) P y) other in
      let u = unit_at_set_other units q k (after_unit c given (unit_at q units)) other in
      cc

  older_words : (k : ℕ) → k < length units → (n : ℕ) → n < (unit_at k units).compounds
      → (w : ℕ) → (atlas k).compound n ≤ w → w < (atlas k).compound n + (atlas k).width n → get_or s' w 0 ≡ get_or s w 0
  older_words k h n l w a b =
      r.older w (omega (arith, r.lies.compound_behind k n h l)) (omega (arith, r.lies.compound_below k n h l))

  pub grown_here : Grown s s' (setting figures (atlas q) (unit_at q units))
      (setting figures (enlarged (atlas q) (unit_at q units) P y) (after_unit c given (unit_at q units)))
  grown_here =
      record {
        agree = extended_agrees (atlas q) p c₀ P y;
        more_pairs = omega (arith, length_values_after c given (unit_at q units));
        more_compounds = omega arith;
        room = refl;
        size = omega (arith, r.size);
        words = older_words q r.inside;
      }

  grown_elsewhere : (k : ℕ) → k < length units → Grown s s' (setting_at figures atlas units k) (setting_at figures atlas units k)
  grown_elsewhere k h =
      record {
        agree = agree_same (length (unit_at k units).values) (unit_at k units).compounds (atlas k);
        more_pairs = omega arith;
        more_compounds = omega arith;
        room = refl;
        size = omega (arith, r.size);
        words = older_words k h;
      }

  pub grown : (k : ℕ) → k < length units → Grown s s' (setting_at figures atlas units k) (setting_at figures atlas' units' k)
  grown k h =
      by_place k q
      (λ e. rw e (rw setting_here grown_here))
      (λ e. rw (setting_elsewhere k e) (grown_elsewhere k h))

  -- Goals.
  pub goal_grows : (g : Goal) → GoalStands s figures atlas units g → GoalStands s' figures atlas' units' g
  goal_grows g h =
      record {
        query = omega (arith, h.query, as_many);
        term = term_grows s s' (setting_at figures atlas units g.query) (setting_at figures atlas' units' g.query) (grown g.query h.query)
            (as_term g.goal) h.term;
        origin = h.origin;
      }

  pub goals_grow : (gs : List Goal) → AllStand s figures atlas units gs → AllStand s' figures atlas' units' gs
  goals_grow [] h = tt
  goals_grow (g ∷ gs) h = (goal_grows g h.0, goals_grow gs h.1)

  pub goal_word_same : (g : Goal) → GoalStands s figures atlas units g → goal_word atlas' g ≡ goal_word atlas g
  unfolding as_term Within
  goal_word_same g h =
      ap (λ n. packed_goal g.query n (origin_word g.origin)) ((grown g.query h.query).agree.compound g.goal.number h.term.of.within.0)

  pub goal_words_same : (gs : List Goal) → AllStand s figures atlas units gs → map (goal_word atlas') gs ≡ map (goal_word atlas) gs
  goal_words_same [] h = refl
  goal_words_same (g ∷ gs) h = let e = goal_word_same g h.0 in let l = goal_words_same gs h.1 in cc

  -- Where the units lie.
  new_pairs : length (unit_at q units').values ≡ p + c.pairs
  new_pairs = rw (unit_at_set_same units q (after_unit c given (unit_at q units)) r.inside) (length_values_after c given (unit_at q units))

  -- A pair below P is the older one of its number; the n-th behind the older ones is at P + n.
  pub data PairAt (k n : ℕ) : Type 0 where
    older_pair : n < length (unit_at k units).values → (atlas' k).pair n ≡ (atlas k).pair n → PairAt k n
    newer_pair : (a : ℕ) → a < c.pairs → k ≡ q → n ≡ p + a → (atlas' k).pair n ≡ P + a → PairAt k n

  pub pair_at : (k n : ℕ) → k < length units → n < length (unit_at k units').values → PairAt k n
  pair_at k n h l = by_place k q (λ e. rw e (here (rw e at l))) (λ e. older_pair (rw (elsewhere e) at l) (ap (λ (x : Places). x.pair n) (replaced_elsewhere atlas q k _ e)))
    where
      elsewhere : (k ≡ q → ⊥) → unit_at k units' ≡ unit_at k units
      elsewhere e = unit_at_set_other units q k (after_unit c given (unit_at q units)) e

      here : n < length (unit_at q units').values → PairAt q n
      here m = go (dec_lt n p)
        where
          there : (atlas' q).pair n ≡ (enlarged (atlas q) (unit_at q units) P y).pair n
          there = ap (λ (x : Places). x.pair n) (replaced_there atlas q (enlarged (atlas q) (unit_at q units) P y))

          go : Dec (n < p) → PairAt q n
          go (yes b) = older_pair b (there ∙ (extended_agrees (atlas q) p c₀ P y).pair n b)
          go (no b) =
              newer_pair (n - p) (omega (arith, new_pairs)) refl (omega arith)
              (there ∙ if_beyond n p ((atlas q).pair n) (P + (n - p)) (omega arith))

  pub data CompoundAt (k n : ℕ) : Type 0 where
    older_compound : n < (unit_at k units).compounds → (atlas' k).compound n ≡ (atlas k).compound n → (atlas' k).width n ≡ (atlas k).width n → CompoundAt k n
    newer_compound : (a : ℕ) → (atlas' k).compound n ≡ y.at a → (atlas' k).width n ≡ y.width a → CompoundAt k n

  compound_at : (k n : ℕ) → k < length units → n < (unit_at k units').compounds → CompoundAt k n
  compound_at k n h l = by_place k q (λ e. rw e (go (dec_lt n c₀))) elsewhere
    where
      elsewhere : (k ≡ q → ⊥) → CompoundAt k n
      elsewhere e =
          let there = replaced_elsewhere atlas q k (enlarged (atlas q) (unit_at q units) P y) e in
          older_compound (rw (unit_at_set_other units q k (after_unit c given (unit_at q units)) e) at l)
          (ap (λ (x : Places). x.compound n) there) (ap (λ (x : Places). x.width n) there)

      go : Dec (n < c₀) → CompoundAt q n
      go d =
          let there = replaced_there atlas q (enlarged (atlas q) (unit_at q units) P y) in
          here d (ap (λ (x : Places). x.compound n) there) (ap (λ (x : Places). x.width n) there)
        where
          here : Dec (n < c₀) → (atlas' q).compound n ≡ (enlarged (atlas q) (unit_at q units) P y).compound n
              → (atlas' q).width n ≡ (enlarged (atlas q) (unit_at q units) P y).width n → CompoundAt q n
          here (yes b) e f =
              let same = extended_agrees (atlas q) p c₀ P y in
              older_compound b (e ∙ same.compound n b) (f ∙ same.width n b)
          here (no b) e f =
              newer_compound (n - c₀)
              (e ∙ if_beyond n c₀ ((atlas q).compound n) (y.at (n - c₀)) (omega arith))
              (f ∙ if_beyond n c₀ ((atlas q).width n) (y.width (n - c₀)) (omega arith))

  below : (k n : ℕ) → k < length units → PairAt k n → (atlas' k).pair n < P + c.pairs
  below k n h (older_pair b e) = omega (arith, r.lies.pair_below k n h b)
  below k n h (newer_pair a b e f g) = omega arith

  apart : (k l n m : ℕ) → k < length units → l < length units → PairAt k n → PairAt l m → (atlas' k).pair n ≡ (atlas' l).pair m → (k ≡ l) × (n ≡ m)
  apart k l n m h i (older_pair b e) (older_pair d f) same = r.lies.pair_apart k l n m h i b d (sym e ∙ same ∙ f)
  apart k l n m h i (older_pair b e) (newer_pair a d f g o) same = absurd (omega (arith, r.lies.pair_below k n h b))
  apart k l n m h i (newer_pair a d f g o) (older_pair b e) same = absurd (omega (arith, r.lies.pair_below l m i b))
  apart k l n m h i (newer_pair a d f g o) (newer_pair a' d' f' g' o') same = (f ∙ sym f', omega arith)

  behind_first : (k n : ℕ) → k < length units → CompoundAt k n → compounds_region ≤ (atlas' k).compound n
  behind_first k n h (older_compound b e f) = omega (arith, r.lies.compound_behind k n h b)
  behind_first k n h (newer_compound a e f) = omega (arith, r.copied.behind, (r.copied.at a).0)

  below_last : (k n : ℕ) → k < length units → CompoundAt k n → (atlas' k).compound n + (atlas' k).width n ≤ cells'
  below_last k n h (older_compound b e f) = omega (arith, r.lies.compound_below k n h b, r.copied.order)
  below_last k n h (newer_compound a e f) = omega (arith, (r.copied.at a).1)

  pub names_after : (k : ℕ) → (atlas' k).names ≡ names
  names_after k =
      by_place k q
      (λ e. rw e (ap (λ (x : Places). x.names) (replaced_there atlas q (enlarged (atlas q) (unit_at q units) P y)) ∙ r.lies.names_are q))
      (λ e. ap (λ (x : Places). x.names) (replaced_elsewhere atlas q k (enlarged (atlas q) (unit_at q units) P y) e) ∙ r.lies.names_are k)

  pub lies_after : Lies names figures atlas' units' (P + c.pairs) (C + c.compounds) cells'
  lies_after =
      record {
        names_are = names_after;
        pairs_fit = r.pairs_fit;
        compounds_fit = r.compounds_fit;
        cells_fit = r.copied.fit;
        pair_below = λ k n h l. let i : k < length units = omega (arith, as_many) in below k n i (pair_at k n i l);
        pair_apart = λ k l n m h i a b e.
            let x : k < length units = omega (arith, as_many) in
            let y : l < length units = omega (arith, as_many) in
            apart k l n m x y (pair_at k n x a) (pair_at l m y b) e;
        compound_behind = λ k n h l. let i : k < length units = omega (arith, as_many) in behind_first k n i (compound_at k n i l);
        compound_below = λ k n h l. let i : k < length units = omega (arith, as_many) in below_last k n i (compound_at k n i l);
      }

  -- The units stand: the goal's, and each other by the words of its pairs.
  pub units_stand : UnitStands s' (setting figures (enlarged (atlas q) (unit_at q units) P y) (after_unit c given (unit_at q units))) (values_region figures)
      → ((k n : ℕ) → k < length units → (k ≡ q → ⊥) → n < length (unit_at k units).values
      → get_or s' (values_region figures + (atlas k).pair n) 0 ≡ get_or s (values_region figures + (atlas k).pair n) 0)
      → get_or s' (query_tries_word q) 0 ≡ get_or s (query_tries_word q) 0 + 1
      → ((k : ℕ) → k < length units → (k ≡ q → ⊥) → get_or s' (query_tries_word k) 0 ≡ get_or s (query_tries_word k) 0)
      → UnitsStand s figures atlas units → UnitsStand s' figures atlas' units'
  units_stand this others tried tries u =
      record {
        unit = λ k h.
            let i : k < length units = omega (arith, as_many) in
            by_place k q (λ e. rw e (rw setting_here this))
            (λ e.
            rw (setting_elsewhere k e)
            (unit_stands_kept s s' (setting_at figures atlas units k) (omega (arith, r.size)) (older_words k i) (values_region figures)
            (λ n l. others k n i e l) (u.unit k i)));
        tries = λ k h. tries_now k (omega (arith, as_many));
      }
    where
      tries_now : (k : ℕ) → k < length units → get_or s' (query_tries_word k) 0 ≡ (unit_at k units').tries
      tries_now k h = by_place k q
          (λ e. rw (e, unit_at_set_same units q (after_unit c given (unit_at q units)) r.inside) (omega (arith, tried, u.tries q r.inside)))
          (λ e. rw (unit_at_set_other units q k (after_unit c given (unit_at q units)) e) (tries k h e ∙ u.tries k h))

  -- Where the queries' own pairs begin.
  pub first_pairs_after : (queries : List Query) → length queries ≡ length units → length queries ≤ 8
      → ((k : ℕ) → k < length queries → length (get_or queries k no_query).variables ≤ length (unit_at k units).values)
      → ((k : ℕ) → k < 8 → get_or s' (query_first_pair_word k) 0 ≡ get_or s (query_first_pair_word k) 0)
      → EachFrom (FirstPair s atlas) 0 queries → EachFrom (FirstPair s' atlas') 0 queries
  first_pairs_after queries number few own same e =
      each_map_at (FirstPair s atlas) (FirstPair s' atlas') no_query 0 queries
      (λ i h first n l.
      let is : 0 + i ≡ i = omega arith in
      let there : (atlas' i).pair n ≡ (atlas i).pair n = (grown i (omega (arith, number))).agree.pair n (omega (arith, own i h)) in
      rw is (there ∙ (rw is at first) n l ∙ ap (λ w. w + n) (sym (same i (omega arith)))))
      e
