-- A query's unit joins the others: its pairs and compounds come next, its values are none, and the others stand as they stood.
use Prim.Native.Nat.{ℕ, suc, ◌+◌, ◌≤◌, ◌<◌}
use mathlib.Core.Path.{◌≡◌, refl, sym, ap, ◌∙◌}
use mathlib.Core.List.{List, [], ◌∷◌, ◌++◌, map}
use mathlib.Core.Option.{Option, none, some}
use native.Mathlib.Omega.{arith}
use lib.ListN.{length, get_or, length-map, length-replicate}
use Rattle.meaning.specs.Bytes.{Bytes}
use Rattle.meaning.specs.Terms.{Term, Query, Named, as_term}
use Rattle.meaning.specs.State.{Room, QueryUnit, Goal, value, unit_at, first_unit, goals_at, from_query}
use Rattle.laws.proofs.Lists.EachOf.{Each}
use Rattle.laws.proofs.Trial.Values.{value_replicate}
use Rattle.term.specs.Cells.{Places, Known}
use Rattle.term.specs.Holds.{Holds}
use Rattle.term.specs.Jobs.{EachFrom, GoalsKnown}
use Rattle.term.specs.Layout.{values_region, compounds_region, query_first_pair_word, query_tries_word}
use Rattle.term.specs.Setting.{Within, Ranged, OfUnit, UnitStands}
use Rattle.term.specs.States.{Atlas, setting, setting_at, goal_word, Lies, UnitsStand, FirstPair, GoalStands, AllStand}
use Rattle.term.proofs.Jobs.{each_map}
use Rattle.run_between.specs.Extended.{replaced_at}
use Rattle.run_effects.specs.Build.{Copies}
use Rattle.run_effects.specs.Reducing.{GoalsWithin}
use Rattle.run_between.proofs.Enlarging.{CopiedTo, replaced_there, replaced_elsewhere}
use Rattle.term.proofs.Units.{unit_term_alike}
use Rattle.term.specs.Words.{packed}
use Rattle.term.specs.Goals.{origin_word, packed_goal}
use Rattle.run_between.proofs.Frames.{unit_stands_kept}
use Rattle.run_queues.proofs.Log.{by_place}
use Rattle.run_enter.proofs.Starting.{units_number, unit_older, unit_newest}

-- The pairs from P on, the compounds where they are copied to.
abbrev pub next_places : List Bytes → ℕ → Copies → Places
next_places names P y = record { names = names; pair = λ n. P + n; compound = λ n. y.at n; width = λ n. y.width n }

-- Where all lies, that the query fits, where its compounds are copied to, and which words stay.
pub record Adjoins (s s' : List ℕ) (names : List Bytes) (figures : Room) (atlas : Atlas) (done : List Query) (x : Query) (P C cells cells' : ℕ) (y : Copies) : Type 0 where
  pub lies : Lies names figures atlas (map first_unit done) P C cells
  pub pairs_fit : P + length x.variables ≤ figures.pairs
  pub compounds_fit : C + x.compounds ≤ figures.compounds
  pub few : length done < 8
  pub inside : values_region figures + figures.pairs ≤ length s'
  pub size : length s' ≡ length s
  pub copied : CopiedTo y cells cells' (C + x.compounds)
  pub older : (k : ℕ) → compounds_region ≤ k → k < cells → get_or s' k 0 ≡ get_or s k 0
  pub values : (k : ℕ) → values_region figures ≤ k → k < values_region figures + figures.pairs → get_or s' k 0 ≡ get_or s k 0
  pub zero : (k : ℕ) → values_region figures ≤ k → k < values_region figures + figures.pairs → get_or s k 0 ≡ 0
  pub records : (k : ℕ) → k < length done → get_or s' (query_first_pair_word k) 0 ≡ get_or s (query_first_pair_word k) 0
  pub first : get_or s' (query_first_pair_word (length done)) 0 ≡ P
  pub tries : (k : ℕ) → k < 8 → get_or s' (query_tries_word k) 0 ≡ get_or s (query_tries_word k) 0
  pub untried : get_or s (query_tries_word (length done)) 0 ≡ 0

each_append : {A : Type 0} (Q : ℕ → A → Type 0) (k : ℕ) (l m : List A) → EachFrom Q k l → EachFrom Q (k + length l) m → EachFrom Q k (l ++ m)
unfolding EachFrom
each_append Q k [] m a b = let e : k + 0 ≡ k = omega arith in rw e at b
each_append Q k (y ∷ l) m a b = let e : k + suc (length l) ≡ k + 1 + length l = omega arith in (a.0, each_append Q (k + 1) l m a.1 (rw e at b))

pub all_append : (s : List ℕ) (figures : Room) (atlas : Atlas) (units : List QueryUnit) (gs hs : List Goal) → AllStand s figures atlas units gs
    → AllStand s figures atlas units hs → AllStand s figures atlas units (gs ++ hs)
all_append s figures atlas units [] hs a b = b
all_append s figures atlas units (g ∷ gs) hs a b = (a.0, all_append s figures atlas units gs hs a.1 b)

module _ (s s' : List ℕ) (names : List Bytes) (figures : Room) (atlas : Atlas) (done : List Query) (x : Query) (P C cells cells' : ℕ) (y : Copies)
    (r : Adjoins s s' names figures atlas done x P C cells cells' y) where
  abbrev q : ℕ
  q = length done

  abbrev atlas' : Atlas
  atlas' = replaced_at atlas q (next_places names P y)

  abbrev units : List QueryUnit
  units = map first_unit done

  abbrev units' : List QueryUnit
  units' = map first_unit (done ++ x ∷ [])

  as_many : length units ≡ q
  as_many = length-map done first_unit

  not_last : (k : ℕ) → k < q → k ≡ q → ⊥
  not_last k h e = omega arith

  setting_newest : setting_at figures atlas' units' q ≡ setting figures (next_places names P y) (first_unit x)
  setting_newest =
      let a = replaced_there atlas q (next_places names P y) in
      let u = unit_newest done x in
      cc

  setting_older : (k : ℕ) → k < q → setting_at figures atlas' units' k ≡ setting_at figures atlas units k
  setting_older k h =
      let a = replaced_elsewhere atlas q k (next_places names P y) (not_last k h) in
      let u = unit_older done x k h in
      cc

  older_words : (k : ℕ) → k < q → (n : ℕ) → n < (unit_at k units).compounds
      → (w : ℕ) → (atlas k).compound n ≤ w → w < (atlas k).compound n + (atlas k).width n → get_or s' w 0 ≡ get_or s w 0
  older_words k h n l w a b =
      let i : k < length units = omega (arith, as_many) in
      r.older w (omega (arith, r.lies.compound_behind k n i l)) (omega (arith, r.lies.compound_below k n i l))

  own_pairs : length (first_unit x).values ≡ length x.variables
  unfolding first_unit
  own_pairs = length-replicate {A = Option Term} (length x.variables) none

  own_compounds : (first_unit x).compounds ≡ x.compounds
  unfolding first_unit
  own_compounds = refl

  -- Where a pair, where a compound lies.
  data PairAt (k n : ℕ) : Type 0 where
    older_pair : k < q → n < length (unit_at k units).values → (atlas' k).pair n ≡ (atlas k).pair n → PairAt k n
    newer_pair : k ≡ q → n < length x.variables → (atlas' k).pair n ≡ P + n → PairAt k n

  pair_at : (k n : ℕ) → k < length units' → n < length (unit_at k units').values → PairAt k n
  pair_at k n h l = by_place k q (λ e. rw e (here (rw e at l))) (λ e. there (omega (arith, units_number done x)))
    where
      here : n < length (unit_at q units').values → PairAt q n
      here m =
          newer_pair refl (omega (arith, ap (λ (u : QueryUnit). length u.values) (unit_newest done x), own_pairs))
          (ap (λ (y : Places). y.pair n) (replaced_there atlas q (next_places names P y)))

      there : k < q → PairAt k n
      there i =
          older_pair i (rw (unit_older done x k i) at l)
          (ap (λ (y : Places). y.pair n) (replaced_elsewhere atlas q k (next_places names P y) (not_last k i)))

  data CompoundAt (k n : ℕ) : Type 0 where
    older_compound : k < q → n < (unit_at k units).compounds → (atlas' k).compound n ≡ (atlas k).compound n → (atlas' k).width n ≡ (atlas k).width n
        → CompoundAt k n
    newer_compound : (atlas' k).compound n ≡ y.at n → (atlas' k).width n ≡ y.width n → CompoundAt k n

  compound_at : (k n : ℕ) → k < length units' → n < (unit_at k units').compounds → CompoundAt k n
  compound_at k n h l = by_place k q (λ e. rw e here) (λ e. there (omega (arith, units_number done x)))
    where
      here : CompoundAt q n
      here =
          let new = replaced_there atlas q (next_places names P y) in
          newer_compound (ap (λ (z : Places). z.compound n) new) (ap (λ (z : Places). z.width n) new)

      there : k < q → CompoundAt k n
      there i =
          let old = replaced_elsewhere atlas q k (next_places names P y) (not_last k i) in
          older_compound i (rw (unit_older done x k i) at l) (ap (λ (z : Places). z.compound n) old) (ap (λ (z : Places). z.width n) old)

  below : (k n : ℕ) → PairAt k n → (atlas' k).pair n < P + length x.variables
  below k n (older_pair h b e) = omega (arith, r.lies.pair_below k n (omega (arith, as_many)) b)
  below k n (newer_pair f b e) = omega arith

  apart : (k l n m : ℕ) → PairAt k n → PairAt l m → (atlas' k).pair n ≡ (atlas' l).pair m → (k ≡ l) × (n ≡ m)
  apart k l n m (older_pair h b e) (older_pair i d f) same =
      r.lies.pair_apart k l n m (omega (arith, as_many)) (omega (arith, as_many)) b d (sym e ∙ same ∙ f)
  apart k l n m (older_pair h b e) (newer_pair i d f) same = absurd (omega (arith, r.lies.pair_below k n (omega (arith, as_many)) b))
  apart k l n m (newer_pair h b e) (older_pair i d f) same = absurd (omega (arith, r.lies.pair_below l m (omega (arith, as_many)) d))
  apart k l n m (newer_pair h b e) (newer_pair i d f) same = (h ∙ sym i, omega arith)

  behind_first : (k n : ℕ) → CompoundAt k n → compounds_region ≤ (atlas' k).compound n
  behind_first k n (older_compound h b e f) = omega (arith, r.lies.compound_behind k n (omega (arith, as_many)) b)
  behind_first k n (newer_compound e f) = omega (arith, r.copied.behind, (r.copied.at n).0)

  below_last : (k n : ℕ) → CompoundAt k n → (atlas' k).compound n + (atlas' k).width n ≤ cells'
  below_last k n (older_compound h b e f) = omega (arith, r.lies.compound_below k n (omega (arith, as_many)) b, r.copied.order)
  below_last k n (newer_compound e f) = omega (arith, (r.copied.at n).1)

  names_now : (k : ℕ) → (atlas' k).names ≡ names
  names_now k =
      by_place k q
      (λ e. rw e (ap (λ (y : Places). y.names) (replaced_there atlas q (next_places names P y))))
      (λ e. ap (λ (y : Places). y.names) (replaced_elsewhere atlas q k (next_places names P y) e) ∙ r.lies.names_are k)

  pub lies_now : Lies names figures atlas' units' (P + length x.variables) (C + x.compounds) cells'
  lies_now =
      record {
        names_are = names_now;
        pairs_fit = r.pairs_fit;
        compounds_fit = r.compounds_fit;
        cells_fit = r.copied.fit;
        pair_below = λ k n h l. below k n (pair_at k n h l);
        pair_apart = λ k l n m h i a b e. apart k l n m (pair_at k n h a) (pair_at l m i b) e;
        compound_behind = λ k n h l. behind_first k n (compound_at k n h l);
        compound_below = λ k n h l. below_last k n (compound_at k n h l);
      }

  -- The units stand.
  no_value : (n : ℕ) → value (first_unit x).values n ≡ none
  unfolding first_unit
  no_value n = value_replicate (length x.variables) n

  first_stands : UnitStands s' (setting figures (next_places names P y) (first_unit x)) (values_region figures)
  first_stands =
      record {
        held = record {
          inside = r.inside;
          place = λ n h. omega (arith, own_pairs, r.pairs_fit);
          stands = λ n h.
              let word : get_or s' (values_region figures + (P + n)) 0 ≡ 0 =
              r.values (values_region figures + (P + n)) (omega arith) (omega (arith, own_pairs, r.pairs_fit))
              ∙ r.zero (values_region figures + (P + n)) (omega arith) (omega (arith, own_pairs, r.pairs_fit))
              in
              rw (no_value n) word;
          held = λ n h. rw (no_value n) tt;
        };
        of = λ n t h e. let z : ◌≡◌ {A = Option Term} none (some t) = sym (no_value n) ∙ e in never t z;
      }
    where
      never : (t : Term) → ◌≡◌ {A = Option Term} none (some t) → OfUnit (setting figures (next_places names P y) (first_unit x)) t
      never t e = let z : ◌≡◌ {A = ℕ} 0 1 = cc in absurd (omega arith)

  tries_now : UnitsStand s figures atlas units → (k : ℕ) → k < length units' → get_or s' (query_tries_word k) 0 ≡ (unit_at k units').tries
  unfolding first_unit
  tries_now u k h =
      by_place k q
      (λ e. rw (e, unit_newest done x) (r.tries q r.few ∙ r.untried))
      (λ e.
      let i : k < q = omega (arith, units_number done x) in
      rw (unit_older done x k i) (r.tries k (omega (arith, r.few)) ∙ u.tries k (omega (arith, as_many))))

  pub units_now : UnitsStand s figures atlas units → UnitsStand s' figures atlas' units'
  units_now u =
      record {
        unit = λ k h.
            by_place k q (λ e. rw (e, setting_newest) first_stands)
            (λ e.
            let i : k < q = omega (arith, units_number done x) in
            let l : k < length units = omega (arith, as_many) in
            rw (setting_older k i)
            (unit_stands_kept s s' (setting_at figures atlas units k) (omega (arith, r.size)) (older_words k i) (values_region figures)
            (λ n m.
            r.values (values_region figures + (atlas k).pair n) (omega arith) (omega (arith, r.lies.pair_below k n l m, r.lies.pairs_fit)))
            (u.unit k l)));
        tries = tries_now u;
      }

  -- Where the queries' own pairs begin.
  pub first_pairs_now : EachFrom (FirstPair s atlas) 0 done → EachFrom (FirstPair s' atlas') 0 (done ++ x ∷ [])
  unfolding EachFrom
  first_pairs_now f =
      let e : 0 + q ≡ q = omega arith in
      each_append (FirstPair s' atlas') 0 done (x ∷ [])
      (each_map (FirstPair s atlas) (FirstPair s' atlas') 0 done
      (λ k d a b own n l.
      let h : k < q = omega arith in
      ap (λ (z : Places). z.pair n) (replaced_elsewhere atlas q k (next_places names P y) (not_last k h))
      ∙ own n l ∙ ap (λ w. w + n) (sym (r.records k h)))
      f)
      (rw e (newest, tt))
    where
      newest : FirstPair s' atlas' q x
      newest n l =
          ap (λ (z : Places). z.pair n) (replaced_there atlas q (next_places names P y)) ∙ ap (λ w. w + n) (sym r.first)

  -- The goals that stood stand, with the same words.
  goal_older : (g : Goal) → GoalStands s figures atlas units g → GoalStands s' figures atlas' units' g
  goal_older g h =
      let i : g.query < q = omega (arith, as_many, h.query) in
      record {
        query = omega (arith, units_number done x);
        term = rw (setting_older g.query i)
            (unit_term_alike s s' (setting_at figures atlas units g.query) (omega (arith, r.size)) (older_words g.query i)
            (as_term g.goal) h.term);
        origin = h.origin;
      }

  pub goals_older : (gs : List Goal) → AllStand s figures atlas units gs → AllStand s' figures atlas' units' gs
  goals_older [] h = tt
  goals_older (g ∷ gs) h = (goal_older g h.0, goals_older gs h.1)

  pub words_older : (gs : List Goal) → AllStand s figures atlas units gs → map (goal_word atlas') gs ≡ map (goal_word atlas) gs
  words_older [] h = refl
  words_older (g ∷ gs) h =
      let i : g.query < q = omega (arith, as_many, h.0.query) in
      let first : goal_word atlas' g ≡ goal_word atlas g =
      ap (λ (z : Places). packed_goal g.query (z.compound g.goal.number) (origin_word g.origin))
      (replaced_elsewhere atlas q g.query (next_places names P y) (not_last g.query i))
      in
      let later = words_older gs h.1 in
      cc

  -- The query's own goals.
  abbrev HeldHere : List Named → Type 0
  HeldHere gs = Each (λ g. Holds s' (next_places names P y) (as_term g)) gs

  goal_newer : (g : Named) → Holds s' (next_places names P y) (as_term g) → Within (length x.variables) x.compounds (as_term g)
      → Known names (as_term g) → Ranged (as_term g) → GoalStands s' figures atlas' units' (record { query = q; goal = g; origin = from_query })
  unfolding from_query
  goal_newer g held within known ranged =
      record {
        query = omega (arith, units_number done x);
        term = rw setting_newest
            (record { held = held; of = record { within = rw (own_pairs, own_compounds) within; known = known; ranged = ranged } });
        origin = record { clause = omega arith; tries = omega arith };
      }

  pub goals_newer : (gs : List Named) → HeldHere gs → GoalsWithin (length x.variables) x.compounds gs → GoalsKnown names gs
      → Each (λ g. Ranged (as_term g)) gs → AllStand s' figures atlas' units' (goals_at from_query q gs)
  unfolding GoalsWithin GoalsKnown goals_at
  goals_newer [] h w k i = tt
  goals_newer (g ∷ gs) h w k i = (goal_newer g h.0 w.0 k.0 i.0, goals_newer gs h.1 w.1 k.1 i.1)

  pub words_newer : (gs : List Named) → map (goal_word atlas') (goals_at from_query q gs) ≡ map (λ g. packed q ((next_places names P y).compound (0 + g.number))) gs
  unfolding goals_at from_query
  words_newer [] = refl
  words_newer (g ∷ gs) =
      let plain : 0 + g.number ≡ g.number = omega arith in
      let there : (atlas' q).compound g.number ≡ y.at (0 + g.number) =
      ap (λ (z : Places). z.compound g.number) (replaced_there atlas q (next_places names P y)) ∙ ap y.at (sym plain)
      in
      let first : packed_goal q ((atlas' q).compound g.number) (origin_word from_query) ≡ packed q (y.at (0 + g.number)) = omega (arith, there) in
      let later = words_newer gs in
      cc
