-- The goal's unit after a reduction: of each pair its value is what it was, an entry's term renamed apart, or what the head's writer was given.
use Prim.Native.Nat.{ℕ, ◌+◌, ◌-◌, ◌≤◌, ◌<◌}
use mathlib.Core.Path.{◌≡◌, refl, sym, ap, ◌∙◌}
use mathlib.Core.Logic.{◌⊎◌, inl, inr}
use mathlib.Core.List.{List}
use mathlib.Core.Option.{Option, none, some}
use native.Mathlib.Decide.{dec_lt}
use native.Mathlib.Omega.{arith}
use lib.ListN.{length, get_or}
use Rattle.meaning.specs.Terms.{Term, Clause, renamed}
use Rattle.meaning.specs.State.{Room, value, QueryUnit}
use Rattle.meaning.specs.Compare.{Assignment}
use Rattle.meaning.specs.Trial.{with_pairs, values_after}
use Rattle.laws.proofs.Lists.Among.{In}
use Rattle.laws.proofs.Lists.EachOf.{each_in}
use Rattle.laws.proofs.Single.{AssignedOnce}
use Rattle.laws.proofs.Trial.Values.{value_with_pairs, length_with_pairs, length_values_after, value_after_cases, assigned_below}
use Rattle.term.specs.Cells.{Places}
use Rattle.term.specs.Holds.{Holds, HoldsValue}
use Rattle.term.specs.Setting.{Setting, OfUnit, UnitTerm, UnitStands}
use Rattle.term.specs.States.{setting}
use Rattle.term.specs.Layout.{trial_region}
use Rattle.run_compare.specs.Gifts.{Entry, assignments}
use Rattle.run_compare.specs.Compare.{Gave, HeadTerm}
use Rattle.run_trial.proofs.Once.{once_apart, assigned_is, to_clause}
use Rattle.run_trial.specs.Choosing.{template}
use Rattle.run_between.specs.Extended.{extended}
use Rattle.run_effects.specs.Build.{Copies}
use Rattle.run_effects.specs.Reducing.{EntriesGiven, NoEntry}
use Rattle.run_between.proofs.Enlarging.{extended_agrees, extended_pair}
use Rattle.run_between.proofs.EntryByEntry.{find_entry, entry_given, entry_stands, no_entry_of, entry_is_given, value_without_entry}
use Rattle.run_between.proofs.Growing.{Grown, OfValue, PairStands, pair_stands, unit_stands, value_word_grows, value_held_grows, value_of_grows, pair_grows}
use Rattle.run_between.proofs.Renaming.{renamed_within, renamed_known, renamed_ranged}

-- The unit after it, and its places: the clause's pairs from P on, its compounds where they are copied to.
abbrev pub after_unit : Clause → List Assignment → QueryUnit → QueryUnit
after_unit c given unit = record { values = values_after c given unit; compounds = unit.compounds + c.compounds; tries = unit.tries + 1 }

abbrev pub enlarged : Places → QueryUnit → ℕ → Copies → Places
enlarged at unit P y = extended at (length unit.values) unit.compounds P y

-- What the trial gave, what the unit was, and what the reduction has written.
pub record UnitReduced (s s' : List ℕ) (figures : Room) (unit : QueryUnit) (at : Places) (from P : ℕ) (y : Copies) (k n : ℕ) (c : Clause) (given : List Assignment) : Type 0 where
  pub stands : UnitStands s (setting figures at unit) from
  pub gave : Gave s s (setting figures at unit) (template k c) given n
  pub once : AssignedOnce unit.values c.pairs given
  pub below : (m : ℕ) → m < length unit.values → at.pair m < P
  pub apart : (m l : ℕ) → m < length unit.values → l < length unit.values → at.pair m ≡ at.pair l → m ≡ l
  pub fit : P + c.pairs ≤ figures.pairs
  pub grown : Grown s s' (setting figures at unit) (setting figures (enlarged at unit P y) (after_unit c given unit))
  pub inside : from + figures.pairs ≤ length s'
  pub others : (z : ℕ) → z < P → NoEntry at z gave.list → get_or s' (from + z) 0 ≡ get_or s (from + z) 0
  pub head : (a : ℕ) → a < c.pairs → get_or s' (from + (P + a)) 0 ≡ get_or s (trial_region + a) 0
  pub entries : EntriesGiven s' at (enlarged at unit P y) from (length unit.values) unit.compounds gave.list

module _ (s s' : List ℕ) (figures : Room) (unit : QueryUnit) (at : Places) (from P : ℕ) (y : Copies) (k n : ℕ) (c : Clause) (given : List Assignment)
    (r : UnitReduced s s' figures unit at from P y k n c given) where
  abbrev p : ℕ
  p = length unit.values

  abbrev x : Setting
  x = setting figures at unit

  abbrev x' : Setting
  x' = setting figures (enlarged at unit P y) (after_unit c given unit)

  abbrev PairNow : ℕ → Type 0
  PairNow m = PairStands s' x' from m (value (values_after c given unit) m)

  long : length (values_after c given unit) ≡ p + c.pairs
  long = length_values_after c given unit

  -- An entry's pair.
  of_entry : (e : Entry) (lo hi : ℕ) → HeadTerm s x (template k c) lo hi e.term → OfUnit x' (renamed p unit.compounds e.term)
  of_entry e lo hi h =
      record {
        within = rw long (renamed_within p unit.compounds c.pairs c.compounds e.term h.within);
        known = renamed_known p unit.compounds at.names e.term h.known;
        ranged = renamed_ranged p unit.compounds e.term h.ranged;
      }

  entry_value : (e : Entry) → In e r.gave.list → e.pair < p → value (values_after c given unit) e.pair ≡ some (renamed p unit.compounds e.term)
  unfolding values_after
  entry_value e m h =
      let a : Assignment = record { pair = e.pair; value = renamed p unit.compounds e.term } in
      let at_gifts : In a (assignments p unit.compounds r.gave.gifts) = entry_is_given p unit.compounds r.gave.gifts e (rw r.gave.list_is at m) in
      let its : In a given = rw r.gave.given_are at_gifts in
      assigned_is given (with_pairs c.pairs unit.values) a (once_apart r.once) its
      (omega (arith, length_with_pairs c.pairs unit.values))

  entry_pair : (m : ℕ) → m < p → (e : Entry) → In e r.gave.list → e.pair ≡ m → PairNow m
  entry_pair m h e k q =
      let stands = entry_stands s x (template _ c) r.gave.low r.gave.high r.gave.list e k r.gave.held in
      let now = entry_given s' at (enlarged at unit P y) from p unit.compounds r.gave.list e k r.entries in
      let there : (enlarged at unit P y).pair m ≡ at.pair m = (extended_agrees at p unit.compounds P y).pair m h in
      let is : value (values_after c given unit) m ≡ some (renamed p unit.compounds e.term) = rw (← q) (entry_value e k stands.0) in
      let same : at.pair e.pair ≡ at.pair m = ap at.pair q in
      rw is
      (record {
        place = omega (arith, there, r.below m h, r.fit);
        stands = ap (λ z. get_or s' (from + z) 0) (there ∙ sym same) ∙ now.0;
        held = now.1;
        of = of_entry e stands.1 stands.2 stands.3;
      })

  -- A pair of which there is no entry.
  plain_value : (m : ℕ) → m < p → ((e : Entry) → In e r.gave.list → m ≡ e.pair → ⊥) → value (values_after c given unit) m ≡ value unit.values m
  unfolding values_after
  plain_value m h other =
      r.gave.unit_values m h
      ∙ value_without_entry p unit.compounds r.gave.list (with_pairs c.pairs unit.values) m other
      ∙ value_with_pairs c.pairs unit.values m

  plain_pair : (m : ℕ) → m < p → ((e : Entry) → In e r.gave.list → m ≡ e.pair → ⊥) → PairNow m
  plain_pair m h other =
      let free : NoEntry at (at.pair m) r.gave.list =
      no_entry_of at (at.pair m) r.gave.list
      (λ e k q. other e k (r.apart m e.pair h (entry_stands s x (template _ c) r.gave.low r.gave.high r.gave.list e k r.gave.held).0 q))
      in
      rw (plain_value m h other)
      (pair_grows s s' x x' r.grown from m (value unit.values m) h (r.others (at.pair m) (r.below m h) free)
      (pair_stands s x from m r.stands h))

  -- A pair of the clause.
  head_value : (a : ℕ) → (v : Option Term) → value (values_after c given unit) (p + a) ≡ v → OfValue x v × HoldsValue s at v
  head_value a none e = (tt, tt)
  head_value a (some t) e = go (value_after_cases c given unit (p + a) t e)
    where
      go : ((b : Assignment) × In b given × (b.pair ≡ p + a) × (b.value ≡ t)) ⊎ (value unit.values (p + a) ≡ some t) → OfUnit x t × Holds s at t
      go (inl (b, m, q, f)) =
          let its : UnitTerm s x b.value =
          each_in _ (to_clause p unit.compounds s x (template k c) r.gave.low r.gave.high r.gave.gifts r.gave.gifts_held refl)
          (in_list r.gave.given_are m) (omega arith)
          in
          let now : UnitTerm s x t = rw f at its in
          (now.of, now.held)
        where
          in_list : {l l' : List Assignment} → l ≡ l' → In b l → In b l'
          in_list g i = rw g at i
      go (inr f) = absurd (omega (arith, assigned_below unit.values (p + a) t f))

  head_pair : (a : ℕ) → a < c.pairs → PairNow (p + a)
  unfolding values_after
  head_pair a h =
      let v = value (values_after c given unit) (p + a) in
      let its = head_value a v refl in
      let there : (enlarged at unit P y).pair (p + a) ≡ P + a = extended_pair at p unit.compounds P y a in
      record {
        place = omega (arith, there, r.fit);
        stands =
            ap (λ z. get_or s' (from + z) 0) there ∙ r.head a h ∙ r.gave.clause_values a h
            ∙ value_word_grows s s' x x' r.grown v its.0;
        held = value_held_grows s s' x x' r.grown v its.0 its.1;
        of = value_of_grows s s' x x' r.grown v its.0;
      }

  pair_now : (m : ℕ) → m < p + c.pairs → PairNow m
  pair_now m h = go (dec_lt m p)
    where
      old : m < p → ((e : Entry) × In e r.gave.list × (e.pair ≡ m)) ⊎ ((e : Entry) → In e r.gave.list → m ≡ e.pair → ⊥) → PairNow m
      old b (inl (e, k, q)) = entry_pair m b e k q
      old b (inr other) = plain_pair m b other

      go : Dec (m < p) → PairNow m
      go (yes b) = old b (find_entry m r.gave.list)
      go (no b) =
          let e : p + (m - p) ≡ m = omega arith in
          rw e at (head_pair (m - p) (omega arith))

  pub next_unit_stands : UnitStands s' x' from
  next_unit_stands = unit_stands s' x' from r.inside (λ m h. pair_now m (omega (arith, long)))
