-- How deep a term is when written out: a pair's value adds no more levels than there are words for compounds, and no chain has more pairs than the room.
use Prim.Native.Nat.{ℕ, zero, suc, ◌+◌, ◌*◌, ◌≤◌, ◌<◌}
use mathlib.Core.Path.{◌≡◌, refl, ap, subst, ◌∙◌}
use mathlib.Core.Logic.{⊎_elim}
use mathlib.Core.List.{List, [], ◌∷◌}
use mathlib.Core.Option.{Option, none, some}
use native.Mathlib.Decide.{ℕ_discrete}
use native.Mathlib.Nat.{mul-le-mul_right, suc-mul}
use native.Mathlib.Omega.{arith}
use lib.ListN.{length, get_or, take, length-take}
use lib.Seq.{get_or-take}
use Rattle.meaning.specs.Terms.{Half, writer, Term, Terms, variable, constant, compound, end, more, count, replaced, all_replaced}
use Rattle.meaning.specs.State.{Values, value, applied}
use Rattle.meaning.specs.Guards.{given_to}
use Rattle.laws.proofs.Lists.Among.{In, in_cons_cases, in_none}
use Rattle.laws.proofs.Lists.Pigeonhole.{Distinct, pigeonhole}
use Rattle.term.specs.Cells.{Places}
use Rattle.term.specs.Holds.{Holds, HoldsFrom, HoldsValue}
use Rattle.term.specs.Layout.{trial_region}
use Rattle.term.specs.Setting.{Within, AllWithin, UnitTerm}
use Rattle.run_circle.proofs.Depth.{depth, depths, shallow}
use Rattle.run_compare.specs.Compare.{item}
use Rattle.run_asked.specs.Asking.{Asking}
use Rattle.run_equal.specs.Equal.{Scene, ClauseTerm, filled_by, filled}
use Rattle.run_equal.proofs.Meanings.{value_behind, unassigned_stays}

-- A term whose compounds stand in the first words is no deeper than these are many.
module _ (s : List ℕ) (places : Places) (p c high : ℕ) (fit : (n : ℕ) → n < c → places.compound n + 8 ≤ high) where
  mutual
    unfolding Within AllWithin Holds HoldsFrom count

    cut_holds : (t : Term) → Within p c t → Holds s places t → Holds (take high s) places t
    cut_holds (variable h n) w k = tt
    cut_holds (constant k) w h = tt
    cut_holds (compound n f ts) w h =
        let room = fit n w.0 in (
          record {
            inside = omega (arith, length-take high s, h.0.inside);
            few = h.0.few;
            wide = h.0.wide;
            functor = get_or-take high s (places.compound n) 0 (omega arith) ∙ h.0.functor;
          },
          cut_holds_from n 0 ts w.0 (omega (arith, h.0.few)) w.1 h.1,
        )

    cut_holds_from : (n i : ℕ) (ts : Terms) → n < c → i + count ts ≤ 6 → AllWithin p c ts → HoldsFrom s places n i ts → HoldsFrom (take high s) places n i ts
    cut_holds_from n i end l few w h = tt
    cut_holds_from n i (more t ts) l few w h =
        let room = fit n l in (
          get_or-take high s (places.compound n + 1 + i) 0 (omega arith) ∙ h.0,
          cut_holds t w.0 h.1,
          cut_holds_from n (i + 1) ts l (omega arith) w.1 h.2,
        )

  pub low_depth : (t : Term) → Within p c t → Holds s places t → depth t ≤ high
  low_depth t w h = omega (arith, shallow (take high s) places t (cut_holds t w h), length-take high s)

-- What replaces a term's variables adds its own depth.
module _ (p c : ℕ) (by : Half → ℕ → Term) (m : ℕ) (low : (h : Half) (n : ℕ) → n < p → depth (by h n) ≤ m) where
  mutual
    unfolding Within AllWithin replaced all_replaced depth depths

    replaced_depth : (t : Term) → Within p c t → depth (replaced by t) ≤ depth t + m
    replaced_depth (variable h n) w = omega (arith, low h n w)
    replaced_depth (constant k) w = omega arith
    replaced_depth (compound n f ts) w = omega (arith, all_replaced_depth ts w.1)

    all_replaced_depth : (ts : Terms) → AllWithin p c ts → depths (all_replaced by ts) ≤ depths ts + m
    all_replaced_depth end w = omega arith
    all_replaced_depth (more t ts) w = omega (arith, replaced_depth t w.0, all_replaced_depth ts w.1)

-- Through values.
plus_one : (a n : ℕ) → suc a * n ≡ a * n + n
plus_one a n = suc-mul a n

module _ (values : Values) (p c high : ℕ) (within : (n : ℕ) (u : Term) → n < p → value values n ≡ some u → Within p c u)
    (low : (n : ℕ) (u : Term) → n < p → value values n ≡ some u → depth u ≤ high) where
  applied_depth : (k : ℕ) (t : Term) → Within p c t → depth t ≤ high → depth (applied k values t) ≤ suc k * high
  unfolding applied depth
  applied_depth zero t w h = omega (arith, plus_one 0 high)
  applied_depth (suc k) t w h =
      omega (
        arith,
        plus_one (suc k) high,
        replaced_depth p c (λ g n. elim (value values n) [ none ↦ variable g n | some u ↦ applied k values u ]) (suc k * high)
            (λ g n l. go (applied_depth k) g n l (value values n) refl) t w,
      )
    where
      go : ((u : Term) → Within p c u → depth u ≤ high → depth (applied k values u) ≤ suc k * high) → (g : Half) (n : ℕ) → n < p → (o : Option Term)
          → value values n ≡ o → depth (elim o [ none ↦ variable g n | some u ↦ applied k values u ]) ≤ suc k * high
      go further g n l none e = omega arith
      go further g n l (some u) e = further u (within n u l e) (low n u l e)

-- Numbers apart below a bound are no more than that.
places_to : (ℕ → ℕ) → ℕ → List ℕ
places_to f zero = []
places_to f (suc n) = f n ∷ places_to f n

in_places : (f : ℕ → ℕ) (n m : ℕ) → In m (places_to f n) → (i : ℕ) × (i < n) × (m ≡ f i)
unfolding places_to
in_places f zero m o = absurd (in_none o)
in_places f (suc n) m o =
    ⊎_elim {C = (i : ℕ) × (i < suc n) × (m ≡ f i)} (λ e. (n, omega arith, e)) (λ r. let (i, l, e) = in_places f n m r in (i, omega arith, e))
    (in_cons_cases o)

apart_few : (f : ℕ → ℕ) (n high : ℕ) → ((i j : ℕ) → i < n → j < n → f i ≡ f j → i ≡ j) → ((i : ℕ) → i < n → f i < high) → n ≤ high
unfolding places_to Distinct
apart_few f n high apart below =
    subst (λ k. k ≤ high) (places_length n)
    (pigeonhole high (places_to f n) (distinct n (omega arith)) (λ m o. let (i, l, e) = in_places f n m o in rw e (below i l)))
  where
    places_length : (k : ℕ) → length (places_to f k) ≡ k
    places_length zero = refl
    places_length (suc k) = ap suc (places_length k)

    distinct : (k : ℕ) → k ≤ n → Distinct (places_to f k)
    distinct zero h = tt
    distinct (suc k) h = (
      λ o. let (i, l, e) = in_places f k (f k) o in let same = apart k i (omega arith) (omega arith) e in omega arith,
      distinct k (omega arith),
    )

module _ (x : Scene) (values links : ℕ) (a : Asking x.front x.unit x.clause x.given values x.marks links) where
  unit_low : (t : Term) → UnitTerm x.front x.unit t → depth t ≤ values + 8
  unit_low t h =
      low_depth x.front x.unit.places (length x.unit.values) x.unit.compounds (values + 8)
      (λ n l. omega (arith, a.compound_before n l)) t h.of.within h.held

  clause_low : (t : Term) → ClauseTerm x.front x.unit x.clause t → depth t ≤ values + 8
  clause_low t h =
      low_depth x.front (item x.unit x.clause) x.clause.pairs x.clause.compounds (values + 8)
      (λ n l. omega (arith, a.number, a.few_compounds, a.values_behind)) t h.within h.held

  value_term : (n : ℕ) (u : Term) → n < length x.unit.values → value x.unit.values n ≡ some u → UnitTerm x.front x.unit u
  value_term n u l e = record {
    held = subst (λ o. HoldsValue x.front x.unit.places o) e (a.chained.stands.held.held n l);
    of = a.chained.stands.of n u l e;
  }

  few_values : length x.unit.values ≤ links
  few_values =
      let all = a.chained.stands.held.place in
      omega (arith, apart_few x.unit.places.pair (length x.unit.values) x.unit.pairs a.apart all, a.chained.links_are)

  given_depth : (h : Half) (m : ℕ) → m < x.clause.pairs → depth (filled_by x h m) ≤ suc (length x.unit.values) * (values + 8)
  unfolding depth
  given_depth h m l = go (ℕ_discrete (get_or x.front (trial_region + m) 0) 0)
    where
      n : ℕ
      n = length x.unit.values

      through : (t : Term) → UnitTerm x.front x.unit t → depth (applied n x.unit.values t) ≤ suc n * (values + 8)
      through t k =
          applied_depth x.unit.values n x.unit.compounds (values + 8) (λ i u b e. (value_term i u b e).of.within)
          (λ i u b e. unit_low u (value_term i u b e)) n t k.of.within (unit_low t k)

      go : Dec (get_or x.front (trial_region + m) 0 ≡ 0) → depth (filled_by x h m) ≤ suc n * (values + 8)
      go (yes z) = rw (
        (a.gave m l).nothing z,
        unassigned_stays n x.unit.values writer (n + m)
            (value_behind x.unit.values (n + m) (omega arith)),
      ) (omega arith)
      go (no d) = through (given_to x.given (n + m)) ((a.gave m l).term d)

  -- No deeper than the comparison is told to go.
  pub filled_depth : (t : Term) → ClauseTerm x.front x.unit x.clause t → depth (filled x t) < (links + 2) * (values + 8) + 1
  filled_depth t h =
      let n = length x.unit.values in
      let high = values + 8 in
      let all = replaced_depth x.clause.pairs x.clause.compounds (filled_by x) (suc n * high) given_depth t h.within in
      let few : (n + 2) * high ≤ (links + 2) * high = mul-le-mul_right high (omega (arith, few_values)) in
      let two : (n + 2) * high ≡ suc n * high + high = two_more n high in
      omega (arith, clause_low t h)
    where
      two_more : (k high : ℕ) → (k + 2) * high ≡ suc k * high + high
      two_more k high = let same : k + 2 ≡ suc (suc k) = omega arith in rw same (plus_one (suc k) high)
