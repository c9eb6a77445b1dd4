-- What a word means, by its tag: a variable has a value, which means the same; a compound has parts; and a word means one term only.
use Prim.Native.Nat.{ℕ, zero, suc, ◌+◌, ◌≤◌, ◌<◌}
use mathlib.Core.Path.{◌≡◌, refl, sym, ap, subst, ◌∙◌}
use mathlib.Core.Bool.{true, false}
use mathlib.Core.List.{List}
use mathlib.Core.Option.{Option, none, some}
use native.Mathlib.Decide.{ℕ_discrete}
use native.Mathlib.Omega.{arith}
use lib.ListN.{length, get_or}
use Rattle.meaning.specs.Terms.{Half, writer, Constant, Functor, Term, Terms, variable, constant, compound, end, more, count, replaced, all_replaced}
use Rattle.meaning.specs.State.{Values, value, applied}
use Rattle.meaning.specs.Guards.{given_to}
use Rattle.laws.proofs.Circle.Written.{applied_within}
use Rattle.term.specs.Cells.{term_word, functor_word, Known, AllKnown, KnownFunctor}
use Rattle.term.specs.Holds.{Holds, HoldsFrom}
use Rattle.term.specs.Layout.{trial_region}
use Rattle.term.specs.Setting.{Within, AllWithin, Ranged, AllRanged, UnitTerm}
use Rattle.term.specs.Words.{tag_in, rest_in}
use Rattle.run_compare.specs.Compare.{item}
use Rattle.run_asked.specs.Asking.{Asking}
use Rattle.run_equal.specs.Equal.{Bare, AllBare, Scene, plain, filled_by, filled, ClauseTerm, Means, of_unit, of_clause, VariableIs, GivenIs, PartIs}
use Rattle.run_equal.proofs.Cuts.{Equal}
use Rattle.run_equal.proofs.Words.{variable_tag, variable_rest, constant_tag, same_words}

-- What a variable is written out as, through its value.
abbrev through : ℕ → Values → Half → ℕ → Term
through k values h p = elim (value values p) [ none ↦ variable h p | some u ↦ applied k values u ]

through_none : (k : ℕ) (values : Values) (h : Half) (p : ℕ) → value values p ≡ none → through k values h p ≡ variable h p
through_none k values h p e = rw (e, through)

through_some : (k : ℕ) (values : Values) (h : Half) (p : ℕ) (u : Term) → value values p ≡ some u → through k values h p ≡ applied k values u
through_some k values h p u e = rw (e, through)

abbrev unit_by : Scene → Half → ℕ → Term
unit_by x h p = through (length x.unit.values) x.unit.values h p

-- A word is that of a variable of the unit, which has a value.
pub record Variable (x : Scene) (w : ℕ) (v : Term) : Type 0 where
  pub half : Half
  pub pair : ℕ
  pub below : pair < length x.unit.values
  pub word : w ≡ term_word x.unit.places (variable half pair)
  pub value_is : Term
  pub assigned : value x.unit.values pair ≡ some value_is
  pub meaning : v ≡ plain x value_is

-- What stands at a place of a clause's compound; and a part of any compound, at a place.
pub record Given (x : Scene) (values j : ℕ) (v : Term) : Type 0 where
  pub low : VariableIs (get_or x.front j 0) true → trial_region + rest_in (get_or x.front j 0) < values
  pub means : (r : ℕ) → GivenIs x.front j r → Means x r v

pub record Part (x : Scene) (values j : ℕ) (v : Term) : Type 0 where
  pub low : j < values
  pub given_low : j < trial_region → VariableIs (get_or x.front j 0) true → trial_region + rest_in (get_or x.front j 0) < values
  pub means : (r : ℕ) → PartIs x.front j r → Means x r v

unfoldable pub Parts : Scene → ℕ → ℕ → Terms → Type 0
Parts x values p end = Unit {0}
Parts x values p (more v vs) = Part x values (p + 1) v × Parts x values (p + 1) vs

-- A word is that of a compound.
pub record Compound (x : Scene) (values w : ℕ) (v : Term) : Type 0 where
  pub number : ℕ
  pub functor : Functor
  pub terms : Terms
  pub is : v ≡ compound number functor terms
  pub tag : tag_in w ≡ 6
  pub inside : rest_in w + 8 ≤ length x.front
  pub low : rest_in w < values
  pub few : count terms ≤ 6
  pub first : get_or x.front (rest_in w) 0 ≡ functor_word x.unit.places functor (count terms)
  pub known : KnownFunctor x.unit.places.names functor
  pub parts : Parts x values (rest_in w) terms

pub record ConstantWord (x : Scene) (w : ℕ) (v : Term) : Type 0 where
  pub value : Constant
  pub is : v ≡ constant value
  pub word : w ≡ term_word x.unit.places (constant value)

pub data Seen (x : Scene) (values w : ℕ) (v : Term) : Type 0 where
  a_variable : Variable x w v → Seen x values w v
  a_constant : ConstantWord x w v → Seen x values w v
  a_compound : Compound x values w v → Seen x values w v

constant_words : (x : Scene) (k : Constant) → term_word (item x.unit x.clause) (constant k) ≡ term_word x.unit.places (constant k)
constant_words x (Constant.integer i) = refl
constant_words x (Constant.name f) = refl
constant_words x Constant.empty = refl

functor_words : (x : Scene) (f : Functor) (k : ℕ) → functor_word (item x.unit x.clause) f k ≡ functor_word x.unit.places f k
functor_words x Functor.cell k = refl
functor_words x (Functor.named f) k = refl

-- Behind the values stands none.
pub value_behind : (values : Values) (n : ℕ) → length values ≤ n → value values n ≡ none
unfolding value
value_behind List.[] n h = refl
value_behind (List.◌∷◌ v vs) zero h = absurd (omega arith)
value_behind (List.◌∷◌ v vs) (suc n) h = value_behind vs n (omega arith)

pub unassigned_stays : (k : ℕ) (values : Values) (h : Half) (p : ℕ) → value values p ≡ none → applied k values (variable h p) ≡ variable h p
unfolding applied replaced
unassigned_stays zero values h p e = refl
unassigned_stays (suc k) values h p e = through_none k values h p e

bare_not : (v : Term) (h : Half) (p : ℕ) → v ≡ variable h p → Bare v → ⊥
unfolding Bare
bare_not v h p e b = rw e at b

pub plain_none : (x : Scene) (h : Half) (p : ℕ) → value x.unit.values p ≡ none → Bare (plain x (variable h p)) → ⊥
plain_none x h p e b = bare_not (plain x (variable h p)) h p (unassigned_stays (suc (length x.unit.values)) x.unit.values h p e) b

count_replaced : (by : Half → ℕ → Term) (ts : Terms) → count (all_replaced by ts) ≡ count ts
unfolding count all_replaced
count_replaced by end = refl
count_replaced by (more t ts) = ap suc (count_replaced by ts)

module _ (x : Scene) (values links : ℕ) (a : Asking x.front x.unit x.clause x.given values x.marks links) where
  pub plain_applied : (t : Term) → plain x t ≡ applied (length x.unit.values) x.unit.values t
  plain_applied t = applied_within x.unit.values a.no_circle (suc (length x.unit.values)) (omega arith) t

  pub plain_assigned : (h : Half) (p : ℕ) (u : Term) → value x.unit.values p ≡ some u → plain x (variable h p) ≡ plain x u
  unfolding applied replaced
  plain_assigned h p u e = through_some (length x.unit.values) x.unit.values h p u e ∙ sym (plain_applied u)

  assigned_pair : (h : Half) (p : ℕ) → Bare (plain x (variable h p)) → (u : Term) × (value x.unit.values p ≡ some u)
  assigned_pair h p b = go (value x.unit.values p) refl
    where
      go : (o : Option Term) → value x.unit.values p ≡ o → (u : Term) × (value x.unit.values p ≡ some u)
      go none e = absurd (plain_none x h p e b)
      go (some u) e = (u, e)

  variable_view : (h : Half) (p w : ℕ) (v : Term) → UnitTerm x.front x.unit (variable h p) → w ≡ term_word x.unit.places (variable h p)
      → v ≡ plain x (variable h p) → Bare v → Variable x w v
  unfolding Within
  variable_view h p w v t e m b =
      let (u, is) = assigned_pair h p (subst Bare m b) in
      record { half = h; pair = p; below = t.of.within; word = e; value_is = u; assigned = is; meaning = m ∙ plain_assigned h p u is }

  plain_constant : (k : Constant) → constant k ≡ plain x (constant k)
  unfolding applied replaced
  plain_constant k = refl

  -- The parts of a compound of the unit.
  unit_part : (t : Term) (j : ℕ) → UnitTerm x.front x.unit t → get_or x.front j 0 ≡ term_word x.unit.places t → trial_region ≤ j → j < values
      → Bare (plain x t) → Part x values j (plain x t)
  unit_part t j held e above low b = record {
    low = low;
    given_low = λ l is. absurd (omega arith);
    means = λ r is. of_unit t held (is.unit above ∙ e) refl b;
  }

  unit_parts : (n i : ℕ) (ts : Terms) → n < x.unit.compounds → i + count ts < x.unit.places.width n → HoldsFrom x.front x.unit.places n i ts
      → AllWithin (length x.unit.values) x.unit.compounds ts → AllKnown x.unit.places.names ts → AllRanged ts
      → AllBare (all_replaced (unit_by x) ts) → (p : ℕ) → p ≡ x.unit.places.compound n + i → Parts x values p (all_replaced (unit_by x) ts)
  unfolding HoldsFrom AllWithin AllKnown AllRanged AllBare all_replaced Parts count applied
  unit_parts n i end h wide held within known ranged bare p e = tt
  unit_parts n i (more t ts) h wide held within known ranged bare p e =
      let here : x.unit.places.compound n + 1 + i ≡ p + 1 = omega arith in
      let before = a.compound_before n h in
      let behind = a.compound_behind n h in (
        unit_part t (p + 1) (record { held = held.1; of = record { within = within.0; known = known.0; ranged = ranged.0 } })
            (ap (λ k. get_or x.front k 0) (sym here) ∙ held.0) (omega arith) (omega arith) bare.0,
        unit_parts n (i + 1) ts h (omega arith) held.2 within.1 known.1 ranged.1 bare.1 (p + 1) (omega arith),
      )

  -- The parts of a compound of the clause: a variable is what the head gave it.
  module _ (j : ℕ) where
    given_part : (h : Half) (m : ℕ) → m < x.clause.pairs → get_or x.front j 0 ≡ term_word (item x.unit x.clause) (variable h m)
        → Bare (filled_by x h m) → Given x values j (filled_by x h m)
    given_part h m below e b = record {
      low = λ is. omega (arith, rest, a.few_pairs, a.values_behind);
      means = λ r is. go (ℕ_discrete (get_or x.front (trial_region + m) 0) 0) r (is.given (subst (λ w. VariableIs w true) (sym e) tag) ∙ at);
    }
      where
        tag : VariableIs (term_word (item x.unit x.clause) (variable h m)) true
        tag = variable_tag (item x.unit x.clause) h m

        rest : rest_in (get_or x.front j 0) ≡ m
        rest = ap (λ w. rest_in w) e ∙ variable_rest (item x.unit x.clause) h m

        at : get_or x.front (trial_region + rest_in (get_or x.front j 0)) 0 ≡ get_or x.front (trial_region + m) 0
        at = ap (λ k. get_or x.front (trial_region + k) 0) rest

        go : Dec (get_or x.front (trial_region + m) 0 ≡ 0) → (r : ℕ) → r ≡ get_or x.front (trial_region + m) 0 → Means x r (filled_by x h m)
        go (yes z) r is =
            let n = length x.unit.values in
            let none_given = (a.gave m below).nothing z in
            absurd
            (bare_not (filled_by x h m) writer (n + m)
            (ap (applied n x.unit.values) none_given
            ∙ unassigned_stays n x.unit.values writer (n + m) (value_behind x.unit.values (n + m) (omega arith))) b)
        go (no d) r is =
            let g = given_to x.given (length x.unit.values + m) in
            of_unit g ((a.gave m below).term d) (is ∙ (a.gave m below).word d) (sym (plain_applied g)) b

    pub clause_given : (t : Term) → ClauseTerm x.front x.unit x.clause t → get_or x.front j 0 ≡ term_word (item x.unit x.clause) t
        → Bare (filled x t) → Given x values j (filled x t)
    unfolding replaced Within Holds Known Ranged
    clause_given (variable h m) held e b = given_part h m held.within e b
    clause_given (constant k) held e b =
        let tag = (constant_tag (item x.unit x.clause) k).0 in
        let other : VariableIs (get_or x.front j 0) false = λ z. omega (arith, ap (λ w. tag_in w) e) in record {
          low = λ is. absurd (omega (arith, is.1, ap (λ w. tag_in w) e));
          means = λ r is. of_unit (constant k) (record { held = tt; of = record { within = tt; known = held.known; ranged = held.ranged } })
              (is.other other ∙ e ∙ constant_words x k) (plain_constant k) b;
        }
    clause_given (compound n f ts) held e b =
        let other : VariableIs (get_or x.front j 0) false = λ z. omega (arith, ap (λ w. tag_in w) e) in record {
          low = λ is. absurd (omega (arith, is.1, ap (λ w. tag_in w) e));
          means = λ r is. of_clause n f ts held (is.other other ∙ e) refl b;
        }

    clause_part : (v : Term) → j < trial_region → Given x values j v → Part x values j v
    clause_part v low g =
        record { low = omega (arith, a.values_behind); given_low = λ l is. g.low is; means = λ r is. g.means r (is.clause low) }

  clause_parts : (n i : ℕ) (ts : Terms) → n < x.clause.compounds → i + count ts ≤ 6 → HoldsFrom x.front (item x.unit x.clause) n i ts
      → AllWithin x.clause.pairs x.clause.compounds ts → AllKnown x.unit.places.names ts → AllRanged ts
      → AllBare (all_replaced (filled_by x) ts) → (p : ℕ) → p ≡ (item x.unit x.clause).compound n + i
      → Parts x values p (all_replaced (filled_by x) ts)
  unfolding HoldsFrom AllWithin AllKnown AllRanged AllBare all_replaced Parts count
  clause_parts n i end h few held within known ranged bare p e = tt
  clause_parts n i (more t ts) h few held within known ranged bare p e =
      let here : (item x.unit x.clause).compound n + 1 + i ≡ p + 1 = omega arith in
      let low : p + 1 < trial_region = omega (arith, a.number, a.few_compounds) in (
        clause_part (p + 1) (filled x t) low
            (clause_given (p + 1) t (record { held = held.1; within = within.0; known = known.0; ranged = ranged.0 })
            (ap (λ k. get_or x.front k 0) (sym here) ∙ held.0) bare.0),
        clause_parts n (i + 1) ts h (omega arith) held.2 within.1 known.1 ranged.1 bare.1 (p + 1) (omega arith),
      )

  -- No word is that of a term of the unit and of a compound of the clause.
  apart_sides : (w : ℕ) (t : Term) (n : ℕ) (f : Functor) (ts : Terms) → UnitTerm x.front x.unit t
      → ClauseTerm x.front x.unit x.clause (compound n f ts) → w ≡ term_word x.unit.places t
      → w ≡ term_word (item x.unit x.clause) (compound n f ts) → ⊥
  unfolding Within
  apart_sides w (variable h p) n f ts held held' e e' = omega (arith, (variable_tag x.unit.places h p).1, ap (λ k. tag_in k) (sym e ∙ e'))
  apart_sides w (constant k) n f ts held held' e e' = omega (arith, (constant_tag x.unit.places k).1, ap (λ k. tag_in k) (sym e ∙ e'))
  apart_sides w (compound m g us) n f ts held held' e e' =
      let here = held'.within.0 in
      omega (arith, a.compound_behind m held.of.within.0, a.number, a.few_compounds)

  unit_seen : (w : ℕ) (v t : Term) → UnitTerm x.front x.unit t → w ≡ term_word x.unit.places t → v ≡ plain x t → Bare v → Seen x values w v
  unfolding applied replaced Holds Within Known Ranged Bare
  unit_seen w v (variable h p) held e m b = a_variable (variable_view h p w v held e m b)
  unit_seen w v (constant k) held e m b = a_constant (record { value = k; is = m; word = e })
  unit_seen w v (compound n f ts) held e m b =
      let number = held.of.within.0 in
      let at : rest_in w ≡ x.unit.places.compound n = omega arith in
      let cell = held.held.0 in
      a_compound (record {
        number = n;
        functor = f;
        terms = all_replaced (unit_by x) ts;
        is = m;
        tag = omega arith;
        inside = omega (arith, cell.inside);
        low = omega (arith, a.compound_before n number, cell.wide);
        few = rw (count_replaced (unit_by x) ts) cell.few;
        first = ap (λ k. get_or x.front k 0) at ∙ cell.functor ∙ ap (functor_word x.unit.places f) (sym (count_replaced (unit_by x) ts));
        known = held.of.known.0;
        parts = unit_parts n 0 ts number (omega (arith, cell.wide)) held.held.1 held.of.within.1 held.of.known.1 held.of.ranged
            (subst Bare m b) (rest_in w) (omega arith);
      })

  clause_seen : (w : ℕ) (v : Term) (n : ℕ) (f : Functor) (ts : Terms) → ClauseTerm x.front x.unit x.clause (compound n f ts) → w ≡ term_word (item x.unit x.clause) (compound n f ts)
      → v ≡ filled x (compound n f ts) → Bare v → Seen x values w v
  unfolding replaced Holds Within Known Ranged Bare
  clause_seen w v n f ts held e m b =
      let number = held.within.0 in
      let at : rest_in w ≡ (item x.unit x.clause).compound n = omega arith in
      let cell = held.held.0 in
      a_compound (record {
        number = n;
        functor = f;
        terms = all_replaced (filled_by x) ts;
        is = m;
        tag = omega arith;
        inside = omega (arith, cell.inside);
        low = omega (arith, a.number, a.few_compounds, a.values_behind);
        few = rw (count_replaced (filled_by x) ts) cell.few;
        first = ap (λ k. get_or x.front k 0) at ∙ cell.functor ∙ functor_words x f (count ts)
            ∙ ap (functor_word x.unit.places f) (sym (count_replaced (filled_by x) ts));
        known = held.known.0;
        parts = clause_parts n 0 ts number (omega (arith, cell.few)) held.held.1 held.within.1 held.known.1 held.ranged
            (subst Bare m b) (rest_in w) (omega arith);
      })

  -- A word by its tag.
  pub seen : (w : ℕ) (v : Term) → Means x w v → Seen x values w v
  seen w v (of_unit t held e m b) = unit_seen w v t held e m b
  seen w v (of_clause n f ts held e m b) = clause_seen w v n f ts held e m b

  -- A word means one term only.
  pub means_one : (w : ℕ) (v u : Term) → Means x w v → Means x w u → Equal v u
  unfolding applied
  means_one w v u (of_unit t held e m b) (of_unit t' held' e' m' b') i =
      rw (m, m')
      (same_words x.front x.unit.places (length x.unit.values) x.unit.compounds a.apart (unit_by x) t t' held.held held'.held
      held.of.within held'.of.within held.of.known held'.of.known held.of.ranged held'.of.ranged (sym e ∙ e') i)
  means_one w v u (of_unit t held e m b) (of_clause n f ts held' e' m' b') i = absurd (apart_sides w t n f ts held held' e e')
  means_one w v u (of_clause n f ts held e m b) (of_unit t' held' e' m' b') i = absurd (apart_sides w t' n f ts held' held e' e)
  means_one w v u (of_clause n f ts held e m b) (of_clause n' f' ts' held' e' m' b') i =
      rw (m, m')
      (same_words x.front (item x.unit x.clause) x.clause.pairs x.clause.compounds (λ j k c d same. same) (filled_by x)
      (compound n f ts) (compound n' f' ts') held.held held'.held
      held.within held'.within held.known held'.known held.ranged held'.ranged (sym e ∙ e') i)
