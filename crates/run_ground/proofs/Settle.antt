-- From a term whose pairs are ground the marks of those with the stamp are turned, one after the other: the term at hand has ground pairs only.
use Prim.Native.Nat.{ℕ, ◌+◌, ◌*◌, ◌-◌, ◌%◌, ◌≤◌, ◌<◌}
use mathlib.Core.Path.{◌≡◌, refl, sym, ap, subst, ◌∙◌}
use mathlib.Core.Logic.{◌⊎◌, inl, inr, ⊎_elim}
use mathlib.Core.Bool.{Bool}
use mathlib.Core.List.{List}
use mathlib.Core.Option.{Option, none, some}
use native.Mathlib.Decide.{ℕ_discrete}
use native.Mathlib.Omega.{arith}
use lib.Dec.{eqb}
use lib.ListN.{length, get_or, set, length-set}
use lib.Seq.{get_or-set_same, get_or-set_other}
use borrow.Author.Tests.{ne_eqb}
use Rattle.meaning.specs.Terms.{Term, Terms, end, more, count}
use Rattle.meaning.specs.State.{Values, value}
use Rattle.laws.proofs.Terms.Standing.{Stands, StandsIn}
use Rattle.term.specs.Setting.{UnitTerms}
use Rattle.term.specs.Words.{tag_in, rest_in}
use Rattle.term.proofs.Frames.{only_same, only_set, only_then, only_wider}
use Rattle.run_circle.specs.Ground.{Ground, a_ground, GroundAt, Tells, IsSo}
use Rattle.run_circle.proofs.Depth.{depth, depths}
use Rattle.run_ground.specs.Looking.{Scene, unit_pair, Placed, Told, Firm, Settled}
use Rattle.run_ground.proofs.Words.{
  weight,
  falls_to_value,
  falls_to_argument,
  AtCompound,
  AtVariable,
  compound_of,
  variable_of,
  first_held,
  others_held,
  word_kept,
  mark_inside,
  value_inside,
  value_none,
  value_some,
}

-- The k-th of some arguments: its word, its depth, its pairs.
pub record Nth (x : Scene) (w : ℕ) (ts : Terms) : Type 0 where
  pub term : Term
  pub told : Told x w term
  pub lower : depth term ≤ depths ts
  pub within : (j : ℕ) → Stands j term → StandsIn j ts

pub nth : (x : Scene) (n i : ℕ) (ts : Terms) → UnitTerms x.base x.unit n i ts → (k a : ℕ) → i < k → k ≤ i + count ts
    → a ≡ get_or x.base (x.unit.places.compound n + k) 0 → Nth x a ts
unfolding count depths StandsIn
nth x n i end u k a low high reads = absurd (omega arith)
nth x n i (more t ts) u k a low high reads = go (ℕ_discrete k (i + 1)) (nth x n (i + 1) ts (others_held x n i t ts u) k a)
  where
    go : Dec (k ≡ i + 1) → (i + 1 < k → k ≤ i + 1 + count ts → a ≡ get_or x.base (x.unit.places.compound n + k) 0 → Nth x a ts) → Nth x a (more t ts)
    go (yes e) further = record {
      term = t;
      told = first_held x n i t ts u a (reads ∙ ap (λ j. get_or x.base j 0) (omega arith));
      lower = omega arith;
      within = λ j s. inl s;
    }
    go (no d) further =
        let r = further (omega arith) (omega arith) reads in
        record { term = r.term; told = r.told; lower = omega (arith, r.lower); within = λ j s. inr (r.within j s) }

-- A ground pair's value, and its pairs.
ground_value : (values : Values) (n : ℕ) → Ground values n → value values n ≡ none → ⊥
ground_value values n (a_ground t e all) f = let z : ◌≡◌ {A = ℕ} 0 1 = cc in absurd (omega arith)

ground_parts : (values : Values) (n : ℕ) → Ground values n → (u : Term) → value values n ≡ some u → (j : ℕ) → Stands j u → Ground values j
ground_parts values n (a_ground t e all) u f j s =
    let same : ◌≡◌ {A = Term} t u = some_same t u (sym e ∙ f) in
    all j (rw same s)
  where
    some_same : (a b : Term) → some a ≡ some b → a ≡ b
    some_same a b g = cc

module _ (x : Scene) (marks stamp : ℕ) where
  pub settled_same : (s : List ℕ) → Settled x marks stamp s s
  settled_same s = record { only = only_same marks (marks + x.unit.pairs) s; turned = λ k. inl refl; grounds = λ o p l e. inl e }

  settled_then : (s t u : List ℕ) → (stamp ≡ 1 → ⊥) → Settled x marks stamp s t → Settled x marks stamp t u → Settled x marks stamp s u
  settled_then s t u above a b = record {
    only = only_then marks (marks + x.unit.pairs) s t u a.only b.only;
    turned = λ k. ⊎_elim (λ e. ⊎_elim (λ f. inl (e ∙ f)) (λ (was, is). inr (was, e ∙ is)) (a.turned k))
        (λ (was, is). ⊎_elim (λ f. inr (sym f ∙ was, is)) (λ (first, then). absurd (above (sym was ∙ then))) (a.turned k)) (b.turned k);
    grounds = λ o p l e. ⊎_elim (a.grounds o p l) inr (b.grounds o p l e);
  }

  settled_set : (s : List ℕ) (p : ℕ) → p < x.unit.pairs → marks + p < length s → get_or s (marks + p) 0 ≡ stamp
      → GroundAt x.unit.places x.unit.values p → Settled x marks stamp s (set s (marks + p) 1)
  settled_set s p h inside m known = record {
    only = only_set marks (marks + x.unit.pairs) s (marks + p) 1 (omega arith) (omega arith);
    turned = λ k. turned k (ℕ_discrete k (marks + p));
    grounds = λ o q l e. new o q e (ℕ_discrete q p);
  }
    where
      turned : (k : ℕ) → Dec (k ≡ marks + p)
          → (get_or (set s (marks + p) 1) k 0 ≡ get_or s k 0) ⊎ ((get_or s k 0 ≡ stamp) × (get_or (set s (marks + p) 1) k 0 ≡ 1))
      turned k (yes e) = inr (rw e m, rw e (get_or-set_same s (marks + p) 1 0 inside))
      turned k (no d) = inl (get_or-set_other s (marks + p) k 1 0 d)

      one : (o : Option ℕ) → Tells o 1 → IsSo x.unit.places x.unit.values o p
      one none e = known
      one (some q) e = absurd (omega arith)

      here : (q : ℕ) → q ≡ p → get_or (set s (marks + p) 1) (marks + q) 0 ≡ 1
      here q f = ap (λ k. get_or (set s (marks + p) 1) (marks + k) 0) f ∙ get_or-set_same s (marks + p) 1 0 inside

      new : (o : Option ℕ) (q : ℕ) → Tells o (get_or (set s (marks + p) 1) (marks + q) 0) → Dec (q ≡ p)
          → Tells o (get_or s (marks + q) 0) ⊎ IsSo x.unit.places x.unit.values o q
      new o q e (yes f) = inr (subst (IsSo x.unit.places x.unit.values o) (sym f) (one o (subst (Tells o) (here q f) e)))
      new o q e (no d) = inl (subst (Tells o) (get_or-set_other s (marks + p) (marks + q) 1 0 (λ f. d (omega arith))) e)

  pub placed_settled : (values : ℕ) (s t : List ℕ) → Placed s x values marks stamp → Settled x marks stamp s t → Placed t x values marks stamp
  placed_settled values s t h a = record {
    shown = h.shown;
    only = only_then marks (marks + 3 * x.unit.pairs) x.base s t h.only
        (only_wider marks (marks + x.unit.pairs) marks (marks + 3 * x.unit.pairs) s t (omega arith) (omega arith) a.only);
    stamp_above = h.stamp_above;
    stamp_below = h.stamp_below;
    stamps = λ k l l'. ⊎_elim (λ e. rw e (h.stamps k l l')) (λ (was, is). omega (arith, h.stamp_above)) (a.turned k);
  }

-- On the way.
pub record Settles (s₀ s : List ℕ) (x : Scene) (marks stamp w : ℕ) : Type 0 where
  pub now : Term
  pub told : Told x w now
  pub firm : Firm x now
  pub settled : Settled x marks stamp s₀ s

abbrev pub is_one : ℕ → Bool
is_one m = eqb m 1

abbrev pub settle_weight : List ℕ → ℕ → ℕ → ℕ
settle_weight s marks w = weight is_one s marks (length s - marks) w

module _ (s₀ : List ℕ) (values marks stamp w₀ state : ℕ) where
  abbrev pub SettleAsks : Type 0
  SettleAsks = (x : Scene) × (t : Term) × Placed s₀ x values marks stamp × Told x w₀ t × (state % 2 ≡ 0 → Firm x t)

  abbrev pub SettleTells : List ℕ → Type 0
  SettleTells s = (x : Scene) (t : Term) → Placed s₀ x values marks stamp → Told x w₀ t → (state % 2 ≡ 0 → Firm x t) → Settled x marks stamp s₀ s

  abbrev pub Settling : List ℕ → ℕ → Type 0
  Settling s w = (x : Scene) (t : Term) → Placed s₀ x values marks stamp → Told x w₀ t → (state % 2 ≡ 0 → Firm x t) → Settles s₀ s x marks stamp w

  pub settle_not : SettleTells s₀
  settle_not x t h told firm = settled_same x marks stamp s₀

  pub settling_first : state % 2 ≡ 0 → Settling s₀ w₀
  settling_first even x t h told firm =
      record { now = t; told = told; firm = firm even; settled = settled_same x marks stamp s₀ }

  module _ (s : List ℕ) (w : ℕ) (settling : Settling s w) where
    pub settling_last : SettleTells s
    settling_last x t h told firm = (settling x t h told firm).settled

    here : (x : Scene) (t : Term) → Placed s₀ x values marks stamp → Told x w₀ t → (state % 2 ≡ 0 → Firm x t) → Placed s x values marks stamp
    here x t h told firm = placed_settled x marks stamp values s₀ s h (settling x t h told firm).settled

    -- At a compound: on to its last argument.
    module _ (six : tag_in w ≡ 6) (q : ℕ) (at : q ≡ rest_in w) where
      its : (x : Scene) (t : Term) (h : Placed s₀ x values marks stamp) (told : Told x w₀ t) (firm : state % 2 ≡ 0 → Firm x t)
          → AtCompound s x marks w (settling x t h told firm).now
      its x t h told firm =
          let g = settling x t h told firm in
          compound_of x values marks stamp s (here x t h told firm) w g.now g.told six

      pub settle_count : SettleAsks → q < length s
      settle_count (x, t, h, told, firm) = omega (arith, (its x t h told firm).inside)

      module _ (k : ℕ) (counted : k ≡ tag_in (get_or s q 0)) (some_left : k ≡ 0 → ⊥) where
        pub settle_argument : SettleAsks → q + k < length s
        settle_argument (x, t, h, told, firm) =
            let c = its x t h told firm in
            let same : k ≡ tag_in (get_or s (rest_in w) 0) = counted ∙ ap (λ j. tag_in (get_or s j 0)) at in
            omega (arith, c.inside, c.few, c.counted)

        module _ (a : ℕ) (reads : a ≡ get_or s (q + k) 0) where
          last_of : (x : Scene) (t : Term) (h : Placed s₀ x values marks stamp) (told : Told x w₀ t) (firm : state % 2 ≡ 0 → Firm x t)
              → Nth x a (its x t h told firm).terms
          last_of x t h told firm =
              let c = its x t h told firm in
              let same : k ≡ tag_in (get_or s (rest_in w) 0) = counted ∙ ap (λ j. tag_in (get_or s j 0)) at in
              let place : q + k ≡ x.unit.places.compound c.number + k = omega (arith, c.place) in
              nth x c.number 0 c.terms c.held k a (omega arith) (omega (arith, c.counted))
              (reads ∙ word_kept x values marks stamp s (here x t h told firm) (q + k) (omega (arith, c.before, c.counted)) ∙ ap (λ j. get_or x.base j 0) place)

          pub settling_argument : Settling s a
          unfolding Stands
          settling_argument x t h told firm =
              let g = settling x t h told firm in
              let c = its x t h told firm in
              let u = last_of x t h told firm in
              record { now = u.term; told = u.told; firm = λ j r. g.firm j (rw c.is (u.within j r)); settled = g.settled }

          pub argument_lighter : SettleAsks → settle_weight s marks a < settle_weight s marks w
          unfolding depth
          argument_lighter (x, t, h, told, firm) =
              let g = settling x t h told firm in
              let c = its x t h told firm in
              let u = last_of x t h told firm in
              let p = here x t h told firm in
              falls_to_argument x values marks stamp s s p p is_one (length s - marks) (omega arith) w a g.now u.term g.told u.told
              (rw c.is (omega (arith, u.lower)))

    -- At a variable: its pair's mark is turned, and on to its value.
    module _ (six : tag_in w ≡ 6 → ⊥) (le : tag_in w ≤ 2) (p : ℕ) (at : p ≡ rest_in w) where
      its_pair : (x : Scene) (t : Term) (h : Placed s₀ x values marks stamp) (told : Told x w₀ t) (firm : state % 2 ≡ 0 → Firm x t)
          → AtVariable x w (settling x t h told firm).now
      its_pair x t h told firm = let g = settling x t h told firm in variable_of x w g.now g.told six le

      pub settle_mark : SettleAsks → marks + p < length s
      settle_mark (x, t, h, told, firm) =
          let v = its_pair x t h told firm in
          omega (arith, v.at.place, mark_inside x values marks stamp s (here x t h told firm) v.pair v.at.below)

      module _ (m : get_or s (marks + p) 0 ≡ stamp) (s₁ : List ℕ) (set_now : s₁ ≡ set s (marks + p) 1) where
        pub settle_value : SettleAsks → values + p < length s₁
        settle_value (x, t, h, told, firm) =
            let v = its_pair x t h told firm in
            omega (arith, v.at.place, value_inside x values marks stamp s (here x t h told firm) v.pair v.at.below, ap (λ l. length l) set_now ∙ length-set s (marks + p) 1)

        pub value_lighter : SettleAsks → (v : ℕ) → settle_weight s₁ marks v < settle_weight s marks w
        value_lighter (x, t, h, told, firm) v =
            let size : length s₁ ≡ length s = ap (λ l. length l) set_now ∙ length-set s (marks + p) 1 in
            let inside = settle_mark (x, t, h, told, firm) in
            rw size
            (falls_to_value is_one s marks (length s - marks) p 1 (omega arith) (omega arith) (ne_eqb (get_or s (marks + p) 0) 1 (λ e. omega (arith, h.stamp_above))) refl s₁
            set_now v w)

        pub settling_value : (v : ℕ) → v ≡ get_or s₁ (values + p) 0 → Settling s₁ v
        unfolding Stands
        settling_value v reads x t h told firm = go (value_some x values marks stamp s₁ p₁ j k.at.below v (reads ∙ ap (λ i. get_or s₁ i 0) place))
          where
            k : AtVariable x w (settling x t h told firm).now
            k = its_pair x t h told firm

            j : ℕ
            j = k.pair

            place : values + p ≡ values + unit_pair x j
            place = omega (arith, k.at.place)

            known : Ground x.unit.values j
            known = (settling x t h told firm).firm j (rw k.is refl)

            now_settled : Settled x marks stamp s₀ s₁
            now_settled =
                settled_then x marks stamp s₀ s s₁ (λ e. omega (arith, h.stamp_above)) (settling x t h told firm).settled
                (rw set_now (settled_set x marks stamp s p (omega (arith, k.at.place, h.shown.stands.held.place j k.at.below))
                (settle_mark (x, t, h, told, firm)) m
                (record { pair = j; below = k.at.below; place = omega (arith, k.at.place); a_ground = known })))

            p₁ : Placed s₁ x values marks stamp
            p₁ = placed_settled x marks stamp values s₀ s₁ h now_settled

            go : ((v ≡ 0 → ⊥) → (u : Term) × (value x.unit.values j ≡ some u) × Told x v u) → Settles s₀ s₁ x marks stamp v
            go value_is =
                let (u, e, its_told) = value_is (λ z. ground_value x.unit.values j known
                (value_none x values marks stamp s₁ p₁ j k.at.below (sym (ap (λ i. get_or s₁ i 0) place) ∙ sym reads ∙ z))) in
                record { now = u; told = its_told; firm = ground_parts x.unit.values j known u e; settled = now_settled }
