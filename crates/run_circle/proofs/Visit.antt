-- A search at one pair: the pair of a variable, what a pair of the clause was given, and a pair of the unit that is met for the first time.
use Prim.Native.Nat.{ℕ, ◌+◌, ◌≤◌, ◌<◌}
use mathlib.Core.Path.{◌≡◌, refl, sym, ap, subst, ◌∙◌}
use mathlib.Core.Logic.{inl, inr, ⊎_elim}
use mathlib.Core.Bool.{Bool, true, false, true≢false}
use mathlib.Core.List.{List}
use mathlib.Core.Option.{Option, none, some}
use native.Mathlib.Decide.{ℕ_discrete}
use native.Mathlib.Omega.{arith}
use lib.ListN.{length, get_or}
use Rattle.meaning.specs.Terms.{writer, reader, Constant, Term}
use Rattle.meaning.specs.State.{Values, value}
use Rattle.laws.proofs.Terms.Standing.{Stands}
use Rattle.laws.proofs.Circle.Leaning.{Leans, Links, one, first, links_join}
use Rattle.term.specs.Layout.{trial_region}
use Rattle.term.specs.Words.{tag_in, rest_in}
use Rattle.run_circle.specs.Ground.{Ground, a_ground, Via, there, LeadsVia}
use Rattle.run_circle.specs.Search.{
  Scene,
  side,
  On,
  Told,
  Given,
  StandsAt,
  AllStand,
  Searching,
  visited,
  Visited,
  Stamped,
  Seen,
  Reaches,
  Searched,
  Firm,
  Stems,
}
use Rattle.run_circle.proofs.Grounds.{links_stay, leans_stands, via_ground, via_via, leads_via}
use Rattle.run_circle.proofs.Stamps.{
  stamped_same,
  stamped_then,
  stamp_stays,
  searching_on,
  closed_same,
  front_length,
  front_word,
}

-- What stands in the value of a pair is what the pair leans on.
pub leans_of : (values : Values) (i j : ℕ) → StandsAt i (value values j) → Leans values j i
unfolding Leans
leans_of values i j s = go (value values j) refl s
  where
    go : (v : Option Term) → value values j ≡ v → StandsAt i v → (t : Term) × (value values j ≡ some t) × Stands i t
    go none e r = absurd r
    go (some t) e r = (t, e, r)

pub stands_of : (values : Values) (i j : ℕ) → Leans values j i → StandsAt i (value values j)
unfolding Leans
stands_of values i j (t, e, r) = rw e r

pub link : (x : Scene) (z i j : ℕ) → StandsAt i (value x.after j) → Reaches x z i → Links x.after j z
link x z i j s (inl e) = one (leans_of x.after z j (subst (λ n. StandsAt n (value x.after j)) e s))
link x z i j s (inr l) = first (leans_of x.after i j s) l

-- What a pair's word of a variable tells.
pub record Variable (x : Scene) (marks stamp z : ℕ) (b : Bool) (w : ℕ) (v : Option Term) : Type 0 where
  pub pair : ℕ
  pub on : On x b pair
  pub place : rest_in w ≡ (side x b).pair pair
  pub answer : (s s' : List ℕ) (r : Bool) → Searched s s' x marks stamp z (λ i. i ≡ pair) r
      → Searched s s' x marks stamp z (λ j. StandsAt j v) r
  pub firm : Ground x.before pair → Firm x v
  pub via : (u : ℕ) → Via x.before u pair → AllStand (Via x.before u) v
  pub stands : StandsAt pair v

pub variable_of : (x : Scene) (marks stamp z : ℕ) (b : Bool) (w : ℕ) (v : Option Term) → Told x b w v
    → (tag_in w ≡ 6 → ⊥) → (tag_in w ≡ 0 → ⊥) → tag_in w ≤ 2 → Variable x marks stamp z b w v
unfolding Stands
variable_of x marks stamp z b w none told c d le = absurd (d (omega (arith, told.word)))
variable_of x marks stamp z b w (some (Term.variable writer n)) told c d le = record {
  pair = n;
  on = told.pairs n refl;
  place = omega (arith, told.word);
  answer = λ s s' r a. a;
  firm = λ g j e. subst (Ground x.before) (sym e) g;
  via = λ u g j e. subst (Via x.before u) (sym e) g;
  stands = refl;
}
variable_of x marks stamp z b w (some (Term.variable reader n)) told c d le = record {
  pair = n;
  on = told.pairs n refl;
  place = omega (arith, told.word);
  answer = λ s s' r a. a;
  firm = λ g j e. subst (Ground x.before) (sym e) g;
  via = λ u g j e. subst (Via x.before u) (sym e) g;
  stands = refl;
}
variable_of x marks stamp z b w (some (Term.constant (Constant.integer i))) told c d le = absurd (omega (arith, told.word))
variable_of x marks stamp z b w (some (Term.constant (Constant.name f))) told c d le = absurd (omega (arith, told.word))
variable_of x marks stamp z b w (some (Term.constant Constant.empty)) told c d le = absurd (omega (arith, told.word))
variable_of x marks stamp z b w (some (Term.compound n f ts)) told c d le = absurd (omega (arith, told.word))

-- From a pair a search comes to the value that it had before the trial.
pub value_stems : (x : Scene) (n : ℕ) → value x.after n ≡ value x.before n → Stems x n (value x.after n)
value_stems x n same = rw same (record {
  reaches = λ j r. one (leans_of x.before j n r);
  firm = λ f. firm (value x.before n) refl f;
  via = λ u f. via u (value x.before n) refl f;
})
  where
    firm : (v : Option Term) → value x.before n ≡ v → Firm x v → Ground x.before n
    firm none e f = absurd f
    firm (some t) e f = a_ground t e f

    via : (u : ℕ) (v : Option Term) → value x.before n ≡ v → AllStand (Via x.before u) v → LeadsVia x.before u n
    via u none e f = absurd f
    via u (some t) e f = (t, e, f)

-- Or to the pair through which all ways go.
pub via_stems : (x : Scene) (n u : ℕ) → LeadsVia x.before u n → Links x.before n u → Stems x n (some (Term.variable writer u))
unfolding Stands
via_stems x n u (t, e, all) path = record {
  reaches = λ j r. subst (Links x.before n) (sym r) path;
  firm = λ f. via_ground x.before (leads_via x.before u n (t, e, all)) (f u refl);
  via = λ w f. (t, e, λ j r. via_via x.before (all j r) (f u refl));
}

-- No term's word has the tag 7.
pub told_tag : (x : Scene) (b : Bool) (w : ℕ) (v : Option Term) → Told x b w v → tag_in w ≡ 7 → ⊥
told_tag x b w none told e = omega (arith, told.word)
told_tag x b w (some (Term.variable writer n)) told e = omega (arith, told.word)
told_tag x b w (some (Term.variable reader n)) told e = omega (arith, told.word)
told_tag x b w (some (Term.constant (Constant.integer i))) told e = omega (arith, told.word)
told_tag x b w (some (Term.constant (Constant.name f))) told e = omega (arith, told.word)
told_tag x b w (some (Term.constant Constant.empty)) told e = omega (arith, told.word)
told_tag x b w (some (Term.compound n f ts)) told e = omega (arith, told.word)

module _ (x : Scene) (values marks place stamp z : ℕ) (s : List ℕ) (h : Searching s x values marks place stamp z) where
  -- A pair of the clause: the word that it was given.
  pub given_inside : (j p : ℕ) → On x true j → p ≡ x.clause.pair j → trial_region + p < length s
  given_inside j p on e =
      omega (arith, h.shown.clause_inside j on, front_length s x values marks place stamp z h, h.room)

  pub given_told : (j p : ℕ) → On x true j → p ≡ x.clause.pair j → Told x false (get_or s (trial_region + p) 0) (value x.after j)
  given_told j p on e =
      let words : get_or s (trial_region + x.clause.pair j) 0 ≡ get_or x.front (trial_region + x.clause.pair j) 0 =
      front_word s x values marks place stamp z h (trial_region + x.clause.pair j) (h.shown.clause_inside j on) in
      rw (e, words) (h.shown.clause_value j on)

  pub given_answer : (j : ℕ) → On x true j → (s' : List ℕ) (r : Bool)
      → Searched s s' x marks stamp z (λ i. StandsAt i (value x.after j)) r → Searched s s' x marks stamp z (λ i. i ≡ j) r
  given_answer j on s' r a = record {
    stamped = a.stamped;
    found = λ f. let (i, q, l) = a.found f in (j, refl, inr (link x z i j q l));
    visited = λ f i e. subst (Seen s' x marks stamp z) (sym e) (record {
      unit = λ l. absurd (omega (arith, on.0));
      clause = λ l k m.
          let st = stands_of x.after k j m in
          (a.visited f k st).unit ((h.shown.clause_value j on).pairs k st);
    });
    closed = a.closed;
  }

  module _ (j p : ℕ) (on : j < x.old) (e : p ≡ x.unit.pair j) where
    -- The goal pair itself.
    pub goal_answer : p ≡ place → Searched s s x marks stamp z (λ i. i ≡ j) true
    goal_answer same =
        let is : j ≡ z = h.shown.apart j z on h.unit_pair (sym e ∙ same ∙ h.place_at) in
        record {
          stamped = stamped_same x marks stamp s;
          found = λ f. (j, refl, inl is);
          visited = λ f. absurd (true≢false f);
          closed = λ f. absurd (true≢false f);
        }

    other : (p ≡ place → ⊥) → j ≡ z → ⊥
    other d is = d (e ∙ ap x.unit.pair is ∙ sym h.place_at)

    pub mark_inside : marks + p < length s
    mark_inside = omega (arith, h.room, h.shown.place j on)

    seen_unit : (s' : List ℕ) → (p ≡ place → ⊥) → Visited stamp (get_or s' (marks + p) 0) → (i : ℕ) → i ≡ j → Seen s' x marks stamp z i
    seen_unit s' d m i f = subst (Seen s' x marks stamp z) (sym f) (record {
      unit = λ l. record { end = j; of_unit = on; via = there refl; stamped = rw e at m; other = other d };
      clause = λ l. absurd (omega arith);
    })

    -- A pair that was visited.
    pub marked_answer : (p ≡ place → ⊥) → Visited stamp (get_or s (marks + p) 0) → Searched s s x marks stamp z (λ i. i ≡ j) false
    marked_answer d m = record {
      stamped = stamped_same x marks stamp s;
      found = λ f. absurd (true≢false (sym f));
      visited = λ f. seen_unit s d m;
      closed = λ f. closed_same x marks stamp z s;
    }

    pub value_inside : values + p < length s
    value_inside =
        omega (arith, h.shown.room, h.shown.place j on, h.values_at, front_length s x values marks place stamp z h, h.room)

    -- When it is marked.
    module _ (s₁ : List ℕ) (st : Stamped x marks stamp s s₁) where
      value_word_at : get_or s₁ (values + p) 0 ≡ get_or x.front (x.values + x.unit.pair j) 0
      value_word_at =
          front_word s₁ x values marks place stamp z (searching_on x marks stamp z s s₁ st values place h) (values + p)
          (omega (arith, h.shown.room, h.shown.place j on, h.values_at))
          ∙ ap (λ k. get_or x.front k 0) (omega (arith, h.values_at))

      -- Its value, a term of the unit or one of the head.
      pub unit_told : (v : ℕ) → v ≡ get_or s₁ (values + p) 0 → (tag_in v ≡ 7 → ⊥) → Told x false v (value x.after j)
      unit_told v f d = ⊎_elim (λ (same, t). rw (f ∙ value_word_at) t)
          (λ (none_before, g). absurd (d (omega (arith, g.word, f ∙ value_word_at)))) (h.shown.unit_value j on)

      pub head_given : (v : ℕ) → v ≡ get_or s₁ (values + p) 0 → tag_in v ≡ 7 → Given x v (value x.after j)
      head_given v f d = ⊎_elim (λ (same, t). absurd (told_tag x false v (value x.after j) (rw (f ∙ value_word_at) t) d))
          (λ (none_before, g). rw (f ∙ value_word_at) g) (h.shown.unit_value j on)

      -- A pair whose value is a term of the unit had it before the trial.
      pub unit_same : (v : ℕ) → v ≡ get_or s₁ (values + p) 0 → (tag_in v ≡ 7 → ⊥) → value x.after j ≡ value x.before j
      unit_same v f d = ⊎_elim (λ (same, t). same)
          (λ (none_before, g). absurd (d (omega (arith, g.word, f ∙ value_word_at)))) (h.shown.unit_value j on)

      -- The search goes on from a value: a path from it is one from the pair, and when all its pairs are seen, so are those on which the pair leans.
      module _ (d : p ≡ place → ⊥) (marked : Visited stamp (get_or s₁ (marks + p) 0))
          (same : (k : ℕ) → (k ≡ marks + p → ⊥) → visited stamp (get_or s₁ k 0) ≡ visited stamp (get_or s k 0)) where
        new_answer : (now : Option Term) → ((i : ℕ) → StandsAt i now → Reaches x z i → Links x.after j z)
            → ((s' : List ℕ) → ((i : ℕ) → StandsAt i now → Seen s' x marks stamp z i) → (k : ℕ) → Leans x.after j k → Seen s' x marks stamp z k)
            → (s' : List ℕ) (r : Bool) → Searched s₁ s' x marks stamp z (λ i. StandsAt i now) r → Searched s s' x marks stamp z (λ i. i ≡ j) r
        new_answer now path seen s' r a = record {
          stamped = stamped_then x marks stamp s s₁ s' st a.stamped;
          found = λ f. let (i, q, l) = a.found f in (j, refl, inr (path i q l));
          visited = λ f. seen_unit s' d (stamp_stays x marks stamp s₁ s' a.stamped (marks + p) marked);
          closed = λ f. record { new = λ i l n m k q. go f i l n m k q (ℕ_discrete i j) };
        }
          where
            go : r ≡ false → (i : ℕ) → i < x.old → (Visited stamp (get_or s (marks + x.unit.pair i) 0) → ⊥)
                → Visited stamp (get_or s' (marks + x.unit.pair i) 0) → (k : ℕ) → Leans x.after i k → Dec (i ≡ j) → Seen s' x marks stamp z k
            go f i l n m k q (yes is) = seen s' (a.visited f) k (rw is at q)
            go f i l n m k q (no isnt) =
                (a.closed f).new i l
                (λ g. n (sym (same (marks + x.unit.pair i) (λ b. isnt (h.shown.apart i j l on (omega arith)))) ∙ g)) m k q

        pub value_answer : (s' : List ℕ) (r : Bool) → Searched s₁ s' x marks stamp z (λ i. StandsAt i (value x.after j)) r
            → Searched s s' x marks stamp z (λ i. i ≡ j) r
        value_answer =
            new_answer (value x.after j) (λ i q l. link x z i j q l) (λ s' all k l. all k (stands_of x.after k j l))

        -- From the pair through which all ways go.
        pub via_answer : (u : ℕ) → u < x.old → LeadsVia x.before u j → Links x.before j u
            → (s' : List ℕ) (r : Bool) → Searched s₁ s' x marks stamp z (λ i. StandsAt i (some (Term.variable writer u))) r
            → Searched s s' x marks stamp z (λ i. i ≡ j) r
        unfolding Stands
        via_answer u of_unit (t, assigned, all) path = new_answer (some (Term.variable writer u)) there_on seen
          where
            here : Links x.after j u
            here = links_stay x.before x.after h.shown.stays path

            there_on : (i : ℕ) → i ≡ u → Reaches x z i → Links x.after j z
            there_on i e (inl f) = subst (Links x.after j) (sym e ∙ f) here
            there_on i e (inr l) = links_join here (subst (λ k. Links x.after k z) e l)

            below : (k : ℕ) → Leans x.after j k → k < x.old
            below k l = ⊎_elim (λ (same, told). told.pairs k (stands_of x.after k j l))
                (λ (nothing, g). absurd (none_some t (sym nothing ∙ assigned))) (h.shown.unit_value j on)
              where
                none_some : (v : Term) → none ≡ some v → ⊥
                none_some v f = let y : ◌≡◌ {A = ℕ} 0 1 = cc in absurd (omega arith)

            seen : (s' : List ℕ) → ((i : ℕ) → i ≡ u → Seen s' x marks stamp z i) → (k : ℕ) → Leans x.after j k → Seen s' x marks stamp z k
            seen s' reached k l =
                let m = (reached u refl).unit of_unit in
                record {
                  unit = λ b. record {
                    end = m.end;
                    of_unit = m.of_unit;
                    via = via_via x.before (all k (leans_stands x.before x.after h.shown.stays j k t assigned l)) m.via;
                    stamped = m.stamped;
                    other = m.other;
                  };
                  clause = λ b. absurd (omega (arith, below k l));
                }
