-- A search through the arguments of a compound: from left to right, what is left of them, and what was visited.
use Prim.Native.Nat.{ℕ, ◌+◌, ◌≤◌, ◌<◌}
use mathlib.Core.Path.{◌≡◌, refl, sym, ap, ◌∙◌}
use mathlib.Core.Logic.{◌⊎◌, inl, inr, ⊎_elim}
use mathlib.Core.Bool.{Bool, true, false, true≢false}
use mathlib.Core.List.{List}
use mathlib.Core.Option.{Option, none, some}
use native.Mathlib.Decide.{ℕ_discrete}
use native.Mathlib.Omega.{arith}
use lib.ListN.{length, get_or}
use Rattle.meaning.specs.Terms.{writer, reader, Constant, Term, Terms, end, more, count}
use Rattle.laws.proofs.Terms.Standing.{Stands, StandsIn}
use Rattle.term.specs.Cells.{Places, term_word, functor_word}
use Rattle.term.specs.Words.{word, tag_in, rest_in}
use Rattle.term.specs.Holds.{Holds, HoldsFrom, value_word}
use Rattle.run_circle.specs.Ground.{Ground, Via}
use Rattle.run_circle.specs.Search.{
  Scene,
  whole,
  side,
  Told,
  StandsAt,
  LeadsIs,
  Searching,
  Stamped,
  Seen,
  Closed,
  Searched,
  AllStand,
  Firm,
  Stems,
  JoinedIs,
}
use Rattle.run_circle.proofs.Grounds.{ground_via}
use Rattle.run_circle.proofs.Depth.{depth, depths}
use Rattle.run_circle.proofs.Stamps.{stamped_same, stamped_then, searching_on, seen_on, closed_then, closed_same, whole_word}

abbrev pub value_depth : Option Term → ℕ
value_depth none = 0
value_depth (some t) = depth t

-- An argument of a compound, less deep; or none, with the word 0.
pub record Argument (x : Scene) (b : Bool) (a : ℕ) (v : Option Term) : Type 0 where
  pub value : Option Term
  pub told : Told x b a value
  pub lower : value_depth value < value_depth v
  pub within : (j : ℕ) → StandsAt j value → StandsAt j v

-- Before the i-th of the k arguments of the compound at place q, counted from 1: those that are left.
pub record Rest (x : Scene) (b : Bool) (q k i : ℕ) (v : Option Term) : Type 0 where
  pub number : ℕ
  pub passed : ℕ
  pub terms : Terms
  pub index : i ≡ passed + 1
  pub total : i + count terms ≡ k + 1
  pub few : k ≤ 6
  pub place : q ≡ (side x b).compound number
  pub inside : q + 8 ≤ length (whole x)
  pub held : HoldsFrom (whole x) (side x b) number passed terms
  pub within : (j : ℕ) → StandsIn j terms → StandsAt j v
  pub lower : depths terms < value_depth v
  pub assigned : (t : Term) × (v ≡ some t)

-- The i-th argument, with the word a, and those behind it.
pub record Split (x : Scene) (b : Bool) (q k i a : ℕ) (v : Option Term) (c : Rest x b q k i v) : Type 0 where
  pub argument : Argument x b a v
  pub rest : Rest x b q k (i + 1) v
  pub stands : (j : ℕ) → StandsIn j c.terms → StandsAt j argument.value ⊎ StandsIn j rest.terms

-- On the way through the arguments: `later` is the word of the last one so far that leads on, which is searched later, or 0; those that lead on before it
-- were searched. The state was `first`.
pub record Walked (s₀ s : List ℕ) (x : Scene) (marks stamp z : ℕ) (b : Bool) (q k i later : ℕ) (v : Option Term) (first state : ℕ) : Type 0 where
  pub rest : Rest x b q k i v
  pub argument : Argument x b later v
  pub stamped : Stamped x marks stamp s₀ s
  pub closed : Closed s₀ s x marks stamp z
  pub visited : (j : ℕ) → StandsAt j v → (StandsAt j argument.value ⊎ StandsIn j rest.terms) ⊎ Seen s x marks stamp z j
  pub firm : (state ≡ 1)
      ⊎ ((state ≡ first) × ((j : ℕ) → StandsAt j v → (StandsAt j argument.value ⊎ StandsIn j rest.terms) ⊎ Ground x.before j))
  pub idle : later ≡ 0 → (s ≡ s₀) × (state ≡ first) × ((j : ℕ) → StandsAt j v → StandsIn j rest.terms)

-- In a term whose word leads to no pair, none stands.
none_stands : (places : Places) (t : Term) (w : ℕ) → w ≡ term_word places t → LeadsIs w false → (j : ℕ) → Stands j t → ⊥
unfolding Stands
none_stands places (Term.variable writer n) w e (d, tag) j r = ⊎_elim (λ f. omega arith) (λ f. omega arith) tag
none_stands places (Term.variable reader n) w e (d, tag) j r = ⊎_elim (λ f. omega arith) (λ f. omega arith) tag
none_stands places (Term.constant k) w e (d, tag) j r = r
none_stands places (Term.compound n f ts) w e (d, tag) j r = d (omega arith)

-- Nor in such a value.
pub none_at : (places : Places) (v : Option Term) (w : ℕ) → w ≡ value_word places v → LeadsIs w false → (j : ℕ) → StandsAt j v → ⊥
none_at places none w e idle j r = r
none_at places (some t) w e idle j r = none_stands places t w e idle j r

-- The pairs of a value.
pub all_at : (P : ℕ → Type 0) (v : Option Term) → AllStand P v → (j : ℕ) → StandsAt j v → P j
all_at P none all j r = absurd r
all_at P (some t) all j r = all j r

pub all_stand : (P : ℕ → Type 0) (v : Option Term) → (t : Term) × (v ≡ some t) → ((j : ℕ) → StandsAt j v → P j) → AllStand P v
all_stand P none (t, e) all = let z : ◌≡◌ {A = ℕ} 0 1 = cc in absurd (omega arith)
all_stand P (some t) e all = all

-- A search goes on from a value to another: it is as firm, and whoever has come to the one has come to the other.
pub record Onward (x : Scene) (v now : Option Term) : Type 0 where
  pub firm : Firm x now → Firm x v
  pub stems : (n : ℕ) → Stems x n v → Stems x n now

-- The k-th of some arguments, counted from 1 behind the i-th.
nth : (front : List ℕ) (places : Places) (n i : ℕ) (ts : Terms) → HoldsFrom front places n i ts → (k : ℕ) → i < k → k ≤ i + count ts
    → (t : Term) × (get_or front (places.compound n + k) 0 ≡ term_word places t) × Holds front places t × (depth t ≤ depths ts)
    × ((j : ℕ) → Stands j t → StandsIn j ts)
unfolding HoldsFrom StandsIn count depths
nth front places n i end held k l h = absurd (omega arith)
nth front places n i (more t ts) held k l h = go (ℕ_discrete k (i + 1)) (nth front places n (i + 1) ts held.2 k)
  where
    go : Dec (k ≡ i + 1)
        → (i + 1 < k → k ≤ i + 1 + count ts → (u : Term) × (get_or front (places.compound n + k) 0 ≡ term_word places u) × Holds front places u
        × (depth u ≤ depths ts) × ((j : ℕ) → Stands j u → StandsIn j ts))
        → (u : Term) × (get_or front (places.compound n + k) 0 ≡ term_word places u) × Holds front places u
        × (depth u ≤ depths (more t ts)) × ((j : ℕ) → Stands j u → StandsIn j (more t ts))
    go (yes e) rest =
        let at : places.compound n + 1 + i ≡ places.compound n + k = omega arith in
        (t, rw at at held.0, held.1, omega arith, λ j r. inl r)
    go (no d) rest =
        let (u, word, holds, low, stands) = rest (omega arith) (omega arith) in
        (u, word, holds, omega arith, λ j r. inr (stands j r))

-- A value's word is none of those that fill up a front.
no_filling : (places : Places) (v : Option Term) → value_word places v ≡ 7 → ⊥
no_filling places none e = omega arith
no_filling places (some (Term.variable writer n)) e = omega arith
no_filling places (some (Term.variable reader n)) e = omega arith
no_filling places (some (Term.constant (Constant.integer i))) e = omega arith
no_filling places (some (Term.constant (Constant.name f))) e = omega arith
no_filling places (some (Term.constant Constant.empty)) e = omega arith
no_filling places (some (Term.compound n f ts)) e = omega arith

module _ (x : Scene) (values marks place stamp z : ℕ) (b : Bool) where
  -- The search enters a compound.
  pub enter : (s : List ℕ) (w : ℕ) (v : Option Term) → Searching s x values marks place stamp z → Told x b w v → tag_in w ≡ 6
      → (q k : ℕ) → q ≡ rest_in w → k ≡ tag_in (get_or s q 0) → (c : Rest x b q k 1 v) × ((j : ℕ) → StandsAt j v → StandsIn j c.terms)
  unfolding Holds HoldsFrom Stands depth
  enter s w none h told e q k at counted = absurd (omega (arith, told.word))
  enter s w (some (Term.variable writer n)) h told e q k at counted = absurd (omega (arith, told.word))
  enter s w (some (Term.variable reader n)) h told e q k at counted = absurd (omega (arith, told.word))
  enter s w (some (Term.constant (Constant.integer i))) h told e q k at counted = absurd (omega (arith, told.word))
  enter s w (some (Term.constant (Constant.name f))) h told e q k at counted = absurd (omega (arith, told.word))
  enter s w (some (Term.constant Constant.empty)) h told e q k at counted = absurd (omega (arith, told.word))
  enter s w (some (Term.compound n f ts)) h told e q k at counted =
      let here : q ≡ (side x b).compound n = omega (arith, told.word) in
      let cell = told.held.0 in
      let functor : get_or (whole x) q 0 ≡ functor_word (side x b) f (count ts) = rw here cell.functor in
      let words : get_or s q 0 ≡ get_or (whole x) q 0 =
      whole_word s x values marks place stamp z h q (omega (arith, cell.inside)) (λ e. omega (arith, functor, cell.few)) in (
        record {
          number = n;
          passed = 0;
          terms = ts;
          index = refl;
          total = omega (arith, cell.few);
          few = omega (arith, cell.few);
          place = here;
          inside = omega (arith, cell.inside);
          held = told.held.1;
          within = λ j r. r;
          lower = omega arith;
          assigned = (Term.compound n f ts, refl);
        },
        λ j r. r,
      )

  module _ (w : ℕ) (v : Option Term) (told : Told x b w v) (q k i : ℕ) where
    -- The next argument.
    split : (c : Rest x b q k i v) → i ≤ k → (a : ℕ) → a ≡ get_or (whole x) (q + i) 0 → Split x b q k i a v c
    unfolding HoldsFrom StandsIn count depths
    split c le a reads = go c.terms refl
      where
        go : (ts : Terms) → c.terms ≡ ts → Split x b q k i a v c
        go end e = absurd (omega (arith, c.total, ap count e))
        go (more t ts) e =
            let held : HoldsFrom (whole x) (side x b) c.number c.passed (more t ts) = rw e at c.held in
            let spot : q + i ≡ (side x b).compound c.number + 1 + c.passed = omega (arith, c.index, c.place) in
            let within : (j : ℕ) → StandsIn j (more t ts) → StandsAt j v = rw e at c.within in
            let lower : depths (more t ts) < value_depth v = rw e at c.lower in
            record {
              argument = record {
                value = some t;
                told = record { word = reads ∙ rw spot held.0; held = held.1; pairs = λ j r. told.pairs j (within j (inl r)) };
                lower = omega arith;
                within = λ j r. within j (inl r);
              };
              rest = record {
                number = c.number;
                passed = c.passed + 1;
                terms = ts;
                index = omega (arith, c.index);
                total = omega (arith, c.total, ap count e);
                few = c.few;
                place = c.place;
                inside = c.inside;
                held = held.2;
                within = λ j r. within j (inr r);
                lower = omega arith;
                assigned = c.assigned;
              };
              stands = λ j r. rw e at r;
            }

    -- Its word is the scratch's.
    argument_word : (c : Rest x b q k i v) → i ≤ k → (s : List ℕ) → Searching s x values marks place stamp z
        → get_or s (q + i) 0 ≡ get_or (whole x) (q + i) 0
    argument_word c le s h =
        whole_word s x values marks place stamp z h (q + i) (omega (arith, c.inside, c.few))
        (λ e. let u = (split c le (get_or (whole x) (q + i) 0) refl).argument in no_filling (side x b) u.value (sym u.told.word ∙ e))

    -- An argument among those that are left.
    pub argument_of : (c : Rest x b q k i v) (s : List ℕ) → Searching s x values marks place stamp z → (m a : ℕ) → i ≤ m → m ≤ k
        → a ≡ get_or s (q + m) 0 → Argument x b a v
    argument_of c s h m a from le reads =
        let (t, word, holds, deep, stands) =
        nth (whole x) (side x b) c.number c.passed c.terms c.held m (omega (arith, c.index)) (omega (arith, c.index, c.total)) in
        let word' : get_or (whole x) (q + m) 0 ≡ term_word (side x b) t = ap (λ r. get_or (whole x) (r + m) 0) c.place ∙ word in
        let same : get_or s (q + m) 0 ≡ get_or (whole x) (q + m) 0 =
        whole_word s x values marks place stamp z h (q + m) (omega (arith, c.inside, c.few)) (λ e. no_filling (side x b) (some t) (sym word' ∙ e)) in
        record {
          value = some t;
          told = record { word = reads ∙ same ∙ word'; held = holds; pairs = λ j r. told.pairs j (c.within j (stands j r)) };
          lower = omega (arith, c.lower);
          within = λ j r. c.within j (stands j r);
        }

    none_left : (c : Rest x b q k i v) → k < i → (j : ℕ) → StandsIn j c.terms → ⊥
    unfolding StandsIn count
    none_left c l j = go c.terms refl
      where
        go : (ts : Terms) → c.terms ≡ ts → StandsIn j ts → ⊥
        go end e r = r
        go (more t ts) e r = omega (arith, c.total, ap count e)

  -- A word that is neither a compound's nor a pair's has no pairs.
  pub no_pairs : (s : List ℕ) (w : ℕ) (v : Option Term) → Told x b w v → LeadsIs w false
      → Searched s s x marks stamp z (λ j. StandsAt j v) false
  no_pairs s w v told idle = record {
    stamped = stamped_same x marks stamp s;
    found = λ f. absurd (true≢false (sym f));
    visited = λ f j r. absurd (none_at (side x b) v w told.word idle j r);
    closed = λ f. closed_same x marks stamp z s;
  }

  pub idle_firm : (w : ℕ) (v : Option Term) → Told x b w v → LeadsIs w false → (tag_in w ≡ 0 → ⊥) → Firm x v
  idle_firm w none told idle d = absurd (d (omega (arith, told.word)))
  idle_firm w (some t) told idle d = λ j r. absurd (none_stands (side x b) t w told.word idle j r)

  -- Through the arguments of a compound.
  pub walk_first : (s : List ℕ) (w : ℕ) (v : Option Term) → Searching s x values marks place stamp z → Told x b w v → tag_in w ≡ 6
      → (q k : ℕ) → q ≡ rest_in w → k ≡ tag_in (get_or s q 0) → (first : ℕ) → Walked s s x marks stamp z b q k 1 0 v first first
  walk_first s w v h told six q k at counted first =
      let (c, all) = enter s w v h told six q k at counted in
      record {
        rest = c;
        argument = record {
          value = none;
          told = record { word = refl; held = tt; pairs = λ j r. absurd r };
          lower = omega (arith, c.lower);
          within = λ j r. absurd r;
        };
        stamped = stamped_same x marks stamp s;
        closed = closed_same x marks stamp z s;
        visited = λ j r. inl (inr (all j r));
        firm = inr (refl, λ j r. inl (inr (all j r)));
        idle = λ e. (refl, refl, all);
      }

  module _ (s₀ s : List ℕ) (w : ℕ) (v : Option Term) (h : Searching s₀ x values marks place stamp z) (told : Told x b w v) (q k i later first state : ℕ)
      (c : Walked s₀ s x marks stamp z b q k i later v first state) where
    here : Searching s x values marks place stamp z
    here = searching_on x marks stamp z s₀ s c.stamped values place h

    module _ (a : ℕ) (reads : a ≡ get_or s (q + i) 0) (le : i ≤ k) where
      next : Split x b q k i a v c.rest
      next = split w v told q k i c.rest le a (reads ∙ argument_word w v told q k i c.rest le s here)

      -- The argument does not lead on: it is passed over.
      pub walk_over : LeadsIs a false → Walked s₀ s x marks stamp z b q k (i + 1) later v first state
      walk_over none_leads = record {
        rest = next.rest;
        argument = c.argument;
        stamped = c.stamped;
        closed = c.closed;
        visited = λ j r. over (Seen s x marks stamp z j) j (c.visited j r);
        firm = ⊎_elim inl (λ (same, left). inr (same, λ j r. over (Ground x.before j) j (left j r))) c.firm;
        idle = λ e. let (s_same, state_same, all) = c.idle e in (s_same, state_same, λ j r. behind j (all j r));
      }
        where
          behind : (j : ℕ) → StandsIn j c.rest.terms → StandsIn j next.rest.terms
          behind j r =
              ⊎_elim (λ m. absurd (none_at (side x b) next.argument.value a next.argument.told.word none_leads j m)) (λ m. m)
              (next.stands j r)

          over : (P : Type 0) (j : ℕ) → (StandsAt j c.argument.value ⊎ StandsIn j c.rest.terms) ⊎ P
              → (StandsAt j c.argument.value ⊎ StandsIn j next.rest.terms) ⊎ P
          over P j (inl (inl r)) = inl (inl r)
          over P j (inl (inr r)) = inl (inr (behind j r))
          over P j (inr r) = inr r

      -- It leads on: it is searched later, when the one that was to be searched later was searched.
      pub walk_next : LeadsIs a true → (s' : List ℕ) (r out : ℕ) → Searched s s' x marks stamp z (λ j. StandsAt j c.argument.value) false
          → (r ≡ 0 → (j : ℕ) → StandsAt j c.argument.value → Ground x.before j) → JoinedIs state r out
          → Walked s₀ s' x marks stamp z b q k (i + 1) a v first out
      walk_next leads s' r out searched all joined = record {
        rest = next.rest;
        argument = next.argument;
        stamped = stamped_then x marks stamp s₀ s s' c.stamped searched.stamped;
        closed = closed_then x marks stamp z s s' searched.stamped s₀ c.closed (searched.closed refl);
        visited = λ j l. ⊎_elim (⊎_elim (λ m. inr (searched.visited refl j m)) (λ m. inl (next.stands j m)))
            (λ m. inr (seen_on x marks stamp z s s' searched.stamped j m)) (c.visited j l);
        firm = firm (ℕ_discrete r 0) c.firm;
        idle = λ e. absurd (⊎_elim (λ f. omega arith) (λ (d, f). d (omega arith)) leads);
      }
        where
          firm : Dec (r ≡ 0)
              → (state ≡ 1)
              ⊎ ((state ≡ first) × ((j : ℕ) → StandsAt j v → (StandsAt j c.argument.value ⊎ StandsIn j c.rest.terms) ⊎ Ground x.before j))
              → (out ≡ 1)
              ⊎ ((out ≡ first) × ((j : ℕ) → StandsAt j v → (StandsAt j next.argument.value ⊎ StandsIn j next.rest.terms) ⊎ Ground x.before j))
          firm (no d) was = inl (joined.new d)
          firm (yes f) (inl one) = inl (joined.kept f ∙ one)
          firm (yes f) (inr (same, left)) = inr (
            joined.kept f ∙ same,
            λ j l. ⊎_elim (⊎_elim (λ m. inr (all f j m)) (λ m. inl (next.stands j m))) inr (left j l),
          )

    -- The pair is found from the argument that is searched later.
    pub walk_found : (s' : List ℕ) → Searched s s' x marks stamp z (λ j. StandsAt j c.argument.value) true
        → Searched s₀ s' x marks stamp z (λ j. StandsAt j v) true
    walk_found s' a = record {
      stamped = stamped_then x marks stamp s₀ s s' c.stamped a.stamped;
      found = λ f. let (j, l, p) = a.found f in (j, c.argument.within j l, p);
      visited = λ f. absurd (true≢false f);
      closed = λ f. absurd (true≢false f);
    }

    -- Behind all arguments that one is left.
    module _ (done : k < i) where
      pub walk_last : (s' : List ℕ) (r : Bool) → Searched s s' x marks stamp z (λ j. StandsAt j c.argument.value) r
          → Searched s₀ s' x marks stamp z (λ j. StandsAt j v) r
      walk_last s' true a = walk_found s' a
      walk_last s' false a = record {
        stamped = stamped_then x marks stamp s₀ s s' c.stamped a.stamped;
        found = λ f. absurd (true≢false (sym f));
        visited = λ f j l. ⊎_elim (⊎_elim (a.visited refl j) (λ m. absurd (none_left w v told q k i c.rest done j m)))
            (seen_on x marks stamp z s s' a.stamped j) (c.visited j l);
        closed = λ f. closed_then x marks stamp z s s' a.stamped s₀ c.closed (a.closed refl);
      }

      walk_all : (P : ℕ → Type 0) → ((j : ℕ) → Ground x.before j → P j)
          → ((j : ℕ) → StandsAt j v → (StandsAt j c.argument.value ⊎ StandsIn j c.rest.terms) ⊎ Ground x.before j)
          → AllStand P c.argument.value → AllStand P v
      walk_all P weaker left all =
          all_stand P v c.rest.assigned (λ j l.
          ⊎_elim (⊎_elim (all_at P c.argument.value all j) (λ m. absurd (none_left w v told q k i c.rest done j m))) (weaker j) (left j l))

      pub walk_firm : (state ≡ 1) ⊎ ((state ≡ first) × Onward x v c.argument.value)
      walk_firm = ⊎_elim inl (λ (same, left). inr (
        same,
        record {
          firm = walk_all (Ground x.before) (λ j g. g) left;
          stems = λ n st. record {
            reaches = λ j r. st.reaches j (c.argument.within j r);
            firm = λ f. st.firm (walk_all (Ground x.before) (λ j g. g) left f);
            via = λ u f. st.via u (walk_all (Via x.before u) (λ j g. ground_via x.before u g) left f);
          };
        },
      )) c.firm

      -- Or none is, and nothing was searched.
      module _ (e : later ≡ 0) where
        pub walk_idle : (j : ℕ) → StandsAt j v → ⊥
        walk_idle j r = none_left w v told q k i c.rest done j ((c.idle e).2 j r)

        pub idle_found : Searched s₀ s₀ x marks stamp z (λ j. StandsAt j v) false
        idle_found = record {
          stamped = stamped_same x marks stamp s₀;
          found = λ f. absurd (true≢false (sym f));
          visited = λ f j r. absurd (walk_idle j r);
          closed = λ f. closed_same x marks stamp z s₀;
        }
