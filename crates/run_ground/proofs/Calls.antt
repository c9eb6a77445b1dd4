-- The walk through a term of the unit, turn by turn, in the form in which the code asks and tells: each turn goes on from one term to another, so that an
-- answer to the one is an answer to the other, and the weight falls.
use Prim.Native.Nat.{ℕ, ◌+◌, ◌%◌, ◌≤◌, ◌<◌}
use mathlib.Core.Path.{◌≡◌, sym, ap, subst, ◌∙◌}
use mathlib.Core.Logic.{⊎_elim}
use mathlib.Core.Bool.{Bool, true, false}
use mathlib.Core.List.{List}
use native.Mathlib.Omega.{arith}
use lib.ListN.{length, get_or, set}
use Rattle.meaning.specs.Terms.{Half, Term, variable}
use Rattle.meaning.specs.Guards.{unassigned}
use Rattle.term.specs.Words.{tag_in, rest_in}
use Rattle.run_ground.specs.Looking.{Scene, unit_pair, result_of, Placed, Looking, Told, Firm, Before, Found, Settled, AtPair, Entered}
use Rattle.run_ground.proofs.Entered.{was_entered, entered_stamp, not_entered}
use Rattle.run_ground.proofs.Found.{found_as, found_nothing}
use Rattle.run_ground.proofs.Written.{constant_result, unassigned_result}
use Rattle.run_ground.proofs.Words.{
  weight,
  falls_to_value,
  AtVariable,
  variable_of,
  constant_of,
  compound_of,
  mark_inside,
  value_inside,
  value_none,
  value_some,
}
use Rattle.run_ground.proofs.Walk.{
  Walked,
  walk_first,
  walk_none,
  next,
  next_before,
  next_lighter,
  last_answer,
  next_placed,
  next_firm,
  walk_ended,
  walk_next,
}
use Rattle.run_ground.proofs.Visit.{ground_found, stamp_found, new_before, new_answer}

-- The walk has gone on from a term to another.
pub record GoneOn (s s' : List ℕ) (x : Scene) (values marks links stamp m : ℕ) (p : Bool) (t : Term) (w' state' : ℕ) : Type 0 where
  pub size : ℕ
  pub pending : Bool
  pub now : Term
  pub before : Before s' x values marks links stamp state' size pending w' now
  pub answer : (s'' : List ℕ) (r : ℕ) → Found s' s'' x marks links stamp size pending (result_of x now) r
      → Found s s'' x marks links stamp m p (result_of x t) r

module _ (values marks links stamp : ℕ) where
  -- What a walk from a term asks, and what it tells.
  abbrev pub Asks : List ℕ → ℕ → ℕ → Type 0
  Asks s w state = (x : Scene) × (m : ℕ) × (p : Bool) × (t : Term) × Before s x values marks links stamp state m p w t

  abbrev pub Tells : List ℕ → ℕ → ℕ → List ℕ → ℕ → Type 0
  Tells s w state s' r = (x : Scene) (m : ℕ) (p : Bool) (t : Term) → Before s x values marks links stamp state m p w t
      → Found s s' x marks links stamp m p (result_of x t) r

  abbrev pub Going : List ℕ → ℕ → ℕ → List ℕ → ℕ → ℕ → Type 0
  Going s w state s' w' state' = (x : Scene) (m : ℕ) (p : Bool) (t : Term) → Before s x values marks links stamp state m p w t
      → GoneOn s s' x values marks links stamp m p t w' state'

  pub going_first : (s : List ℕ) (w state : ℕ) → Going s w state s w state
  going_first s w state x m p t b = record { size = m; pending = p; now = t; before = b; answer = λ s'' r f. f }

  module _ (s : List ℕ) (w state : ℕ) (s' : List ℕ) (w' state' : ℕ) (going : Going s w state s' w' state') where
    pub going_asks : Asks s w state → Asks s' w' state'
    going_asks (x, m, p, t, b) = let g = going x m p t b in (x, g.size, g.pending, g.now, g.before)

    pub going_tells : (s'' : List ℕ) (r : ℕ) → Tells s' w' state' s'' r → Tells s w state s'' r
    going_tells s'' r tell x m p t b = let g = going x m p t b in g.answer s'' r (tell x g.size g.pending g.now g.before)

    pub going_on : (s'' : List ℕ) (w'' state'' : ℕ) → Going s' w' state' s'' w'' state'' → Going s w state s'' w'' state''
    going_on s'' w'' state'' further x m p t b =
        let g = going x m p t b in
        let g' = further x g.size g.pending g.now g.before in
        record {
          size = g'.size;
          pending = g'.pending;
          now = g'.now;
          before = g'.before;
          answer = λ u r f. g.answer u r (g'.answer u r f);
        }

  -- At a compound: its arguments from left to right.
  module _ (s : List ℕ) (w state : ℕ) where
    abbrev pub Walking : List ℕ → ℕ → ℕ → ℕ → ℕ → Type 0
    Walking s' q k i state' = (x : Scene) (m : ℕ) (p : Bool) (t : Term) → Before s x values marks links stamp state m p w t
        → Walked s s' x values marks links stamp m p t q k i state'

    module _ (six : tag_in w ≡ 6) (q : ℕ) (at : q ≡ rest_in w) where
      pub count_at : Asks s w state → q < length s
      count_at (x, m, p, t, b) = omega (arith, (compound_of x values marks stamp s b.looking.placed w t b.told six).inside)

      pub walking_first : (k : ℕ) → k ≡ tag_in (get_or s q 0) → Walking s q k 1 state
      walking_first k counted x m p t b = walk_first values marks links stamp s x m p w state t b six q k at counted

    module _ (s' : List ℕ) (q k i state' : ℕ) (walking : Walking s' q k i state') where
      pub few_of : Asks s w state → k ≤ 6
      few_of (x, m, p, t, b) = (walking x m p t b).few

      pub none_tells : k < i → Tells s w state s' state'
      none_tells done x m p t b =
          walk_none values marks links stamp s s' x m p w t b.told b.looking.placed q k i state' (walking x m p t b) done

      module _ (le : i ≤ k) where
        pub argument_at : Asks s w state → q + i < length s'
        argument_at (x, m, p, t, b) =
            let c = walking x m p t b in
            omega (arith, c.inside, c.few, c.looking.placed.only.size, b.looking.placed.only.size)

        module _ (a : ℕ) (reads : a ≡ get_or s' (q + i) 0) where
          pub argument_asks : Asks s w state → Asks s' a state'
          argument_asks (x, m, p, t, b) =
              let c = walking x m p t b in
              (x, c.size, c.pending, _, next_before values marks links stamp s s' x m p w t b.told b.looking.placed q k i state' c a reads le)

          pub argument_lighter : Asks s w state → weight (was_entered stamp) s' marks links a < weight (was_entered stamp) s marks links w
          argument_lighter (x, m, p, t, b) =
              next_lighter values marks links stamp s s' x m p w t b.told b.looking.placed q k i state' (walking x m p t b) a reads le

          -- The last one is left.
          pub last_going : (i < k → ⊥) → Going s w state s' a state'
          last_going done x m p t b =
              let c = walking x m p t b in
              record {
                size = c.size;
                pending = c.pending;
                now = _;
                before = next_before values marks links stamp s s' x m p w t b.told b.looking.placed q k i state' c a reads le;
                answer = last_answer values marks links stamp s s' x m p w t b.told b.looking.placed q k i state' c a reads le done;
              }

          -- Another was walked, and then its ground pairs settled.
          module _ (s'' : List ℕ) (r : ℕ) (tell : Tells s' a state' s'' r) where
            found : (x : Scene) (m : ℕ) (p : Bool) (t : Term) (b : Before s x values marks links stamp state m p w t)
                → Found s' s'' x marks links stamp (walking x m p t b).size (walking x m p t b).pending
                (result_of x (next values marks links stamp s s' x m p w t b.told b.looking.placed q k i state' (walking x m p t b) a reads le).term) r
            found x m p t b =
                let c = walking x m p t b in
                tell x c.size c.pending _ (next_before values marks links stamp s s' x m p w t b.told b.looking.placed q k i state' c a reads le)

            placed : (x : Scene) (m : ℕ) (p : Bool) (t : Term) (b : Before s x values marks links stamp state m p w t) → Placed s'' x values marks stamp
            placed x m p t b =
                next_placed values marks links stamp s s' x m p w t b.told b.looking.placed q k i state' (walking x m p t b) a reads le s'' r
                (found x m p t b)

            told : (x : Scene) (m : ℕ) (p : Bool) (t : Term) (b : Before s x values marks links stamp state m p w t)
                → Told x a (next values marks links stamp s s' x m p w t b.told b.looking.placed q k i state' (walking x m p t b) a reads le).term
            told x m p t b =
                (next values marks links stamp s s' x m p w t b.told b.looking.placed q k i state' (walking x m p t b) a reads le).told

            firm : (x : Scene) (m : ℕ) (p : Bool) (t : Term) (b : Before s x values marks links stamp state m p w t) → r % 2 ≡ 0
                → Firm x (next values marks links stamp s s' x m p w t b.told b.looking.placed q k i state' (walking x m p t b) a reads le).term
            firm x m p t b =
                next_firm values marks links stamp s s' x m p w t b.told b.looking.placed q k i state' (walking x m p t b) a reads le s'' r
                (found x m p t b)

            pub settle_asks : Asks s w state → (x : Scene) × (u : Term) × Placed s'' x values marks stamp × Told x a u × (r % 2 ≡ 0 → Firm x u)
            settle_asks (x, m, p, t, b) = (x, _, placed x m p t b, told x m p t b, firm x m p t b)

            module _ (s''' : List ℕ) (settle : (x : Scene) (u : Term) → Placed s'' x values marks stamp → Told x a u → (r % 2 ≡ 0 → Firm x u)
                → Settled x marks stamp s'' s''') where
              pub walking_ended : r % 4 ≡ 3 → Tells s w state s''' r
              walking_ended e x m p t b =
                  walk_ended values marks links stamp s s' x m p w t b.told b.looking.placed q k i state' (walking x m p t b) a reads le s'' r
                  (found x m p t b) s''' (settle x _ (placed x m p t b) (told x m p t b) (firm x m p t b)) e

              pub walking_next : (r % 4 ≡ 3 → ⊥) → Walking s''' q k (i + 1) r
              walking_next d x m p t b =
                  walk_next values marks links stamp s s' x m p w t b.told b.looking.placed q k i state' (walking x m p t b) a reads le s'' r
                  (found x m p t b) s''' (settle x _ (placed x m p t b) (told x m p t b) (firm x m p t b)) d

  -- At any other term.
  module _ (s : List ℕ) (w state : ℕ) (six : tag_in w ≡ 6 → ⊥) where
    pub constant_tells : 2 < tag_in w → Tells s w state s state
    constant_tells high x m p t b =
        let (k, is) = constant_of x w t b.told six high in
        found_nothing x marks links stamp values state m p s b.looking (result_of x t)
        (ap (result_of x) is ∙ constant_result x.unit.values b.looking.placed.shown.no_circle x.first k)

    module _ (le : tag_in w ≤ 2) (q : ℕ) (at : q ≡ rest_in w) where
      its : (x : Scene) (m : ℕ) (p : Bool) (t : Term) → Before s x values marks links stamp state m p w t → AtVariable x w t
      its x m p t b = variable_of x w t b.told six le

      -- The term is that variable.
      as_variable : (x : Scene) (m : ℕ) (p : Bool) (t : Term) (b : Before s x values marks links stamp state m p w t)
          → Before s x values marks links stamp state m p w (variable (its x m p t b).half (its x m p t b).pair)
      as_variable x m p t b = subst (Before s x values marks links stamp state m p w) (its x m p t b).is b

      place : (x : Scene) (m : ℕ) (p : Bool) (t : Term) (b : Before s x values marks links stamp state m p w t) → q ≡ unit_pair x (its x m p t b).pair
      place x m p t b = at ∙ (its x m p t b).at.place

      pub value_at : Asks s w state → values + q < length s
      value_at (x, m, p, t, b) =
          omega (arith, place x m p t b, value_inside x values marks stamp s b.looking.placed (its x m p t b).pair (its x m p t b).at.below)

      pub mark_at : Asks s w state → marks + q < length s
      mark_at (x, m, p, t, b) =
          omega (arith, place x m p t b, mark_inside x values marks stamp s b.looking.placed (its x m p t b).pair (its x m p t b).at.below)

      module _ (v : ℕ) (reads : v ≡ get_or s (values + q) 0) where
        -- It is unassigned.
        module _ (nothing : v ≡ 0) where
          at_pair : (x : Scene) (m : ℕ) (p : Bool) (t : Term) (b : Before s x values marks links stamp state m p w t)
              → AtPair x (tag_in w) q (its x m p t b).half (its x m p t b).pair
          at_pair x m p t b = record { below = (its x m p t b).at.below; place = place x m p t b; half = (its x m p t b).at.half }

          pub unassigned_asks : Asks s w state → (x : Scene) × (vs : ℕ) × (st : ℕ) × (m : ℕ) × (o : Bool) × (h : Half) × (n : ℕ)
              × Looking s x vs marks links st state m o × AtPair x (tag_in w) q h n
          unassigned_asks (x, m, p, t, b) = (x, values, stamp, m, p, _, _, b.looking, at_pair x m p t b)

          pub unassigned_tells : (s' : List ℕ) (r : ℕ)
              → ((x : Scene) (vs st m : ℕ) (o : Bool) (h : Half) (n : ℕ) → Looking s x vs marks links st state m o → AtPair x (tag_in w) q h n
              → Found s s' x marks links st m o (unassigned h n) r) → Tells s w state s' r
          unassigned_tells s' r tell x m p t b =
              let k = its x m p t b in
              let none_yet = value_none x values marks stamp s b.looking.placed k.pair k.at.below
              (ap (λ i. get_or s (values + i) 0) (sym (place x m p t b)) ∙ sym reads ∙ nothing) in
              found_as x marks links stamp s s' m p (unassigned k.half k.pair) r (tell x values stamp m p _ _ b.looking (at_pair x m p t b)) (result_of x t)
              (ap (result_of x) k.is ∙ unassigned_result x.unit.values b.looking.placed.shown.no_circle x.first k.half k.pair none_yet)

        -- It has a mark that keeps the walk out.
        pub known_tells : (s' : List ℕ) → Entered s s' marks stamp q false → Tells s w state s' state
        known_tells s' (same, mark) x m p t b =
            let k = its x m p t b in
            let c = as_variable x m p t b in
            let here : (i : ℕ) → get_or s (marks + q) 0 ≡ i → get_or s (marks + unit_pair x k.pair) 0 ≡ i = λ i e. ap (λ j. get_or s (marks + j) 0) (sym (place x m p t b)) ∙ e in
            let f : Found s s x marks links stamp m p (result_of x (variable k.half k.pair)) state =
            ⊎_elim (λ e. ground_found values marks links stamp s x state m p w k.half k.pair k.at.below c (here 1 e))
            (λ e. stamp_found values marks links stamp s x state m p w k.half k.pair k.at.below c (here stamp e)) mark in
            rw same (found_as x marks links stamp s s m p (result_of x (variable k.half k.pair)) state f (result_of x t) (ap (result_of x) k.is))

        -- It is entered.
        module _ (something : v ≡ 0 → ⊥) (s' : List ℕ) (entered : Entered s s' marks stamp q true) where
          pub new_lighter : Asks s w state → weight (was_entered stamp) s' marks links v < weight (was_entered stamp) s marks links w
          new_lighter (x, m, p, t, b) =
              let k = its x m p t b in
              let small = b.looking.placed.shown.stands.held.place k.pair k.at.below in
              falls_to_value (was_entered stamp) s marks links q stamp (omega (arith, place x m p t b, b.looking.links_are))
              (omega (arith, b.looking.links_are, b.looking.placed.shown.inside, b.looking.placed.only.size))
              (not_entered stamp (get_or s (marks + q) 0) entered.1 entered.2) (entered_stamp stamp) s' entered.0 v w

          pub new_going : Going s w state s' v state
          new_going x m p t b =
              let k = its x m p t b in
              let same = place x m p t b in
              let c = as_variable x m p t b in
              let (u, assigned, told) = value_some x values marks stamp s b.looking.placed k.pair k.at.below v
              (reads ∙ ap (λ i. get_or s (values + i) 0) same) something in
              let back : (i : ℕ) → get_or s (marks + unit_pair x k.pair) 0 ≡ i → get_or s (marks + q) 0 ≡ i = λ i e. ap (λ j. get_or s (marks + j) 0) same ∙ e in
              let stamped = entered.0 ∙ ap (λ j. set s (marks + j) stamp) same in
              record {
                size = m;
                pending = p;
                now = u;
                before = new_before values marks links stamp s x state m p w k.half k.pair k.at.below c u assigned v told (λ e. entered.1 (back 1 e))
                    (λ e. entered.2 (back stamp e)) s' stamped;
                answer = λ s'' r f. found_as x marks links stamp s s'' m p (result_of x (variable k.half k.pair)) r
                    (new_answer values marks links stamp s x state m p w k.half k.pair k.at.below c u assigned v told (λ e. entered.1 (back 1 e))
                    (λ e. entered.2 (back stamp e)) s' stamped s'' r f) (result_of x t) (ap (result_of x) k.is);
              }
