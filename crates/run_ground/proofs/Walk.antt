-- A walk through the arguments of a compound of the unit: from left to right, what is left of them, and how its result makes that of the compound.
use Prim.Native.Nat.{ℕ, ◌+◌, ◌%◌, ◌≤◌, ◌<◌}
use mathlib.Core.Path.{◌≡◌, refl, ap, ◌∙◌}
use mathlib.Core.Logic.{◌⊎◌, inl, inr, ⊎_elim}
use mathlib.Core.Bool.{Bool}
use mathlib.Core.List.{List, []}
use native.Mathlib.Omega.{arith}
use lib.ListN.{length, get_or}
use Rattle.meaning.specs.Terms.{Term, Terms, variable, compound, end, more, count, all_replaced}
use Rattle.meaning.specs.State.{applied}
use Rattle.meaning.specs.Compare.{Result, fails}
use Rattle.meaning.specs.Guards.{all_variables}
use Rattle.laws.proofs.Terms.Standing.{Stands, StandsIn}
use Rattle.term.specs.Setting.{UnitTerms}
use Rattle.term.specs.Words.{tag_in, rest_in}
use Rattle.run_circle.proofs.Depth.{depth, depths}
use Rattle.run_ground.specs.Seeking.{together}
use Rattle.run_ground.specs.Looking.{
  Scene,
  of_readers,
  or_some,
  result_of,
  Placed,
  Looking,
  Told,
  Firm,
  Behind,
  Before,
  Goes,
  Found,
  Settled,
}
use Rattle.run_ground.proofs.Entered.{was_entered}
use Rattle.run_ground.proofs.Left.{left}
use Rattle.run_ground.proofs.Results.{or_some_none}
use Rattle.run_ground.proofs.Written.{compound_result, argument_result, firm_of}
use Rattle.run_ground.proofs.Words.{weight, falls_to_argument, compound_of, first_held, others_held, word_kept}
use Rattle.run_ground.proofs.Found.{
  state_even,
  found_nothing,
  found_as,
  found_left,
  last_decides,
  ended_decides,
  placed_on,
  pending_then,
  looking_on,
  behind_on,
  found_then,
  found_settled,
}

-- What some terms of the unit give, written out.
abbrev pub results_of : Scene → Terms → Result
results_of x ts = all_variables (together x.first) (all_replaced (λ h p. applied (length x.unit.values) x.unit.values (variable h p)) ts)

-- A walk that has met no unassigned variable: its term has ground pairs only.
pub firm_found : (s s' : List ℕ) (x : Scene) (values marks links stamp m : ℕ) (p : Bool) (t : Term) (r : ℕ) → Placed s x values marks stamp
    → Found s s' x marks links stamp m p (result_of x t) r → r % 2 ≡ 0 → Firm x t
firm_found s s' x values marks links stamp m p t r h f even = go f.answer
  where
    go : ((result_of x t ≡ fails) × (r ≡ 3))
        ⊎ Goes s s' x marks links stamp m p (result_of x t) r f.size f.pairs → Firm x t
    go (inl (e, three)) = absurd (omega arith)
    go (inr g) =
        let none : g.readers ≡ [] = or_some_none p g.readers (state_even x.first f.size (or_some p g.readers) (rw g.state at even)) in
        firm_of x.unit.values h.shown.no_circle x.first t (g.result ∙ ap of_readers none)

-- Before the i-th of the k arguments of the compound t at place q: those that are left.
pub record Walked (s₀ s : List ℕ) (x : Scene) (values marks links stamp m₀ : ℕ) (p₀ : Bool) (t : Term) (q k i state : ℕ) : Type 0 where
  pub size : ℕ
  pub pending : Bool
  pub looking : Looking s x values marks links stamp state size pending
  pub behind : Behind s x marks links stamp size pending (λ j. Stands j t)
  pub number : ℕ
  pub passed : ℕ
  pub terms : Terms
  pub index : i ≡ passed + 1
  pub total : i + count terms ≡ k + 1
  pub few : k ≤ 6
  pub place : q ≡ x.unit.places.compound number
  pub inside : q + 8 ≤ length s₀
  pub before : q + k < marks
  pub held : UnitTerms x.base x.unit number passed terms
  pub within : (j : ℕ) → StandsIn j terms → Stands j t
  pub lower : depths terms < depth t
  pub fewer : left (was_entered stamp) s marks x.unit.pairs ≤ left (was_entered stamp) s₀ marks x.unit.pairs
  pub answer : (s' : List ℕ) (r : ℕ) → Found s s' x marks links stamp size pending (results_of x terms) r
      → Found s₀ s' x marks links stamp m₀ p₀ (result_of x t) r

-- The i-th argument, with the word a, and those behind it.
pub record Next (x : Scene) (a n i : ℕ) (ts : Terms) : Type 0 where
  pub term : Term
  pub others : Terms
  pub is : ts ≡ more term others
  pub told : Told x a term
  pub held : UnitTerms x.base x.unit n (i + 1) others

next_of : (x : Scene) (a n i : ℕ) (ts : Terms) → UnitTerms x.base x.unit n i ts → 0 < count ts
    → a ≡ get_or x.base (x.unit.places.compound n + 1 + i) 0 → Next x a n i ts
unfolding count
next_of x a n i end u some_left reads = absurd (omega arith)
next_of x a n i (more t ts) u some_left reads =
    record { term = t; others = ts; is = refl; told = first_held x n i t ts u a reads; held = others_held x n i t ts u }

-- The results of more than one term.
more_result : (x : Scene) (values marks : ℕ) (s : List ℕ) (stamp : ℕ) → Placed s x values marks stamp → (t : Term) (ts : Terms)
    → results_of x (more t ts) ≡ together x.first (result_of x t) (results_of x ts)
unfolding all_variables all_replaced
more_result x values marks s stamp h t ts =
    ap (λ o. together x.first o (results_of x ts)) (argument_result x.unit.values h.shown.no_circle x.first t)

module _ (values marks links stamp : ℕ) where
  pub walk_first : (s : List ℕ) (x : Scene) (m : ℕ) (p : Bool) (w state : ℕ) (t : Term) → Before s x values marks links stamp state m p w t
      → tag_in w ≡ 6 → (q k : ℕ) → q ≡ rest_in w → k ≡ tag_in (get_or s q 0) → Walked s s x values marks links stamp m p t q k 1 state
  unfolding Stands depth
  walk_first s x m p w state t b six q k at counted =
      let c = compound_of x values marks stamp s b.looking.placed w t b.told six in
      let k_is : k ≡ count c.terms = counted ∙ ap (λ j. tag_in (get_or s j 0)) at ∙ c.counted in
      record {
        size = m;
        pending = p;
        looking = b.looking;
        behind = b.behind;
        number = c.number;
        passed = 0;
        terms = c.terms;
        index = refl;
        total = omega arith;
        few = omega (arith, c.few);
        place = at ∙ c.place;
        inside = omega (arith, c.inside);
        before = omega (arith, c.before);
        held = c.held;
        within = λ j r. rw c.is r;
        lower = let deep : depth t ≡ depth (compound c.number c.functor c.terms) = ap depth c.is in omega arith;
        fewer = omega arith;
        answer = λ s' r f. found_as x marks links stamp s s' m p (results_of x c.terms) r f (result_of x t)
            (ap (result_of x) c.is ∙ compound_result x.unit.values b.looking.placed.shown.no_circle x.first c.number c.functor c.terms);
      }

  module _ (s₀ s : List ℕ) (x : Scene) (m : ℕ) (p : Bool) (w : ℕ) (t : Term) (told : Told x w t) (h₀ : Placed s₀ x values marks stamp) (q k i state : ℕ)
      (c : Walked s₀ s x values marks links stamp m p t q k i state) where
    -- None is left.
    pub walk_none : k < i → Found s₀ s x marks links stamp m p (result_of x t) state
    unfolding count all_variables all_replaced
    walk_none done = go c.terms refl
      where
        go : (ts : Terms) → c.terms ≡ ts → Found s₀ s x marks links stamp m p (result_of x t) state
        go end e =
            c.answer s state
            (found_nothing x marks links stamp values state c.size c.pending s c.looking (results_of x c.terms) (ap (results_of x) e))
        go (more u us) e = absurd (omega (arith, c.total, ap count e))

    module _ (a : ℕ) (reads : a ≡ get_or s (q + i) 0) (le : i ≤ k) where
      pub next : Next x a c.number c.passed c.terms
      next =
          let place : q + i ≡ x.unit.places.compound c.number + 1 + c.passed = omega (arith, c.place, c.index) in
          next_of x a c.number c.passed c.terms c.held (omega (arith, c.total))
          (reads ∙ word_kept x values marks stamp s c.looking.placed (q + i) (omega (arith, c.before)) ∙ ap (λ j. get_or x.base j 0) place)

      pub next_before : Before s x values marks links stamp state c.size c.pending a next.term
      unfolding StandsIn
      next_before = record {
        looking = c.looking;
        told = next.told;
        behind = λ j l e. ⊎_elim inl (λ f. inr (λ i r. f i (c.within i (rw next.is (inl r))))) (c.behind j l e);
      }

      pub next_lighter : weight (was_entered stamp) s marks links a < weight (was_entered stamp) s₀ marks links w
      unfolding depths
      next_lighter =
          let deep : depths c.terms ≡ depths (more next.term next.others) = ap depths next.is in
          rw c.looking.links_are
          (falls_to_argument x values marks stamp s₀ s h₀ c.looking.placed (was_entered stamp) x.unit.pairs c.fewer w a t next.term told next.told
          (omega (arith, c.lower)))

      results_are : results_of x c.terms ≡ together x.first (result_of x next.term) (results_of x next.others)
      results_are = ap (results_of x) next.is ∙ more_result x values marks s stamp c.looking.placed next.term next.others

      -- The last one: the walk goes on with it.
      pub last_answer : (i < k → ⊥) → (s' : List ℕ) (r : ℕ) → Found s s' x marks links stamp c.size c.pending (result_of x next.term) r
          → Found s₀ s' x marks links stamp m p (result_of x t) r
      unfolding count all_variables all_replaced
      last_answer done s' r f = c.answer s' r
          (found_as x marks links stamp s s' c.size c.pending (result_of x next.term) r f (results_of x c.terms) (results_are ∙ go next.others refl))
        where
          go : (ts : Terms) → next.others ≡ ts → together x.first (result_of x next.term) (results_of x next.others) ≡ result_of x next.term
          go end e =
              ap (λ us. together x.first (result_of x next.term) (results_of x us)) e
              ∙ last_decides x marks links stamp s s' c.size c.pending (result_of x next.term) r f
          go (more u us) e = absurd (omega (arith, c.total, ap count next.is, ap count e))

      -- It was walked, and its ground pairs settled.
      module _ (s' : List ℕ) (r : ℕ) (f : Found s s' x marks links stamp c.size c.pending (result_of x next.term) r) where
        pub next_placed : Placed s' x values marks stamp
        next_placed = placed_on x marks links stamp s s' c.size c.pending (result_of x next.term) r f values c.looking.placed

        pub next_firm : r % 2 ≡ 0 → Firm x next.term
        next_firm =
            firm_found s s' x values marks links stamp c.size c.pending next.term r c.looking.placed f

        module _ (s'' : List ℕ) (settled : Settled x marks stamp s' s'') where
          after : Found s s'' x marks links stamp c.size c.pending (result_of x next.term) r
          after = found_settled x marks links stamp s s' c.size c.pending (result_of x next.term) r f s'' settled
              c.looking.placed.stamp_above c.looking.links_are

          pub walk_ended : r % 4 ≡ 3 → Found s₀ s'' x marks links stamp m p (result_of x t) r
          walk_ended e = c.answer s'' r
              (found_as x marks links stamp s s'' c.size c.pending (result_of x next.term) r after (results_of x c.terms)
              (results_are ∙ ended_decides x marks links stamp s s'' c.size c.pending (result_of x next.term) r after c.looking.goes_on e
              (results_of x next.others)))

          pub walk_next : (r % 4 ≡ 3 → ⊥) → Walked s₀ s'' x values marks links stamp m p t q k (i + 1) r
          unfolding count depths StandsIn
          walk_next d = record {
            size = after.size;
            pending = pending_then x marks links stamp s s'' c.size c.pending (result_of x next.term) r after d;
            looking = looking_on x marks links stamp s s'' c.size c.pending (result_of x next.term) r after d values state c.looking;
            behind = behind_on x marks links stamp s s'' c.size c.pending (result_of x next.term) r after d (λ j. Stands j t) c.behind;
            number = c.number;
            passed = c.passed + 1;
            terms = next.others;
            index = omega (arith, c.index);
            total = omega (arith, c.total, ap count next.is);
            few = c.few;
            place = c.place;
            inside = c.inside;
            before = c.before;
            held = next.held;
            within = λ j u. c.within j (rw next.is (inr u));
            lower = let deep : depths c.terms ≡ depths (more next.term next.others) = ap depths next.is in omega (arith, c.lower);
            fewer = omega (arith, c.fewer, found_left x marks links stamp s s'' c.size c.pending (result_of x next.term) r after);
            answer = λ s''' r' g. c.answer s''' r'
                (found_as x marks links stamp s s''' c.size c.pending (together x.first (result_of x next.term) (results_of x next.others)) r'
                (found_then x marks links stamp s s'' c.size c.pending (result_of x next.term) r after d s''' (results_of x next.others) r' g)
                (results_of x c.terms) results_are);
          }
