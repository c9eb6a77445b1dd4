-- A term of the clause that is no compound: a variable is what the head gave it, a term of the unit, or nothing.
use Prim.Native.Nat.{ℕ, ◌+◌, ◌%◌, ◌≤◌, ◌<◌}
use mathlib.Core.Path.{◌≡◌, refl, sym, ap, ◌∙◌}
use mathlib.Core.Logic.{inl}
use mathlib.Core.Bool.{Bool}
use mathlib.Core.List.{List}
use mathlib.Core.Option.{Option, none, some}
use native.Mathlib.Omega.{arith}
use lib.ListN.{length, get_or}
use Rattle.meaning.specs.Terms.{Half, writer, reader, integer, name, empty, Term, variable, constant, compound, replaced}
use Rattle.meaning.specs.State.{Values, value}
use Rattle.meaning.specs.Guards.{given_to, unassigned, variables}
use Rattle.laws.proofs.Trial.Values.{assigned_below}
use Rattle.term.specs.Setting.{Within}
use Rattle.term.specs.Layout.{trial_region}
use Rattle.term.specs.Words.{tag_in, rest_in}
use Rattle.run_asked.specs.Asking.{GaveAt}
use Rattle.run_ground.specs.Looking.{Scene, Clause, result_of, leaf_result, Placed, Told, Firm, Before, Found, Settled, Leaf}
use Rattle.run_ground.proofs.Found.{found_as, found_nothing, found_fails, found_settled, placed_on}
use Rattle.run_ground.proofs.Walk.{firm_found}
use Rattle.run_ground.proofs.Words.{word_kept}
use Rattle.run_ground.proofs.Written.{unassigned_result}

-- Beyond the unit's pairs no pair has a value.
none_beyond : (values : Values) (n : ℕ) → value values (length values + n) ≡ none
none_beyond values n = go (value values (length values + n)) refl
  where
    go : (v : Option Term) → value values (length values + n) ≡ v → value values (length values + n) ≡ none
    go none e = e
    go (some t) e = absurd (omega (arith, assigned_below values (length values + n) t e))

-- The variable m of the clause.
pub record ItsVariable (y : Clause) (w : ℕ) (t : Term) : Type 0 where
  pub half : Half
  pub number : ℕ
  pub is : t ≡ variable half number
  pub place : rest_in w ≡ number
  pub below : number < y.template.pairs

module _ (values marks links stamp : ℕ) (s : List ℕ) (w state : ℕ) where
  abbrev pub LeafAsks : Type 0
  LeafAsks = (x : Scene) × (y : Clause) × (m : ℕ) × (p : Bool) × (t : Term) × Leaf s x y values marks links stamp state m p w t

  abbrev pub LeafTells : List ℕ → ℕ → Type 0
  LeafTells s' r = (x : Scene) (y : Clause) (m : ℕ) (p : Bool) (t : Term) → Leaf s x y values marks links stamp state m p w t
      → Found s s' x marks links stamp m p (leaf_result x y t) r

  pub constant_leaf : 2 < tag_in w → LeafTells s state
  unfolding variables replaced
  constant_leaf high x y m p (variable writer n) b = absurd (omega (arith, b.word))
  constant_leaf high x y m p (variable reader n) b = absurd (omega (arith, b.word))
  constant_leaf high x y m p (constant k) b = found_nothing x marks links stamp values state m p s b.looking _ refl
  constant_leaf high x y m p (compound n f ts) b = absurd (b.leaf (omega (arith, b.word)))

  module _ (le : tag_in w ≤ 2) where
    its : (x : Scene) (y : Clause) (m : ℕ) (p : Bool) (t : Term) → Leaf s x y values marks links stamp state m p w t → ItsVariable y w t
    unfolding Within
    its x y m p (variable writer n) b = record { half = writer; number = n; is = refl; place = omega (arith, b.word); below = b.within }
    its x y m p (variable reader n) b = record { half = reader; number = n; is = refl; place = omega (arith, b.word); below = b.within }
    its x y m p (constant (integer i)) b = absurd (omega (arith, b.word))
    its x y m p (constant (name f)) b = absurd (omega (arith, b.word))
    its x y m p (constant empty) b = absurd (omega (arith, b.word))
    its x y m p (compound n f ts) b = absurd (b.leaf (omega (arith, b.word)))

    module _ (q : ℕ) (at : q ≡ rest_in w) where
      pub leaf_at : LeafAsks → trial_region + q < length s
      leaf_at (x, y, m, p, t, b) =
          let k = its x y m p t b in
          omega (
            arith,
            k.place,
            k.below,
            b.asked.few_pairs,
            b.asked.behind,
            b.looking.placed.shown.marks_behind,
            b.looking.placed.shown.inside,
            b.looking.placed.only.size,
          )

      module _ (v : ℕ) (reads : v ≡ get_or s (trial_region + q) 0) where
        -- What it is read as.
        given : (x : Scene) (y : Clause) (m : ℕ) (p : Bool) (t : Term) → Leaf s x y values marks links stamp state m p w t → Term
        given x y m p t b = given_to y.given (length x.unit.values + (its x y m p t b).number)

        word : (x : Scene) (y : Clause) (m : ℕ) (p : Bool) (t : Term) (b : Leaf s x y values marks links stamp state m p w t)
            → v ≡ get_or x.base (trial_region + (its x y m p t b).number) 0
        word x y m p t b =
            let k = its x y m p t b in
            reads ∙ word_kept x values marks stamp s b.looking.placed (trial_region + q)
            (omega (arith, k.place, k.below, b.asked.few_pairs, b.asked.behind, b.looking.placed.shown.marks_behind))
            ∙ ap (λ i. get_or x.base (trial_region + i) 0) (at ∙ k.place)

        gave : (x : Scene) (y : Clause) (m : ℕ) (p : Bool) (t : Term) (b : Leaf s x y values marks links stamp state m p w t)
            → GaveAt x.base x.unit y.given (its x y m p t b).number
        gave x y m p t b = b.asked.gave (its x y m p t b).number (its x y m p t b).below

        result_is : (x : Scene) (y : Clause) (m : ℕ) (p : Bool) (t : Term) (b : Leaf s x y values marks links stamp state m p w t)
            → leaf_result x y t ≡ result_of x (given x y m p t b)
        unfolding given replaced
        result_is x y m p t b = ap (leaf_result x y) (its x y m p t b).is

        -- Nothing.
        pub nothing_leaf : v ≡ 0 → LeafTells s 3
        unfolding given unassigned
        nothing_leaf z x y m p t b =
            let n = (its x y m p t b).number in
            found_fails x marks links stamp values state m p s b.looking (leaf_result x y t)
            (result_is x y m p t b ∙ ap (result_of x) ((gave x y m p t b).nothing (sym (word x y m p t b) ∙ z))
            ∙ unassigned_result x.unit.values b.looking.placed.shown.no_circle x.first writer (length x.unit.values + n)
            (none_beyond x.unit.values n))

        module _ (d : v ≡ 0 → ⊥) where
          given_before : (x : Scene) (y : Clause) (m : ℕ) (p : Bool) (t : Term) (b : Leaf s x y values marks links stamp state m p w t)
              → Before s x values marks links stamp state m p v (given x y m p t b)
          unfolding given
          given_before x y m p t b =
              let something : get_or x.base (trial_region + (its x y m p t b).number) 0 ≡ 0 → ⊥ = λ z. d (word x y m p t b ∙ z) in
              record {
                looking = b.looking;
                told = record { word = word x y m p t b ∙ (gave x y m p t b).word something; term = (gave x y m p t b).term something };
                behind = λ j l e. inl (b.looked j l e);
              }

          pub given_asks : LeafAsks → (x : Scene) × (m : ℕ) × (p : Bool) × (u : Term) × Before s x values marks links stamp state m p v u
          given_asks (x, y, m, p, t, b) = (x, m, p, given x y m p t b, given_before x y m p t b)

          module _ (s' : List ℕ) (r : ℕ) (tell : (x : Scene) (m : ℕ) (p : Bool) (u : Term) → Before s x values marks links stamp state m p v u
              → Found s s' x marks links stamp m p (result_of x u) r) where
            found : (x : Scene) (y : Clause) (m : ℕ) (p : Bool) (t : Term) (b : Leaf s x y values marks links stamp state m p w t)
                → Found s s' x marks links stamp m p (result_of x (given x y m p t b)) r
            found x y m p t b = tell x m p (given x y m p t b) (given_before x y m p t b)

            placed : (x : Scene) (y : Clause) (m : ℕ) (p : Bool) (t : Term) (b : Leaf s x y values marks links stamp state m p w t)
                → Placed s' x values marks stamp
            placed x y m p t b =
                placed_on x marks links stamp s s' m p (result_of x (given x y m p t b)) r (found x y m p t b) values b.looking.placed

            firm : (x : Scene) (y : Clause) (m : ℕ) (p : Bool) (t : Term) (b : Leaf s x y values marks links stamp state m p w t)
                → r % 2 ≡ 0 → Firm x (given x y m p t b)
            firm x y m p t b =
                firm_found s s' x values marks links stamp m p (given x y m p t b) r b.looking.placed (found x y m p t b)

            pub settle_asks : LeafAsks → (x : Scene) × (u : Term) × Placed s' x values marks stamp × Told x v u × (r % 2 ≡ 0 → Firm x u)
            settle_asks (x, y, m, p, t, b) =
                (x, given x y m p t b, placed x y m p t b, (given_before x y m p t b).told, firm x y m p t b)

            pub given_leaf : (s'' : List ℕ) → ((x : Scene) (u : Term) → Placed s' x values marks stamp → Told x v u → (r % 2 ≡ 0 → Firm x u)
                → Settled x marks stamp s' s'') → LeafTells s'' r
            given_leaf s'' settle x y m p t b =
                let g = given x y m p t b in
                found_as x marks links stamp s s'' m p (result_of x g) r
                (found_settled x marks links stamp s s' m p (result_of x g) r (found x y m p t b) s''
                (settle x g (placed x y m p t b) (given_before x y m p t b).told (firm x y m p t b)) b.looking.placed.stamp_above b.looking.links_are)
                (leaf_result x y t) (result_is x y m p t b)
