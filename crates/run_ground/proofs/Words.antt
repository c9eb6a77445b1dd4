-- The words of the unit's terms during a walk, which are those of the scratch when it began: a compound and its arguments, a variable and its value.
use Prim.Native.Nat.{ℕ, ◌+◌, ◌*◌, ◌≤◌, ◌<◌}
use mathlib.Core.Path.{◌≡◌, refl, sym, ap, ◌∙◌}
use mathlib.Core.Bool.{Bool, true, false}
use mathlib.Core.List.{List}
use mathlib.Core.Option.{Option, none, some}
use native.Mathlib.Nat.{mul-le-mul_right, suc-mul}
use native.Mathlib.Numerals.{add-one}
use native.Mathlib.Omega.{arith}
use lib.ListN.{length, get_or, set, length-set}
use Rattle.meaning.specs.Terms.{Half, writer, reader, Constant, integer, name, empty, Functor, Term, Terms, variable, constant, compound, more, count}
use Rattle.meaning.specs.State.{value}
use Rattle.term.specs.Cells.{Known, AllKnown}
use Rattle.term.specs.Holds.{Holds, HoldsFrom, value_word, HoldsValue}
use Rattle.term.specs.Setting.{Within, AllWithin, Ranged, AllRanged, UnitTerm, UnitTerms}
use Rattle.term.specs.Words.{tag_in, rest_in}
use Rattle.term.proofs.Cells.{word_positive}
use Rattle.term.proofs.Units.{unit_term_alike}
use Rattle.run_circle.proofs.Depth.{depth, height, height_within, height_is, shallow}
use Rattle.run_ground.specs.Looking.{Scene, unit_pair, pairs_in, Placed, Told, AtPair}
use Rattle.run_ground.proofs.Left.{left, left_set}

-- What falls during a walk: the marks that are left, and then the depth of the term at hand.
unfoldable pub weight : (ℕ → Bool) → List ℕ → ℕ → ℕ → ℕ → ℕ
weight marked s marks n w = left marked s marks n * (length s + 1) + height (length s) s w

-- A new mark outweighs any term.
pub falls_to_value : (marked : ℕ → Bool) (s : List ℕ) (marks n p m : ℕ) → p < n → marks + n ≤ length s → marked (get_or s (marks + p) 0) ≡ false
    → marked m ≡ true → (s₁ : List ℕ) → s₁ ≡ set s (marks + p) m → (v w : ℕ) → weight marked s₁ marks n v < weight marked s marks n w
unfolding weight
falls_to_value marked s marks n p m h inside d e s₁ is v w =
    let less : left marked s₁ marks n + 1 ≤ left marked s marks n = rw is (left_set marked s marks n p m h inside d e) in
    let size : length s₁ ≡ length s = ap (λ l. length l) is ∙ length-set s (marks + p) m in
    let times : (left marked s₁ marks n + 1) * (length s + 1) ≤ left marked s marks n * (length s + 1) = mul-le-mul_right (length s + 1) less in
    let one : (left marked s₁ marks n + 1) * (length s + 1) ≡ left marked s₁ marks n * (length s + 1) + (length s + 1) =
    plus_one (left marked s₁ marks n) (length s + 1) in
    let low : height (length s) s₁ v ≤ length s = height_within (length s) s₁ v in
    rw size (omega arith)
  where
    plus_one : (a k : ℕ) → (a + 1) * k ≡ a * k + k
    plus_one a k = rw (add-one a) (suc-mul a k)

-- A compound of the unit.
pub record AtCompound (s : List ℕ) (x : Scene) (marks w : ℕ) (t : Term) : Type 0 where
  pub number : ℕ
  pub functor : Functor
  pub terms : Terms
  pub is : t ≡ compound number functor terms
  pub place : rest_in w ≡ x.unit.places.compound number
  pub inside : rest_in w + 8 ≤ length s
  pub before : rest_in w + count terms < marks
  pub few : count terms ≤ 6
  pub counted : tag_in (get_or s (rest_in w) 0) ≡ count terms
  pub held : UnitTerms x.base x.unit number 0 terms

pub record AtVariable (x : Scene) (w : ℕ) (t : Term) : Type 0 where
  pub half : Half
  pub pair : ℕ
  pub is : t ≡ variable half pair
  pub at : AtPair x (tag_in w) (rest_in w) half pair

-- What words tell of a term.
pub variable_of : (x : Scene) (w : ℕ) (t : Term) → Told x w t → (tag_in w ≡ 6 → ⊥) → tag_in w ≤ 2 → AtVariable x w t
unfolding Within
variable_of x w (variable writer p) told six le =
    record { half = writer; pair = p; is = refl; at = record { below = told.term.of.within; place = omega (arith, told.word); half = omega (arith, told.word) } }
variable_of x w (variable reader p) told six le =
    record { half = reader; pair = p; is = refl; at = record { below = told.term.of.within; place = omega (arith, told.word); half = omega (arith, told.word) } }
variable_of x w (constant (integer i)) told six le = absurd (omega (arith, told.word))
variable_of x w (constant (name f)) told six le = absurd (omega (arith, told.word))
variable_of x w (constant empty) told six le = absurd (omega (arith, told.word))
variable_of x w (compound n f ts) told six le = absurd (six (omega (arith, told.word)))

pub constant_of : (x : Scene) (w : ℕ) (t : Term) → Told x w t → (tag_in w ≡ 6 → ⊥) → 2 < tag_in w → (k : Constant) × (t ≡ constant k)
constant_of x w (variable writer p) told six le = absurd (omega (arith, told.word))
constant_of x w (variable reader p) told six le = absurd (omega (arith, told.word))
constant_of x w (constant k) told six le = (k, refl)
constant_of x w (compound n f ts) told six le = absurd (six (omega (arith, told.word)))

-- The first of some arguments, and the others.
pub first_held : (x : Scene) (n i : ℕ) (t : Term) (ts : Terms) → UnitTerms x.base x.unit n i (more t ts) → (a : ℕ)
    → a ≡ get_or x.base (x.unit.places.compound n + 1 + i) 0 → Told x a t
unfolding HoldsFrom AllWithin AllKnown AllRanged
first_held x n i t ts u a reads = record {
  word = reads ∙ u.held.0;
  term = record { held = u.held.1; of = record { within = u.within.0; known = u.known.0; ranged = u.ranged.0 } };
}

pub others_held : (x : Scene) (n i : ℕ) (t : Term) (ts : Terms) → UnitTerms x.base x.unit n i (more t ts) → UnitTerms x.base x.unit n (i + 1) ts
unfolding HoldsFrom AllWithin AllKnown AllRanged
others_held x n i t ts u = record { held = u.held.2; within = u.within.1; known = u.known.1; ranged = u.ranged.1 }

module _ (x : Scene) (values marks stamp : ℕ) (s : List ℕ) (h : Placed s x values marks stamp) where
  pub word_kept : (k : ℕ) → k < marks → get_or s k 0 ≡ get_or x.base k 0
  word_kept k l = h.only.below k l

  pub compound_of : (w : ℕ) (t : Term) → Told x w t → tag_in w ≡ 6 → AtCompound s x marks w t
  unfolding Holds Within Known Ranged
  compound_of w (variable writer p) told six = absurd (omega (arith, told.word))
  compound_of w (variable reader p) told six = absurd (omega (arith, told.word))
  compound_of w (constant (integer i)) told six = absurd (omega (arith, told.word))
  compound_of w (constant (name f)) told six = absurd (omega (arith, told.word))
  compound_of w (constant empty) told six = absurd (omega (arith, told.word))
  compound_of w (compound n f ts) told six =
      let at : rest_in w ≡ x.unit.places.compound n = omega (arith, told.word) in
      let cell = told.term.held.0 in
      let low = h.shown.compound_before n told.term.of.within.0 in
      record {
        number = n;
        functor = f;
        terms = ts;
        is = refl;
        place = at;
        inside = omega (arith, cell.inside, h.only.size);
        before = omega (arith, cell.wide, h.shown.marks_behind);
        few = cell.few;
        counted =
            let same : get_or s (rest_in w) 0 ≡ get_or x.base (x.unit.places.compound n) 0 =
            word_kept (rest_in w) (omega (arith, cell.wide, h.shown.marks_behind)) ∙ ap (λ k. get_or x.base k 0) at in
            omega (arith, same, cell.functor, cell.few);
        held = record {
          held = told.term.held.1;
          within = told.term.of.within.1;
          known = told.term.of.known.1;
          ranged = told.term.of.ranged;
        };
      }

  -- The value of a pair: none, or a term.
  module _ (j : ℕ) (l : j < pairs_in x) where
    pub mark_inside : marks + unit_pair x j < length s
    mark_inside = omega (arith, h.shown.stands.held.place j l, h.shown.inside, h.only.size)

    pub value_inside : values + unit_pair x j < length s
    value_inside = omega (arith, h.shown.stands.held.place j l, h.shown.inside, h.only.size, h.shown.marks_behind)

    value_is : get_or s (values + unit_pair x j) 0 ≡ value_word x.unit.places (value x.unit.values j)
    value_is =
        word_kept (values + unit_pair x j) (omega (arith, h.shown.stands.held.place j l, h.shown.marks_behind))
        ∙ h.shown.stands.held.stands j l

    pub value_none : get_or s (values + unit_pair x j) 0 ≡ 0 → value x.unit.values j ≡ none
    value_none e = go (value x.unit.values j) (sym value_is ∙ e)
      where
        go : (v : Option Term) → value_word x.unit.places v ≡ 0 → v ≡ none
        go none f = refl
        go (some t) f = absurd (omega (arith, word_positive x.unit.places t))

    pub value_some : (v : ℕ) → v ≡ get_or s (values + unit_pair x j) 0 → (v ≡ 0 → ⊥) → (u : Term) × (value x.unit.values j ≡ some u) × Told x v u
    value_some v e d = go (value x.unit.values j) refl
      where
        go : (o : Option Term) → value x.unit.values j ≡ o → (u : Term) × (value x.unit.values j ≡ some u) × Told x v u
        go none f = absurd (d (e ∙ value_is ∙ ap (value_word x.unit.places) f))
        go (some u) f =
            let held : HoldsValue x.base x.unit.places (some u) = rw f at (h.shown.stands.held.held j l) in (
              u,
              f,
              record {
                word = e ∙ value_is ∙ ap (value_word x.unit.places) f;
                term = record { held = held; of = h.shown.stands.of j u l f };
              },
            )

  -- The depth that a word tells is that of its term.
  pub told_height : (w : ℕ) (t : Term) → Told x w t → height (length s) s w ≡ depth t
  told_height w t told =
      let here : UnitTerm s x.unit t =
      unit_term_alike x.base s x.unit (omega (arith, h.only.size))
      (λ n low k from to. word_kept k (omega (arith, h.shown.compound_before n low, h.shown.marks_behind))) t told.term in
      rw told.word (height_is s x.unit.places (length s) t here.held (shallow s x.unit.places t here.held))

-- A term that is less deep is lighter, where marks were only added.
pub falls_to_argument : (x : Scene) (values marks stamp : ℕ) (s₀ s : List ℕ) → Placed s₀ x values marks stamp → Placed s x values marks stamp
    → (marked : ℕ → Bool) (n : ℕ) → left marked s marks n ≤ left marked s₀ marks n → (w a : ℕ) (t u : Term) → Told x w t → Told x a u
    → depth u < depth t → weight marked s marks n a < weight marked s₀ marks n w
unfolding weight
falls_to_argument x values marks stamp s₀ s h₀ h marked n less w a t u told_w told_a lower =
    let size : length s ≡ length s₀ = h.only.size ∙ sym h₀.only.size in
    let times : left marked s marks n * (length s₀ + 1) ≤ left marked s₀ marks n * (length s₀ + 1) = mul-le-mul_right (length s₀ + 1) less in
    rw (told_height x values marks stamp s h a u told_a, told_height x values marks stamp s₀ h₀ w t told_w, size) (omega arith)
