-- Terms held at the same places that have the same word are equal, up to their compounds' numbers, whatever their variables are replaced by.
use Prim.Native.Nat.{ℕ, ◌+◌, ◌≤◌, ◌<◌}
use mathlib.Core.Path.{◌≡◌, refl, sym, ap, subst, ◌∙◌}
use mathlib.Core.Bool.{Bool, true, false, not, ◌&&◌}
use mathlib.Core.List.{List}
use native.Mathlib.Omega.{arith}
use lib.Dec.{eqb}
use lib.ListN.{get_or}
use borrow.Author.Tests.{eq-eqb, eqb-true, not-true, not-false}
use Rattle.meaning.specs.Terms.{Half, writer, reader, Constant, Functor, Term, Terms, variable, constant, compound, end, more, count, same_functor, replaced, all_replaced}
use Rattle.laws.proofs.Lists.Tests.{and_left, and_right}
use Rattle.term.specs.Cells.{Places, term_word, functor_word, Known, AllKnown, KnownFunctor}
use Rattle.term.specs.Holds.{Holds, HoldsFrom}
use Rattle.term.specs.Setting.{Within, AllWithin, Ranged, AllRanged}
use Rattle.term.specs.Words.{tag_in, rest_in}
use Rattle.run_compare.proofs.Equal.{constants_equal, functors_equal}
use Rattle.run_equal.specs.Equal.{each, cut, VariableIs}
use Rattle.run_equal.proofs.Cuts.{Equal, AllEqual, compounds_equal, more_agree, same_constant_true, same_functor_true}

-- The tags of terms' words.
pub variable_tag : (places : Places) (h : Half) (n : ℕ) → VariableIs (term_word places (variable h n)) true
variable_tag places writer n = (omega arith, omega arith)
variable_tag places reader n = (omega arith, omega arith)

pub variable_rest : (places : Places) (h : Half) (n : ℕ) → rest_in (term_word places (variable h n)) ≡ places.pair n
variable_rest places writer n = omega arith
variable_rest places reader n = omega arith

pub constant_tag : (places : Places) (k : Constant) → (2 < tag_in (term_word places (constant k))) × (tag_in (term_word places (constant k)) < 6)
constant_tag places (Constant.integer i) = (omega arith, omega arith)
constant_tag places (Constant.name f) = (omega arith, omega arith)
constant_tag places Constant.empty = (omega arith, omega arith)

pub compound_tag : (places : Places) (n : ℕ) (f : Functor) (ts : Terms)
    → (tag_in (term_word places (compound n f ts)) ≡ 6) × (rest_in (term_word places (compound n f ts)) ≡ places.compound n)
compound_tag places n f ts = (omega arith, omega arith)

-- What a test of a word says.
pub is_variable : (w : ℕ) (b : Bool) → VariableIs w b → not b ≡ false → VariableIs w true
is_variable w b is e = subst (VariableIs w) (not-false b e) is

pub no_variable : (w : ℕ) (b : Bool) → VariableIs w b → not b ≡ true → VariableIs w false
no_variable w b is e = subst (VariableIs w) (not-true b e) is

-- Equal first words are those of the same functor and number of arguments.
module _ (places : Places) (g f : Functor) (k j : ℕ) (few : k ≤ 6) (least : j ≤ 6) where
  abbrev Both : Type 0
  Both = (g ≡ f) × (k ≡ j)

  pub first_words : KnownFunctor places.names g → KnownFunctor places.names f
      → functor_word places g k ≡ functor_word places f j → Both
  first_words a b e =
      let both : (same_functor g f && eqb k j) ≡ true =
      sym (functors_equal places places refl g f k j few least a b) ∙ eq-eqb (functor_word places g k) (functor_word places f j) e in
      (same_functor_true g f (and_left (same_functor g f) (eqb k j) both), eqb-true k j (and_right (same_functor g f) (eqb k j) both))

module _ (s : List ℕ) (places : Places) (p c : ℕ) (apart : (n m : ℕ) → n < p → m < p → places.pair n ≡ places.pair m → n ≡ m)
    (by : Half → ℕ → Term) where
  same_pair : (h k : Half) (n m : ℕ) → n < p → m < p → term_word places (variable h n) ≡ term_word places (variable k m)
      → Equal (by h n) (by k m)
  same_pair writer writer n m a b e i = rw (apart n m a b (omega arith)) refl
  same_pair writer reader n m a b e i = absurd (omega arith)
  same_pair reader writer n m a b e i = absurd (omega arith)
  same_pair reader reader n m a b e i = rw (apart n m a b (omega arith)) refl

  same_constants : (k d : Constant) → Known places.names (constant k) → Known places.names (constant d) → Ranged (constant k) → Ranged (constant d)
      → term_word places (constant k) ≡ term_word places (constant d) → k ≡ d
  unfolding Known Ranged
  same_constants k d a b r q e =
      same_constant_true k d
      (sym (constants_equal places places refl k d a b r q) ∙ eq-eqb (term_word places (constant k)) (term_word places (constant d)) e)

  mutual
    unfolding Holds HoldsFrom Within AllWithin Known AllKnown Ranged AllRanged replaced all_replaced cut each count

    pub same_words : (t u : Term) → Holds s places t → Holds s places u → Within p c t → Within p c u → Known places.names t → Known places.names u
        → Ranged t → Ranged u → term_word places t ≡ term_word places u → Equal (replaced by t) (replaced by u)
    same_words (variable h n) (variable k m) a b v w f g r q e = same_pair h k n m v w e
    same_words (variable h n) (constant k) a b v w f g r q e = absurd (omega (arith, (variable_tag places h n).1, (constant_tag places k).0, ap (λ i. tag_in i) e))
    same_words (variable h n) (compound m d ts) a b v w f g r q e = absurd (omega (arith, (variable_tag places h n).1, ap (λ i. tag_in i) e))
    same_words (constant k) (variable h n) a b v w f g r q e = absurd (omega (arith, (variable_tag places h n).1, (constant_tag places k).0, ap (λ i. tag_in i) e))
    same_words (constant k) (constant d) a b v w f g r q e = λ i. rw (same_constants k d f g r q e) refl
    same_words (constant k) (compound m d ts) a b v w f g r q e = absurd (omega (arith, (constant_tag places k).1, ap (λ i. tag_in i) e))
    same_words (compound n o us) (variable h m) a b v w f g r q e = absurd (omega (arith, (variable_tag places h m).1, ap (λ i. tag_in i) e))
    same_words (compound n o us) (constant k) a b v w f g r q e = absurd (omega (arith, (constant_tag places k).1, ap (λ i. tag_in i) e))
    same_words (compound n o us) (compound m d ts) a b v w f g r q e =
        let at : places.compound n ≡ places.compound m = omega arith in
        let first = first_words places o d (count us) (count ts) a.0.few b.0.few f.0 g.0
        (sym a.0.functor ∙ ap (λ i. get_or s i 0) at ∙ b.0.functor) in
        compounds_equal n o (all_replaced by us) m d (all_replaced by ts) first.0
        (all_same_words n m 0 us ts at first.1 a.1 b.1 v.1 w.1 f.1 g.1 r q)

    pub all_same_words : (n m i : ℕ) (us ts : Terms) → places.compound n ≡ places.compound m → count us ≡ count ts
        → HoldsFrom s places n i us → HoldsFrom s places m i ts → AllWithin p c us → AllWithin p c ts
        → AllKnown places.names us → AllKnown places.names ts → AllRanged us → AllRanged ts → AllEqual (all_replaced by us) (all_replaced by ts)
    all_same_words n m i end end at k a b v w f g r q = λ j. refl
    all_same_words n m i end (more t ts) at k a b v w f g r q = absurd (omega arith)
    all_same_words n m i (more u us) end at k a b v w f g r q = absurd (omega arith)
    all_same_words n m i (more u us) (more t ts) at k a b v w f g r q =
        let first = same_words u t a.1 b.1 v.0 w.0 f.0 g.0 r.0 q.0
        (sym a.0 ∙ ap (λ o. get_or s (o + 1 + i) 0) at ∙ b.0) in
        let others = all_same_words n m (i + 1) us ts at (omega arith) a.2 b.2 v.1 w.1 f.1 g.1 r.1 q.1 in
        λ j. more_agree j (replaced by u) (replaced by t) (all_replaced by us) (all_replaced by ts) (first j) (others j)
