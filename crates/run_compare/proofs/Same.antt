-- Arguments at the end of two compounds that are the same constants: their terms are the same, so they agree and give nothing.
use Prim.Native.Nat.{ℕ, zero, suc, ◌+◌, ◌-◌, ◌≤◌, ◌<◌}
use mathlib.Core.Path.{◌≡◌, refl, sym, subst, ◌∙◌}
use mathlib.Core.Bool.{true, false}
use mathlib.Core.Logic.{◌⊎◌, inl, inr, ⊎_elim}
use mathlib.Core.List.{List, []}
use native.Mathlib.Nat.{eq-or-lt_of_le}
use native.Mathlib.Omega.{arith}
use lib.Dec.{eqb}
use lib.ListN.{get_or}
use borrow.Author.Tests.{eqb-true, eq-eqb, ne_eqb}
use Rattle.meaning.specs.Bytes.{when◌then◌else◌}
use Rattle.meaning.specs.Terms.{writer, reader, Constant, Term, Terms, end, more, count, renamed, all_renamed, same_constant}
use Rattle.meaning.specs.State.{Values}
use Rattle.meaning.specs.Compare.{succeeds, followed, with_assignments, and_then, place, places}
use Rattle.laws.proofs.Lists.Tests.{and_left, and_right}
use Rattle.term.specs.declared.word.View.{View}
use Rattle.term.specs.declared.word.View.TheVariants.{Nothing, Writer, Reader, Integer, Name, Empty, Compound}
use Rattle.term.specs.Cells.{Places, term_word, Known, AllKnown}
use Rattle.term.specs.Holds.{HoldsFrom}
use Rattle.term.specs.Setting.{Setting, Ranged, AllRanged}
use Rattle.term.specs.Layout.{item_place, clause_base}
use Rattle.run_table.proofs.Seen.{seen, seen_term}
use Rattle.run_compare.specs.Compare.{Template, item, place_outcome, places_outcome}
use Rattle.run_compare.specs.Same.{is_constant, same_word, SameConstant, SameBehind}
use Rattle.run_compare.proofs.Equal.{constants_equal}

-- What the test says.
pub same_true : (h a : ℕ) → same_word h a ≡ true → SameConstant h a
unfolding same_word
same_true h a e = record {
  equal = eqb-true h a (and_left (eqb h a) _ e);
  constant = and_right (eqb h a) _ e;
}

pub same_differs : (h a : ℕ) → (h ≡ a → ⊥) → same_word h a ≡ false
unfolding same_word
same_differs h a d = rw (ne_eqb h a d)

pub same_equal : (h a : ℕ) → h ≡ a → same_word h a ≡ is_constant (seen h)
unfolding same_word
same_equal h a e = rw (eq-eqb h a e)

-- What is none of the three.
pub no_constant : (v : View) → ((n : ℕ) → v ≡ Integer n → ⊥) → ((n : ℕ) → v ≡ Name n → ⊥) → (v ≡ Empty → ⊥) → is_constant v ≡ false
unfolding is_constant
no_constant Nothing i n e = refl
no_constant (Writer z) i n e = refl
no_constant (Reader z) i n e = refl
no_constant (Integer k) i n e = absurd (i k refl)
no_constant (Name k) i n e = absurd (n k refl)
no_constant Empty i n e = absurd (e refl)
no_constant (Compound q) i n e = refl

pub a_constant : (v : View) → ((n : ℕ) × (v ≡ Integer n)) ⊎ (((n : ℕ) × (v ≡ Name n)) ⊎ (v ≡ Empty)) → is_constant v ≡ true
unfolding is_constant
a_constant v (inl (n, e)) = rw e
a_constant v (inr (inl (n, e))) = rw e
a_constant v (inr (inr e)) = rw e

-- Behind the last argument there is none.
pub none_behind : (s : List ℕ) (p q n k : ℕ) → k ≡ n → SameBehind s p q n k
none_behind s p q n k e = record { few = omega arith; same = λ i a b. absurd (omega arith) }

-- The last of those before is the same constant too.
pub one_more_same : (s : List ℕ) (p q n k : ℕ) → 0 < k → SameBehind s p q n k → SameConstant (get_or s (p + k) 0) (get_or s (q + k) 0)
    → SameBehind s p q n (k - 1)
one_more_same s p q n k some b here = record {
  few = omega (arith, b.few);
  same = λ i l h.
      let at_least : k ≤ i = omega arith in
      ⊎_elim
      (λ e. subst (λ (j : ℕ). SameConstant (get_or s (p + j) 0) (get_or s (q + j) 0)) e here)
      (λ above. b.same i above h)
      (eq-or-lt_of_le at_least);
}

-- A word that is seen to be a constant's is the word of a constant.
constant_term : (places : Places) (t : Term) (w : ℕ) → w ≡ term_word places t → is_constant (seen w) ≡ true → (c : Constant) × (t ≡ Term.constant c)
unfolding is_constant
constant_term places (Term.variable writer n) w e k =
    let wrong = rw (seen_term places (Term.variable writer n) w e) at k in let z : ◌≡◌ {A = ℕ} 0 1 = cc in absurd (omega arith)
constant_term places (Term.variable reader n) w e k =
    let wrong = rw (seen_term places (Term.variable reader n) w e) at k in let z : ◌≡◌ {A = ℕ} 0 1 = cc in absurd (omega arith)
constant_term places (Term.constant c) w e k = (c, refl)
constant_term places (Term.compound n f ts) w e k =
    let wrong = rw (seen_term places (Term.compound n f ts) w e) at k in let z : ◌≡◌ {A = ℕ} 0 1 = cc in absurd (omega arith)

followed_constant : (links : ℕ) (values : Values) (c : Constant) → followed links values (Term.constant c) ≡ Term.constant c
unfolding followed
followed_constant zero values c = refl
followed_constant (suc links) values c = refl

module _ (x : Setting) (y : Template) (links : ℕ) where
  -- The same constant agrees, and gives nothing.
  constants_agree : (c k : Constant) → Known x.places.names (Term.constant c) → Known x.places.names (Term.constant k)
      → Ranged (Term.constant c) → Ranged (Term.constant k) → term_word (item x y) (Term.constant c) ≡ term_word x.places (Term.constant k)
      → place_outcome x links (Term.constant c) (followed links x.values (Term.constant k)) ≡ succeeds []
  unfolding Known Ranged place renamed when◌then◌else◌
  constants_agree c k known goal_known ranged goal_ranged e =
      let same : same_constant c k ≡ true =
      sym (constants_equal x.places (item x y) refl c k known goal_known ranged goal_ranged)
      ∙ eq-eqb (term_word (item x y) (Term.constant c)) (term_word x.places (Term.constant k)) e
      in
      rw (followed_constant links x.values k, same)

  same_agrees : (t u : Term) (h a : ℕ) → h ≡ term_word (item x y) t → a ≡ term_word x.places u → SameConstant h a
      → Known x.places.names t → Known x.places.names u → Ranged t → Ranged u
      → place_outcome x links t (followed links x.values u) ≡ succeeds []
  same_agrees t u h a head goal e known goal_known ranged goal_ranged =
      go (constant_term (item x y) t h head e.constant) (constant_term x.places u a goal (rw e.equal at e.constant))
    where
      go : (c : Constant) × (t ≡ Term.constant c) → (k : Constant) × (u ≡ Term.constant k)
          → place_outcome x links t (followed links x.values u) ≡ succeeds []
      go (c, l) (k, r) =
          let head_word = rw l at head in
          let goal_word = rw r at goal in
          rw (l, r)
          (constants_agree c k (rw l at known) (rw r at goal_known) (rw l at ranged) (rw r at goal_ranged) (sym head_word ∙ e.equal ∙ goal_word))

  -- So do the arguments that are left, from the j-th on, of the head's compound m and the goal's compound l, if all are the same constants.
  pub ends_agree : (s : List ℕ) (m l j : ℕ) (heads goals : Terms) → HoldsFrom s (item x y) m j heads → HoldsFrom s x.places l j goals
      → AllKnown x.places.names heads → AllKnown x.places.names goals → AllRanged heads → AllRanged goals → count heads ≡ count goals
      → ((i : ℕ) → j ≤ i → i < j + count heads
      → SameConstant (get_or s (item_place (clause_base y.number) m + 1 + i) 0) (get_or s (x.places.compound l + 1 + i) 0))
      → places_outcome x links heads goals ≡ succeeds []
  unfolding HoldsFrom AllKnown AllRanged count places all_renamed and_then with_assignments
  ends_agree s m l j end end a b known goal_known ranged goal_ranged e same = refl
  ends_agree s m l j end (more u ts) a b known goal_known ranged goal_ranged e same = absurd (omega arith)
  ends_agree s m l j (more t us) end a b known goal_known ranged goal_ranged e same = absurd (omega arith)
  ends_agree s m l j (more t us) (more u ts) a b known goal_known ranged goal_ranged e same =
      rw (
        same_agrees t u (get_or s (item_place (clause_base y.number) m + 1 + j) 0) (get_or s (x.places.compound l + 1 + j) 0) a.0 b.0
            (same j (omega arith) (omega arith)) known.0 goal_known.0 ranged.0 goal_ranged.0,
        ends_agree s m l (j + 1) us ts a.2 b.2 known.1 goal_known.1 ranged.1 goal_ranged.1 (omega arith)
            (λ i low high. same i (omega arith) (omega arith)),
      )
