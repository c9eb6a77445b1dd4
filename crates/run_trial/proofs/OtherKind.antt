-- A head's term of another kind than the goal's at the same place fails, where the one is no writer and the other no variable; and with it the whole head.
use Prim.Native.Nat.{ℕ, ◌+◌, ◌≤◌, ◌<◌}
use mathlib.Core.Path.{◌≡◌, refl, sym, ap, subst, ◌∙◌}
use mathlib.Core.Bool.{Bool, true, false, ◌&&◌}
use mathlib.Core.Logic.{◌≢◌}
use mathlib.Core.List.{List}
use native.Mathlib.Omega.{arith}
use lib.Dec.{eqb}
use lib.ListN.{get_or}
use borrow.Author.Tests.{eqb-true, eqb-false, ne_eqb}
use Rattle.meaning.specs.Bytes.{when◌then◌else◌}
use Rattle.meaning.specs.Terms.{
  writer,
  reader,
  Constant,
  Functor,
  Term,
  Terms,
  end,
  more,
  count,
  same_constant,
  same_functor,
  renamed,
  all_renamed,
}
use Rattle.meaning.specs.Compare.{fails, place, places, and_then, followed}
use Rattle.laws.proofs.Trial.Needed.{and_then_failing}
use Rattle.term.specs.Words.{packed}
use Rattle.term.specs.Cells.{Places, term_word, functor_word, Known, AllKnown}
use Rattle.term.specs.Holds.{Holds, HoldsFrom}
use Rattle.term.specs.Setting.{Setting, Ranged, AllRanged}
use Rattle.term.specs.Layout.{followed_from}
use Rattle.run_chains.specs.Follow.{FollowedAt}
use Rattle.run_compare.proofs.Equal.{constants_equal, functors_equal}
use Rattle.run_index.specs.Index.{kind_of}
use Rattle.run_index.proofs.HeldKinds.{term_kind, kind_word}

-- Renaming keeps the number of arguments.
count_renamed : (p c : ℕ) (ts : Terms) → count (all_renamed p c ts) ≡ count ts
unfolding count all_renamed
count_renamed p c end = refl
count_renamed p c (more t ts) = omega (arith, count_renamed p c ts)

-- A term of a head and a term of a unit, of another kind: the head's is no writer, the unit's no variable.
pub record OtherKind (s : List ℕ) (item unit : Places) (u t : Term) : Type 0 where
  pub head_held : Holds s item u
  pub head_known : Known unit.names u
  pub head_ranged : Ranged u
  pub held : Holds s unit t
  pub known : Known unit.names t
  pub ranged : Ranged t
  pub closed : 2 < term_kind unit t
  pub no_writer : term_kind item u ≢ 0
  pub other : term_kind item u ≢ term_kind unit t

-- They fail at their place.
module _ (s : List ℕ) (item unit : Places) (one_names : item.names ≡ unit.names) where
  other_constant : (a k : Constant) → OtherKind s item unit (Term.constant a) (Term.constant k) → same_constant a k ≡ false
  unfolding Known Ranged
  other_constant a k o =
      sym (constants_equal unit item one_names a k o.head_known o.known o.head_ranged o.ranged)
      ∙ ne_eqb (term_word item (Term.constant a)) (term_word unit (Term.constant k)) o.other

  other_functor : (m n : ℕ) (g f : Functor) (us ts : Terms) → OtherKind s item unit (Term.compound m g us) (Term.compound n f ts)
      → (same_functor g f && eqb (count us) (count ts)) ≡ false
  unfolding Known Holds
  other_functor m n g f us ts o =
      sym (functors_equal unit item one_names g f (count us) (count ts) o.head_held.0.few o.held.0.few o.head_known.0 o.known.0)
      ∙ ne_eqb (functor_word item g (count us)) (functor_word unit f (count ts)) (λ e. o.other (ap (packed 6) e))

  pub other_fails : (look : Term → Term) (p c : ℕ) (u t : Term) → OtherKind s item unit u t → place look (renamed p c u) t ≡ fails
  unfolding place renamed when◌then◌else◌
  other_fails look p c (Term.variable writer x) (Term.variable writer z) o = refl
  other_fails look p c (Term.variable writer x) (Term.variable reader z) o = absurd (o.no_writer refl)
  other_fails look p c (Term.variable writer x) (Term.constant k) o = absurd (o.no_writer refl)
  other_fails look p c (Term.variable writer x) (Term.compound n f ts) o = absurd (o.no_writer refl)
  other_fails look p c (Term.variable reader x) (Term.variable writer z) o = absurd (omega (arith, o.closed))
  other_fails look p c (Term.variable reader x) (Term.variable reader z) o = refl
  other_fails look p c (Term.variable reader x) (Term.constant k) o = refl
  other_fails look p c (Term.variable reader x) (Term.compound n f ts) o = refl
  other_fails look p c (Term.constant a) (Term.variable writer z) o = absurd (omega (arith, o.closed))
  other_fails look p c (Term.constant a) (Term.variable reader z) o = absurd (omega (arith, o.closed))
  other_fails look p c (Term.constant a) (Term.constant k) o = rw (other_constant a k o) refl
  other_fails look p c (Term.constant a) (Term.compound n f ts) o = refl
  other_fails look p c (Term.compound m g us) (Term.variable writer z) o = absurd (omega (arith, o.closed))
  other_fails look p c (Term.compound m g us) (Term.variable reader z) o = absurd (omega (arith, o.closed))
  other_fails look p c (Term.compound m g us) (Term.constant k) o = refl
  other_fails look p c (Term.compound m g us) (Term.compound n f ts) o = rw (count_renamed p c us, other_functor m n g f us ts o) refl

-- The arguments of the head's compound m, and as many of a goal, which stand followed, from the i-th on.
module _ (s : List ℕ) (item : Places) (x : Setting) (one_names : item.names ≡ x.places.names) (links m : ℕ) where
  pub record Beside (i : ℕ) (us ts : Terms) : Type 0 where
    pub held : HoldsFrom s item m i us
    pub known : AllKnown x.places.names us
    pub ranged : AllRanged us
    pub stand : FollowedAt s x links i ts
    pub counts : count us ≡ count ts

  -- The n-th of them is of another kind, by the words.
  pub record OtherAt (n : ℕ) : Type 0 where
    pub closed : 2 < kind_of s (get_or s (followed_from + n) 0)
    pub no_writer : kind_of s (get_or s (item.compound m + 1 + n) 0) ≢ 0
    pub other : kind_of s (get_or s (item.compound m + 1 + n) 0) ≢ kind_of s (get_or s (followed_from + n) 0)

  others_first : (i : ℕ) (u t : Term) (us ts : Terms) → Beside i (more u us) (more t ts) → OtherAt i
      → OtherKind s item x.places u (followed links x.values t)
  unfolding HoldsFrom AllKnown AllRanged FollowedAt
  others_first i u t us ts b o =
      let end = followed links x.values t in
      let head_kind : kind_of s (get_or s (item.compound m + 1 + i) 0) ≡ term_kind item u = ap (kind_of s) b.held.0 ∙ kind_word s item u b.held.1 in
      let goal_kind : kind_of s (get_or s (followed_from + i) 0) ≡ term_kind x.places end =
      ap (kind_of s) b.stand.0 ∙ kind_word s x.places end b.stand.1.held in
      record {
        head_held = b.held.1;
        head_known = b.known.0;
        head_ranged = b.ranged.0;
        held = b.stand.1.held;
        known = b.stand.1.of.known;
        ranged = b.stand.1.of.ranged;
        closed = rw goal_kind at o.closed;
        no_writer = λ e. o.no_writer (head_kind ∙ e);
        other = λ e. o.other (head_kind ∙ e ∙ sym goal_kind);
      }

  beside_next : (i : ℕ) (u t : Term) (us ts : Terms) → Beside i (more u us) (more t ts) → Beside (i + 1) us ts
  unfolding HoldsFrom AllKnown AllRanged FollowedAt count
  beside_next i u t us ts b = record {
    held = b.held.2;
    known = b.known.1;
    ranged = b.ranged.1;
    stand = b.stand.2;
    counts = omega (arith, b.counts);
  }

  -- Then all fail: by the first, or by those behind it.
  either_fails : (p c i n : ℕ) (u t : Term) (us ts : Terms) → Beside i (more u us) (more t ts) → i ≤ n → OtherAt n
      → (i + 1 ≤ n → places (followed links x.values) (all_renamed p c us) ts ≡ fails)
      → (r : Bool) → eqb n i ≡ r
      → and_then (place (followed links x.values) (renamed p c u) (followed links x.values t))
      (places (followed links x.values) (all_renamed p c us) ts) ≡ fails
  unfolding and_then
  either_fails p c i n u t us ts b low o behind true e =
      let first : OtherAt i = subst OtherAt (eqb-true n i e) o in
      rw (other_fails s item x.places one_names (followed links x.values) p c u (followed links x.values t)
      (others_first i u t us ts b first)) refl
  either_fails p c i n u t us ts b low o behind false e =
      rw (behind (omega (arith, eqb-false n i e))) (and_then_failing (place (followed links x.values) (renamed p c u) (followed links x.values t)))

  pub others_fail : (p c i : ℕ) (us ts : Terms) → Beside i us ts → (n : ℕ) → i ≤ n → n < i + count us → OtherAt n
      → places (followed links x.values) (all_renamed p c us) ts ≡ fails
  unfolding places all_renamed count
  others_fail p c i end end b n low high o = absurd (omega arith)
  others_fail p c i end (more t ts) b n low high o = refl
  others_fail p c i (more u us) end b n low high o = refl
  others_fail p c i (more u us) (more t ts) b n low high o =
      either_fails p c i n u t us ts b low o (λ l. others_fail p c (i + 1) us ts (beside_next i u t us ts b) n l (omega arith) o) (eqb n i) refl
