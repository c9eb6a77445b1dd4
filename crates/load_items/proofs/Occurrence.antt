-- The occurrence rules by the table's counts: of each half `min 2` of how often it occurs, which tells once from twice.
use Prim.Native.Nat.{ℕ, zero, suc, ◌≤◌, ◌<◌, min}
use mathlib.Core.Path.{◌≡◌, refl}
use mathlib.Core.Bool.{Bool, true, false, ◌&&◌, ◌||◌}
use mathlib.Core.List.{List, [], ◌∷◌}
use native.Mathlib.Omega.{arith}
use lib.Dec.{leb, eqb}
use lib.ListN.{get_or}
use borrow.Author.Tests.{leb-true, leb-false, le-leb, lt-leb}
use Rattle.meaning.specs.Bytes.{all, up_to, when◌then◌else◌}
use Rattle.meaning.specs.Terms.{Half, writer, reader, Named, all_occurrences, goals_occurrences}
use Rattle.laws.proofs.Reading.Rules.{nothing_twice, nothing_twice_but, both_halves}
use Rattle.load_openings.specs.Reading.{half_place}
use Rattle.load_names.specs.Rules.{once, none_twice, once_in_head, once_unless, both_or_none, clause_kept}
use Rattle.load_names.proofs.Tallies.{all_suc}
use Rattle.load_guards.specs.Judged.{head_place}

-- Tests that agree below n agree over all numbers below n.
all_same : (f g : ℕ → Bool) (n : ℕ) → ((k : ℕ) → k < n → f k ≡ g k) → all f (up_to n) ≡ all g (up_to n)
unfolding up_to all
all_same f g zero h = refl
all_same f g (suc n) h =
    rw (all_suc f n, all_suc g n, all_same f g n (λ k l. h k (omega arith)), h n (omega arith))

one_by : (x : ℕ) (b : Bool) → leb x 1 ≡ b → leb (min 2 x) 1 ≡ b
one_by x true h = le-leb (min 2 x) 1 (omega (arith, leb-true x 1 h))
one_by x false h = lt-leb (min 2 x) 1 (omega (arith, leb-false x 1 h))

one : (x : ℕ) → leb (min 2 x) 1 ≡ leb x 1
one x = one_by x (leb x 1) refl

module _ (item : List ℕ) (gs : List Named) (pairs : ℕ) (few : pairs ≤ 16)
    (halves : (h : Half) (n : ℕ) → n < 16 → get_or item (half_place h n) 0 ≡ min 2 (goals_occurrences h n gs)) where
  pub twice_is : none_twice item pairs ≡ nothing_twice pairs gs
  unfolding none_twice nothing_twice once half_place
  twice_is =
      all_same (once item) (λ n. leb (goals_occurrences writer n gs) 1 && leb (goals_occurrences reader n gs) 1) pairs
      (λ n l. rw (halves writer n (omega arith), halves reader n (omega arith), one (goals_occurrences writer n gs), one (goals_occurrences reader n gs)))

-- The same of a clause: with its head counted apart, and the readers that its guards license.
two_one : (x : ℕ) → min 1 (min 2 x) ≡ min 1 x
two_one x = omega arith

flagged : (b : Bool) (x : ℕ) → x ≡ (when b then 1 else 0) → leb 1 x ≡ b
unfolding when◌then◌else◌
flagged true x e = rw e refl
flagged false x e = rw e refl

module _ (item heads licensed : List ℕ) (head : Named) (gs : List Named) (licence : ℕ → Bool) (pairs : ℕ) (few : pairs ≤ 16)
    (halves : (h : Half) (n : ℕ) → n < 16 → get_or item (half_place h n) 0 ≡ min 2 (goals_occurrences h n (head ∷ gs)))
    (in_head : (h : Half) (n : ℕ) → n < 16 → get_or heads (head_place h n) 0 ≡ min 2 (all_occurrences h n head.arguments))
    (licences : (n : ℕ) → n < 16 → get_or licensed n 0 ≡ (when licence n then 1 else 0)) where
  head_is : all (once_in_head heads) (up_to pairs) ≡ nothing_twice pairs (head ∷ [])
  unfolding nothing_twice once_in_head head_place goals_occurrences
  head_is =
      all_same (once_in_head heads) (λ n. leb (goals_occurrences writer n (head ∷ [])) 1 && leb (goals_occurrences reader n (head ∷ [])) 1) pairs
      (λ n l.
      let w : min 2 (all_occurrences writer n head.arguments) ≡ min 2 (goals_occurrences writer n (head ∷ [])) = omega arith in
      let r : min 2 (all_occurrences reader n head.arguments) ≡ min 2 (goals_occurrences reader n (head ∷ [])) = omega arith in
      rw (in_head writer n (omega arith), in_head reader n (omega arith), w, r, one (goals_occurrences writer n (head ∷ [])), one (goals_occurrences reader n (head ∷ []))))

  unless_is : all (once_unless item licensed) (up_to pairs)
      ≡ all (λ n. leb (goals_occurrences writer n (head ∷ gs)) 1 && (licence n || leb (goals_occurrences reader n (head ∷ gs)) 1)) (up_to pairs)
  unfolding once_unless half_place
  unless_is =
      all_same (once_unless item licensed) (λ n. leb (goals_occurrences writer n (head ∷ gs)) 1 && (licence n || leb (goals_occurrences reader n (head ∷ gs)) 1)) pairs
      (λ n l. rw (
        halves writer n (omega arith),
        halves reader n (omega arith),
        one (goals_occurrences writer n (head ∷ gs)),
        one (goals_occurrences reader n (head ∷ gs)),
        flagged (licence n) (get_or licensed n 0) (licences n (omega arith)),
      ))

  both_is : all (both_or_none item) (up_to pairs) ≡ both_halves pairs (head ∷ gs)
  unfolding both_or_none both_halves half_place
  both_is =
      all_same (both_or_none item) (λ n. eqb (min 1 (goals_occurrences writer n (head ∷ gs))) (min 1 (goals_occurrences reader n (head ∷ gs)))) pairs
      (λ n l. rw (
        halves writer n (omega arith),
        halves reader n (omega arith),
        two_one (goals_occurrences writer n (head ∷ gs)),
        two_one (goals_occurrences reader n (head ∷ gs)),
      ))

  pub clause_kept_is : clause_kept item heads licensed pairs ≡ (nothing_twice_but licence pairs head gs && both_halves pairs (head ∷ gs))
  unfolding clause_kept nothing_twice_but
  clause_kept_is = rw (head_is, unless_is, both_is) refl
