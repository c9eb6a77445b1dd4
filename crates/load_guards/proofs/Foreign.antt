-- A variable that a guard must not have, by the tables' counts: no writer, and no reader of a pair whose writer is not in the head.
use Prim.Native.Nat.{ℕ, zero, suc, ◌+◌, ◌≤◌, ◌<◌, min}
use mathlib.Core.Path.{◌≡◌, refl, sym, ap, ◌∙◌}
use mathlib.Core.Bool.{Bool, true, false, not, ◌&&◌, ◌||◌}
use mathlib.Core.List.{List, [], ◌∷◌}
use mathlib.Core.Option.{Option, none, some}
use native.Mathlib.Nat.{zero-add}
use native.Mathlib.Omega.{arith}
use Rattle.std.specs.Prelude.{nat_eq}
use Rattle.std.specs.List.{list_any, list_all, range_with_len}
use lib.Dec.{leb, eqb}
use lib.ListN.{get_or}
use borrow.Author.Tests.{ne_eqb, le-leb}
use Rattle.meaning.specs.Bytes.{all, up_to}
use Rattle.meaning.specs.Terms.{Half, writer, reader, Named, Guard, as_term, occurrences, all_occurrences}
use Rattle.meaning.specs.Table.{Element, as_guard, as_guards, with_guard, of_the_head}
use Rattle.laws.proofs.Lists.Tests.{differ}
use Rattle.load_names.proofs.Tallies.{all_suc, all_counted, swap_and}
use Rattle.load_openings.specs.Reading.{half_place}
use Rattle.load_elements.specs.Elements.{element_occurrences, elements_occurrences}
use Rattle.load_guards.specs.Judged.{head_place, Counts}
use Rattle.load_guards.proofs.Rows.{AsIs, as_whole, as_bare, as_equals, as_is}

-- What the tables say of one pair: another variable is a writer, or a reader whose writer is not in the head.
abbrev pub foul : List ℕ → List ℕ → ℕ → Bool
foul item heads n = not (nat_eq (get_or item (32 + n) 0) 0) || (not (nat_eq (get_or item (48 + n) 0) 0) && nat_eq (get_or heads n 0) 0)

-- How often a half occurs in the guards, which is how often in the elements.
occurs : Half → ℕ → List Guard → ℕ
occurs h n [] = 0
occurs h n (g ∷ gs) = all_occurrences h n g.arguments + occurs h n gs

element_counts : (h : Half) (n : ℕ) {e : Element} {g : Guard} → AsIs e g → element_occurrences h n e ≡ all_occurrences h n g.arguments
unfolding element_occurrences occurrences all_occurrences as_term
element_counts h n (as_whole g r l c) = refl
element_counts h n (as_bare f) = refl
element_counts h n (as_equals m t u) = omega arith

elements_count : (h : Half) (n : ℕ) (es : List Element) (gs : List Guard) → as_guards es ≡ some gs → elements_occurrences h n es ≡ occurs h n gs
unfolding elements_occurrences as_guards with_guard occurs
elements_count h n [] gs e = let none_there : gs ≡ [] = cc in rw none_there refl
elements_count h n (x ∷ es) gs e = go (as_guard x) refl (as_guards es) refl e (elements_count h n es)
  where
    go : (o : Option Guard) → as_guard x ≡ o → (p : Option (List Guard)) → as_guards es ≡ p → with_guard o p ≡ some gs
        → ((hs : List Guard) → as_guards es ≡ some hs → elements_occurrences h n es ≡ occurs h n hs)
        → element_occurrences h n x + elements_occurrences h n es ≡ occurs h n gs
    go none q p r f further = absurd (differ (cc))
    go (some g) q none r f further = absurd (differ (cc))
    go (some g) q (some others) r f further =
        let all_are : gs ≡ g ∷ others = cc in
        rw (all_are, element_counts h n (as_is x g q), further others r) refl

-- Of one pair over all guards.
module _ (head : Named) where
  sees : ℕ → Guard → Bool
  sees n g = eqb (all_occurrences writer n g.arguments) 0 && (eqb (all_occurrences reader n g.arguments) 0 || leb 1 (all_occurrences writer n head.arguments))

  sum_none : (a b : ℕ) → eqb (a + b) 0 ≡ (eqb a 0 && eqb b 0)
  sum_none zero b = rw (zero-add b) refl
  sum_none (suc a) b = ne_eqb (suc a + b) 0 (λ q. omega arith) ∙ rw (ne_eqb (suc a) 0 (λ q. omega arith)) refl

  regroup : (a b c d e : Bool) → ((a && c) && ((b && d) || e)) ≡ ((a && (b || e)) && (c && (d || e)))
  regroup true true true d e = refl
  regroup true true false d e = refl
  regroup true false true true e = go e
    where
      go : (e : Bool) → e ≡ (e && true)
      go true = refl
      go false = refl
  regroup true false true false true = refl
  regroup true false true false false = refl
  regroup true false false d true = refl
  regroup true false false d false = refl
  regroup false b c d e = refl

  all_see : (n : ℕ) (gs : List Guard) → all (sees n) gs ≡ (eqb (occurs writer n gs) 0 && (eqb (occurs reader n gs) 0 || leb 1 (all_occurrences writer n head.arguments)))
  unfolding all occurs sees
  all_see n [] = refl
  all_see n (g ∷ gs) =
      rw (all_see n gs, sum_none (all_occurrences writer n g.arguments) (occurs writer n gs), sum_none (all_occurrences reader n g.arguments) (occurs reader n gs))
      (sym (regroup (eqb (all_occurrences writer n g.arguments) 0) (eqb (all_occurrences reader n g.arguments) 0) (eqb (occurs writer n gs) 0)
      (eqb (occurs reader n gs) 0) (leb 1 (all_occurrences writer n head.arguments))))

  -- Each guard for all pairs, or each pair for all guards.
  both_ways : (pairs : ℕ) (gs : List Guard) → all (of_the_head pairs head) gs ≡ all (λ n. all (sees n) gs) (up_to pairs)
  unfolding all of_the_head sees up_to
  both_ways zero gs = no_pair gs
    where
      no_pair : (gs : List Guard) → all (of_the_head 0 head) gs ≡ true
      no_pair [] = refl
      no_pair (g ∷ gs) = no_pair gs
  both_ways (suc pairs) gs = one_more gs ∙ rw (both_ways pairs gs) (sym (all_suc (λ n. all (sees n) gs) pairs))
    where
      one_more : (gs : List Guard) → all (of_the_head (suc pairs) head) gs ≡ (all (of_the_head pairs head) gs && all (sees pairs) gs)
      one_more [] = refl
      one_more (g ∷ gs) =
          rw (one_more gs, all_suc (λ n. sees n g) pairs) (swap_and (of_the_head pairs head g) (sees pairs g) (all (of_the_head pairs head) gs) (all (sees pairs) gs))

-- Tests that agree below n agree over all numbers below n.
all_same : (f g : ℕ → Bool) (n : ℕ) → ((k : ℕ) → k < n → f k ≡ g k) → all f (up_to n) ≡ all g (up_to n)
unfolding up_to all
all_same f g zero h = refl
all_same f g (suc n) h = rw (all_suc f n, all_suc g n, all_same f g n (λ k l. h k (omega arith)), h n (omega arith)) refl

none_capped : (x : ℕ) → eqb (min 2 x) 0 ≡ eqb x 0
none_capped zero = refl
none_capped (suc x) = ne_eqb (min 2 (suc x)) 0 (λ q. omega arith) ∙ sym (ne_eqb (suc x) 0 (λ q. omega arith))

some_there : (x : ℕ) → not (eqb x 0) ≡ leb 1 x
some_there zero = refl
some_there (suc x) = rw (ne_eqb (suc x) 0 (λ q. omega arith), le-leb 1 (suc x) (omega arith)) refl

not_foul : (a b : Bool) (x : ℕ) → not (not a || (not b && eqb x 0)) ≡ (a && (b || leb 1 x))
not_foul true true x = refl
not_foul true false x = some_there x
not_foul false b x = refl

any_not : (p : ℕ → Bool) (xs : List ℕ) → list_any p xs ≡ not (list_all (λ n. not (p n)) xs)
any_not p [] = refl
any_not p (x ∷ xs) = rw (any_not p xs) (go (p x))
  where
    go : (b : Bool) → (b || not (list_all (λ n. not (p n)) xs)) ≡ not (not b && list_all (λ n. not (p n)) xs)
    go true = refl
    go false = refl

pub any_foul : (item heads : List ℕ) (pairs : ℕ) → pairs ≤ 16 → (head : Named) (es : List Element) (gs : List Guard) → Counts item heads head es → as_guards es ≡ some gs
    → list_any (foul item heads) (range_with_len 0 pairs) ≡ not (all (of_the_head pairs head) gs)
unfolding half_place head_place
any_foul item heads pairs few head es gs c e =
    any_not (foul item heads) (range_with_len 0 pairs)
    ∙ ap not
    (all_counted (λ n. not (foul item heads n)) pairs
    ∙ all_same (λ n. not (foul item heads n)) (λ n. all (sees head n) gs) pairs
    (λ n l.
    rw (
      c.in_elements writer n (omega arith),
      c.in_elements reader n (omega arith),
      c.in_head writer n (omega arith),
      none_capped (elements_occurrences writer n es),
      none_capped (elements_occurrences reader n es),
      none_capped (all_occurrences writer n head.arguments),
      elements_count writer n es gs e,
      elements_count reader n es gs e,
    )
    (not_foul (eqb (occurs writer n gs) 0) (eqb (occurs reader n gs) 0) (all_occurrences writer n head.arguments) ∙ sym (all_see head n gs)))
    ∙ sym (both_ways head pairs gs))
