-- An item has no fault exactly if document 01's rules hold of the terms read from it.
-- For each variable the places where a half occurs are as many as its occurrences in the terms, by the readers' laws.
use Prim.Native.Nat.{ℕ, zero, suc, ◌+◌, ◌≤◌, ◌<◌, min}
use mathlib.Core.Path.{◌≡◌, refl, sym, ◌∙◌}
use mathlib.Core.Logic.{◌⊎◌, inl, inr}
use mathlib.Core.Bool.{Bool, true, false, ◌&&◌, ◌||◌}
use mathlib.Core.List.{List, [], ◌∷◌, ◌++◌}
use mathlib.Core.Option.{Option, none, some}
use native.Mathlib.Omega.{arith}
use lib.Dec.{leb, eqb}
use lib.ListN.{length}
use borrow.Author.Tests.{leb-true, le-leb, eqb-true, eq-eqb}
use Rattle.meaning.specs.Bytes.{Bytes, when◌then◌else◌, same, all, up_to}
use Rattle.meaning.specs.Terms.{Half, writer, reader, Named, all_occurrences, goals_occurrences}
use Rattle.meaning.specs.Tokens.{Token, Tokens, ends, token}
use Rattle.meaning.specs.Faults.{
  Broken,
  writer_alone,
  reader_alone,
  Fault,
  occurs_at,
  twice_faults,
  alone_faults,
  twice_of,
  alone_of,
  head_tokens,
  twice_in_clause,
  clause_faults,
  query_faults,
  least,
}
use Rattle.meaning.specs.Items.{Counted, is, place_of, onto, pieces}
use Rattle.laws.proofs.Lists.{
  In,
  in_none,
  in_cons_cases,
  here,
  there,
  Each,
  all_up_to,
  and_left,
  and_right,
  or_true,
  or_true_right,
  false_not_true,
  differ,
  if_holds,
  same_refl,
  same_true,
  Distinct,
}
use Rattle.laws.proofs.Reading.Rules.{nothing_twice, nothing_twice_but, both_halves}
use Rattle.laws.proofs.Reading.Counting.{place_below, placeless}
use Rattle.laws.proofs.Reading.Passed.{extends_refl, Cut, before_stop, behind_stop, never, by_number, by_number_never, Over}

-- Each piece of the tokens is cut behind its full stop.
onto_cut : (place : ℕ) (t : Token) (ps : List Tokens) → is "." t ≡ false → Each Cut ps → Each Cut (onto place t ps)
unfolding onto Cut when◌then◌else◌
onto_cut place t [] e h = tt
onto_cut place t (piece ∷ ps) e h = (rw e h.0, h.1)

pub pieces_cut : (ts : Tokens) → Each Cut (pieces ts)
unfolding pieces Cut
pieces_cut (ends place) = (tt, tt)
pieces_cut (token place t rest) =
    if_holds (Each Cut) (is "." t) (token place t (ends place) ∷ pieces rest) (onto place t (pieces rest))
    (λ e. (if_holds (λ (X : Type 0). X) (is "." t) _ _ (λ q. (place, refl)) (λ q. tt), pieces_cut rest))
    (λ e. onto_cut place t (pieces rest) e (pieces_cut rest))

-- An item's tokens up to its full stop: each half of each variable stands there as often as in what was read.
pub item_counts : (f : Half → ℕ → ℕ) (c d : Counted) (s rest : Tokens) → Over (before_stop never) (behind_stop f) c s d rest → Cut s
    → (h : Half) (x : Bytes) → length (occurs_at h x s) ≡ by_number (place_of x d.variables) (f h)
unfolding occurs_at
item_counts f c d s rest o cut h x =
    let (place, e) = o.shape cut in
    let all : by_number (place_of x d.variables) (never h) + length (occurs_at h x s)
    ≡ by_number (place_of x d.variables) (f h) + length (occurs_at h x rest) = o.counts d.variables (extends_refl d.variables) h x in
    let none_left : length (occurs_at h x rest) ≡ 0 = rw e refl in
    omega (arith, all, none_left, by_number_never (place_of x d.variables))

-- Spellings told apart: the n-th has place n, and each has a place.
pub spelling_at : (l : List Bytes) → Distinct l → (n : ℕ) → n < length l → (x : Bytes) × In x l × (place_of x l ≡ some n)
unfolding Distinct place_of
spelling_at [] d n below = absurd (omega arith)
spelling_at (y ∷ l) d zero below = (y, here refl, rw (same_refl y, place_of) refl)
spelling_at (y ∷ l) d (suc n) below = go (spelling_at l d.1 n (omega arith))
  where
    go : (x : Bytes) × In x l × (place_of x l ≡ some n) → (x : Bytes) × In x (y ∷ l) × (place_of x (y ∷ l) ≡ some (suc n))
    go (x, m, e) = (x, there m, by (same x y) refl)
      where
        by : (b : Bool) → same x y ≡ b → place_of x (y ∷ l) ≡ some (suc n)
        by true q = absurd (d.0 (rw (same_true x y q) at m))
        by false q = rw (q, e, place_of) refl

pub place_there : (x : Bytes) (l : List Bytes) → In x l → (n : ℕ) × (place_of x l ≡ some n)
place_there x l m = go (place_of x l) refl
  where
    go : (o : Option ℕ) → place_of x l ≡ o → (n : ℕ) × (place_of x l ≡ some n)
    go none e = absurd (placeless x l e m)
    go (some n) e = (n, e)

-- When a half has a fault, by how often it and its other half occur.
twice_none : (l : List ℕ) → twice_faults l ≡ [] → length l ≤ 1
unfolding twice_faults
twice_none [] e = omega arith
twice_none (first ∷ []) e = omega arith
twice_none (first ∷ second ∷ others) e = absurd (differ (cc))

twice_few : (l : List ℕ) → length l ≤ 1 → twice_faults l ≡ []
unfolding twice_faults
twice_few [] few = refl
twice_few (first ∷ []) few = refl
twice_few (first ∷ second ∷ others) few = absurd (omega arith)

alone_none : (b : Broken) (l m : List ℕ) → alone_faults b l m ≡ [] → 1 ≤ length l → 1 ≤ length m
unfolding alone_faults
alone_none b [] m e some_here = absurd (omega arith)
alone_none b (first ∷ others) [] e some_here = absurd (differ (cc))
alone_none b (first ∷ others) (their_first ∷ their_others) e some_here = omega arith

alone_both : (b : Broken) (l m : List ℕ) → (1 ≤ length l → 1 ≤ length m) → alone_faults b l m ≡ []
unfolding alone_faults
alone_both b [] m both = refl
alone_both b (first ∷ others) [] both = let never_both : 1 ≤ 0 = both (omega arith) in absurd (omega arith)
alone_both b (first ∷ others) (their_first ∷ their_others) both = refl

empty_both : (l m : List Fault) → l ++ m ≡ [] → (l ≡ []) × (m ≡ [])
empty_both [] m e = (refl, e)
empty_both (f ∷ l) m e = absurd (differ (cc))

-- One variable of an item.
module _ (piece : Tokens) (x : Bytes) where
  abbrev writers : ℕ
  writers = length (occurs_at writer x piece)

  abbrev readers : ℕ
  readers = length (occurs_at reader x piece)

  pub twice_of_none : twice_of piece x ≡ [] → (writers ≤ 1) × (readers ≤ 1)
  unfolding twice_of
  twice_of_none e =
      let (w, r) = empty_both (twice_faults (occurs_at writer x piece)) (twice_faults (occurs_at reader x piece)) e in
      (twice_none (occurs_at writer x piece) w, twice_none (occurs_at reader x piece) r)

  pub twice_of_few : writers ≤ 1 → readers ≤ 1 → twice_of piece x ≡ []
  unfolding twice_of
  twice_of_few w r = rw (twice_few (occurs_at writer x piece) w, twice_few (occurs_at reader x piece) r)

  pub alone_of_none : alone_of piece x ≡ [] → (1 ≤ writers → 1 ≤ readers) × (1 ≤ readers → 1 ≤ writers)
  unfolding alone_of
  alone_of_none e =
      let (w, r) = empty_both (alone_faults writer_alone (occurs_at writer x piece) (occurs_at reader x piece)) (alone_faults reader_alone (occurs_at reader x piece) (occurs_at writer x piece)) e in
      (alone_none writer_alone (occurs_at writer x piece) (occurs_at reader x piece) w, alone_none reader_alone (occurs_at reader x piece) (occurs_at writer x piece) r)

  pub alone_of_both : (1 ≤ writers → 1 ≤ readers) → (1 ≤ readers → 1 ≤ writers) → alone_of piece x ≡ []
  unfolding alone_of
  alone_of_both to from =
      rw (
        alone_both writer_alone (occurs_at writer x piece) (occurs_at reader x piece) to,
        alone_both reader_alone (occurs_at reader x piece) (occurs_at writer x piece) from,
      )

  -- In a clause, where its reader may be free.
  pub twice_in_clause_none : (free : Bool) → twice_in_clause free piece x ≡ []
      → (writers ≤ 1) × (length (occurs_at reader x (when free then head_tokens piece else piece)) ≤ 1)
  unfolding twice_in_clause
  twice_in_clause_none free e =
      let (w, r) = empty_both (twice_faults (occurs_at writer x piece)) (twice_faults (occurs_at reader x (when free then head_tokens piece else piece))) e in
      (twice_none (occurs_at writer x piece) w, twice_none (occurs_at reader x (when free then head_tokens piece else piece)) r)

  pub twice_in_clause_few : (free : Bool) → writers ≤ 1 → length (occurs_at reader x (when free then head_tokens piece else piece)) ≤ 1 → twice_in_clause free piece x ≡ []
  unfolding twice_in_clause
  twice_in_clause_few free w r = rw (twice_few (occurs_at writer x piece) w, twice_few (occurs_at reader x (when free then head_tokens piece else piece)) r)

module _ (free : Bytes → Bool) (piece : Tokens) where
  clause_each : (xs : List Bytes) → clause_faults free piece xs ≡ [] → (x : Bytes) → In x xs → (twice_in_clause (free x) piece x ≡ []) × (alone_of piece x ≡ [])
  unfolding clause_faults
  clause_each [] e x m = absurd (in_none m)
  clause_each (y ∷ xs) e x m =
      go (in_cons_cases m) (clause_each xs (empty_both (twice_in_clause (free y) piece y ++ alone_of piece y) (clause_faults free piece xs) e).1 x)
    where
      go : (x ≡ y) ⊎ In x xs → (In x xs → (twice_in_clause (free x) piece x ≡ []) × (alone_of piece x ≡ []))
          → (twice_in_clause (free x) piece x ≡ []) × (alone_of piece x ≡ [])
      go (inl q) further =
          rw q (empty_both (twice_in_clause (free y) piece y) (alone_of piece y)
          (empty_both (twice_in_clause (free y) piece y ++ alone_of piece y) (clause_faults free piece xs) e).0)
      go (inr q) further = further q

  clause_of_each : (xs : List Bytes) → ((x : Bytes) → In x xs → (twice_in_clause (free x) piece x ≡ []) × (alone_of piece x ≡ [])) → clause_faults free piece xs ≡ []
  unfolding clause_faults
  clause_of_each [] h = refl
  clause_of_each (y ∷ xs) h = rw ((h y (here refl)).0, (h y (here refl)).1, clause_of_each xs (λ x m. h x (there m)))

module _ (piece : Tokens) where
  query_each : (xs : List Bytes) → query_faults piece xs ≡ [] → (x : Bytes) → In x xs → twice_of piece x ≡ []
  unfolding query_faults
  query_each [] e x m = absurd (in_none m)
  query_each (y ∷ xs) e x m = go (in_cons_cases m) (query_each xs (empty_both (twice_of piece y) (query_faults piece xs) e).1 x)
    where
      go : (x ≡ y) ⊎ In x xs → (In x xs → twice_of piece x ≡ []) → twice_of piece x ≡ []
      go (inl q) further = rw q (empty_both (twice_of piece y) (query_faults piece xs) e).0
      go (inr q) further = further q

  query_of_each : (xs : List Bytes) → ((x : Bytes) → In x xs → twice_of piece x ≡ []) → query_faults piece xs ≡ []
  unfolding query_faults
  query_of_each [] h = refl
  query_of_each (y ∷ xs) h = rw (h y (here refl), query_of_each xs (λ x m. h x (there m)))

-- A test of all numbers below k.
all_last : (test : ℕ → Bool) (l : List ℕ) (n : ℕ) → all test l ≡ true → test n ≡ true → all test (l ++ (n ∷ [])) ≡ true
unfolding all
all_last test [] n e t = rw t refl
all_last test (m ∷ l) n e t =
    rw (and_left (test m) (all test l) e) (all_last test l n (and_right (test m) (all test l) e) t)

all_below : (test : ℕ → Bool) (k : ℕ) → ((n : ℕ) → n < k → test n ≡ true) → all test (up_to k) ≡ true
unfolding up_to all
all_below test zero h = refl
all_below test (suc k) h = all_last test (up_to k) k (all_below test k (λ n below. h n (omega arith))) (h k (omega arith))

both_true : (a b : Bool) → a ≡ true → b ≡ true → (a && b) ≡ true
both_true a b p q = rw (p, q) refl

-- An item whose variables are these, and whose tokens hold them as often as the terms read.
module _ (piece : Tokens) (xs : List Bytes) (gs : List Named) (distinct : Distinct xs)
    (counts : (h : Half) (x : Bytes) → length (occurs_at h x piece) ≡ by_number (place_of x xs) (λ n. goals_occurrences h n gs)) where
  pub at_number : (h : Half) (x : Bytes) (n : ℕ) → place_of x xs ≡ some n → length (occurs_at h x piece) ≡ goals_occurrences h n gs
  unfolding by_number
  at_number h x n e = rw e at (counts h x)

  few_below : ((x : Bytes) → In x xs → twice_of piece x ≡ []) → nothing_twice (length xs) gs ≡ true
  unfolding nothing_twice
  few_below clear =
      all_below (λ n. leb (goals_occurrences writer n gs) 1 && leb (goals_occurrences reader n gs) 1) (length xs) (λ n below.
      let (x, m, e) = spelling_at xs distinct n below in
      let (w, r) = twice_of_none piece x (clear x m) in
      both_true (leb (goals_occurrences writer n gs) 1) (leb (goals_occurrences reader n gs) 1)
      (le-leb (goals_occurrences writer n gs) 1 (rw (at_number writer x n e) at w))
      (le-leb (goals_occurrences reader n gs) 1 (rw (at_number reader x n e) at r)))

  below_few : nothing_twice (length xs) gs ≡ true → (x : Bytes) → In x xs → twice_of piece x ≡ []
  unfolding nothing_twice
  below_few test x m =
      let (n, e) = place_there x xs m in
      let both : (leb (goals_occurrences writer n gs) 1 && leb (goals_occurrences reader n gs) 1) ≡ true =
      all_up_to (λ n. leb (goals_occurrences writer n gs) 1 && leb (goals_occurrences reader n gs) 1) (length xs) test n (place_below x xs n e) in
      twice_of_few piece x
      (rw (at_number writer x n e) (leb-true (goals_occurrences writer n gs) 1 (and_left (leb (goals_occurrences writer n gs) 1) (leb (goals_occurrences reader n gs) 1) both)))
      (rw (at_number reader x n e) (leb-true (goals_occurrences reader n gs) 1 (and_right (leb (goals_occurrences writer n gs) 1) (leb (goals_occurrences reader n gs) 1) both)))

  -- A query has no fault exactly if nothing occurs twice in its goals.
  pub query_kept : query_faults piece xs ≡ [] → nothing_twice (length xs) gs ≡ true
  query_kept e = few_below (query_each piece xs e)

  pub query_clear : nothing_twice (length xs) gs ≡ true → query_faults piece xs ≡ []
  query_clear test = query_of_each piece xs (below_few test)

-- A clause, with what its head's tokens hold, and the readers that are free by their numbers.
module _ (free : Bytes → Bool) (piece : Tokens) (xs : List Bytes) (head : Named) (gs : List Named) (distinct : Distinct xs)
    (counts : (h : Half) (x : Bytes) → length (occurs_at h x piece) ≡ by_number (place_of x xs) (λ n. goals_occurrences h n (head ∷ gs)))
    (in_head : (h : Half) (x : Bytes) → length (occurs_at h x (head_tokens piece)) ≡ by_number (place_of x xs) (λ n. all_occurrences h n head.arguments))
    (licence : ℕ → Bool) (licences : (x : Bytes) (n : ℕ) → place_of x xs ≡ some n → free x ≡ licence n) where
  abbrev total : Half → ℕ → ℕ
  total h n = goals_occurrences h n (head ∷ gs)

  reads_so : (h : Half) (x : Bytes) (n : ℕ) → place_of x xs ≡ some n → length (occurs_at h x piece) ≡ total h n
  reads_so = at_number piece xs (head ∷ gs) distinct counts

  at_head : (h : Half) (x : Bytes) (n : ℕ) → place_of x xs ≡ some n → length (occurs_at h x (head_tokens piece)) ≡ all_occurrences h n head.arguments
  unfolding by_number
  at_head h x n e = rw e at (in_head h x)

  -- What the rule of 5 says of one pair.
  record OncePair (n : ℕ) : Type 0 where
    writers_once : total writer n ≤ 1
    head_once : all_occurrences reader n head.arguments ≤ 1
    readers_once : (licence n ≡ true) ⊎ (total reader n ≤ 1)

  once_pair : (x : Bytes) (n : ℕ) → place_of x xs ≡ some n → twice_in_clause (free x) piece x ≡ [] → OncePair n
  unfolding when◌then◌else◌ goals_occurrences
  once_pair x n e none_twice =
      let (w, r) = twice_in_clause_none piece x (free x) none_twice in go (free x) refl (rw (reads_so writer x n e) at w) r
    where
      go : (b : Bool) → free x ≡ b → total writer n ≤ 1 → length (occurs_at reader x (when free x then head_tokens piece else piece)) ≤ 1 → OncePair n
      go true q w r =
          record {
            writers_once = w;
            head_once = rw (q, at_head reader x n e) at r;
            readers_once = inl (sym (licences x n e) ∙ q);
          }
      go false q w r =
          let all : total reader n ≤ 1 = rw (q, reads_so reader x n e) at r in
          record { writers_once = w; head_once = omega arith; readers_once = inr all }

  pair_once : (x : Bytes) (n : ℕ) → place_of x xs ≡ some n → OncePair n → twice_in_clause (free x) piece x ≡ []
  unfolding when◌then◌else◌
  pair_once x n e once =
      twice_in_clause_few piece x (free x) (rw (reads_so writer x n e) once.writers_once) (go (free x) refl once.readers_once)
    where
      go : (b : Bool) → free x ≡ b → (licence n ≡ true) ⊎ (total reader n ≤ 1) → length (occurs_at reader x (when free x then head_tokens piece else piece)) ≤ 1
      go true q r = rw (q, at_head reader x n e) once.head_once
      go false q (inl r) = absurd (false_not_true (licence n) (sym (licences x n e) ∙ q) r)
      go false q (inr r) = rw (q, reads_so reader x n e) r

  -- The same as the tests say it, of all pairs.
  head_test : ℕ → Bool
  head_test n = leb (goals_occurrences writer n (head ∷ [])) 1 && leb (goals_occurrences reader n (head ∷ [])) 1

  all_test : ℕ → Bool
  all_test n = leb (total writer n) 1 && (licence n || leb (total reader n) 1)

  tests_hold : (n : ℕ) → OncePair n → (head_test n ≡ true) × (all_test n ≡ true)
  unfolding head_test all_test goals_occurrences
  tests_hold n once = (
    both_true (leb (goals_occurrences writer n (head ∷ [])) 1) (leb (goals_occurrences reader n (head ∷ [])) 1)
        (le-leb (goals_occurrences writer n (head ∷ [])) 1 (omega (arith, once.writers_once))) (le-leb (goals_occurrences reader n (head ∷ [])) 1 (omega (arith, once.head_once))),
    both_true (leb (total writer n) 1) (licence n || leb (total reader n) 1) (le-leb (total writer n) 1 once.writers_once) (either_true once.readers_once),
  )
    where
      either_true : (licence n ≡ true) ⊎ (total reader n ≤ 1) → (licence n || leb (total reader n) 1) ≡ true
      either_true (inl e) = rw e refl
      either_true (inr few) = or_true_right (licence n) (leb (total reader n) 1) (le-leb (total reader n) 1 few)

  hold_tests : (n : ℕ) → head_test n ≡ true → all_test n ≡ true → OncePair n
  unfolding head_test all_test goals_occurrences
  hold_tests n p q =
      record {
        writers_once = leb-true (total writer n) 1 (and_left (leb (total writer n) 1) (licence n || leb (total reader n) 1) q);
        head_once = omega (arith, leb-true (goals_occurrences reader n (head ∷ [])) 1 (and_right (leb (goals_occurrences writer n (head ∷ [])) 1) (leb (goals_occurrences reader n (head ∷ [])) 1) p));
        readers_once = one (or_true (licence n) (leb (total reader n) 1) (and_right (leb (total writer n) 1) (licence n || leb (total reader n) 1) q));
      }
    where
      one : (licence n ≡ true) ⊎ (leb (total reader n) 1 ≡ true) → (licence n ≡ true) ⊎ (total reader n ≤ 1)
      one (inl e) = inl e
      one (inr e) = inr (leb-true (total reader n) 1 e)

  -- A clause has no fault exactly if nothing occurs twice but the readers that are free, and a writer occurs exactly if its reader does.
  pub clause_kept : clause_faults free piece xs ≡ [] → (nothing_twice_but licence (length xs) head gs ≡ true) × (both_halves (length xs) (head ∷ gs) ≡ true)
  unfolding nothing_twice_but nothing_twice both_halves head_test all_test
  clause_kept e = (
    both_true (nothing_twice (length xs) (head ∷ [])) _ (all_below head_test (length xs) (λ n below. (tests_hold n (once n below)).0))
        (all_below all_test (length xs) (λ n below. (tests_hold n (once n below)).1)),
    all_below (λ n. eqb (min 1 (total writer n)) (min 1 (total reader n))) (length xs) (λ n below.
        let (x, m, p) = spelling_at xs distinct n below in
        let (wr, rw') = alone_of_none piece x (clause_each free piece xs e x m).1 in
        eq-eqb (min 1 (total writer n)) (min 1 (total reader n))
        (even (total writer n) (total reader n)
        (λ w. rw (reads_so reader x n p) at (wr (rw (reads_so writer x n p) w)))
        (λ r. rw (reads_so writer x n p) at (rw' (rw (reads_so reader x n p) r))))),
  )
    where
      once : (n : ℕ) → n < length xs → OncePair n
      once n below = let (x, m, p) = spelling_at xs distinct n below in once_pair x n p (clause_each free piece xs e x m).0

      even : (m n : ℕ) → (1 ≤ m → 1 ≤ n) → (1 ≤ n → 1 ≤ m) → min 1 m ≡ min 1 n
      even zero zero f g = refl
      even zero (suc n) f g = let p : 1 ≤ zero = g (omega arith) in absurd (omega arith)
      even (suc m) zero f g = let p : 1 ≤ zero = f (omega arith) in absurd (omega arith)
      even (suc m) (suc n) f g = omega arith

  pub clause_clear : nothing_twice_but licence (length xs) head gs ≡ true → both_halves (length xs) (head ∷ gs) ≡ true → clause_faults free piece xs ≡ []
  unfolding nothing_twice_but nothing_twice both_halves head_test all_test
  clause_clear test halves =
      clause_of_each free piece xs (λ x m.
      let (n, e) = place_there x xs m in
      let below = place_below x xs n e in
      let alike : min 1 (total writer n) ≡ min 1 (total reader n) =
      eqb-true (min 1 (total writer n)) (min 1 (total reader n)) (all_up_to (λ n. eqb (min 1 (total writer n)) (min 1 (total reader n))) (length xs) halves n below) in (
        pair_once x n e (hold_tests n (all_up_to head_test (length xs) (and_left (nothing_twice (length xs) (head ∷ [])) _ test) n below)
            (all_up_to all_test (length xs) (and_right (nothing_twice (length xs) (head ∷ [])) _ test) n below)),
        alone_of_both piece x
            (λ w. rw (reads_so reader x n e) (some_there (total writer n) (total reader n) alike (rw (reads_so writer x n e) at w)))
            (λ r. rw (reads_so writer x n e) (some_there (total reader n) (total writer n) (sym alike) (rw (reads_so reader x n e) at r))),
      ))
    where
      some_there : (m n : ℕ) → min 1 m ≡ min 1 n → 1 ≤ m → 1 ≤ n
      some_there m n e few = omega (arith, e)

-- There is a least fault exactly if there is one.
pub least_none : (l : List Fault) → least l ≡ none → l ≡ []
unfolding least
least_none [] e = refl
least_none (f ∷ l) e = absurd (differ (cc))
