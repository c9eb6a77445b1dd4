-- The queries' records added up are what the definitions charge them.
use Prim.Native.Nat.{ℕ, zero, suc, ◌+◌, ◌*◌, ◌≤◌, ◌<◌}
use mathlib.Core.Path.{◌≡◌, refl, sym, ap, ◌∙◌}
use mathlib.Core.Bool.{Bool, true, false, ◌&&◌}
use mathlib.Core.List.{List, [], ◌∷◌}
use native.Mathlib.Omega.{arith}
use lib.Dec.{leb}
use lib.ListN.{length, get_or, length-append, length-map}
use borrow.Author.Tests.{leb-true, leb-false}
use Rattle.meaning.specs.Bytes.{Bytes}
use Rattle.meaning.specs.Terms.{Query, Job}
use Rattle.meaning.specs.State.{Room, query_pairs, query_compounds, goals_at, from_query, all_goals, start, number_of}
use Rattle.meaning.specs.Run.{within, queries_fit}
use Rattle.term.specs.Jobs.{EachFrom, HoldsQuery, HoldsJob}
use Rattle.term.specs.Layout.{query_record, query_pairs_word, query_compounds_word}
use Rattle.run_enter.specs.Entering.{record_sum}

-- From query k on.
unfoldable sum_from : List ℕ → ℕ → ℕ → ℕ → ℕ
sum_from s at k zero = 0
sum_from s at k (suc n) = get_or s (query_record k + at) 0 + sum_from s at (k + 1) n

sum_shift : (s : List ℕ) (at k n : ℕ) → sum_from s at k (suc n) ≡ sum_from s at k n + get_or s (query_record (k + n) + at) 0
unfolding sum_from
sum_shift s at k zero =
    let e : k + 0 ≡ k = omega arith in
    rw e (omega arith)
sum_shift s at k (suc n) =
    let h = sum_shift s at (k + 1) n in
    let e : k + suc n ≡ k + 1 + n = omega arith in
    rw e (omega (arith, h))

sum_is : (s : List ℕ) (at n : ℕ) → record_sum s at n ≡ sum_from s at 0 n
unfolding record_sum sum_from
sum_is s at zero = refl
sum_is s at (suc n) =
    let e : 0 + n ≡ n = omega arith in
    let h = rw e at (sum_shift s at 0 n) in
    ap (λ m. m + get_or s (query_record n + at) 0) (sum_is s at n) ∙ sym h

pub sum_small : (s : List ℕ) (at n : ℕ) → ((q : ℕ) → q < n → get_or s (query_record q + at) 0 ≤ 32) → record_sum s at n ≤ 32 * n
unfolding record_sum
sum_small s at zero h = omega arith
sum_small s at (suc n) h = omega (arith, h n (omega arith), sum_small s at n (λ q l. h q (omega arith)))

module _ (s : List ℕ) (names : List Bytes) where
  pairs_from : (k : ℕ) (qs : List Query) → EachFrom (HoldsQuery s names) k qs → sum_from s 1 k (length qs) ≡ query_pairs qs
  unfolding sum_from query_pairs EachFrom
  pairs_from k [] h = refl
  pairs_from k (q ∷ qs) h = omega (arith, h.0.pairs, pairs_from (k + 1) qs h.1)

  compounds_from : (k : ℕ) (qs : List Query) → EachFrom (HoldsQuery s names) k qs → sum_from s 2 k (length qs) ≡ query_compounds qs
  unfolding sum_from query_compounds EachFrom
  compounds_from k [] h = refl
  compounds_from k (q ∷ qs) h = omega (arith, h.0.compounds, compounds_from (k + 1) qs h.1)

  goals_from : (k place : ℕ) (qs : List Query) → EachFrom (HoldsQuery s names) k qs → sum_from s 0 k (length qs) ≡ length (all_goals place qs)
  unfolding sum_from all_goals goals_at EachFrom
  goals_from k place [] h = refl
  goals_from k place (q ∷ qs) h =
      let size : length (goals_at from_query place q.goals) ≡ length q.goals = length-map q.goals (λ g. record { query = place; goal = g; origin = from_query }) in
      let all : length (all_goals place (q ∷ qs)) ≡ length (goals_at from_query place q.goals) + length (all_goals (suc place) qs) =
      length-append (goals_at from_query place q.goals) (all_goals (suc place) qs) in
      let plain : query_record k + 0 ≡ query_record k = omega arith in
      let word : get_or s (query_record k + 0) 0 ≡ get_or s (query_record k) 0 = ap (λ n. get_or s n 0) plain in
      omega (arith, h.0.goals, goals_from (k + 1) (suc place) qs h.1, all, word, size)

  -- A query's counts are small.
  small_from : (k : ℕ) (qs : List Query) → EachFrom (HoldsQuery s names) k qs → (q : ℕ) → k ≤ q → q < k + length qs
      → (get_or s (query_record q) 0 ≤ 32) × (get_or s (query_pairs_word q) 0 ≤ 32) × (get_or s (query_compounds_word q) 0 ≤ 32)
  unfolding EachFrom
  small_from k [] h q l m = absurd (omega arith)
  small_from k (x ∷ qs) h q l m = go (leb q k) refl (λ below. small_from (k + 1) qs h.1 q (omega arith) (omega arith))
    where
      go : (b : Bool) → leb q k ≡ b
          → (k < q → (get_or s (query_record q) 0 ≤ 32) × (get_or s (query_pairs_word q) 0 ≤ 32) × (get_or s (query_compounds_word q) 0 ≤ 32))
          → (get_or s (query_record q) 0 ≤ 32) × (get_or s (query_pairs_word q) 0 ≤ 32) × (get_or s (query_compounds_word q) 0 ≤ 32)
      go true e further =
          let same : q ≡ k = omega (arith, leb-true q k e) in
          rw same (omega (arith, h.0.goals, h.0.laid.few_goals), omega (arith, h.0.pairs, h.0.laid.few_pairs), omega (arith, h.0.compounds, h.0.laid.few_compounds))
      go false e further = further (leb-false q k e)

module _ (s : List ℕ) (names : List Bytes) (j : Job) (h : HoldsJob s names j) where
  pub sum_pairs : record_sum s 1 (length j.queries) ≡ query_pairs j.queries
  sum_pairs = sum_is s 1 (length j.queries) ∙ pairs_from s names 0 j.queries h.queries

  pub sum_compounds : record_sum s 2 (length j.queries) ≡ query_compounds j.queries
  sum_compounds = sum_is s 2 (length j.queries) ∙ compounds_from s names 0 j.queries h.queries

  pub sum_goals : record_sum s 0 (length j.queries) ≡ length (all_goals 0 j.queries)
  sum_goals = sum_is s 0 (length j.queries) ∙ goals_from s names 0 0 j.queries h.queries

  pub small_counts : (q : ℕ) → q < length j.queries
      → (get_or s (query_record q) 0 ≤ 32) × (get_or s (query_pairs_word q) 0 ≤ 32) × (get_or s (query_compounds_word q) 0 ≤ 32)
  small_counts q l = small_from s names 0 j.queries h.queries q (omega arith) (omega arith)

-- The test, figure by figure.
true_if : (a b : ℕ) → a ≤ b → leb a b ≡ true
true_if a b l = go (leb a b) refl
  where
    go : (t : Bool) → leb a b ≡ t → t ≡ true
    go true e = refl
    go false e = absurd (omega (arith, leb-false a b e))

false_if : (a b : ℕ) → b < a → leb a b ≡ false
false_if a b l = go (leb a b) refl
  where
    go : (t : Bool) → leb a b ≡ t → t ≡ false
    go true e = absurd (omega (arith, leb-true a b e))
    go false e = refl

and_false : (b c : Bool) → false ≡ ((b && false) && c)
and_false true c = refl
and_false false c = refl

module _ (figures : Room) (queries : List Query) where
  goals_are : number_of (start queries).goals ≡ length (all_goals 0 queries)
  unfolding number_of start
  goals_are = omega arith

  pub fit_no_pairs : figures.pairs < query_pairs queries → false ≡ queries_fit figures queries
  unfolding queries_fit within start
  fit_no_pairs l = rw (false_if (query_pairs queries) figures.pairs l) refl

  pub fit_no_compounds : figures.compounds < query_compounds queries → false ≡ queries_fit figures queries
  unfolding queries_fit within start
  fit_no_compounds l =
      rw (false_if (query_compounds queries) figures.compounds l) (and_false (leb (query_pairs queries) figures.pairs) _)

  pub fit_goals : query_pairs queries ≤ figures.pairs → query_compounds queries ≤ figures.compounds
      → leb (length (all_goals 0 queries)) figures.goals ≡ queries_fit figures queries
  unfolding queries_fit within start
  fit_goals p c =
      rw (true_if (query_pairs queries) figures.pairs p, true_if (query_compounds queries) figures.compounds c)
      (ap (λ n. leb n figures.goals) (sym goals_are))
