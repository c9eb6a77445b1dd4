-- The chain of a bucket, walked for a key: the clauses passed have other keys. From a clause, the first with a writer where its procedure is told apart.
use Prim.Native.Nat.{ℕ, ◌+◌, ◌-◌, ◌≤◌, ◌<◌}
use mathlib.Core.Path.{◌≡◌, refl, sym, ap, ◌∙◌}
use mathlib.Core.Logic.{◌≢◌}
use mathlib.Core.List.{List}
use native.Mathlib.Decide.{dec_lt, ℕ_discrete}
use native.Mathlib.Omega.{arith}
use Rattle.std.specs.Prelude.{Option, None, Some}
use lib.ListN.{get_or}
use Rattle.term.specs.Layout.{clause_key_word, clause_open_word, clause_later_word}
use Rattle.term.specs.Words.{link_to}
use Rattle.run_index.specs.Index.{key_of, bucket_of, functor_of, FirstOf, HasKey, InBucket, ClauseIndexed, IndexedFrom, Indexed}
use Rattle.run_index.proofs.First.{first_itself, first_from}

-- A walk along the bucket of a key: of the clauses passed none has it, and the next is the first of the bucket behind them.
pub record Seeking (s : List ℕ) (key from clauses next : ℕ) : Type 0 where
  pub behind : ℕ
  pub began : from ≤ behind
  pub passed : (k : ℕ) → from ≤ k → k < behind → HasKey s key k → ⊥
  pub first : FirstOf (InBucket s (bucket_of key)) behind clauses next

-- How far such a walk can go.
abbrev pub to_go : Option ℕ → ℕ
to_go None = 0
to_go (Some k) = 256 - k

module _ (s : List ℕ) (key from clauses : ℕ) (indexed : IndexedFrom s from clauses) where
  pub seek_none : Seeking s key from clauses 0 → FirstOf (HasKey s key) from clauses 0
  seek_none w = record { none = λ e k a b h. at k a b h (dec_lt k w.behind); one = λ k e. absurd (omega arith) }
    where
      at : (k : ℕ) → from ≤ k → k < clauses → HasKey s key k → Dec (k < w.behind) → ⊥
      at k a b h (yes l) = w.passed k a l h
      at k a b h (no l) = w.first.none refl k (omega arith) b (ap bucket_of h)

  module _ (k : ℕ) (w : Seeking s key from clauses (k + 1)) where
    here : (w.behind ≤ k) × (k < clauses) × InBucket s (bucket_of key) k × ((i : ℕ) → w.behind ≤ i → i < k → InBucket s (bucket_of key) i → ⊥)
    here = w.first.one k refl

    pub seek_inside : k < 128
    seek_inside = omega (arith, here.1, indexed.few)

    entry : ClauseIndexed s clauses k
    entry = indexed.clause k (omega (arith, w.began, here.0)) here.1

    before : (i : ℕ) → from ≤ i → i < k → HasKey s key i → ⊥
    before i a b h = go (dec_lt i w.behind)
      where
        go : Dec (i < w.behind) → ⊥
        go (yes l) = w.passed i a l h
        go (no l) = here.3 i (omega arith) b (ap bucket_of h)

    pub seek_found : get_or s (clause_key_word k) 0 ≡ key → FirstOf (HasKey s key) from clauses (k + 1)
    seek_found e =
        first_from (HasKey s key) from k clauses (k + 1) (omega (arith, w.began, here.0)) before
        (first_itself (HasKey s key) k clauses here.1 (sym entry.key ∙ e))

    pub seek_on : get_or s (clause_key_word k) 0 ≢ key → Seeking s key from clauses (get_or s (clause_later_word k) 0)
    seek_on d = record {
      behind = k + 1;
      began = omega (arith, w.began, here.0);
      passed = λ i a b h. go i a b h (ℕ_discrete i k);
      first = rw here.2 at entry.later;
    }
      where
        go : (i : ℕ) → from ≤ i → i < k + 1 → HasKey s key i → Dec (i ≡ k) → ⊥
        go i a b h (yes e) = d (entry.key ∙ (rw e at h))
        go i a b h (no e) = before i a (omega arith) h

    -- The next one stands later, or there is none.
    pub seek_less : (next : Option ℕ) → link_to next ≡ get_or s (clause_later_word k) 0 → to_go next < to_go (Some k)
    seek_less None e = omega (arith, seek_inside)
    seek_less (Some m) e = let (later, few, in_bucket, none) = entry.later.one m (sym e) in omega (arith, seek_inside, indexed.few)

-- The first clause from clause k on that has a writer where its procedure is told apart.
module _ (s : List ℕ) (k functor clauses : ℕ) (indexed : Indexed s clauses) (inside : k < clauses) (is : functor ≡ functor_of s k) where
  entry_of : ClauseIndexed s clauses k
  entry_of = indexed.clause k (omega arith) inside

  pub open_later : get_or s (clause_key_word k) 0 ≢ key_of functor 0 → FirstOf (HasKey s (key_of functor 0)) k clauses (get_or s (clause_open_word k) 0)
  open_later d =
      first_from (HasKey s (key_of functor 0)) k (k + 1) clauses (get_or s (clause_open_word k) 0) (omega arith)
      (λ i low high own. let same : i ≡ k = omega arith in d (entry_of.key ∙ (rw same at own)))
      (rw (sym is) at entry_of.with_writer)
