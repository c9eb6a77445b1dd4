-- A clause joins the index: it is the first of its bucket, and before the clauses behind it; the keys of all clauses stay.
use Prim.Native.Nat.{ℕ, ◌+◌, ◌≤◌, ◌<◌}
use mathlib.Core.Path.{◌≡◌, refl, sym, ap, subst, ◌∙◌}
use mathlib.Core.Logic.{◌≢◌}
use mathlib.Core.List.{List}
use native.Mathlib.Decide.{ℕ_discrete}
use native.Mathlib.Omega.{arith}
use lib.ListN.{get_or}
use Rattle.term.specs.Layout.{clause_same_word, clause_open_word, clause_later_word, bucket_word}
use Rattle.run_index.specs.Index.{key_of, bucket_of, functor_of, first_of, own_key, FirstOf, HasKey, InBucket, ClauseIndexed, IndexedFrom}
use Rattle.run_index.specs.Building.{HeadsRead, ToldFits, NoneFirst, NoneTold, Put, Entering, Entered}
use Rattle.run_index.proofs.First.{first_itself, first_from, first_empty, first_map}
use Rattle.run_index.proofs.Building.{functor_kept, told_same, own_key_kept}

-- No clause is in the index yet.
pub none_indexed : (s : List ℕ) (clauses : ℕ) → HeadsRead s clauses → ToldFits s clauses → NoneFirst s → IndexedFrom s clauses clauses
none_indexed s clauses heads told first = record {
  few = heads.few;
  told = told;
  clause = λ k low high. absurd (omega arith);
  first = λ b h. first_empty (InBucket s b) clauses (get_or s (bucket_word b) 0) (first b h);
}

-- Nothing is told apart.
pub none_told_fits : (s : List ℕ) (clauses : ℕ) → HeadsRead s clauses → NoneTold s → ToldFits s clauses
none_told_fits s clauses heads none k l =
    let first = (heads.head k l).first in
    omega (arith, none (first_of s (functor_of s k)) first)

-- Clause k joins.
module _ {s s' : List ℕ} {clauses k own same opened : ℕ} (e : Entering s clauses k)
    (put : Put s s' k (bucket_of own) own same opened) (own_is : own ≡ own_key s k)
    (same_first : FirstOf (HasKey s own) (k + 1) clauses same) (opened_first : FirstOf (HasKey s (key_of (functor_of s k) 0)) (k + 1) clauses opened) where
  key_stays : (m : ℕ) → m < clauses → own_key s' m ≡ own_key s m
  key_stays m h = own_key_kept put.only put.told m (e.heads.head m h) (e.behind.told m h)

  -- The first with a key, or in a bucket.
  with_key : (a b from r t : ℕ) → a ≡ b → r ≡ t → FirstOf (HasKey s a) from clauses t → FirstOf (HasKey s' b) from clauses r
  with_key a b from r t f g h =
      rw g (first_map (HasKey s a) (HasKey s' b) from clauses t (λ m l p. key_stays m l ∙ p ∙ f) (λ m l p. sym (key_stays m l) ∙ p ∙ sym f) h)

  in_bucket : (a b from r t : ℕ) → a ≡ b → r ≡ t → FirstOf (InBucket s a) from clauses t → FirstOf (InBucket s' b) from clauses r
  in_bucket a b from r t f g h =
      rw g (first_map (InBucket s a) (InBucket s' b) from clauses t
      (λ m l p. ap bucket_of (key_stays m l) ∙ p ∙ f) (λ m l p. sym (ap bucket_of (key_stays m l)) ∙ p ∙ sym f) h)

  own_now : own ≡ own_key s' k
  own_now = own_is ∙ sym (key_stays k e.number)

  functor_stays : (m : ℕ) → key_of (functor_of s m) 0 ≡ key_of (functor_of s' m) 0
  functor_stays m = ap (λ w. key_of w 0) (sym (functor_kept put.only m))

  clause_joins : ClauseIndexed s' clauses k
  clause_joins = record {
    key = put.key_is ∙ own_now;
    same = with_key own (own_key s' k) (k + 1) (get_or s' (clause_same_word k) 0) same own_now put.same_is same_first;
    with_writer = with_key (key_of (functor_of s k) 0) (key_of (functor_of s' k) 0) (k + 1) (get_or s' (clause_open_word k) 0) opened
        (functor_stays k) put.opened_is opened_first;
    later = in_bucket (bucket_of own) (bucket_of (own_key s' k)) (k + 1) (get_or s' (clause_later_word k) 0) (get_or s (bucket_word (bucket_of own)) 0)
        (ap bucket_of own_now) put.later_is (e.behind.first (bucket_of own) (omega arith));
  }

  clause_stays : (m : ℕ) → k + 1 ≤ m → m < clauses → ClauseIndexed s' clauses m
  clause_stays m low high =
      let c = e.behind.clause m low high in
      let not : m ≢ k = λ z. omega arith in
      let keys = sym (key_stays m high) in
      record {
        key = put.others m 24 not (omega arith) ∙ c.key ∙ keys;
        same = with_key (own_key s m) (own_key s' m) (m + 1) (get_or s' (clause_same_word m) 0) (get_or s (clause_same_word m) 0)
            keys (put.others m 25 not (omega arith)) c.same;
        with_writer = with_key (key_of (functor_of s m) 0) (key_of (functor_of s' m) 0) (m + 1) (get_or s' (clause_open_word m) 0) (get_or s (clause_open_word m) 0)
            (functor_stays m) (put.others m 26 not (omega arith)) c.with_writer;
        later = in_bucket (bucket_of (own_key s m)) (bucket_of (own_key s' m)) (m + 1) (get_or s' (clause_later_word m) 0) (get_or s (clause_later_word m) 0)
            (ap bucket_of keys) (put.others m 27 not (omega arith)) c.later;
      }

  clause_now : (m : ℕ) → k ≤ m → m < clauses → ClauseIndexed s' clauses m
  clause_now m low high = go (ℕ_discrete m k)
    where
      go : Dec (m ≡ k) → ClauseIndexed s' clauses m
      go (yes z) = subst (ClauseIndexed s' clauses) (sym z) clause_joins
      go (no z) = clause_stays m (omega arith) high

  first_now : (b : ℕ) → b < 128 → FirstOf (InBucket s' b) k clauses (get_or s' (bucket_word b) 0)
  first_now b h = go (ℕ_discrete b (bucket_of own))
    where
      go : Dec (b ≡ bucket_of own) → FirstOf (InBucket s' b) k clauses (get_or s' (bucket_word b) 0)
      go (yes z) = subst (FirstOf (InBucket s' b) k clauses) (sym (ap (λ n. get_or s' (bucket_word n) 0) z ∙ put.first))
          (first_itself (InBucket s' b) k clauses e.number (ap bucket_of (sym own_now) ∙ sym z))
      go (no z) = first_from (InBucket s' b) k (k + 1) clauses (get_or s' (bucket_word b) 0) (omega arith)
          (λ i low high p. let same : i ≡ k = omega arith in z (sym (subst (InBucket s' b) same p) ∙ ap bucket_of (sym own_now)))
          (in_bucket b b (k + 1) (get_or s' (bucket_word b) 0) (get_or s (bucket_word b) 0) refl (put.buckets b z) (e.behind.first b h))

  told_now : ToldFits s' clauses
  told_now m h = rw (told_same put.only put.told m (e.heads.head m h), functor_kept put.only m) (e.behind.told m h)

  pub joined : Entered s s' clauses k
  joined = record { only = put.only; indexed = record { few = e.behind.few; told = told_now; clause = clause_now; first = first_now } }
