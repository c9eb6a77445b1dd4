-- What the steps of building ask and change: setting words of the index, telling two clauses of one procedure apart, the clauses that have joined.
use Prim.Native.Nat.{ℕ, ◌+◌, ◌-◌, ◌≤◌, ◌<◌}
use mathlib.Core.Path.{◌≡◌, sym, ap, subst, ◌∙◌}
use mathlib.Core.Logic.{◌≢◌}
use mathlib.Core.List.{List}
use native.Mathlib.Decide.{dec_lt}
use native.Mathlib.Omega.{arith}
use Rattle.std.specs.Prelude.{Some}
use lib.ListN.{length, get_or, set}
use lib.Seq.{get_or-set_same, get_or-set_other}
use borrow.Author.Tests.{eq-eqb, ne_eqb}
use Rattle.meaning.specs.Bytes.{when◌then◌else◌}
use Rattle.term.specs.Layout.{compounds_region, index_from, clause_record, clause_head, bucket_word, told_word}
use Rattle.run_index.specs.Index.{kind_of, key_of, functor_of, first_of, told_by, own_key, IndexedFrom, IndexOnly}
use Rattle.run_index.specs.Building.{HeadsRead, OneRead, Alike, ToldFits, Telling, NextIs, Entering, Entered}
use Rattle.run_index.proofs.Building.{index_only_then, index_only_set, functor_kept, heads_kept, told_kept}

-- A word of a clause's record is set.
module _ (s s' : List ℕ) (k i v : ℕ) (e : s' ≡ set s (clause_record k + i) v) where
  pub set_other : (x : ℕ) → x ≢ clause_record k + i → get_or s' x 0 ≡ get_or s x 0
  set_other x not = ap (λ l. get_or l x 0) e ∙ get_or-set_other s (clause_record k + i) x v 0 not

  pub set_here : clause_record k + i < length s → get_or s' (clause_record k + i) 0 ≡ v
  set_here inside = ap (λ l. get_or l (clause_record k + i) 0) e ∙ get_or-set_same s (clause_record k + i) v 0 inside

  pub set_only : k < 128 → index_from ≤ i → i < 32 → IndexOnly s s'
  set_only number low high = subst (IndexOnly s) (sym e) (index_only_set s k i v number low high)

-- The first so many buckets have no clause, and nothing is told of the first so many clauses.
abbrev pub Cleared : List ℕ → ℕ → Type 0
Cleared s k = (a : ℕ) → a < k → (get_or s (bucket_word a) 0 ≡ 0) × (get_or s (told_word a) 0 ≡ 0)

pub cleared_next : (s t u : List ℕ) (k : ℕ) → k < 128 → compounds_region ≤ length s → IndexOnly s t
    → t ≡ set s (bucket_word k) 0 → u ≡ set t (told_word k) 0 → Cleared s k → Cleared u (k + 1)
cleared_next s t u k number inside only d e before a h = go (dec_lt a k)
  where
    go : Dec (a < k) → (get_or u (bucket_word a) 0 ≡ 0) × (get_or u (told_word a) 0 ≡ 0)
    go (yes l) = (
      set_other t u k 29 0 e (bucket_word a) (λ z. omega arith) ∙ set_other s t k 28 0 d (bucket_word a) (λ z. omega arith) ∙ (before a l).0,
      set_other t u k 29 0 e (told_word a) (λ z. omega arith) ∙ set_other s t k 28 0 d (told_word a) (λ z. omega arith) ∙ (before a l).1,
    )
    go (no l) =
        let same : a ≡ k = omega arith in
        rw same (
          set_other t u k 29 0 e (bucket_word k) (λ z. omega arith) ∙ set_here s t k 28 0 d (omega arith),
          set_here t u k 29 0 e (omega (arith, only.size)),
        )

-- The next clause of the procedure.
pub next_alike : {s : List ℕ} {clauses k : ℕ} (m : ℕ) → OneRead s clauses k → NextIs s clauses k (Some m) → Alike s k m
next_alike {s} {clauses} {k} m one (below, functor) =
    let few = one.heads.few in
    record {
      inside = one.heads.inside;
      number = omega (arith, one.number);
      other = omega arith;
      reads = one.heads.head k one.number;
      other_reads = one.heads.head m below;
      alike = functor;
    }

-- Telling: one after another, the count set.
pub telling_then : {s t u : List ℕ} {clauses : ℕ} → Telling s t clauses → Telling t u clauses → Telling s u clauses
telling_then a b = record { only = index_only_then a.only b.only; told = b.told; buckets = λ f. b.buckets (a.buckets f) }

module _ (s s' : List ℕ) (clauses : ℕ) (heads : HeadsRead s clauses) (fits : ToldFits s clauses) where
  pub count_telling : (k v : ℕ) → k < clauses → s' ≡ set s (clause_record k + 30) v → Telling s s' clauses
  count_telling k v number e =
      let few = heads.few in
      let only : IndexOnly s s' = set_only s s' k 30 v e (omega arith) (omega arith) (omega arith) in
      record {
        only = only;
        told = λ m h.
            let own = told_word (first_of s (functor_of s m)) in
            rw (told_kept only m (heads.head m h) (set_other s s' k 30 v e own (λ z. omega arith)), functor_kept only m) (fits m h);
        buckets = λ none b h. set_other s s' k 30 v e (bucket_word b) (λ z. omega arith) ∙ none b h;
      }

-- The key of a clause, by whether its procedure is told apart.
module _ (s : List ℕ) (k a : ℕ) (is : a ≡ told_by s (functor_of s k)) where
  pub key_untold : a ≡ 0 → own_key s k ≡ key_of (functor_of s k) 0
  unfolding own_key when◌then◌else◌
  key_untold none = rw (sym is, eq-eqb a 0 none)

  pub key_told : a ≢ 0 → own_key s k ≡ key_of (functor_of s k) (kind_of s (get_or s (clause_head k + a) 0))
  unfolding own_key when◌then◌else◌
  key_told some = rw (sym is, ne_eqb a 0 some)

-- The clauses from k on have joined.
pub entered_then : {s t u : List ℕ} {clauses k m : ℕ} → Entered s t clauses k → Entered t u clauses m → Entered s u clauses m
entered_then a b = record { only = index_only_then a.only b.only; indexed = b.indexed }

pub entering_next : {s t : List ℕ} {clauses : ℕ} (k : ℕ) → HeadsRead s clauses → 0 < k → k ≤ clauses → Entered s t clauses k → Entering t clauses (k - 1)
entering_next {s} {t} {clauses} k heads some few a =
    let number : k ≡ k - 1 + 1 = omega arith in
    record {
      heads = heads_kept a.only clauses heads;
      number = omega arith;
      behind = subst (λ n. IndexedFrom t n clauses) number a.indexed;
    }
