-- The index stays where the job is held still and the words of procedures and clauses stay: a clause's key reads no others but those of its head, which are the
-- job's.
use Prim.Native.Nat.{ℕ, zero, suc, ◌+◌, ◌-◌, ◌≤◌, ◌<◌}
use mathlib.Core.Path.{◌≡◌, refl, sym, ap, ◌∙◌}
use mathlib.Core.Bool.{Bool, true, false}
use mathlib.Core.List.{List, [], ◌∷◌}
use native.Mathlib.Omega.{arith}
use lib.Dec.{eqb}
use lib.ListN.{length, get_or}
use borrow.Author.Tests.{eqb-true, eqb-false}
use Rattle.meaning.specs.Bytes.{Bytes, when◌then◌else◌}
use Rattle.meaning.specs.Terms.{Clause, Job, Terms, end, more, count, as_term}
use Rattle.term.specs.Words.{tag_in}
use Rattle.term.specs.Cells.{Places}
use Rattle.term.specs.Holds.{Holds, HoldsFrom}
use Rattle.term.specs.Jobs.{places_from, HoldsClause, EachFrom, HoldsJob}
use Rattle.term.specs.Layout.{queries_region, procedure_slot, clause_base, clause_head, clause_key_word, clause_same_word, clause_open_word, clause_later_word, bucket_word, told_word}
use Rattle.term.proofs.Held.{head_first}
use Rattle.run_index.specs.Index.{kind_of, key_of, bucket_of, functor_of, first_of, told_by, own_kind, own_key, FirstOf, HasKey, InBucket, ClauseIndexed, IndexedFrom}
use Rattle.run_index.specs.Building.{HeadReads}
use Rattle.run_index.proofs.HeadsHeld.{heads_held}
use Rattle.run_index.proofs.HeldKinds.{kind_word}
use Rattle.run_index.proofs.Procedures.{head_functor, head_few}

-- The first of which one condition holds is the first of which another does that holds of the same.
pub first_of_map : (P Q : ℕ → Type 0) (from to r : ℕ) → ((k : ℕ) → from ≤ k → k < to → (P k → Q k) × (Q k → P k)) → FirstOf P from to r → FirstOf Q from to r
first_of_map P Q from to r h f = record {
  none = λ e k l m q. f.none e k l m ((h k l m).1 q);
  one = λ k e.
      let o = f.one k e in
      (o.0, o.1, (h k o.0 o.1).0 o.2, λ i l m q. o.3 i l m ((h i l (omega (arith, o.1))).1 q));
}

-- One of a list of which two conditions hold.
both_at : {A : Type 0} (P Q : ℕ → A → Type 0) (k i : ℕ) (l : List A) → i < length l → EachFrom P k l → EachFrom Q k l → (a : A) × P (k + i) a × Q (k + i) a
unfolding EachFrom
both_at P Q k i [] h d e = absurd (omega arith)
both_at P Q k zero (a ∷ l) h d e = let same : k + 0 ≡ k = omega arith in (a, rw same d.0, rw same e.0)
both_at P Q k (suc i) (a ∷ l) h d e =
    let same : k + suc i ≡ (k + 1) + i = omega arith in
    rw same (both_at P Q (k + 1) i l (omega arith) d.1 e.1)

-- The kinds of arguments that are held in both.
kinds_same : (s s' : List ℕ) (item : Places) (m i : ℕ) (us : Terms) → HoldsFrom s item m i us → HoldsFrom s' item m i us
    → (n : ℕ) → i ≤ n → n < i + count us
    → kind_of s' (get_or s' (item.compound m + 1 + n) 0) ≡ kind_of s (get_or s (item.compound m + 1 + n) 0)
unfolding HoldsFrom count
kinds_same s s' item m i end h h' n low high = absurd (omega arith)
kinds_same s s' item m i (more u us) h h' n low high = go (eqb n i) refl
    (λ l. kinds_same s s' item m (i + 1) us h.2 h'.2 n l (omega arith))
  where
    go : (r : Bool) → eqb n i ≡ r
        → (i + 1 ≤ n → kind_of s' (get_or s' (item.compound m + 1 + n) 0) ≡ kind_of s (get_or s (item.compound m + 1 + n) 0))
        → kind_of s' (get_or s' (item.compound m + 1 + n) 0) ≡ kind_of s (get_or s (item.compound m + 1 + n) 0)
    go true e behind =
        let here : n ≡ i = eqb-true n i e in
        rw here (ap (kind_of s') h'.0 ∙ kind_word s' item u h'.1 ∙ sym (ap (kind_of s) h.0 ∙ kind_word s item u h.1))
    go false e behind = behind (omega (arith, eqb-false n i e))

-- Where the job is held in both, and the words of procedures and clauses are the same.
module _ (s s' : List ℕ) (names : List Bytes) (j : Job) (held : HoldsJob s names j) (held' : HoldsJob s' names j)
    (same : (k : ℕ) → k < queries_region → get_or s' k 0 ≡ get_or s k 0) where
  module _ (k : ℕ) (inside : k < length j.clauses) where
    abbrev Both : Type 0
    Both = (c : Clause) × HoldsClause s names k c × HoldsClause s' names k c

    both : Both
    both =
        let it : 0 + k ≡ k = omega arith in
        rw it at (both_at (HoldsClause s names) (HoldsClause s' names) 0 k j.clauses inside held.clauses held'.clauses)

    reads : HeadReads s k
    reads = (heads_held s names j (length j.clauses) held refl).head k inside

    functor_same : functor_of s' k ≡ functor_of s k
    functor_same =
        head_functor s' names k both.0 both.2 ∙ sym (head_functor s names k both.0 both.1)

    told_same : told_by s' (functor_of s' k) ≡ told_by s (functor_of s k)
    told_same =
        ap (told_by s') functor_same
        ∙ ap (λ w. get_or s' (told_word (w - 1)) 0) (same (procedure_slot (functor_of s k)) (omega (arith, reads.functor)))
        ∙ same (told_word (first_of s (functor_of s k))) (omega (arith, reads.first))

    kind_same : (a : ℕ) → a ≤ tag_in (functor_of s k)
        → (when eqb a 0 then 0 else kind_of s' (get_or s' (clause_head k + a) 0)) ≡ (when eqb a 0 then 0 else kind_of s (get_or s (clause_head k + a) 0))
    unfolding when◌then◌else◌ Holds as_term
    kind_same a h = go (eqb a 0) refl
      where
        few : a ≤ count both.0.head.arguments
        few = omega (arith, head_functor s names k both.0 both.1, head_few s names k both.0 both.1)

        go : (r : Bool) → eqb a 0 ≡ r
            → (when r then 0 else kind_of s' (get_or s' (clause_head k + a) 0)) ≡ (when r then 0 else kind_of s (get_or s (clause_head k + a) 0))
        go true e = refl
        go false e =
            let c = both.0 in
            let one : (places_from names (clause_base k)).compound c.head.number + 1 + (a - 1) ≡ clause_head k + a =
            omega (arith, head_first names c both.1.laid, eqb-false a 0 e) in
            rw one at (kinds_same s s' (places_from names (clause_base k)) c.head.number 0 c.head.arguments both.1.head.1 both.2.head.1 (a - 1)
            (omega arith) (omega (arith, few, eqb-false a 0 e)))

    own_kind_same : told_by s (functor_of s k) ≤ tag_in (functor_of s k) → own_kind s' k ≡ own_kind s k
    own_kind_same h =
        ap (λ a. when eqb a 0 then 0 else kind_of s' (get_or s' (clause_head k + a) 0)) told_same ∙ kind_same (told_by s (functor_of s k)) h

    own_key_same : told_by s (functor_of s k) ≤ tag_in (functor_of s k) → own_key s' k ≡ own_key s k
    unfolding own_key
    own_key_same h = ap (λ f. key_of f (own_kind s' k)) functor_same ∙ ap (key_of (functor_of s k)) (own_kind_same h)

  pub indexed_kept : (from : ℕ) → IndexedFrom s from (length j.clauses) → IndexedFrom s' from (length j.clauses)
  indexed_kept from x = record {
    few = x.few;
    told = λ k l. told_stays k l;
    clause = λ k l m. clause_stays k l m;
    first = λ b h.
        rw (same (bucket_word b) (omega arith))
        (first_of_map (InBucket s b) (InBucket s' b) from clauses (get_or s (bucket_word b) 0) (λ i l m. bucket_stays b i m) (x.first b h));
  }
    where
      clauses : ℕ
      clauses = length j.clauses

      key_stays : (k : ℕ) → k < clauses → own_key s' k ≡ own_key s k
      key_stays k l = own_key_same k l (x.told k l)

      bucket_stays : (b i : ℕ) → i < clauses → (InBucket s b i → InBucket s' b i) × (InBucket s' b i → InBucket s b i)
      bucket_stays b i l = (λ e. ap bucket_of (key_stays i l) ∙ e, λ e. sym (ap bucket_of (key_stays i l)) ∙ e)

      has_stays : (key i : ℕ) → i < clauses → (HasKey s key i → HasKey s' key i) × (HasKey s' key i → HasKey s key i)
      has_stays key i l = (λ e. key_stays i l ∙ e, λ e. sym (key_stays i l) ∙ e)

      told_stays : (k : ℕ) → k < clauses → told_by s' (functor_of s' k) ≤ tag_in (functor_of s' k)
      told_stays k l = rw (told_same k l, functor_same k l) (x.told k l)

      clause_stays : (k : ℕ) → from ≤ k → k < clauses → ClauseIndexed s' clauses k
      clause_stays k l m =
          let o = x.clause k l m in
          let number : k < 128 = omega (arith, x.few) in
          let own = key_stays k m in
          record {
            key = same (clause_key_word k) (omega arith) ∙ o.key ∙ sym own;
            same =
                rw (same (clause_same_word k) (omega arith), own)
                (first_of_map (HasKey s (own_key s k)) (HasKey s' (own_key s k)) (k + 1) clauses (get_or s (clause_same_word k) 0)
                (λ i a b. has_stays (own_key s k) i b) o.same);
            with_writer =
                rw (same (clause_open_word k) (omega arith), functor_same k m)
                (first_of_map (HasKey s (key_of (functor_of s k) 0)) (HasKey s' (key_of (functor_of s k) 0)) (k + 1) clauses (get_or s (clause_open_word k) 0)
                (λ i a b. has_stays (key_of (functor_of s k) 0) i b) o.with_writer);
            later =
                rw (same (clause_later_word k) (omega arith), own)
                (first_of_map (InBucket s (bucket_of (own_key s k))) (InBucket s' (bucket_of (own_key s k))) (k + 1) clauses (get_or s (clause_later_word k) 0)
                (λ i a b. bucket_stays (bucket_of (own_key s k)) i b) o.later);
          }
