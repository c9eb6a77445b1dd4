-- Only words of the index change while it is built: the heads, their kinds and the procedures stay, and so do the keys where what is told stays.
use Prim.Native.Nat.{ℕ, ◌+◌, ◌-◌, ◌≤◌, ◌<◌}
use mathlib.Core.Path.{◌≡◌, refl, sym, ap, ◌∙◌}
use mathlib.Core.Bool.{Bool, true, false}
use mathlib.Core.Logic.{◌≢◌}
use mathlib.Core.List.{List}
use native.Mathlib.Omega.{arith}
use lib.Dec.{eqb}
use lib.ListN.{get_or, set, length-set}
use lib.Seq.{get_or-set_other}
use borrow.Author.Tests.{eqb-true, eqb-false}
use Rattle.meaning.specs.Bytes.{when◌then◌else◌}
use Rattle.term.specs.Words.{packed, tag_in, rest_in}
use Rattle.term.specs.Layout.{index_from, clause_record, clause_head, procedure_slot, told_word}
use Rattle.run_index.specs.Index.{kind_of, functor_of, first_of, told_by, own_kind, own_key, IndexOnly}
use Rattle.run_index.specs.Building.{ReadsBehind, HeadReads, HeadsRead, OneRead, Alike}

-- Which changes are such: none; one after another; a word of the index.
pub index_only_same : (s : List ℕ) → IndexOnly s s
index_only_same s = record { size = refl; below = λ k h. refl; clauses = λ c i h m. refl; above = λ k h. refl }

pub index_only_then : {s t u : List ℕ} → IndexOnly s t → IndexOnly t u → IndexOnly s u
index_only_then a b = record {
  size = b.size ∙ a.size;
  below = λ k h. b.below k h ∙ a.below k h;
  clauses = λ c i h m. b.clauses c i h m ∙ a.clauses c i h m;
  above = λ k h. b.above k h ∙ a.above k h;
}

module _ (s : List ℕ) (k i v : ℕ) (number : k < 128) (low : index_from ≤ i) (high : i < 32) where
  pub index_only_set : IndexOnly s (set s (clause_record k + i) v)
  index_only_set = record {
    size = length-set s (clause_record k + i) v;
    below = λ n h. get_or-set_other s (clause_record k + i) n v 0 (λ e. omega arith);
    clauses = λ c n h m. get_or-set_other s (clause_record k + i) (clause_record c + n) v 0 (λ e. omega arith);
    above = λ n h. get_or-set_other s (clause_record k + i) n v 0 (λ e. omega arith);
  }

-- The kind of a term stays where its functor stays.
pub kind_kept : (s s' : List ℕ) (w : ℕ) → (tag_in w ≡ 6 → get_or s' (rest_in w) 0 ≡ get_or s (rest_in w) 0) → kind_of s' w ≡ kind_of s w
unfolding when◌then◌else◌
kind_kept s s' w stays = go (eqb (tag_in w) 6) refl
  where
    otherwise : ℕ
    otherwise = when eqb (tag_in w) 1 then 0 else (when eqb (tag_in w) 2 then 2 else w)

    go : (b : Bool) → eqb (tag_in w) 6 ≡ b
        → (when b then packed 6 (get_or s' (rest_in w) 0) else otherwise) ≡ (when b then packed 6 (get_or s (rest_in w) 0) else otherwise)
    go true e = ap (λ n. packed 6 n) (stays (eqb-true (tag_in w) 6 e))
    go false e = refl

-- The heads stay.
module _ {s s' : List ℕ} (only : IndexOnly s s') where
  pub functor_kept : (k : ℕ) → functor_of s' k ≡ functor_of s k
  functor_kept k = only.above (clause_head k) (omega arith)

  pub argument_kept : (k i : ℕ) → get_or s' (clause_head k + i) 0 ≡ get_or s (clause_head k + i) 0
  argument_kept k i = only.above (clause_head k + i) (omega arith)

  pub slot_kept : (w : ℕ) → w ≤ 2054 → get_or s' (procedure_slot w) 0 ≡ get_or s (procedure_slot w) 0
  slot_kept w few = only.below (procedure_slot w) (omega arith)

  pub first_kept : (w : ℕ) → w ≤ 2054 → first_of s' w ≡ first_of s w
  first_kept w few = ap (λ n. n - 1) (slot_kept w few)

  pub reads_behind_kept : (w : ℕ) → ReadsBehind s w → ReadsBehind s' w
  reads_behind_kept w reads e =
      let (behind, inside, small) = reads e in
      (behind, rw only.size inside, rw (only.above (rest_in w) behind) small)

  pub kind_behind_kept : (w : ℕ) → ReadsBehind s w → kind_of s' w ≡ kind_of s w
  kind_behind_kept w reads = kind_kept s s' w (λ e. only.above (rest_in w) (reads e).0)

  pub head_reads_kept : (k : ℕ) → HeadReads s k → HeadReads s' k
  head_reads_kept k h =
      let same : functor_of s' k ≡ functor_of s k = functor_kept k in
      record {
        functor = rw same h.functor;
        some = rw (same, slot_kept (functor_of s k) h.functor) h.some;
        first = rw (same, first_kept (functor_of s k) h.functor) h.first;
        alike = rw (same, first_kept (functor_of s k) h.functor, functor_kept (first_of s (functor_of s k))) h.alike;
        arguments = λ i low high.
            rw (argument_kept k i) (reads_behind_kept (get_or s (clause_head k + i) 0) (h.arguments i low (rw same at high)));
      }

  pub heads_kept : (clauses : ℕ) → HeadsRead s clauses → HeadsRead s' clauses
  heads_kept clauses h = record {
    inside = omega (arith, h.inside, only.size);
    few = h.few;
    head = λ k l. head_reads_kept k (h.head k l);
  }

  pub one_kept : (clauses k : ℕ) → OneRead s clauses k → OneRead s' clauses k
  one_kept clauses k o = record { heads = heads_kept clauses o.heads; number = o.number }

  pub alike_kept : (k m : ℕ) → Alike s k m → Alike s' k m
  alike_kept k m a = record {
    inside = omega (arith, a.inside, only.size);
    number = a.number;
    other = a.other;
    reads = head_reads_kept k a.reads;
    other_reads = head_reads_kept m a.other_reads;
    alike = functor_kept m ∙ a.alike ∙ sym (functor_kept k);
  }

  -- What is told stays, where the word of the procedure's first clause does.
  pub told_kept : (k : ℕ) → HeadReads s k → get_or s' (told_word (first_of s (functor_of s k))) 0 ≡ get_or s (told_word (first_of s (functor_of s k))) 0
      → told_by s' (functor_of s' k) ≡ told_by s (functor_of s k)
  told_kept k h stays = rw (functor_kept k, first_kept (functor_of s k) h.functor) stays

-- Keys stay where what is told stays.
module _ {s s' : List ℕ} (only : IndexOnly s s') (told : (c : ℕ) → c < 128 → get_or s' (told_word c) 0 ≡ get_or s (told_word c) 0) where
  pub told_same : (k : ℕ) → HeadReads s k → told_by s' (functor_of s' k) ≡ told_by s (functor_of s k)
  told_same k h = told_kept only k h (told (first_of s (functor_of s k)) h.first)

  own_kind_kept : (k : ℕ) → HeadReads s k → told_by s (functor_of s k) ≤ tag_in (functor_of s k) → own_kind s' k ≡ own_kind s k
  unfolding when◌then◌else◌
  own_kind_kept k h fits = rw (told_same k h, argument_kept only k (told_by s (functor_of s k))) (go (eqb a 0) refl)
    where
      a : ℕ
      a = told_by s (functor_of s k)

      w : ℕ
      w = get_or s (clause_head k + a) 0

      go : (b : Bool) → eqb a 0 ≡ b → (when b then 0 else kind_of s' w) ≡ (when b then 0 else kind_of s w)
      go true e = refl
      go false e =
          let some : a ≢ 0 = eqb-false a 0 e in
          kind_behind_kept only w (h.arguments a (omega arith) fits)

  pub own_key_kept : (k : ℕ) → HeadReads s k → told_by s (functor_of s k) ≤ tag_in (functor_of s k) → own_key s' k ≡ own_key s k
  unfolding own_key
  own_key_kept k h fits = rw (own_kind_kept k h fits, functor_kept only k)
