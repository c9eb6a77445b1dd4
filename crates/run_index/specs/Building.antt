-- What building the index reads of the clauses, and what each of its steps changes.
use Rattle.std.specs.Prelude.{ℕ, ◌+◌, ◌≤◌, ◌<◌, ◌≡◌, ◌≢◌, List, length, get_or, Option, None, Some}
use Rattle.term.specs.Words.{tag_in, rest_in}
use Rattle.term.specs.Layout.{
  queries_region,
  compounds_region,
  procedure_slot,
  clause_record,
  clause_head,
  clause_key_word,
  clause_same_word,
  clause_open_word,
  clause_later_word,
  bucket_word,
  told_word,
}
use Rattle.run_index.specs.Index.{functor_of, first_of, told_by, IndexOnly, IndexedFrom}

-- A compound's functor can be read, and stands behind the index.
abbrev pub ReadsBehind : List ℕ → ℕ → Type 0
ReadsBehind s w = tag_in w ≡ 6 → (queries_region ≤ rest_in w) × (rest_in w < length s) × (get_or s (rest_in w) 0 < 1152921504606846976)

-- The head of clause k can be read, and its procedure has a first clause, with the same functor.
pub record HeadReads (s : List ℕ) (k : ℕ) : Type 0 where
  pub functor : functor_of s k ≤ 2054
  pub some : 1 ≤ get_or s (procedure_slot (functor_of s k)) 0
  pub first : first_of s (functor_of s k) < 128
  pub alike : functor_of s (first_of s (functor_of s k)) ≡ functor_of s k
  pub arguments : (i : ℕ) → 1 ≤ i → i ≤ tag_in (functor_of s k) → ReadsBehind s (get_or s (clause_head k + i) 0)

-- The heads of so many clauses can be read.
pub record HeadsRead (s : List ℕ) (clauses : ℕ) : Type 0 where
  pub inside : compounds_region ≤ length s
  pub few : clauses ≤ 128
  pub head : (k : ℕ) → k < clauses → HeadReads s k

-- Clause k is one of so many whose heads can be read.
pub record OneRead (s : List ℕ) (clauses k : ℕ) : Type 0 where
  pub heads : HeadsRead s clauses
  pub number : k < clauses

-- Two clauses of one procedure.
pub record Alike (s : List ℕ) (k m : ℕ) : Type 0 where
  pub inside : compounds_region ≤ length s
  pub number : k < 128
  pub other : m < 128
  pub reads : HeadReads s k
  pub other_reads : HeadReads s m
  pub alike : functor_of s m ≡ functor_of s k

-- An argument that the head of clause k has.
abbrev pub ArgumentOf : List ℕ → ℕ → ℕ → Type 0
ArgumentOf s k i = (1 ≤ i) × (i ≤ tag_in (functor_of s k))

-- No clause's procedure is told apart by an argument that it does not have.
abbrev pub ToldFits : List ℕ → ℕ → Type 0
ToldFits s clauses = (k : ℕ) → k < clauses → told_by s (functor_of s k) ≤ tag_in (functor_of s k)

-- No bucket has a clause.
abbrev pub NoneFirst : List ℕ → Type 0
NoneFirst s = (b : ℕ) → b < 128 → get_or s (bucket_word b) 0 ≡ 0

-- Nothing is told apart.
abbrev pub NoneTold : List ℕ → Type 0
NoneTold s = (k : ℕ) → k < 128 → get_or s (told_word k) 0 ≡ 0

-- Neither has any, and only words of the index have changed.
pub record Begun (s s' : List ℕ) : Type 0 where
  pub only : IndexOnly s s'
  pub buckets : NoneFirst s'
  pub told : NoneTold s'

-- What is told may have changed; no bucket has a clause where none had.
pub record Telling (s s' : List ℕ) (clauses : ℕ) : Type 0 where
  pub only : IndexOnly s s'
  pub told : ToldFits s' clauses
  pub buckets : NoneFirst s → NoneFirst s'

-- The next clause of the procedure of clause k, if there is one, is one of so many, and has the same functor.
abbrev pub NextIs : List ℕ → ℕ → ℕ → Option ℕ → Type 0
NextIs s clauses k None = Unit {0}
NextIs s clauses k (Some m) = (m < clauses) × (functor_of s m ≡ functor_of s k)

-- Clause k has its words of the index, and is the first in bucket b; all other words stay.
pub record Put (s s' : List ℕ) (k b own same opened : ℕ) : Type 0 where
  pub only : IndexOnly s s'
  pub told : (c : ℕ) → c < 128 → get_or s' (told_word c) 0 ≡ get_or s (told_word c) 0
  pub others : (c i : ℕ) → c ≢ k → i < 28 → get_or s' (clause_record c + i) 0 ≡ get_or s (clause_record c + i) 0
  pub key_is : get_or s' (clause_key_word k) 0 ≡ own
  pub same_is : get_or s' (clause_same_word k) 0 ≡ same
  pub opened_is : get_or s' (clause_open_word k) 0 ≡ opened
  pub later_is : get_or s' (clause_later_word k) 0 ≡ get_or s (bucket_word b) 0
  pub first : get_or s' (bucket_word b) 0 ≡ k + 1
  pub buckets : (c : ℕ) → c ≢ b → get_or s' (bucket_word c) 0 ≡ get_or s (bucket_word c) 0

-- Clause k is to join the index of so many clauses, in which those behind it stand.
pub record Entering (s : List ℕ) (clauses k : ℕ) : Type 0 where
  pub heads : HeadsRead s clauses
  pub number : k < clauses
  pub behind : IndexedFrom s (k + 1) clauses

-- It has joined it.
pub record Entered (s s' : List ℕ) (clauses k : ℕ) : Type 0 where
  pub only : IndexOnly s s'
  pub indexed : IndexedFrom s' k clauses
