-- The index of the clauses: each clause has a key, the functor of its head and the kind of one argument, by which its procedure is told apart; clauses with
-- the same key are chained, and all clauses are found by their keys' buckets.
use Rattle.std.specs.Prelude.{ℕ, ◌+◌, ◌-◌, ◌*◌, ◌/◌, ◌%◌, ◌≤◌, ◌<◌, ◌≡◌, List, eqb, length, get_or, Option, None, Some}
use Rattle.meaning.specs.Bytes.{when◌then◌else◌}
use Rattle.term.specs.Words.{packed, tag_in, rest_in}
use Rattle.term.specs.Layout.{
  procedure_slot,
  clauses_region,
  queries_region,
  index_from,
  clause_record,
  clause_head,
  clause_key_word,
  clause_same_word,
  clause_open_word,
  clause_later_word,
  bucket_word,
  told_word,
}

-- What tells a term apart from others at the same place, by its word: a constant's word, a compound's functor; 0 for a writer, 2 for a reader.
abbrev pub kind_of : List ℕ → ℕ → ℕ
kind_of s w =
    when eqb (tag_in w) 6 then packed 6 (get_or s (rest_in w) 0) else (when eqb (tag_in w) 1 then 0 else (when eqb (tag_in w) 2 then 2 else w))

-- A compound's functor can be read at its place.
abbrev pub KindReads : List ℕ → ℕ → Type 0
KindReads s w = tag_in w ≡ 6 → (rest_in w < length s) × (get_or s (rest_in w) 0 < 1152921504606846976)

-- What kinds are counted below in a key.
abbrev pub keys : ℕ
keys = 1099511627776

-- The key of a functor's word and a kind, and its bucket.
abbrev pub key_of : ℕ → ℕ → ℕ
key_of functor kind = functor * keys + kind % keys

abbrev pub bucket_of : ℕ → ℕ
bucket_of key = (key / 8 + 5 * (key / keys)) % 128

-- The functor's word of the head of clause k, and the first clause of its procedure.
abbrev pub functor_of : List ℕ → ℕ → ℕ
functor_of s k = get_or s (clause_head k) 0

abbrev pub first_of : List ℕ → ℕ → ℕ
first_of s functor = get_or s (procedure_slot functor) 0 - 1

-- The argument by which the procedure of a functor's word is told apart; 0 if it is by none.
abbrev pub told_by : List ℕ → ℕ → ℕ
told_by s functor = get_or s (told_word (first_of s functor)) 0

-- The kind of that argument in the head of clause k, and the clause's key.
abbrev pub own_kind : List ℕ → ℕ → ℕ
own_kind s k = when eqb (told_by s (functor_of s k)) 0 then 0 else kind_of s (get_or s (clause_head k + told_by s (functor_of s k)) 0)

unfoldable pub own_key : List ℕ → ℕ → ℕ
own_key s k = key_of (functor_of s k) (own_kind s k)

-- A word says which argument a procedure is told apart by; 0 that it is by none.
abbrev pub TellsApart : ℕ → Option ℕ → Type 0
TellsApart w None = w ≡ 0
TellsApart w (Some a) = (w ≡ a) × (1 ≤ a)

-- r is one more than the first number from a number on and below another of which P holds; 0 if there is none.
pub record FirstOf (P : ℕ → Type 0) (from to r : ℕ) : Type 0 where
  pub none : r ≡ 0 → (k : ℕ) → from ≤ k → k < to → P k → ⊥
  pub one : (k : ℕ) → r ≡ k + 1 → (from ≤ k) × (k < to) × P k × ((i : ℕ) → from ≤ i → i < k → P i → ⊥)

abbrev pub HasKey : List ℕ → ℕ → ℕ → Type 0
HasKey s key k = own_key s k ≡ key

abbrev pub InBucket : List ℕ → ℕ → ℕ → Type 0
InBucket s b k = bucket_of (own_key s k) ≡ b

-- Of clause k, of so many: its key; the next clause with the same key, the next of its procedure with a writer where it is told apart, the next in its bucket.
pub record ClauseIndexed (s : List ℕ) (clauses k : ℕ) : Type 0 where
  pub key : get_or s (clause_key_word k) 0 ≡ own_key s k
  pub same : FirstOf (HasKey s (own_key s k)) (k + 1) clauses (get_or s (clause_same_word k) 0)
  pub with_writer : FirstOf (HasKey s (key_of (functor_of s k) 0)) (k + 1) clauses (get_or s (clause_open_word k) 0)
  pub later : FirstOf (InBucket s (bucket_of (own_key s k))) (k + 1) clauses (get_or s (clause_later_word k) 0)

-- The clauses from one on, of so many, are in the index; each procedure is told apart by an argument that it has.
pub record IndexedFrom (s : List ℕ) (from clauses : ℕ) : Type 0 where
  pub few : clauses ≤ 128
  pub told : (k : ℕ) → k < clauses → told_by s (functor_of s k) ≤ tag_in (functor_of s k)
  pub clause : (k : ℕ) → from ≤ k → k < clauses → ClauseIndexed s clauses k
  pub first : (b : ℕ) → b < 128 → FirstOf (InBucket s b) from clauses (get_or s (bucket_word b) 0)

-- All of them.
abbrev pub Indexed : List ℕ → ℕ → Type 0
Indexed s clauses = IndexedFrom s 0 clauses

-- Only words of the index differ.
pub record IndexOnly (s s' : List ℕ) : Type 0 where
  pub size : length s' ≡ length s
  pub below : (k : ℕ) → k < clauses_region → get_or s' k 0 ≡ get_or s k 0
  pub clauses : (c i : ℕ) → c < 128 → i < index_from → get_or s' (clause_record c + i) 0 ≡ get_or s (clause_record c + i) 0
  pub above : (k : ℕ) → queries_region ≤ k → get_or s' k 0 ≡ get_or s k 0
