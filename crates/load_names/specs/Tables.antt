-- The tables in which the loader keeps the names of the text and the variables of an item while it reads.
use Rattle.std.specs.Prelude.{ℕ, zero, suc, ◌+◌, ◌*◌, ◌%◌, ◌≤◌, ◌<◌, min, ◌≡◌, List, [], ◌∷◌, eqb, length, get_or, set}
use Rattle.std.proofs.Math.Seq.{slice}
use Rattle.meaning.specs.Bytes.{Bytes, when◌then◌else◌}
use Rattle.load_names.specs.Places.{Place}

-- The hash of a spelling.
unfoldable pub hash_from : ℕ → Bytes → ℕ
hash_from h [] = h
hash_from h (c ∷ cs) = hash_from ((h * 33 + c) % 4294967296) cs

unfoldable pub hash_of : Bytes → ℕ
hash_of f = hash_from 0 f % 256

unfoldable pub no_place : Place
no_place = record { at = 0; spelling = [] }

-- The last of the first n places whose spelling has this hash, plus one; 0 if none has.
unfoldable pub last_with : ℕ → List Place → ℕ → ℕ
last_with h places zero = 0
last_with h places (suc n) =
    when eqb (hash_of (get_or places n no_place).spelling) h then suc n else last_with h places n

-- The place of this number in a table is one of the text, spelled so.
pub record StandsAt (text : Bytes) (table : List ℕ) (n : ℕ) (f : Bytes) : Type 0 where
  pub kept : 2 * n + 1 < length table
  pub size : get_or table (2 * n + 1) 0 ≡ length f
  pub inside : get_or table (2 * n) 0 + length f ≤ length text
  pub spelled : slice (get_or table (2 * n) 0) (get_or table (2 * n) 0 + length f) text ≡ f

-- The table holds these places of the text, no two spelled alike: first byte and length of each, and the chains of equal hashes.
pub record NamesIn (text : Bytes) (places : List Place) (table : List ℕ) : Type 0 where
  pub size : length table ≡ 1024
  pub few : length places ≤ 256
  pub starts : (n : ℕ) → n < length places → get_or table (2 * n) 0 ≡ (get_or places n no_place).at
  pub lengths : (n : ℕ) → n < length places → get_or table (2 * n + 1) 0 ≡ length (get_or places n no_place).spelling
  pub inside : (n : ℕ) → n < length places → (get_or places n no_place).at + length (get_or places n no_place).spelling ≤ length text
  pub spelled : (n : ℕ) → n < length places
      → slice (get_or places n no_place).at ((get_or places n no_place).at + length (get_or places n no_place).spelling) text ≡ (get_or places n no_place).spelling
  pub distinct : (m n : ℕ) → m < n → n < length places → (get_or places m no_place).spelling ≡ (get_or places n no_place).spelling → ⊥
  pub heads : (h : ℕ) → h < 256 → get_or table (512 + h) 0 ≡ last_with h places (length places)
  pub chains : (n : ℕ) → n < length places → get_or table (768 + n) 0 ≡ last_with (hash_of (get_or places n no_place).spelling) places n
  pub unused : (k : ℕ) → 2 * length places ≤ k → k < 512 → get_or table k 0 ≡ 0

-- The table after one name more, the last one of its hash.
abbrev pub stored_name : List ℕ → ℕ → ℕ → ℕ → ℕ → List ℕ
stored_name table count h start size =
    set (set (set (set table (2 * count) start) (2 * count + 1) size) (768 + count) (get_or table (512 + h) 0)) (512 + h) (count + 1)

-- The item's table holds these places of the rest of the text.
pub record VariablesIn (rest : Bytes) (places : List Place) (table : List ℕ) : Type 0 where
  pub size : length table ≡ 64
  pub few : length places ≤ 16
  pub starts : (n : ℕ) → n < length places → get_or table (2 * n) 0 ≡ (get_or places n no_place).at
  pub lengths : (n : ℕ) → n < length places → get_or table (2 * n + 1) 0 ≡ length (get_or places n no_place).spelling
  pub inside : (n : ℕ) → n < length places → (get_or places n no_place).at + length (get_or places n no_place).spelling ≤ length rest
  pub spelled : (n : ℕ) → n < length places
      → slice (get_or places n no_place).at ((get_or places n no_place).at + length (get_or places n no_place).spelling) rest ≡ (get_or places n no_place).spelling
  pub counted : (k : ℕ) → k < 32 → get_or table (32 + k) 0 ≤ 2

-- The table after one variable more, and after one occurrence more of the half that is counted at a place.
abbrev pub stored_variable : List ℕ → ℕ → ℕ → ℕ → List ℕ
stored_variable table count start size = set (set table (2 * count) start) (2 * count + 1) size

abbrev pub counted_half : List ℕ → ℕ → List ℕ
counted_half table place = set table place (min 2 (get_or table place 0 + 1))
