-- What the loader's tables answer: the number of a name or a variable, and the table then.
use Rattle.std.specs.Prelude.{ℕ, ◌+◌, ◌≤◌, ◌<◌, min, ◌≡◌, false, List, ◌≢◌, length, get_or, Option, Some, None}
use Rattle.std.proofs.Math.Option.{Option as Perhaps, none, some}
use Rattle.meaning.specs.Bytes.{Bytes, same, any}
use Rattle.meaning.specs.Items.{place_of}
use Rattle.load_names.specs.Places.{Place, spellings, with_place}
use Rattle.load_names.specs.Tables.{NamesIn, VariablesIn}

-- The number that a search has found, if any, as the definitions say it.
abbrev pub found : Option ℕ → Perhaps ℕ
found (Some n) = some n
found None = none

-- A name that stands at an offset of the text, among the known places: its number and the places with it; or it is the 257th.
abbrev pub NameIs : Bytes → List Place → ℕ → Bytes → List ℕ → List ℕ → Option (ℕ × ℕ) → Type 0
NameIs text places at f table table' (Some (n, count)) =
    NamesIn text (with_place at f places) table'
    × (count ≡ length (with_place at f places))
    × (n < count)
    × (place_of f (spellings (with_place at f places)) ≡ some n)
NameIs text places at f table table' None = (any (same f) (spellings places) ≡ false) × (256 ≤ length places) × (table' ≡ table)

-- A variable one of whose halves, counted from `half` on, stands at an offset of the rest: its number, the places with it and the halves; or
-- it is the seventeenth.
abbrev pub VariableIs : Bytes → List Place → ℕ → ℕ → Bytes → List ℕ → List ℕ → Option (ℕ × ℕ) → Type 0
VariableIs rest places half at x table table' (Some (n, count)) =
    VariablesIn rest (with_place at x places) table'
    × (count ≡ length (with_place at x places))
    × (n < count)
    × (place_of x (spellings (with_place at x places)) ≡ some n)
    × (get_or table' (half + n) 0 ≡ min 2 (get_or table (half + n) 0 + 1))
    × ((k : ℕ) → 32 ≤ k → k ≢ half + n → get_or table' k 0 ≡ get_or table k 0)
VariableIs rest places half at x table table' None =
    (any (same x) (spellings places) ≡ false) × (16 ≤ length places) × (table' ≡ table)
