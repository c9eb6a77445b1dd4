-- What the functions that begin a term say of what they found: behind a name, behind an opening bracket, of a variable.
use Rattle.std.specs.Prelude.{ℕ, ◌+◌, ◌*◌, ◌<◌, ◌≡◌, List, [], ◌∷◌, Result, Ok, Err, Some, None}
use Rattle.meaning.specs.Bytes.{Bytes}
use Rattle.term.specs.Words.{name_word, packed}
use Rattle.load_tokens.specs.Fronts.{tokens_in}
use Rattle.load_names.specs.Places.{Place}
use Rattle.load_names.specs.Answers.{VariableIs}
use Rattle.load_tokens.specs.Nexts.{SignAt, Stops, one_of}
use Rattle.load_openings.specs.declared.cursor.Cursor.{Cursor}
use Rattle.load_openings.specs.declared.begin.Begun.{Begun}
use Rattle.load_openings.specs.declared.begin.Half.{Half}
use Rattle.load_openings.specs.declared.begin.Half.TheVariants.{Writer, Reader}
use Rattle.load_openings.specs.declared.begin.Begun.TheVariants.{Got, Round, Square}
use Rattle.load_openings.specs.declared.cursor.Unread.{Unread}
use Rattle.load_openings.specs.declared.cursor.Unread.TheVariants.{Malformed, Exceeded}

-- The cursor at another place.
abbrev pub moved_to : Cursor → ℕ → Cursor
moved_to c at = record { at = at; names = c.names; variables = c.variables; compounds = c.compounds }

-- Behind the name n: no parenthesis, or one, where brackets may open or may not.
abbrev pub BehindName : Bytes → (left n : ℕ) → Cursor → Result Begun Unread → Type 0
BehindName rest left n d (Ok (Got w d')) =
    (w ≡ name_word n) × (d' ≡ d) × (place : ℕ) × ((from : ℕ) → Stops (one_of (40 ∷ [])) (from + place) (tokens_in from rest d.at))
BehindName rest left n d (Ok (Round m d')) = (m ≡ n) × (0 < left) × (b : ℕ) × SignAt rest d.at 40 b × (d' ≡ moved_to d b)
BehindName rest left n d (Ok (Square d')) = ⊥
BehindName rest left n d (Err (Malformed place)) = ⊥
BehindName rest left n d (Err Exceeded) = (left ≡ 0) × (b : ℕ) × SignAt rest d.at 40 b

-- Behind the bracket of a list: it closes at once, or not.
abbrev pub BehindBracket : Bytes → (left : ℕ) → Cursor → Result Begun Unread → Type 0
BehindBracket rest left d (Ok (Got w d')) = (w ≡ 5) × (0 < left) × (b : ℕ) × SignAt rest d.at 93 b × (d' ≡ moved_to d b)
BehindBracket rest left d (Ok (Round m d')) = ⊥
BehindBracket rest left d (Ok (Square d')) =
    (0 < left) × (d' ≡ d) × (place : ℕ) × ((from : ℕ) → Stops (one_of (93 ∷ [])) (from + place) (tokens_in from rest d.at))
BehindBracket rest left d (Err (Malformed place)) = ⊥
BehindBracket rest left d (Err Exceeded) = left ≡ 0

-- The tag of a half's words.
abbrev pub tag_of : Half → ℕ
tag_of Writer = 1
tag_of Reader = 2

-- A variable with its half's tag, 1 or 2, behind which the reading goes on at `next`.
abbrev pub VariableBegun : Bytes → List Place → (tag at : ℕ) → Bytes → (next : ℕ) → Cursor → (item item' : List ℕ) → Result Begun Unread → Type 0
VariableBegun rest vars tag at x next c item item' (Ok (Got w d)) =
    (n : ℕ) × (count : ℕ) × (w ≡ packed tag n)
    × (d ≡ record { at = next; names = c.names; variables = count; compounds = c.compounds })
    × VariableIs rest vars (16 + 16 * tag) at x item item' (Some (n, count))
VariableBegun rest vars tag at x next c item item' (Ok (Round m d)) = ⊥
VariableBegun rest vars tag at x next c item item' (Ok (Square d)) = ⊥
VariableBegun rest vars tag at x next c item item' (Err (Malformed place)) = ⊥
VariableBegun rest vars tag at x next c item item' (Err Exceeded) = VariableIs rest vars (16 + 16 * tag) at x item item' None
