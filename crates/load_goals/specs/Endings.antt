-- What reading the goals of an item, up to its full stop, answers against the definitions' readers.
use Rattle.std.specs.Prelude.{ℕ, ◌+◌, ◌-◌, ◌≤◌, ◌<◌, min, ◌≡◌, List, ◌++◌, length, get_or, Result, Ok, Err}
use Rattle.meaning.specs.Bytes.{Bytes}
use Rattle.meaning.specs.Terms.{Half, Named as Goal, goals_occurrences}
use Rattle.meaning.specs.Tokens.{ends, token, sign}
use Rattle.meaning.specs.Items.{Counted, Reader, read, malformed, passed, read_on, give, goals}
use Rattle.term.specs.Cells.{Places as CellPlaces}
use Rattle.term.specs.Frames.{Only}
use Rattle.term.specs.Jobs.{GoalsKnown}
use Rattle.term.specs.Layout.{trial_region}
use Rattle.load_tokens.specs.Fronts.{tokens_in}
use Rattle.load_names.specs.Places.{Place, Placed, spellings, before, names_over, variables_over, item_places}
use Rattle.load_openings.specs.Reading.{piece, counted_at, half_place, Stands, Open}
use Rattle.load_image.specs.Image.{goals_stored}
use Rattle.load_openings.specs.declared.cursor.Cursor.{Cursor}
use Rattle.load_openings.specs.declared.cursor.Unread.{Unread}
use Rattle.load_openings.specs.declared.cursor.Unread.TheVariants.{Malformed, Exceeded}

-- How a part of an item is kept in the scratch, which goals it has, and which number the code answers.
pub record Part (A : Type 0) : Type 0 where
  pub kept : CellPlaces → A → List ℕ → List ℕ
  pub goals : A → List Goal
  pub size : A → ℕ

-- Goals from a place of the scratch on.
unfoldable pub goals_part : ℕ → Part (List Goal)
goals_part place = record { kept = λ p gs s. goals_stored p place gs s; goals = λ gs. gs; size = λ gs. length gs }

-- Read up to its full stop: the same value as the definitions' reader, over the tokens that were passed, with its goals kept and counted.
pub record Ended {A : Type 0} (part : Part A) (by : Reader A) (text rest : Bytes) (from base : ℕ) (known vars : List Place) (c : Cursor)
    (s item s' names' item' : List ℕ) (w : ℕ) (c' : Cursor) (a : A) (passed : List Placed) (stop : ℕ) : Type 0 where
  pub reads : by (counted_at known vars c.compounds) (piece (tokens_in from rest c.at))
      ≡ read a (counted_at (names_over passed known) (variables_over from passed vars) c'.compounds) (ends stop)
  pub follows : tokens_in from rest c.at ≡ before passed (token stop (sign 46) (tokens_in from rest c'.at))
  pub no_stop : Open passed
  pub forward : 0 < c'.at
  pub stands : Stands text rest from names' item' c' (names_over passed known) (variables_over from passed vars)
  pub size_is : w ≡ part.size a
  pub stored_is : s' ≡ part.kept (item_places (names_over passed known) base) a s
  pub known_names : GoalsKnown (spellings (names_over passed known)) (part.goals a)
  pub halves : (h : Half) (n : ℕ) → n < 16
      → get_or item' (half_place h n) 0 ≡ min 2 (get_or item (half_place h n) 0 + goals_occurrences h n (part.goals a))
  pub only : Only 0 trial_region s s'

abbrev pub EndIs : {A : Type 0} (part : Part A) (by : Reader A) (text rest : Bytes) (from base : ℕ) (known vars : List Place) (c : Cursor)
    (s item s' names' item' : List ℕ) → Result (ℕ × Cursor) Unread → Type 0
EndIs {A} part by text rest from base known vars c s item s' names' item' (Ok (w, c')) =
    (a : A) × (passed : List Placed) × (stop : ℕ) × Ended part by text rest from base known vars c s item s' names' item' w c' a passed stop
EndIs part by text rest from base known vars c s item s' names' item' (Err (Malformed place)) =
    (by (counted_at known vars c.compounds) (piece (tokens_in from rest c.at)) ≡ malformed (from + place))
    × (place ≤ length rest)
    × Only 0 trial_region s s'
EndIs part by text rest from base known vars c s item s' names' item' (Err Exceeded) =
    (by (counted_at known vars c.compounds) (piece (tokens_in from rest c.at)) ≡ passed)
    × Only 0 trial_region s s'

-- Some goals have been read, each with the comma behind it, and the reading stands at the next.
pub record Partly (text rest : Bytes) (from base place : ℕ) (known vars : List Place) (c : Cursor) (s₀ item₀ s names item : List ℕ)
    (d : Cursor) (gs : List Goal) (passed : List Placed) : Type 0 where
  pub reads : goals 8 (counted_at known vars c.compounds) (piece (tokens_in from rest c.at))
      ≡ read_on
      (goals (8 - length gs) (counted_at (names_over passed known) (variables_over from passed vars) d.compounds) (piece (tokens_in from rest d.at)))
      (λ hs. give (gs ++ hs))
  pub follows : tokens_in from rest c.at ≡ before passed (tokens_in from rest d.at)
  pub no_stop : Open passed
  pub stands : Stands text rest from names item d (names_over passed known) (variables_over from passed vars)
  pub stored_is : s ≡ goals_stored (item_places (names_over passed known) base) place gs s₀
  pub known_names : GoalsKnown (spellings (names_over passed known)) gs
  pub halves : (h : Half) (n : ℕ) → n < 16
      → get_or item (half_place h n) 0 ≡ min 2 (get_or item₀ (half_place h n) 0 + goals_occurrences h n gs)
  pub only : Only 0 trial_region s₀ s

-- The ninth goal: its name passes the figure, and any other token cannot stand.
abbrev pub NinthIs : Bytes → ℕ → Unread → Type 0
NinthIs rest at (Malformed place) =
    (place ≤ length rest) × ((from : ℕ) (counted : Counted) → goals 0 counted (piece (tokens_in from rest at)) ≡ malformed (from + place))
NinthIs rest at Exceeded = (from : ℕ) (counted : Counted) → goals 0 counted (piece (tokens_in from rest at)) ≡ passed
