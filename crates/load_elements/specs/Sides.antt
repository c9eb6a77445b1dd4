-- What the functions that an element is read by say: whether a term can be one alone, what the right side of `==` gave, and what a ninth element does.
use Rattle.std.specs.Prelude.{ℕ, ◌+◌, ◌≤◌, ◌<◌, min, ◌≡◌, Bool, true, false, List, length, get_or, set, Result, Ok, Err}
use Rattle.meaning.specs.Bytes.{Bytes}
use Rattle.meaning.specs.Terms.{Half, Constant, cell, named, Term, count, occurrences}
use Rattle.meaning.specs.Table.{Element, equals}
use Rattle.meaning.specs.Items.{Counted, read, malformed, passed, equals_behind, body}
use Rattle.term.specs.Cells.{Places as CellPlaces, term_word, functor_word, stored, Numbered, Known}
use Rattle.term.specs.Frames.{Only}
use Rattle.term.specs.Layout.{item_start, item_end, item_place}
use Rattle.term.specs.Words.{probe_word}
use Rattle.load_tokens.specs.Fronts.{tokens_in}
use Rattle.load_names.specs.Places.{Place, Placed, spellings, before, names_over, variables_over, item_places}
use Rattle.load_openings.specs.Reading.{piece, counted_at, half_place, Stands, Open}
use Rattle.load_openings.specs.declared.cursor.Cursor.{Cursor}
use Rattle.load_openings.specs.declared.cursor.Unread.{Unread}
use Rattle.load_openings.specs.declared.cursor.Unread.TheVariants.{Malformed, Exceeded}

-- A term is an element by itself if it begins with a name.
unfoldable pub alone : Term → Bool
alone (Term.variable h n) = false
alone (Term.constant (Constant.integer i)) = false
alone (Term.constant (Constant.name f)) = true
alone (Term.constant Constant.empty) = false
alone (Term.compound n cell ts) = false
alone (Term.compound n (named f) ts) = true

-- A term's word, and a compound's own word at its place.
unfoldable pub Own : List ℕ → CellPlaces → Term → Type 0
Own s places (Term.variable h n) = Unit {0}
Own s places (Term.constant k) = Unit {0}
Own s places (Term.compound n f ts) =
    (places.compound n < length s) × (get_or s (places.compound n) 0 ≡ functor_word places f (count ts)) × (count ts ≤ 6)

pub record Stored (s : List ℕ) (names : List Place) (base w : ℕ) (t : Term) : Type 0 where
  pub word_is : w ≡ term_word (item_places names base) t
  pub own : Own s (item_places names base) t

-- The right side of `==` behind any left side that has this word.
pub record GaveRight (left : ℕ) (text rest : Bytes) (from base : ℕ) (known vars : List Place) (c : Cursor) (s item s' names' item' : List ℕ)
    (w : ℕ) (c' : Cursor) (u : Term) (passed : List Placed) : Type 0 where
  pub reads : (t : Term) → equals_behind t (counted_at known vars c.compounds) (piece (tokens_in from rest c.at))
      ≡ read (equals c.compounds t u) (counted_at (names_over passed known) (variables_over from passed vars) c'.compounds)
      (piece (tokens_in from rest c'.at))
  pub follows : tokens_in from rest c.at ≡ before passed (tokens_in from rest c'.at)
  pub no_stop : Open passed
  pub stands : Stands text rest from names' item' c' (names_over passed known) (variables_over from passed vars)
  pub word_is : w ≡ probe_word (item_place base c.compounds)
  pub stored_is : s'
      ≡ set (set (stored (item_places (names_over passed known) base) u s) (item_place base c.compounds + 1) left) (item_place base c.compounds + 2)
      (term_word (item_places (names_over passed known) base) u)
  pub numbered : Numbered (c.compounds + 1) c'.compounds u
  pub known_names : Known (spellings (names_over passed known)) u
  pub halves : (h : Half) (m : ℕ) → m < 16
      → get_or item' (half_place h m) 0 ≡ min 2 (get_or item (half_place h m) 0 + occurrences h m u)

abbrev pub RightIs : (left : ℕ) (text rest : Bytes) (from base : ℕ) (known vars : List Place) (c : Cursor) (s item s' names' item' : List ℕ)
    → Result (ℕ × Cursor) Unread → Type 0
RightIs left text rest from base known vars c s item s' names' item' (Ok (w, c')) =
    (u : Term) × (passed : List Placed) × GaveRight left text rest from base known vars c s item s' names' item' w c' u passed
RightIs left text rest from base known vars c s item s' names' item' (Err (Malformed place)) =
    ((t : Term) → equals_behind t (counted_at known vars c.compounds) (piece (tokens_in from rest c.at)) ≡ malformed (from + place))
    × (place ≤ length rest)
    × Only (item_start base) (item_end base) s s'
RightIs left text rest from base known vars c s item s' names' item' (Err Exceeded) =
    ((t : Term) → equals_behind t (counted_at known vars c.compounds) (piece (tokens_in from rest c.at)) ≡ passed)
    × Only (item_start base) (item_end base) s s'

-- The ninth element: a token that can begin a term passes the figure, and any other cannot stand.
abbrev pub NinthIs : Bytes → ℕ → Unread → Type 0
NinthIs rest at (Malformed place) =
    (place ≤ length rest)
    × ((from : ℕ) (counted : Counted) (es : List Element) → body 0 es counted (piece (tokens_in from rest at)) ≡ malformed (from + place))
NinthIs rest at Exceeded = (from : ℕ) (counted : Counted) (es : List Element) → body 0 es counted (piece (tokens_in from rest at)) ≡ passed
