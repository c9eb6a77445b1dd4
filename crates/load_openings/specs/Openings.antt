-- What reading a goal's name and its parenthesis answers against the definitions' `goal`.
use Rattle.std.specs.Prelude.{ℕ, ◌+◌, ◌≤◌, ◌≡◌, List, length, Result, Ok, Err}
use Rattle.std.proofs.Math.Option.{some}
use Rattle.meaning.specs.Bytes.{Bytes}
use Rattle.meaning.specs.Tokens.{token, name, sign}
use Rattle.meaning.specs.Items.{malformed, passed, place_of, compound_of, term, goal}
use Rattle.load_tokens.specs.Fronts.{tokens_in}
use Rattle.load_names.specs.Places.{Place, spellings, with_place}
use Rattle.load_openings.specs.Reading.{piece, counted_at, Stands}
use Rattle.load_openings.specs.declared.cursor.Cursor.{Cursor}
use Rattle.load_openings.specs.declared.cursor.Unread.{Unread}
use Rattle.load_openings.specs.declared.cursor.Unread.TheVariants.{Malformed, Exceeded}

-- A goal's name and parenthesis are read: reading goes on there with the compound's arguments.
pub record Opens (text rest : Bytes) (from : ℕ) (names' item : List ℕ) (known vars : List Place) (c : Cursor) (n : ℕ) (c' : Cursor)
    (f : Bytes) (p q : ℕ) : Type 0 where
  pub reads : goal (counted_at known vars c.compounds) (piece (tokens_in from rest c.at))
      ≡ compound_of (term 15) f (counted_at (with_place p f known) vars c'.compounds) (piece (tokens_in from rest c'.at))
  pub follows : tokens_in from rest c.at ≡ token p (name f) (token q (sign 40) (tokens_in from rest c'.at))
  pub number_is : place_of f (spellings (with_place p f known)) ≡ some n
  pub compounds_same : c'.compounds ≡ c.compounds
  pub stands : Stands text rest from names' item c' (with_place p f known) vars

abbrev pub OpeningIs : (text rest : Bytes) (from : ℕ) (names' item : List ℕ) (known vars : List Place) (c : Cursor) → Result (ℕ × Cursor) Unread → Type 0
OpeningIs text rest from names' item known vars c (Ok (n, c')) =
    (f : Bytes) × (p : ℕ) × (q : ℕ) × Opens text rest from names' item known vars c n c' f p q
OpeningIs text rest from names' item known vars c (Err (Malformed place)) =
    (goal (counted_at known vars c.compounds) (piece (tokens_in from rest c.at)) ≡ malformed (from + place)) × (place ≤ length rest)
OpeningIs text rest from names' item known vars c (Err Exceeded) =
    goal (counted_at known vars c.compounds) (piece (tokens_in from rest c.at)) ≡ passed
