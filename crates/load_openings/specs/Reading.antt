-- What reading a term, a compound's arguments or a list's elements answers, against the definitions' readers.
use Rattle.std.specs.Prelude.{ℕ, ◌+◌, ◌-◌, ◌≤◌, ◌<◌, min, ◌≡◌, false, List, [], ◌∷◌, length, get_or, drop, Result, Ok, Err}
use Rattle.std.proofs.Math.Option.{some}
use Rattle.meaning.specs.Bytes.{Bytes, when◌then◌else◌}
use Rattle.meaning.specs.Terms.{Half, writer, reader, Term, Terms, count, as_term, occurrences, all_occurrences}
use Rattle.meaning.specs.Tokens.{Tokens, ends, token}
use Rattle.meaning.specs.Items.{
  Counted,
  Reader,
  read,
  malformed,
  passed,
  is,
  ◌>>=◌,
  ◌>>◌,
  give,
  expect,
  place_of,
  compound_of,
  elements,
  term,
}
use Rattle.term.specs.Cells.{term_word, stored, arguments_stored, Numbered, AllNumbered, Known, AllKnown}
use Rattle.term.specs.Frames.{Only}
use Rattle.term.specs.Layout.{item_start, item_end}
use Rattle.load_tokens.specs.Fronts.{tokens_in}
use Rattle.load_names.specs.Places.{Place, Placed, spellings, before, names_over, variables_over, item_places}
use Rattle.load_names.specs.Tables.{NamesIn, VariablesIn}
use Rattle.load_openings.specs.declared.cursor.Cursor.{Cursor}
use Rattle.load_openings.specs.declared.cursor.Unread.{Unread}
use Rattle.load_openings.specs.declared.cursor.Unread.TheVariants.{Malformed, Exceeded}
use Rattle.load_openings.specs.declared.begin.Begun.{Begun}
use Rattle.load_openings.specs.declared.begin.Begun.TheVariants.{Got, Round, Square}

-- The tokens up to and with the first full stop: the piece that an item is read from.
unfoldable pub piece : Tokens → Tokens
piece (ends n) = ends n
piece (token at t rest) = token at t (when is "." t then ends at else piece rest)

-- What has been counted, by the places of names and variables.
unfoldable pub counted_at : List Place → List Place → ℕ → Counted
counted_at names variables compounds = record { names = spellings names; variables = spellings variables; compounds = compounds }

-- How often a half has occurred stands in the item's table, writers from 32 on and readers from 48 on.
unfoldable pub half_place : Half → ℕ → ℕ
half_place writer n = 32 + n
half_place reader n = 48 + n

-- The reading stands at a cursor: the tables hold the places of the names and variables so far, which the cursor counts.
pub record Stands (text rest : Bytes) (from : ℕ) (names item : List ℕ) (c : Cursor) (known vars : List Place) : Type 0 where
  pub part : (from ≤ length text) × (rest ≡ drop from text)
  pub inside : c.at ≤ length rest
  pub names_in : NamesIn text known names
  pub names_count : c.names ≡ length known
  pub variables_in : VariablesIn rest vars item
  pub variables_count : c.variables ≡ length vars
  pub compounds_few : c.compounds ≤ 32

-- No full stop is among these tokens.
unfoldable pub Open : List Placed → Type 0
Open [] = Unit {0}
Open (p ∷ ps) = (is "." p.token ≡ false) × Open ps

-- What a reader gave, where the code gave this word and this cursor: the same value as the definitions' reader, over the tokens that were
-- passed, with its compounds stored and its variables counted.
pub record Gave {A : Type 0} (seen : A → Term) (by : Reader A) (text rest : Bytes) (from base : ℕ) (known vars : List Place) (c : Cursor)
    (s item s' names' item' : List ℕ) (w : ℕ) (c' : Cursor) (a : A) (passed : List Placed) : Type 0 where
  pub reads : by (counted_at known vars c.compounds) (piece (tokens_in from rest c.at))
      ≡ read a (counted_at (names_over passed known) (variables_over from passed vars) c'.compounds) (piece (tokens_in from rest c'.at))
  pub follows : tokens_in from rest c.at ≡ before passed (tokens_in from rest c'.at)
  pub stands : Stands text rest from names' item' c' (names_over passed known) (variables_over from passed vars)
  pub word_is : w ≡ term_word (item_places (names_over passed known) base) (seen a)
  pub stored_is : s' ≡ stored (item_places (names_over passed known) base) (seen a) s
  pub numbered : Numbered c.compounds c'.compounds (seen a)
  pub known_names : Known (spellings (names_over passed known)) (seen a)
  pub no_stop : Open passed
  pub halves : (h : Half) (n : ℕ) → n < 16
      → get_or item' (half_place h n) 0 ≡ min 2 (get_or item (half_place h n) 0 + occurrences h n (seen a))

-- The code's answer against the definitions' reader, from where the reading stands.
abbrev pub ReadIs : {A : Type 0} (seen : A → Term) (by : Reader A) (text rest : Bytes) (from base : ℕ) (known vars : List Place) (c : Cursor)
    (s item s' names' item' : List ℕ) → Result (ℕ × Cursor) Unread → Type 0
ReadIs {A} seen by text rest from base known vars c s item s' names' item' (Ok (w, c')) =
    (a : A) × (passed : List Placed) × Gave seen by text rest from base known vars c s item s' names' item' w c' a passed
ReadIs seen by text rest from base known vars c s item s' names' item' (Err (Malformed place)) =
    (by (counted_at known vars c.compounds) (piece (tokens_in from rest c.at)) ≡ malformed (from + place))
    × (place ≤ length rest)
    × Only (item_start base) (item_end base) s s'
ReadIs seen by text rest from base known vars c s item s' names' item' (Err Exceeded) =
    (by (counted_at known vars c.compounds) (piece (tokens_in from rest c.at)) ≡ passed)
    × Only (item_start base) (item_end base) s s'

-- The same of the arguments of the compound n from the i-th on.
pub record GaveArguments (n i : ℕ) (by : Reader Terms) (text rest : Bytes) (from base : ℕ) (known vars : List Place) (c : Cursor)
    (s item s' names' item' : List ℕ) (w : ℕ) (c' : Cursor) (ts : Terms) (passed : List Placed) : Type 0 where
  pub reads : by (counted_at known vars c.compounds) (piece (tokens_in from rest c.at))
      ≡ read ts (counted_at (names_over passed known) (variables_over from passed vars) c'.compounds) (piece (tokens_in from rest c'.at))
  pub follows : tokens_in from rest c.at ≡ before passed (tokens_in from rest c'.at)
  pub stands : Stands text rest from names' item' c' (names_over passed known) (variables_over from passed vars)
  pub count_is : w ≡ i + count ts
  pub few : i + count ts ≤ 6
  pub stored_is : s' ≡ arguments_stored (item_places (names_over passed known) base) n i ts s
  pub numbered : AllNumbered c.compounds c'.compounds ts
  pub known_names : AllKnown (spellings (names_over passed known)) ts
  pub no_stop : Open passed
  pub halves : (h : Half) (m : ℕ) → m < 16
      → get_or item' (half_place h m) 0 ≡ min 2 (get_or item (half_place h m) 0 + all_occurrences h m ts)

abbrev pub ArgumentsAre : (n i : ℕ) (by : Reader Terms) (text rest : Bytes) (from base : ℕ) (known vars : List Place) (c : Cursor)
    (s item s' names' item' : List ℕ) → Result (ℕ × Cursor) Unread → Type 0
ArgumentsAre n i by text rest from base known vars c s item s' names' item' (Ok (w, c')) =
    (ts : Terms) × (passed : List Placed) × GaveArguments n i by text rest from base known vars c s item s' names' item' w c' ts passed
ArgumentsAre n i by text rest from base known vars c s item s' names' item' (Err (Malformed place)) =
    (by (counted_at known vars c.compounds) (piece (tokens_in from rest c.at)) ≡ malformed (from + place))
    × (place ≤ length rest)
    × Only (item_start base) (item_end base) s s'
ArgumentsAre n i by text rest from base known vars c s item s' names' item' (Err Exceeded) =
    (by (counted_at known vars c.compounds) (piece (tokens_in from rest c.at)) ≡ passed)
    × Only (item_start base) (item_end base) s s'

-- A compound as a term; the term behind a list's `|` with its closing bracket.
unfoldable pub round_of : Reader Term → Bytes → Reader Term
round_of argument f = compound_of argument f >>= λ g. give (as_term g)

unfoldable pub closed : Reader Term → Reader Term
closed element = element >>= λ tail. expect "]" >> give tail

-- A term is read up to behind its opening bracket: reading goes on there with what the bracket holds.
pub record Opened (by opened : Reader Term) (text rest : Bytes) (from : ℕ) (known vars : List Place) (c : Cursor)
    (item names' item' : List ℕ) (c' : Cursor) (passed : List Placed) : Type 0 where
  pub reads : by (counted_at known vars c.compounds) (piece (tokens_in from rest c.at))
      ≡ opened (counted_at (names_over passed known) (variables_over from passed vars) c'.compounds) (piece (tokens_in from rest c'.at))
  pub follows : tokens_in from rest c.at ≡ before passed (tokens_in from rest c'.at)
  pub stands : Stands text rest from names' item' c' (names_over passed known) (variables_over from passed vars)
  pub no_stop : Open passed
  pub compounds_same : c'.compounds ≡ c.compounds
  pub item_same : item' ≡ item

-- A term begun, against the definitions' reader. One that is read whole has no compounds to store.
abbrev pub BegunIs : (left : ℕ) (text rest : Bytes) (from : ℕ) (known vars : List Place) (c : Cursor) (item names' item' : List ℕ) → Result Begun Unread → Type 0
BegunIs left text rest from known vars c item names' item' (Ok (Got w c')) =
    (a : Term) × (passed : List Placed)
    × ((base : ℕ) (s : List ℕ) → Gave (λ (t : Term). t) (term left) text rest from base known vars c s item s names' item' w c' a passed)
BegunIs left text rest from known vars c item names' item' (Ok (Round n c')) =
    (f : Bytes) × (passed : List Placed) × (0 < left) × (place_of f (spellings (names_over passed known)) ≡ some n)
    × Opened (term left) (round_of (term (left - 1)) f) text rest from known vars c item names' item' c' passed
BegunIs left text rest from known vars c item names' item' (Ok (Square c')) =
    (passed : List Placed) × (0 < left)
    × Opened (term left) (elements (term (left - 1)) 32) text rest from known vars c item names' item' c' passed
BegunIs left text rest from known vars c item names' item' (Err (Malformed place)) =
    (term left (counted_at known vars c.compounds) (piece (tokens_in from rest c.at)) ≡ malformed (from + place)) × (place ≤ length rest)
BegunIs left text rest from known vars c item names' item' (Err Exceeded) =
    term left (counted_at known vars c.compounds) (piece (tokens_in from rest c.at)) ≡ passed
