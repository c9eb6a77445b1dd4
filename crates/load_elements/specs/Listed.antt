-- What reading the elements behind a clause's `:-` answers, up to the bar or the full stop, against the definitions' `body`.
use Rattle.std.specs.Prelude.{ℕ, ◌+◌, ◌≤◌, ◌<◌, min, ◌≡◌, List, [], map, length, get_or, Result, Ok, Err}
use Rattle.meaning.specs.Bytes.{Bytes}
use Rattle.meaning.specs.Terms.{Half}
use Rattle.meaning.specs.Tokens.{ends, token, sign}
use Rattle.meaning.specs.Table.{Element, as_goals}
use Rattle.meaning.specs.Items.{malformed, passed, unguarded, guarded, body}
use Rattle.term.specs.Frames.{Only}
use Rattle.term.specs.Layout.{item_start, item_end}
use Rattle.load_tokens.specs.Fronts.{tokens_in}
use Rattle.load_names.specs.Places.{Place, Placed, spellings, before, names_over, variables_over, item_places}
use Rattle.load_openings.specs.Reading.{piece, counted_at, half_place, Stands, Open}
use Rattle.load_openings.specs.declared.cursor.Cursor.{Cursor}
use Rattle.load_openings.specs.declared.cursor.Unread.{Unread}
use Rattle.load_openings.specs.declared.cursor.Unread.TheVariants.{Malformed, Exceeded}
use Rattle.load_elements.specs.Elements.{element_word, elements_stored, elements_occurrences, ElementsNumbered, ElementsKnown}
use Rattle.load_elements.specs.declared.answer.Elements.{Elements}
use Rattle.load_elements.specs.declared.answer.Elements.TheVariants.{Stop, Bar}

-- These n elements have been read over the tokens that were passed: their words stand from words' beginning on, their compounds are stored, their
-- variables counted. The reading stands behind the sign that ends them.
pub record GaveElements (text rest : Bytes) (from base : ℕ) (known vars : List Place) (c : Cursor)
    (s item words s' names' item' words' : List ℕ) (n : ℕ) (d : Cursor) (es : List Element) (passed : List Placed) : Type 0 where
  pub stands : Stands text rest from names' item' d (names_over passed known) (variables_over from passed vars)
  pub forward : 0 < d.at
  pub no_stop : Open passed
  pub count_is : length es ≡ n
  pub some : 1 ≤ n
  pub few : n ≤ 8
  pub words_are : (i : ℕ) → i < n → get_or words' i 0 ≡ get_or (map (element_word (item_places (names_over passed known) base)) es) i 0
  pub words_rest : (i : ℕ) → n ≤ i → get_or words' i 0 ≡ get_or words i 0
  pub stored_is : s' ≡ elements_stored (item_places (names_over passed known) base) es s
  pub numbered : ElementsNumbered c.compounds d.compounds es
  pub known_names : ElementsKnown (spellings (names_over passed known)) es
  pub halves : (h : Half) (m : ℕ) → m < 16
      → get_or item' (half_place h m) 0 ≡ min 2 (get_or item (half_place h m) 0 + elements_occurrences h m es)
  pub only : Only (item_start base) (item_end base) s s'

-- At the bar they are the guards, and the goals are read behind it.
pub record AtBar (text rest : Bytes) (from base : ℕ) (known vars : List Place) (c : Cursor)
    (s item words s' names' item' words' : List ℕ) (n : ℕ) (d : Cursor) (es : List Element) (passed : List Placed) (bar : ℕ) : Type 0 where
  pub reads : body 8 [] (counted_at known vars c.compounds) (piece (tokens_in from rest c.at))
      ≡ guarded es (counted_at (names_over passed known) (variables_over from passed vars) d.compounds) (piece (tokens_in from rest d.at))
  pub follows : tokens_in from rest c.at ≡ before passed (token bar (sign 124) (tokens_in from rest d.at))
  pub gave : GaveElements text rest from base known vars c s item words s' names' item' words' n d es passed

-- At the full stop, at the offset a of the rest, they are the goals, if all of them can be.
pub record AtStop (text rest : Bytes) (from base : ℕ) (known vars : List Place) (c : Cursor)
    (s item words s' names' item' words' : List ℕ) (n a : ℕ) (d : Cursor) (es : List Element) (passed : List Placed) : Type 0 where
  pub reads : body 8 [] (counted_at known vars c.compounds) (piece (tokens_in from rest c.at))
      ≡ unguarded (from + a) (as_goals es) (counted_at (names_over passed known) (variables_over from passed vars) d.compounds) (ends (from + a))
  pub follows : tokens_in from rest c.at ≡ before passed (token (from + a) (sign 46) (tokens_in from rest d.at))
  pub inside : a ≤ length rest
  pub gave : GaveElements text rest from base known vars c s item words s' names' item' words' n d es passed

abbrev pub ElementsAre : (text rest : Bytes) (from base : ℕ) (known vars : List Place) (c : Cursor)
    (s item words s' names' item' words' : List ℕ) → Result Elements Unread → Type 0
ElementsAre text rest from base known vars c s item words s' names' item' words' (Ok (Stop n a d)) =
    (es : List Element) × (passed : List Placed) × AtStop text rest from base known vars c s item words s' names' item' words' n a d es passed
ElementsAre text rest from base known vars c s item words s' names' item' words' (Ok (Bar n d)) =
    (es : List Element) × (passed : List Placed) × (bar : ℕ) × AtBar text rest from base known vars c s item words s' names' item' words' n d es passed bar
ElementsAre text rest from base known vars c s item words s' names' item' words' (Err (Malformed a)) =
    (body 8 [] (counted_at known vars c.compounds) (piece (tokens_in from rest c.at)) ≡ malformed (from + a))
    × (a ≤ length rest)
    × Only (item_start base) (item_end base) s s'
ElementsAre text rest from base known vars c s item words s' names' item' words' (Err Exceeded) =
    (body 8 [] (counted_at known vars c.compounds) (piece (tokens_in from rest c.at)) ≡ passed)
    × Only (item_start base) (item_end base) s s'
