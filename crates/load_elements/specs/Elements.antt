-- Elements in the scratch: the word of an element, what of it is stored, how its compounds are numbered and which names it has.
use Rattle.std.specs.Prelude.{ℕ, ◌+◌, ◌≤◌, ◌<◌, min, ◌≡◌, List, [], ◌∷◌, length, get_or, set, Result, Ok, Err}
use Rattle.meaning.specs.Bytes.{Bytes}
use Rattle.meaning.specs.Terms.{Half, as_term, occurrences}
use Rattle.meaning.specs.Table.{Element, whole, bare, equals}
use Rattle.meaning.specs.Items.{read, malformed, passed, element_behind}
use Rattle.term.specs.Cells.{Places as CellPlaces, number_of, term_word, stored, Numbered, KnownName, Known}
use Rattle.term.specs.Frames.{Only}
use Rattle.term.specs.Layout.{item_start, item_end}
use Rattle.term.specs.Words.{name_word, probe_word}
use Rattle.load_tokens.specs.Fronts.{tokens_in}
use Rattle.load_names.specs.Places.{Place, Placed, spellings, before, names_over, variables_over, item_places}
use Rattle.load_openings.specs.Reading.{piece, counted_at, half_place, Stands, Open}
use Rattle.load_openings.specs.declared.cursor.Cursor.{Cursor}
use Rattle.load_openings.specs.declared.cursor.Unread.{Unread}
use Rattle.load_openings.specs.declared.cursor.Unread.TheVariants.{Malformed, Exceeded}

-- An element's word: a compound's, a name's, or for `==` the place of its compound with a tag that no term has.
unfoldable pub element_word : CellPlaces → Element → ℕ
element_word places (whole g) = term_word places (as_term g)
element_word places (bare f) = name_word (number_of f places.names)
element_word places (equals n t u) = probe_word (places.compound n)

-- The scratch with an element's compounds stored: of `==` those of its two sides and then their words behind its place, which itself is left as it is.
unfoldable pub element_stored : CellPlaces → Element → List ℕ → List ℕ
element_stored places (whole g) s = stored places (as_term g) s
element_stored places (bare f) s = s
element_stored places (equals n t u) s =
    set (set (stored places u (stored places t s)) (places.compound n + 1) (term_word places t)) (places.compound n + 2) (term_word places u)

unfoldable pub elements_stored : CellPlaces → List Element → List ℕ → List ℕ
elements_stored places [] s = s
elements_stored places (e ∷ es) s = elements_stored places es (element_stored places e s)

-- How often one half of pair n occurs.
unfoldable pub element_occurrences : Half → ℕ → Element → ℕ
element_occurrences h n (whole g) = occurrences h n (as_term g)
element_occurrences h n (bare f) = 0
element_occurrences h n (equals m t u) = occurrences h n t + occurrences h n u

unfoldable pub elements_occurrences : Half → ℕ → List Element → ℕ
elements_occurrences h n [] = 0
elements_occurrences h n (e ∷ es) = element_occurrences h n e + elements_occurrences h n es

-- The compounds have numbers from lo up to hi in the order of the text: of `==` those of the left side, its own and those of the right; a bare name has none.
unfoldable pub ElementNumbered : ℕ → ℕ → Element → Type 0
ElementNumbered lo hi (whole g) = Numbered lo hi (as_term g)
ElementNumbered lo hi (bare f) = lo ≡ hi
ElementNumbered lo hi (equals n t u) = Numbered lo n t × Numbered (n + 1) hi u

unfoldable pub ElementsNumbered : ℕ → ℕ → List Element → Type 0
ElementsNumbered lo hi [] = lo ≡ hi
ElementsNumbered lo hi (e ∷ es) = (mid : ℕ) × ElementNumbered lo mid e × ElementsNumbered mid hi es

-- The names are among these.
unfoldable pub ElementKnown : List Bytes → Element → Type 0
ElementKnown names (whole g) = Known names (as_term g)
ElementKnown names (bare f) = KnownName names f
ElementKnown names (equals n t u) = Known names t × Known names u

unfoldable pub ElementsKnown : List Bytes → List Element → Type 0
ElementsKnown names [] = Unit {0}
ElementsKnown names (e ∷ es) = ElementKnown names e × ElementsKnown names es

-- One element read, where the code gave this word and this cursor: the definitions' element over the tokens that were passed.
pub record GaveElement (text rest : Bytes) (from base : ℕ) (known vars : List Place) (c : Cursor) (s item s' names' item' : List ℕ)
    (w : ℕ) (c' : Cursor) (e : Element) (passed : List Placed) : Type 0 where
  pub reads : element_behind (counted_at known vars c.compounds) (piece (tokens_in from rest c.at))
      ≡ read e (counted_at (names_over passed known) (variables_over from passed vars) c'.compounds) (piece (tokens_in from rest c'.at))
  pub follows : tokens_in from rest c.at ≡ before passed (tokens_in from rest c'.at)
  pub no_stop : Open passed
  pub stands : Stands text rest from names' item' c' (names_over passed known) (variables_over from passed vars)
  pub word_is : w ≡ element_word (item_places (names_over passed known) base) e
  pub stored_is : s' ≡ element_stored (item_places (names_over passed known) base) e s
  pub numbered : ElementNumbered c.compounds c'.compounds e
  pub known_names : ElementKnown (spellings (names_over passed known)) e
  pub halves : (h : Half) (m : ℕ) → m < 16
      → get_or item' (half_place h m) 0 ≡ min 2 (get_or item (half_place h m) 0 + element_occurrences h m e)

abbrev pub ElementIs : (text rest : Bytes) (from base : ℕ) (known vars : List Place) (c : Cursor) (s item s' names' item' : List ℕ)
    → Result (ℕ × Cursor) Unread → Type 0
ElementIs text rest from base known vars c s item s' names' item' (Ok (w, c')) =
    (e : Element) × (passed : List Placed) × GaveElement text rest from base known vars c s item s' names' item' w c' e passed
ElementIs text rest from base known vars c s item s' names' item' (Err (Malformed place)) =
    (element_behind (counted_at known vars c.compounds) (piece (tokens_in from rest c.at)) ≡ malformed (from + place))
    × (place ≤ length rest)
    × Only (item_start base) (item_end base) s s'
ElementIs text rest from base known vars c s item s' names' item' (Err Exceeded) =
    (element_behind (counted_at known vars c.compounds) (piece (tokens_in from rest c.at)) ≡ passed)
    × Only (item_start base) (item_end base) s s'
