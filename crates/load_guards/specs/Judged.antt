-- A clause's guards: what stands in the scratch of the elements before its bar, the words that are set for them, and what is told of them.
use Rattle.std.specs.Prelude.{ℕ, ◌+◌, ◌-◌, ◌/◌, ◌%◌, ◌≤◌, ◌<◌, min, ◌≡◌, Bool, true, false, List, [], ◌∷◌, map, eqb, leb, length, get_or, set, Option as Told, Some, None}
use Rattle.std.proofs.Math.Option.{Option, none, some}
use Rattle.meaning.specs.Bytes.{Bytes, when◌then◌else◌}
use Rattle.meaning.specs.Terms.{Half, writer, reader, end, more, Named, Guard, count, as_term, all_occurrences}
use Rattle.meaning.specs.Table.{Element, whole, bare, equals, guard_table, as_guards, licensed}
use Rattle.term.specs.Cells.{Places as CellPlaces}
use Rattle.term.specs.Frames.{Only}
use Rattle.term.specs.Guards.{test_number, guard_word, HoldsGuards, row_at}
use Rattle.term.specs.Holds.{Holds, HoldsFrom}
use Rattle.term.specs.Layout.{item_start, item_end}
use Rattle.load_names.specs.Places.{Place, spellings, item_places}
use Rattle.load_names.specs.Tables.{NamesIn, StandsAt}
use Rattle.load_openings.specs.Reading.{half_place}
use Rattle.load_elements.specs.Elements.{element_word, elements_occurrences, ElementsNumbered, ElementKnown, ElementsKnown}

-- The scratch holds an element's compounds; of `==` the words of its sides behind its place, and their compounds.
unfoldable pub HoldsElement : List ℕ → CellPlaces → Element → Type 0
HoldsElement s places (whole g) = Holds s places (as_term g)
HoldsElement s places (bare f) = Unit {0}
HoldsElement s places (equals n t u) = (places.compound n + 8 ≤ length s) × HoldsFrom s places n 0 (more t (more u end))

unfoldable pub HoldsElements : List ℕ → CellPlaces → List Element → Type 0
HoldsElements s places [] = Unit {0}
HoldsElements s places (e ∷ es) = HoldsElement s places e × HoldsElements s places es

-- The n elements before a clause's bar, whose words stand from the beginning of words on, in an item whose compounds lie behind the words that are set.
pub record Listed (text : Bytes) (names s words : List ℕ) (n base place : ℕ) (known : List Place) (es : List Element) : Type 0 where
  pub names_in : NamesIn text known names
  pub count_is : length es ≡ n
  pub few : n ≤ 8
  pub kept : n ≤ length words
  pub words_are : (i : ℕ) → i < n → get_or words i 0 ≡ get_or (map (element_word (item_places known base)) es) i 0
  pub from_number : ℕ
  pub to_number : ℕ
  pub numbered : ElementsNumbered from_number to_number es
  pub numbers_few : to_number ≤ 32
  pub known_names : ElementsKnown (spellings known) es
  pub held : HoldsElements s (item_places known base) es
  pub apart : place + 8 ≤ item_start base
  pub inside : item_end base ≤ length s

-- The row of a guard, by its number; 7 for what is none.
unfoldable pub row_number : Option Guard → ℕ
row_number none = 7
row_number (some g) = test_number g.row.test

-- One of them with its word.
pub record Alone (text : Bytes) (names s : List ℕ) (base w : ℕ) (known : List Place) (e : Element) : Type 0 where
  pub names_in : NamesIn text known names
  pub word_is : w ≡ element_word (item_places known base) e
  pub known_name : ElementKnown (spellings known) e
  pub held : HoldsElement s (item_places known base) e

-- A compound at a place, by its own word there: its name and its number of arguments.
pub record NamedAt (text : Bytes) (names s : List ℕ) (place : ℕ) (g : Named) : Type 0 where
  pub inside : place < length s
  pub some_name : 1 ≤ get_or s place 0 / 8
  pub stands : StandsAt text names (get_or s place 0 / 8 - 1) g.name
  pub count_is : get_or s place 0 % 8 ≡ count g.arguments

-- The guards' words, one behind the other.
unfoldable pub tests_set : CellPlaces → ℕ → List Guard → List ℕ → List ℕ
tests_set places place [] s = s
tests_set places place (g ∷ gs) s = tests_set places (place + 1) gs (set s place (guard_word places g))

-- A guard's row is the table's of its number, and it has as many arguments.
pub record InTable (g : Guard) : Type 0 where
  pub row_is : g.row ≡ row_at guard_table (test_number g.row.test)
  pub number_few : test_number g.row.test < 7
  pub count_is : count g.arguments ≡ g.row.count

unfoldable pub Tabled : List Guard → Type 0
Tabled [] = Unit {0}
Tabled (g ∷ gs) = InTable g × Tabled gs

-- The n guards' words stand from a place on, and their arguments are held.
pub record Tests (s : List ℕ) (place n base : ℕ) (known : List Place) (gs : List Guard) : Type 0 where
  pub count_is : length gs ≡ n
  pub few : n ≤ 8
  pub inside : place + 8 ≤ length s
  pub held : HoldsGuards s (item_places known base) place 0 gs
  pub tabled : Tabled gs

-- One guard with its word.
pub record TestAt (s : List ℕ) (w base : ℕ) (known : List Place) (g : Guard) : Type 0 where
  pub word_is : w ≡ guard_word (item_places known base) g
  pub inside : (item_places known base).compound g.number + 8 ≤ length s
  pub held : HoldsFrom s (item_places known base) g.number 0 g.arguments
  pub in_table : InTable g

-- All of the elements are guards, and their words are set; or one is none.
pub record Resolved (s s' : List ℕ) (n base place : ℕ) (known : List Place) (es : List Element) (gs : List Guard) : Type 0 where
  pub guards_are : as_guards es ≡ some gs
  pub set_is : s' ≡ tests_set (item_places known base) place gs s
  pub tests : Tests s' place n base known gs

abbrev pub ResolvedIs : (s s' : List ℕ) (n base place : ℕ) (known : List Place) (es : List Element) → Bool → Type 0
ResolvedIs s s' n base place known es true = (gs : List Guard) × Resolved s s' n base place known es gs
ResolvedIs s s' n base place known es false = (as_guards es ≡ none) × Only place (place + 8) s s'

-- It marks the reader m, if there is one.
abbrev pub marks : ℕ → Told ℕ → Bool
marks m None = false
marks m (Some n) = eqb m n

-- A reader's number is marked, if it is one of 16.
unfoldable pub marked : List ℕ → ℕ → List ℕ
marked table m = when leb 16 m then table else set table m 1

-- The readers that these guards license, by their numbers.
pub record Licences (table : List ℕ) (gs : List Guard) : Type 0 where
  pub size : length table ≡ 16
  pub licences : (m : ℕ) → m < 16 → get_or table m 0 ≡ (when licensed gs m then 1 else 0)

-- Where the head's halves are counted: writers from 0 on, readers from 16 on.
unfoldable pub head_place : Half → ℕ → ℕ
head_place writer n = n
head_place reader n = 16 + n

-- How often each half occurs in the elements and in the head, of which 2 stands for more too.
pub record Counts (item heads : List ℕ) (head : Named) (es : List Element) : Type 0 where
  pub in_elements : (h : Half) (m : ℕ) → m < 16 → get_or item (half_place h m) 0 ≡ min 2 (elements_occurrences h m es)
  pub in_head : (h : Half) (m : ℕ) → m < 16 → get_or heads (head_place h m) 0 ≡ min 2 (all_occurrences h m head.arguments)
