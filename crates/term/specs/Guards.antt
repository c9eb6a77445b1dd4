-- The guards of a clause in the scratch: each is one word, the number of its row in the table of guards and eight times the place of its compound, whose
-- arguments stand behind that place. `otherwise` has no compound; its word has the item's first place.
use Rattle.std.specs.Prelude.{ℕ, zero, suc, ◌+◌, ◌≤◌, ◌≡◌, Bool, false, ◌&&◌, List, [], ◌∷◌, bytes_eq, nat_eq, nat_lt, if◌then◌else◌, eqb, length, get_or, Option, Some, None}
use Rattle.meaning.specs.Bytes.{Bytes, same, when◌then◌else◌}
use Rattle.meaning.specs.Terms.{Test, an_integer, a_constant, a_compound, a_ground, known, equal, otherwise, Terms, end, more, Row, Guard, count}
use Rattle.term.specs.declared.guards.Row.{Row as Coded}
use Rattle.term.specs.Words.{packed}
use Rattle.term.specs.Cells.{Places, Numbered, AllNumbered, AllKnown}
use Rattle.term.specs.Holds.{HoldsFrom}

-- The rows of the table by their numbers.
abbrev pub test_number : Test → ℕ
test_number an_integer = 0
test_number a_constant = 1
test_number a_compound = 2
test_number a_ground = 3
test_number known = 4
test_number equal = 5
test_number otherwise = 6

-- A guard's word.
abbrev pub guard_word : Places → Guard → ℕ
guard_word places g = packed (test_number g.row.test) (places.compound g.number)

-- The compounds of a guard are numbered from lo up to hi: a guard's own and then its arguments', of `==` the left side's, its own and then the right
-- side's, of `otherwise` none.
unfoldable pub TestNumbered : Test → ℕ → ℕ → ℕ → Terms → Type 0
TestNumbered an_integer lo hi n ts = (n ≡ lo) × AllNumbered (lo + 1) hi ts
TestNumbered a_constant lo hi n ts = (n ≡ lo) × AllNumbered (lo + 1) hi ts
TestNumbered a_compound lo hi n ts = (n ≡ lo) × AllNumbered (lo + 1) hi ts
TestNumbered a_ground lo hi n ts = (n ≡ lo) × AllNumbered (lo + 1) hi ts
TestNumbered known lo hi n ts = (n ≡ lo) × AllNumbered (lo + 1) hi ts
TestNumbered equal lo hi n end = ⊥
TestNumbered equal lo hi n (more t end) = ⊥
TestNumbered equal lo hi n (more t (more u end)) = Numbered lo n t × Numbered (n + 1) hi u
TestNumbered equal lo hi n (more t (more u (more v ts))) = ⊥
TestNumbered otherwise lo hi n end = (lo ≤ hi) × (n ≡ 0)
TestNumbered otherwise lo hi n (more t ts) = ⊥

unfoldable pub GuardsNumbered : ℕ → ℕ → List Guard → Type 0
GuardsNumbered lo hi [] = lo ≤ hi
GuardsNumbered lo hi (g ∷ gs) = (mid : ℕ) × TestNumbered g.row.test lo mid g.number g.arguments × GuardsNumbered mid hi gs

-- Every name of their arguments is among the text's, and each has as many arguments as its row says.
unfoldable pub GuardsKnown : List Bytes → List Guard → Type 0
GuardsKnown names [] = Unit {0}
GuardsKnown names (g ∷ gs) = (AllKnown names g.arguments × (count g.arguments ≡ g.row.count) × (g.row.count ≤ 2)) × GuardsKnown names gs

-- The guards' words stand one behind the other, from the i-th word behind a place on, and of each guard the arguments behind its compound's place.
unfoldable pub HoldsGuards : List ℕ → Places → ℕ → ℕ → List Guard → Type 0
HoldsGuards s places place i [] = Unit {0}
HoldsGuards s places place i (g ∷ gs) =
    (get_or s (place + i) 0 ≡ guard_word places g) × (places.compound g.number + 8 ≤ length s) × HoldsFrom s places g.number 0 g.arguments
    × HoldsGuards s places place (i + 1) gs

-- The row is that of a name with so many arguments.
abbrev pub row_is : Row → Bytes → ℕ → Bool
row_is r f n = same r.name f && eqb r.count n

-- The row of a name with so many arguments, by its number in the table; the number of rows if there is none.
unfoldable pub row_of : List Row → Bytes → ℕ → ℕ
row_of [] f n = 0
row_of (r ∷ rows) f n = when row_is r f n then 0 else suc (row_of rows f n)

-- The row of this number; one without a name for any beyond.
unfoldable pub row_at : List Row → ℕ → Row
row_at [] n = record { name = []; count = 0; test = otherwise; means_ground = false }
row_at (r ∷ rows) zero = r
row_at (r ∷ rows) (suc n) = row_at rows n

-- The row's number, if there is one: there are seven.
abbrev pub found_row : ℕ → Option ℕ
found_row n = if nat_lt n 7 then Some n else None

-- A row as the code has it.
abbrev pub coded : Coded → Bytes × ℕ × Bool
coded r = (r.name.now, r.count, r.means_ground)

abbrev pub written : Row → Bytes × ℕ × Bool
written r = (r.name, r.count, r.means_ground)

-- Whether such a row has the name and so many arguments.
abbrev pub has : Bytes → ℕ → Coded → Bool
has f n r = bytes_eq r.name.now f && nat_eq r.count n
