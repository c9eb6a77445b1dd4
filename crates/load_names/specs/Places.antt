-- Where the names of a text and the variables of an item first stand.
use Rattle.std.specs.Prelude.{ℕ, ◌-◌, List, [], ◌∷◌, ◌++◌, map}
use Rattle.meaning.specs.Bytes.{Bytes, same, any, when◌then◌else◌}
use Rattle.meaning.specs.Tokens.{Token, Tokens, token, name, variable, integer, sign, bad}
use Rattle.term.specs.Cells.{Places as CellPlaces}
use Rattle.term.specs.Layout.{item_place}

-- A spelling, and the offset at which it first stands.
pub record Place : Type 0 where
  pub at : ℕ
  pub spelling : Bytes

unfoldable pub spellings : List Place → List Bytes
spellings places = map (λ p. p.spelling) places

-- One place more, unless the spelling is known.
unfoldable pub with_place : ℕ → Bytes → List Place → List Place
with_place at f places =
    when any (same f) (spellings places) then places else places ++ (record { at = at; spelling = f } ∷ [])

-- A name's token adds its spelling, and no other.
unfoldable pub with_name : ℕ → Token → List Place → List Place
with_name at (name f) places = with_place at f places
with_name at (variable h x) places = places
with_name at (integer i) places = places
with_name at (sign b) places = places
with_name at bad places = places

-- A variable's token adds its spelling, whichever half it is.
unfoldable pub with_variable : ℕ → Token → List Place → List Place
with_variable at (name f) places = places
with_variable at (variable h x) places = with_place at x places
with_variable at (integer i) places = places
with_variable at (sign b) places = places
with_variable at bad places = places

-- A token with its offset.
pub record Placed : Type 0 where
  pub at : ℕ
  pub token : Token

-- The tokens that were passed, before those that follow.
unfoldable pub before : List Placed → Tokens → Tokens
before [] rest = rest
before (p ∷ ps) rest = token p.at p.token (before ps rest)

-- The names' places over some tokens, behind those already known; the variables', counted from where the rest of the text begins.
unfoldable pub names_over : List Placed → List Place → List Place
names_over [] places = places
names_over (p ∷ ps) places = names_over ps (with_name p.at p.token places)

unfoldable pub variables_over : ℕ → List Placed → List Place → List Place
variables_over from [] places = places
variables_over from (p ∷ ps) places = variables_over from ps (with_variable (p.at - from) p.token places)

-- An item's own places: pairs by their numbers, compounds from the item's first place on, eight words each.
unfoldable pub item_places : List Place → ℕ → CellPlaces
item_places names base = record { names = spellings names; pair = λ n. n; compound = λ n. item_place base n; width = λ n. 8 }
