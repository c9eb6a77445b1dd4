-- Document 02, T-02, "Guards": "from a fixed table of names and argument counts". What stands behind a clause's `:-`, as goals and as guards.
use Rattle.std.specs.Prelude.{ℕ, Bool, true, false, ◌&&◌, ◌||◌, List, [], ◌∷◌, ◌++◌, leb, eqb}
use Prim.Native.String.{String}
use Rattle.std.proofs.Math.Option.{Option, none, some}
use Rattle.meaning.specs.Bytes.{Bytes, bytes_words, bytes, same, all, any, up_to}
use Rattle.meaning.specs.Terms.{
  writer,
  reader,
  Term,
  Terms,
  variable,
  constant,
  compound,
  end,
  more,
  Named,
  Test,
  an_integer,
  a_constant,
  a_compound,
  a_ground,
  known,
  equal,
  otherwise,
  Row,
  Guard,
  count,
  all_occurrences,
  terms_words,
}

-- Guards and goals look alike up to the bar: an element behind `:-` is a compound with a name, a bare name, or two terms with `==` between them, which
-- is a compound too.
pub data Element : Type 0 where
  whole : Named → Element
  bare : Bytes → Element
  equals : ℕ → Term → Term → Element

-- The table: "integer, constant, compound, ground, known, `==` and otherwise", each with its argument count and whether success means ground. Of `==` it
-- does mean it, but the request lets only "a reader that is itself the argument of a ground, integer or constant guard" stand several times.
unfoldable pub row : String → ℕ → Test → Bool → Row
row f n test grounds = record { name = bytes f; count = n; test = test; means_ground = grounds }

-- By how they are written: those whose name stands before their argument, the one that stands between its two, the one that stands alone.
unfoldable pub rows_before : List Row
rows_before =
    row "integer" 1 an_integer true
    ∷ row "constant" 1 a_constant true
    ∷ row "compound" 1 a_compound false
    ∷ row "ground" 1 a_ground true
    ∷ row "known" 1 known false
    ∷ []

unfoldable pub rows_between : List Row
rows_between = row "==" 2 equal false ∷ []

unfoldable pub rows_alone : List Row
rows_alone = row "otherwise" 0 otherwise false ∷ []

unfoldable pub guard_table : List Row
guard_table = rows_before ++ rows_between ++ rows_alone

-- The row of a name with so many arguments, as the guard with these.
unfoldable pub in_rows : List Row → Bytes → ℕ → Terms → Option Guard
in_rows [] f n ts = none
in_rows (r ∷ rows) f n ts =
    elim (same r.name f && eqb r.count (count ts)) [ true ↦ some (record { row = r; number = n; arguments = ts }) | false ↦ in_rows rows f n ts ]

unfoldable pub as_guard : Element → Option Guard
as_guard (whole g) = in_rows rows_before g.name g.number g.arguments
as_guard (bare f) = in_rows rows_alone f 0 end
as_guard (equals n t u) = in_rows rows_between (bytes "==") n (more t (more u end))

-- The elements as guards, if the table has every one.
unfoldable pub with_guard : Option Guard → Option (List Guard) → Option (List Guard)
with_guard none gs = none
with_guard (some g) none = none
with_guard (some g) (some gs) = some (g ∷ gs)

unfoldable pub as_guards : List Element → Option (List Guard)
as_guards [] = some []
as_guards (e ∷ es) = with_guard (as_guard e) (as_guards es)

-- The elements as goals: "heads and goals are compounds with a name".
unfoldable pub as_goals : List Element → Option (List Named)
as_goals [] = some []
as_goals (whole g ∷ es) = elim (as_goals es) [ none ↦ none | some gs ↦ some (g ∷ gs) ]
as_goals (bare f ∷ es) = none
as_goals (equals n t u ∷ es) = none

-- "A guard's arguments are terms whose only variables are readers of writers in the head", for each of so many pairs.
unfoldable pub of_the_head : ℕ → Named → Guard → Bool
of_the_head pairs head g =
    all (λ n. eqb (all_occurrences writer n g.arguments) 0 && (eqb (all_occurrences reader n g.arguments) 0 || leb 1 (all_occurrences writer n head.arguments)))
    (up_to pairs)

-- "A reader that is itself the argument of a ground, integer or constant guard."
unfoldable pub is_reader : ℕ → Terms → Bool
is_reader n end = false
is_reader n (more (variable writer m) ts) = false
is_reader n (more (variable reader m) ts) = eqb n m
is_reader n (more (constant k) ts) = false
is_reader n (more (compound m f us) ts) = false

unfoldable pub licensed : List Guard → ℕ → Bool
licensed guards n = any (λ g. g.row.means_ground && is_reader n g.arguments) guards

unfoldable pub table_words : Unit {0}
unfolding terms_words row rows_before rows_between rows_alone guard_table in_rows as_guard with_guard as_guards as_goals of_the_head is_reader licensed
table_words = tt
