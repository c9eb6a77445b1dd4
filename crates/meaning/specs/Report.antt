-- Document 01, 'The report'.
use Rattle.std.specs.Prelude.{ℕ, zero, suc, ◌+◌, Bool, true, false, List, [], ◌∷◌, ◌++◌, map, eqb, length}
use Prim.Native.String.{String}
use Rattle.std.proofs.Math.Option.{Option, none, some}
use Rattle.meaning.specs.Bytes.{Bytes, bytes, decimal, each_once, joined}
use Rattle.meaning.specs.Terms.{
  Half,
  writer,
  reader,
  Integer,
  plus,
  minus,
  Constant,
  integer,
  name,
  empty,
  Functor,
  cell,
  named,
  Term,
  Terms,
  variable,
  constant,
  compound,
  end,
  more,
  Query,
  pairs_of,
  as_term,
}
use Rattle.meaning.specs.State.{Values, Origin, Goal, Waiting, State, Part, part_of}
unfoldable pub use Rattle.meaning.specs.State.{applied}
use Rattle.meaning.specs.Run.{Verdict, rest, budget, room, Ended, run_words}

-- "An unassigned pair is `_1`, `_2`, .. in order of first appearance in the section": its number, from the section's pairs in that order.
unfoldable pub number_in : ℕ → List ℕ → ℕ
number_in p [] = 1
number_in p (q ∷ qs) = elim (eqb p q) [ true ↦ 1 | false ↦ suc (number_in p qs) ]

-- "With `?` for its reader."
unfoldable pub variable_bytes : List ℕ → Half → ℕ → Bytes
variable_bytes pairs writer p = bytes "_" ++ decimal (number_in p pairs)
variable_bytes pairs reader p = bytes "_" ++ decimal (number_in p pairs) ++ bytes "?"

unfoldable pub integer_bytes : Integer → Bytes
integer_bytes (plus n) = decimal n
integer_bytes (minus n) = bytes "-" ++ decimal n

-- A term stands alone, or as the tail of a list behind an element.
pub data Role : Type 0 where
  alone tail : Role

-- "Lists as `[a,b]` or `[a|T]`, tails followed."
unfoldable pub behind_bar : Role → Bytes → Bytes
behind_bar alone written = written
behind_bar tail written = bytes "|" ++ written ++ bytes "]"

unfoldable pub empty_bytes : Role → Bytes
empty_bytes alone = bytes "[]"
empty_bytes tail = bytes "]"

unfoldable pub before_element : Role → Bytes
before_element alone = bytes "["
before_element tail = bytes ","

unfoldable pub constant_bytes : Role → Constant → Bytes
constant_bytes standing (integer i) = behind_bar standing (integer_bytes i)
constant_bytes standing (name f) = behind_bar standing f
constant_bytes standing empty = empty_bytes standing

-- A term written, "no spaces"; `pairs` are the section's unassigned pairs in order of first appearance.
unfoldable mutual
  pub written : List ℕ → Role → Term → Bytes
  written pairs standing (variable h p) = behind_bar standing (variable_bytes pairs h p)
  written pairs standing (constant k) = constant_bytes standing k
  written pairs standing (compound n cell ts) = before_element standing ++ element_and_tail pairs ts
  written pairs standing (compound n (named f) ts) = behind_bar standing (f ++ bytes "(" ++ first_argument pairs ts ++ bytes ")")

  pub element_and_tail : List ℕ → Terms → Bytes
  element_and_tail pairs end = []
  element_and_tail pairs (more t ts) = written pairs alone t ++ tail_bytes pairs ts

  pub tail_bytes : List ℕ → Terms → Bytes
  tail_bytes pairs end = []
  tail_bytes pairs (more t ts) = written pairs tail t

  pub first_argument : List ℕ → Terms → Bytes
  first_argument pairs end = []
  first_argument pairs (more t ts) = written pairs alone t ++ other_arguments pairs ts

  pub other_arguments : List ℕ → Terms → Bytes
  other_arguments pairs end = []
  other_arguments pairs (more t ts) = bytes "," ++ written pairs alone t ++ other_arguments pairs ts

-- A line of the section: what stands before the term, the term, and what stands behind it.
pub record Line : Type 0 where
  pub words : Bytes
  pub shown : Term
  pub ending : Bytes

-- "`NAME = value` for each pair of the query in order of first occurrence"; "a query pair still unassigned is written as its writer".
unfoldable pub value_lines : ℕ → List Bytes → List Line
value_lines p [] = []
value_lines p (x ∷ xs) = record { words = x ++ bytes " = "; shown = variable writer p; ending = [] } ∷ value_lines (suc p) xs

-- "Each active, waiting or failed line ends with ` from C at T`" (02, T-09).
unfoldable pub origin_bytes : Origin → Bytes
origin_bytes origin = bytes " from " ++ decimal origin.clause ++ bytes " at " ++ decimal origin.tries

-- "`active GOAL`, `waiting GOAL` and `failed GOAL` lines, each group in the machine's order."
unfoldable pub goal_lines : Bytes → List Goal → List Line
goal_lines word gs = map (λ g. record { words = word; shown = as_term g.goal; ending = origin_bytes g.origin }) gs

unfoldable pub part_lines : Query → Part → List Line
part_lines query part =
    value_lines 0 query.variables
    ++ goal_lines (bytes "active ") part.goals.queue
    ++ goal_lines (bytes "waiting ") (map (λ w. w.goal) part.goals.waiting)
    ++ goal_lines (bytes "failed ") part.goals.failed

-- The same lines with every assignment applied.
unfoldable pub lines_applied : Values → List Line → List Line
lines_applied values ls = map (λ l. record { words = l.words; shown = applied (length values) values l.shown; ending = l.ending }) ls

-- The unassigned pairs in order of first appearance.
unfoldable pub pairs_shown : List Line → List ℕ
pairs_shown [] = []
pairs_shown (l ∷ ls) = pairs_of l.shown (pairs_shown ls)

unfoldable pub unassigned_pairs : List Line → List ℕ
unassigned_pairs ls = each_once [] (pairs_shown ls)

-- "Each line ends in LF."
unfoldable pub line_bytes : List ℕ → Line → Bytes
line_bytes pairs l = l.words ++ written pairs alone l.shown ++ l.ending ++ bytes "\n"

unfoldable pub lines_bytes : List Line → Bytes
lines_bytes ls = joined (map (line_bytes (unassigned_pairs ls)) ls)

-- "`query K tries T active A waiting W failed F`, K its place and the others counts of its own."
unfoldable pub header : ℕ → Part → Bytes
header place part =
    bytes "query " ++ decimal (place + 1)
    ++ bytes " tries " ++ decimal part.unit.tries
    ++ bytes " active " ++ decimal (length part.goals.queue)
    ++ bytes " waiting " ++ decimal (length part.goals.waiting)
    ++ bytes " failed " ++ decimal (length part.goals.failed)
    ++ bytes "\n"

-- A section: what the state has of one query, and nothing else.
unfoldable pub section : ℕ → Query → Part → Bytes
section place query part = header place part ++ lines_bytes (lines_applied part.unit.values (part_lines query part))

unfoldable pub sections : ℕ → List Query → State → List Bytes
sections place [] state = []
sections place (q ∷ qs) state = section place q (part_of place state) ∷ sections (suc place) qs state

unfoldable pub verdict_bytes : Verdict → Bytes
verdict_bytes rest = bytes "rest"
verdict_bytes budget = bytes "budget"
verdict_bytes room = bytes "room"

-- "First `run VERDICT steps N`, N the steps taken."
unfoldable pub run_line : Ended → Bytes
run_line last = bytes "run " ++ verdict_bytes last.verdict ++ bytes " steps " ++ decimal last.state.steps ++ bytes "\n"

unfoldable pub report : List Query → Ended → Bytes
report queries last = run_line last ++ joined (sections 0 queries last.state)

unfoldable pub report_words : Unit {0}
unfolding run_words number_in variable_bytes integer_bytes behind_bar empty_bytes before_element constant_bytes written element_and_tail tail_bytes first_argument other_arguments value_lines origin_bytes goal_lines part_lines lines_applied pairs_shown unassigned_pairs line_bytes lines_bytes header section sections verdict_bytes run_line report
report_words = tt
