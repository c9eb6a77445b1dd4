-- What a trial notes, in order: what it gives, and the pairs whose readers it waits on; how the trial's region has it; and the result that the notes
-- come to, "any failing place" aside: it waits "on every reader needed", or it succeeds.
use Rattle.std.specs.Prelude.{ℕ, ◌+◌, List, [], ◌∷◌}
use Rattle.meaning.specs.Compare.{Assignment, Result, succeeds, waits}
use Rattle.term.specs.Cells.{Places, term_word}
use Rattle.run_table.specs.Rows.{head_written, goal_written, asked_written}
use Rattle.run_compare.specs.Gifts.{Gift, to_head, to_goal, assignments}

pub data Note : Type 0 where
  given : Gift → Note
  asked : ℕ → Note

-- The gifts among the notes, and the pairs whose readers are waited on.
unfoldable pub gifts_in : List Note → List Gift
gifts_in [] = []
gifts_in (given g ∷ ns) = g ∷ gifts_in ns
gifts_in (asked z ∷ ns) = gifts_in ns

unfoldable pub asks_in : List Note → List ℕ
asks_in [] = []
asks_in (given g ∷ ns) = asks_in ns
asks_in (asked z ∷ ns) = z ∷ asks_in ns

-- "Otherwise the trial waits on every reader needed."
unfoldable pub judged : List ℕ → List Assignment → Result
judged [] assigned = succeeds assigned
judged (z ∷ zs) assigned = waits (z ∷ zs)

abbrev pub outcome_of : ℕ → ℕ → List Note → Result
outcome_of p c ns = judged (asks_in ns) (assignments p c (gifts_in ns))

-- How many of the goal's pairs are noted.
unfoldable pub noted : List Note → ℕ
noted [] = 0
noted (given (to_head n u) ∷ ns) = noted ns
noted (given (to_goal z t) ∷ ns) = noted ns + 1
noted (asked z ∷ ns) = noted ns + 1

-- The scratch with the notes written, the next entry being the n-th.
unfoldable pub written : Places → Places → ℕ → List Note → List ℕ → List ℕ
written item unit n [] s = s
written item unit n (given (to_head x u) ∷ ns) s = written item unit n ns (head_written x (term_word unit u) s)
written item unit n (given (to_goal z t) ∷ ns) s = written item unit (n + 1) ns (goal_written n (unit.pair z) (term_word item t) s)
written item unit n (asked z ∷ ns) s = written item unit (n + 1) ns (asked_written n (unit.pair z) s)
