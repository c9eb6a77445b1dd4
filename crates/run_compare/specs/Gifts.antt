-- What a trial gives, in order, and how the trial's region records it: 16 words for what the head's writers are given; then, two words each,
-- the goal's pairs that are given a term of the head, by the pair's place and the head term's own word, not yet renamed.
use Rattle.std.specs.Prelude.{ℕ, ◌+◌, ◌≡◌, List, [], ◌∷◌, eqb, get_or}
use Rattle.std.proofs.Math.Option.{Option, some}
use Rattle.meaning.specs.Bytes.{when◌then◌else◌}
use Rattle.meaning.specs.Terms.{Term, renamed}
use Rattle.meaning.specs.Compare.{Assignment}
use Rattle.term.specs.Cells.{Places, term_word}
use Rattle.term.specs.Layout.{gift_pair, gift_term}
use Rattle.run_table.specs.Rows.{head_written, goal_written}

-- A head's writer is given a goal's term; a goal's pair is given a head's term, as the clause has it.
pub data Gift : Type 0 where
  to_head : ℕ → Term → Gift
  to_goal : ℕ → Term → Gift

-- The assignments that they are, where the clause's pairs come next at p and its compounds at c.
abbrev pub assignment : ℕ → ℕ → Gift → Assignment
assignment p c (to_head n u) = record { pair = p + n; value = u }
assignment p c (to_goal z t) = record { pair = z; value = renamed p c t }

unfoldable pub assignments : ℕ → ℕ → List Gift → List Assignment
assignments p c [] = []
assignments p c (g ∷ gs) = assignment p c g ∷ assignments p c gs

-- How many of the goal's pairs are given a term.
unfoldable pub entries : List Gift → ℕ
entries [] = 0
entries (to_head n u ∷ gs) = entries gs
entries (to_goal z t ∷ gs) = entries gs + 1

-- The scratch with the gifts written, the next entry being the n-th.
unfoldable pub recorded : Places → Places → ℕ → List Gift → List ℕ → List ℕ
recorded item unit n [] s = s
recorded item unit n (to_head x u ∷ gs) s = recorded item unit n gs (head_written x (term_word unit u) s)
recorded item unit n (to_goal z t ∷ gs) s = recorded item unit (n + 1) gs (goal_written n (unit.pair z) (term_word item t) s)

-- The goal's pairs that are given a head's term, in order, as a walk over the region finds them from the n-th entry on.
pub record Entry : Type 0 where
  pub pair : ℕ
  pub term : Term

unfoldable pub entries_of : List Gift → List Entry
entries_of [] = []
entries_of (to_head n u ∷ gs) = entries_of gs
entries_of (to_goal z t ∷ gs) = record { pair = z; term = t } ∷ entries_of gs

unfoldable pub EntriesAt : List ℕ → Places → Places → ℕ → List Entry → Type 0
EntriesAt s item unit n [] = Unit {0}
EntriesAt s item unit n (e ∷ es) =
    (get_or s (gift_pair n) 0 ≡ unit.pair e.pair) × (get_or s (gift_term n) 0 ≡ term_word item e.term) × EntriesAt s item unit (n + 1) es

-- The entries as assignments.
unfoldable pub renamed_entries : ℕ → ℕ → List Entry → List Assignment
renamed_entries p c [] = []
renamed_entries p c (e ∷ es) = record { pair = e.pair; value = renamed p c e.term } ∷ renamed_entries p c es

-- What the head's writer a was given, if anything, o being what it had before.
unfoldable pub head_gift : List Gift → ℕ → Option Term → Option Term
head_gift [] a o = o
head_gift (to_head n u ∷ gs) a o = head_gift gs a (when eqb a n then some u else o)
head_gift (to_goal z t ∷ gs) a o = head_gift gs a o
