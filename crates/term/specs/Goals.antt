-- A goal's word: its query, its compound's place and its origin, one above the other. No compound has a place of 1,048,576 or more, no clause a
-- number of 256 or more.
use Rattle.std.specs.Prelude.{ℕ, ◌+◌, ◌*◌, ◌/◌, ◌%◌, ◌≤◌}
use Rattle.meaning.specs.State.{Origin}
use Rattle.term.specs.Words.{packed, rest_in}

abbrev pub origin_word : Origin → ℕ
origin_word o = o.clause + 256 * o.tries

abbrev pub packed_goal : ℕ → ℕ → ℕ → ℕ
packed_goal query place origin = packed query (place + 1048576 * origin)

-- What it has besides the place: its mark.
abbrev pub goal_mark : ℕ → Origin → ℕ
goal_mark query o = query + 8388608 * origin_word o

-- A goal's word taken apart; its query is its tag.
abbrev pub place_in : ℕ → ℕ
place_in w = rest_in w % 1048576

abbrev pub clause_in : ℕ → ℕ
clause_in w = (rest_in w / 1048576) % 256

abbrev pub tries_in : ℕ → ℕ
tries_in w = (rest_in w / 1048576) / 256

-- An origin that has room in the word: that of every goal.
pub record OriginFits (o : Origin) : Type 0 where
  pub clause : o.clause ≤ 128
  pub tries : o.tries ≤ 1000000
