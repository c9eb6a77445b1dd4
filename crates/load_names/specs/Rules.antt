-- The occurrence rules as the item's table has them: writers counted from 32 on, readers from 48 on.
use Rattle.std.specs.Prelude.{ℕ, ◌+◌, min, Bool, ◌&&◌, ◌||◌, List, leb, eqb, get_or}
use Rattle.meaning.specs.Bytes.{all, up_to}

unfoldable pub once : List ℕ → ℕ → Bool
once item n = leb (get_or item (32 + n) 0) 1 && leb (get_or item (48 + n) 0) 1

unfoldable pub alike : List ℕ → ℕ → Bool
alike item n = eqb (get_or item (32 + n) 0) (get_or item (48 + n) 0)

unfoldable pub none_twice : List ℕ → ℕ → Bool
none_twice item pairs = all (once item) (up_to pairs)

unfoldable pub halves_alike : List ℕ → ℕ → Bool
halves_alike item pairs = all (alike item) (up_to pairs)

-- The same of a clause with the head's halves, writers counted from 0 on and readers from 16 on, and the readers that a guard licenses: none twice in the head,
-- no writer twice and no reader that is not licensed, and one half of a pair exactly if the other.
unfoldable pub once_in_head : List ℕ → ℕ → Bool
once_in_head heads n = leb (get_or heads n 0) 1 && leb (get_or heads (16 + n) 0) 1

unfoldable pub once_unless : List ℕ → List ℕ → ℕ → Bool
once_unless item licensed n = leb (get_or item (32 + n) 0) 1 && (leb 1 (get_or licensed n 0) || leb (get_or item (48 + n) 0) 1)

unfoldable pub both_or_none : List ℕ → ℕ → Bool
both_or_none item n = eqb (min 1 (get_or item (32 + n) 0)) (min 1 (get_or item (48 + n) 0))

unfoldable pub pair_kept : List ℕ → List ℕ → List ℕ → ℕ → Bool
pair_kept item heads licensed n = (once_in_head heads n && once_unless item licensed n) && both_or_none item n

unfoldable pub clause_kept : List ℕ → List ℕ → List ℕ → ℕ → Bool
clause_kept item heads licensed pairs =
    (all (once_in_head heads) (up_to pairs) && all (once_unless item licensed) (up_to pairs)) && all (both_or_none item) (up_to pairs)
