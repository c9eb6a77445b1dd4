-- The arguments at the end of two compounds that are the same constants, by their words alone.
use Rattle.std.specs.Prelude.{ℕ, ◌+◌, ◌≤◌, ◌<◌, ◌≡◌, Bool, true, false, ◌&&◌, List, eqb, get_or}
use Rattle.term.specs.Words.{view, tag_in, rest_in}
use Rattle.term.specs.declared.word.View.{View}
use Rattle.term.specs.declared.word.View.TheVariants.{Nothing, Writer, Reader, Integer, Name, Empty, Compound}

-- What is seen is an integer, a name or the empty list.
unfoldable pub is_constant : View → Bool
is_constant Nothing = false
is_constant (Writer p) = false
is_constant (Reader p) = false
is_constant (Integer n) = true
is_constant (Name n) = true
is_constant Empty = true
is_constant (Compound p) = false

-- Whether the words are equal, and that of a constant.
unfoldable pub same_word : ℕ → ℕ → Bool
same_word h a = eqb h a && is_constant (view (tag_in h) (rest_in h))

-- The words are equal, and that of a constant.
pub record SameConstant (h a : ℕ) : Type 0 where
  pub equal : h ≡ a
  pub constant : is_constant (view (tag_in h) (rest_in h)) ≡ true

-- Of two compounds at p and q, the first of which has n arguments, those behind the k-th are the same constants.
pub record SameBehind (s : List ℕ) (p q n k : ℕ) : Type 0 where
  pub few : k ≤ n
  pub same : (i : ℕ) → k < i → i ≤ n → SameConstant (get_or s (p + i) 0) (get_or s (q + i) 0)

-- And the k-th is not, or there is none.
pub record LastOpen (s : List ℕ) (p q n k : ℕ) : Type 0 where
  pub behind : SameBehind s p q n k
  pub differs : 0 < k → same_word (get_or s (p + k) 0) (get_or s (q + k) 0) ≡ false
