-- Bytes put one behind the other into the buffer, and lengths up to the ceiling.
use Rattle.std.specs.Prelude.{ℕ, ◌+◌, ◌<◌, min, ◌≡◌, List, [], ◌∷◌, length, get_or, set}
use Rattle.meaning.specs.Bytes.{Bytes}

-- "The smaller of its length and 16,777,217".
abbrev pub capped : ℕ → ℕ
capped n = min n 16777217

unfoldable pub laid : List ℕ → ℕ → Bytes → List ℕ
laid buffer at [] = buffer
laid buffer at (b ∷ bs) = laid (set buffer at b) (at + 1) bs

-- These bytes were put from a place on, and the place behind them is another.
pub record Puts (before after : List ℕ) (at to : ℕ) (bs : Bytes) : Type 0 where
  pub place : to ≡ at + length bs
  pub laid_there : after ≡ laid before at bs

-- These bytes stand in others from a place on.
abbrev pub Has : Bytes → ℕ → Bytes → Type 0
Has whole at bs = (k : ℕ) → k < length bs → get_or whole (at + k) 0 ≡ get_or bs k 0
