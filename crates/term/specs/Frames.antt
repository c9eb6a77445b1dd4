-- Frames: what a write into one region leaves as it was; and a region that is zeroed.
use Rattle.std.specs.Prelude.{ℕ, zero, suc, ◌+◌, ◌≤◌, ◌<◌, ◌≡◌, List, length, get_or, set}

-- A frame: only words from lo up to hi differ.
pub record Only (lo hi : ℕ) (s s' : List ℕ) : Type 0 where
  pub size : length s' ≡ length s
  pub below : (k : ℕ) → k < lo → get_or s' k 0 ≡ get_or s k 0
  pub above : (k : ℕ) → hi ≤ k → get_or s' k 0 ≡ get_or s k 0

-- So many words from one on are zeroed.
unfoldable pub zeroed : ℕ → ℕ → List ℕ → List ℕ
zeroed from zero s = s
zeroed from (suc n) s = set (zeroed from n s) (from + n) 0
