-- Counts copied from one table to another, and added: they stand from 32 on, and what stands before them stays.
use Rattle.std.specs.Prelude.{ℕ, ◌+◌, ◌<◌, min, ◌≡◌, List, get_or}

pub record Copied (source table table' : List ℕ) : Type 0 where
  pub counts : (i : ℕ) → i < 32 → get_or table' (32 + i) 0 ≡ get_or source (32 + i) 0
  pub places : (i : ℕ) → i < 32 → get_or table' i 0 ≡ get_or table i 0

pub record Added (source table table' : List ℕ) : Type 0 where
  pub counts : (i : ℕ) → i < 32 → get_or table' (32 + i) 0 ≡ min 2 (get_or table (32 + i) 0 + get_or source (32 + i) 0)
  pub places : (i : ℕ) → i < 32 → get_or table' i 0 ≡ get_or table i 0
