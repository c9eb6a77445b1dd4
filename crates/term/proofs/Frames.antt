-- Frames: nothing changed, one word changed, one change after another, a wider region.
use Prim.Native.Nat.{ℕ, ◌≤◌, ◌<◌}
use mathlib.Core.Path.{refl, ◌∙◌}
use mathlib.Core.List.{List}
use native.Mathlib.Omega.{arith}
use lib.ListN.{set, length-set}
use lib.Seq.{get_or-set_other}
use Rattle.term.specs.Frames.{Only}

pub only_same : (lo hi : ℕ) (s : List ℕ) → Only lo hi s s
only_same lo hi s = record { size = refl; below = λ k h. refl; above = λ k h. refl }

pub only_set : (lo hi : ℕ) (s : List ℕ) (i v : ℕ) → lo ≤ i → i < hi → Only lo hi s (set s i v)
only_set lo hi s i v l h = record {
  size = length-set s i v;
  below = λ k b. get_or-set_other s i k v 0 (λ e. omega arith);
  above = λ k b. get_or-set_other s i k v 0 (λ e. omega arith);
}

pub only_then : (lo hi : ℕ) (s t u : List ℕ) → Only lo hi s t → Only lo hi t u → Only lo hi s u
only_then lo hi s t u a b = record {
  size = b.size ∙ a.size;
  below = λ k h. b.below k h ∙ a.below k h;
  above = λ k h. b.above k h ∙ a.above k h;
}

pub only_wider : (lo hi lo' hi' : ℕ) (s t : List ℕ) → lo' ≤ lo → hi ≤ hi' → Only lo hi s t → Only lo' hi' s t
only_wider lo hi lo' hi' s t l h a = record {
  size = a.size;
  below = λ k b. a.below k (omega arith);
  above = λ k b. a.above k (omega arith);
}
