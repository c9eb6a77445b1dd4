-- Frames over two regions: only words from a up to b and from c up to d differ, where the first region lies before the second.
-- A change in one of them is such a frame; one such change after another is; wider regions are.
use Prim.Native.Nat.{ℕ, ◌≤◌, ◌<◌}
use mathlib.Core.Path.{◌≡◌, refl, ◌∙◌}
use mathlib.Core.List.{List}
use native.Mathlib.Omega.{arith}
use lib.ListN.{length, get_or}
use Rattle.term.specs.Frames.{Only}

pub record OnlyTwo (a b c d : ℕ) (s s' : List ℕ) : Type 0 where
  pub size : length s' ≡ length s
  pub below : (k : ℕ) → k < a → get_or s' k 0 ≡ get_or s k 0
  pub between : (k : ℕ) → b ≤ k → k < c → get_or s' k 0 ≡ get_or s k 0
  pub above : (k : ℕ) → d ≤ k → get_or s' k 0 ≡ get_or s k 0

module _ (a b c d : ℕ) where
  pub two_same : (s : List ℕ) → OnlyTwo a b c d s s
  two_same s = record { size = refl; below = λ k h. refl; between = λ k h l. refl; above = λ k h. refl }

  -- Only the first region changes, or only the second.
  pub two_first : (lo hi : ℕ) (s s' : List ℕ) → a ≤ lo → hi ≤ b → b ≤ d → Only lo hi s s' → OnlyTwo a b c d s s'
  two_first lo hi s s' l h o only = record {
    size = only.size;
    below = λ k e. only.below k (omega arith);
    between = λ k e f. only.above k (omega arith);
    above = λ k e. only.above k (omega arith);
  }

  pub two_second : (lo hi : ℕ) (s s' : List ℕ) → a ≤ c → c ≤ lo → hi ≤ d → Only lo hi s s' → OnlyTwo a b c d s s'
  two_second lo hi s s' o l h only = record {
    size = only.size;
    below = λ k e. only.below k (omega arith);
    between = λ k e f. only.below k (omega arith);
    above = λ k e. only.above k (omega arith);
  }

  pub two_then : (s t u : List ℕ) → OnlyTwo a b c d s t → OnlyTwo a b c d t u → OnlyTwo a b c d s u
  two_then s t u f g = record {
    size = g.size ∙ f.size;
    below = λ k h. g.below k h ∙ f.below k h;
    between = λ k h l. g.between k h l ∙ f.between k h l;
    above = λ k h. g.above k h ∙ f.above k h;
  }

  pub two_wider : (a' b' c' d' : ℕ) (s t : List ℕ) → a' ≤ a → b ≤ b' → c' ≤ c → d ≤ d' → OnlyTwo a b c d s t → OnlyTwo a' b' c' d' s t
  two_wider a' b' c' d' s t i j k l f = record {
    size = f.size;
    below = λ n h. f.below n (omega arith);
    between = λ n h m. f.between n (omega arith) (omega arith);
    above = λ n h. f.above n (omega arith);
  }
