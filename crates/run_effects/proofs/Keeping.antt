-- Frames of a reduction: nothing changed, one change after another, one word or one region of two changed.
use Prim.Native.Nat.{ℕ, ◌≤◌, ◌<◌}
use mathlib.Core.Path.{◌≡◌, refl, ◌∙◌}
use mathlib.Core.Logic.{inl, inr}
use mathlib.Core.List.{List}
use native.Mathlib.Omega.{arith}
use lib.ListN.{get_or, set, length-set}
use lib.Seq.{get_or-set_other}
use Rattle.term.specs.Frames.{Only}
use Rattle.run_effects.specs.Reducing.{Apart, KeptWhere}

-- A word of a region is none apart from it.
pub not_apart : (lo hi k i : ℕ) → Apart lo hi k → lo ≤ i → i < hi → k ≡ i → ⊥
not_apart lo hi k i (inl a) l h e = omega arith
not_apart lo hi k i (inr a) l h e = omega arith

-- Apart from a region is apart from what lies in it.
pub apart_inside : (lo hi lo' hi' k : ℕ) → lo ≤ lo' → hi' ≤ hi → Apart lo hi k → Apart lo' hi' k
apart_inside lo hi lo' hi' k l h (inl a) = inl (omega arith)
apart_inside lo hi lo' hi' k l h (inr a) = inr (omega arith)

pub only_apart : (lo hi k : ℕ) (s s' : List ℕ) → Only lo hi s s' → Apart lo hi k → get_or s' k 0 ≡ get_or s k 0
only_apart lo hi k s s' o (inl a) = o.below k a
only_apart lo hi k s s' o (inr a) = o.above k a

module _ (P : ℕ → Type 0) where
  pub kept_same : (s : List ℕ) → KeptWhere P s s
  kept_same s = record { size = refl; same = λ k h. refl }

  pub kept_then : (s t u : List ℕ) → KeptWhere P s t → KeptWhere P t u → KeptWhere P s u
  kept_then s t u a b = record { size = b.size ∙ a.size; same = λ k h. b.same k h ∙ a.same k h }

  pub kept_set : (s : List ℕ) (i v : ℕ) → ((k : ℕ) → P k → k ≡ i → ⊥) → KeptWhere P s (set s i v)
  kept_set s i v not = record { size = length-set s i v; same = λ k h. get_or-set_other s i k v 0 (not k h) }

  pub kept_only : (lo hi : ℕ) (s s' : List ℕ) → ((k : ℕ) → P k → Apart lo hi k) → Only lo hi s s' → KeptWhere P s s'
  kept_only lo hi s s' apart o = record { size = o.size; same = λ k h. only_apart lo hi k s s' o (apart k h) }
