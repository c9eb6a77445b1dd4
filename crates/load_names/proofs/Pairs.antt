-- A clause's rules for every pair are its rules one after the other.
use Prim.Native.Nat.{ℕ, zero, suc}
use mathlib.Core.Path.{◌≡◌, refl, ◌∙◌}
use mathlib.Core.Bool.{Bool, ◌&&◌}
use mathlib.Core.List.{List}
use Rattle.meaning.specs.Bytes.{all, up_to}
use Rattle.load_names.specs.Rules.{once_in_head, once_unless, both_or_none, pair_kept, clause_kept}
use Rattle.load_names.proofs.Tallies.{all_suc, swap_and}

-- Tests made together.
all_both : (f g : ℕ → Bool) (n : ℕ) → all (λ k. f k && g k) (up_to n) ≡ all f (up_to n) && all g (up_to n)
unfolding up_to all
all_both f g zero = refl
all_both f g (suc n) =
    rw (all_suc (λ k. f k && g k) n, all_suc f n, all_suc g n, all_both f g n) (swap_and (all f (up_to n)) (all g (up_to n)) (f n) (g n))

module _ (item heads licensed : List ℕ) where
  pub each_pair : (pairs : ℕ) → all (pair_kept item heads licensed) (up_to pairs) ≡ clause_kept item heads licensed pairs
  unfolding pair_kept clause_kept
  each_pair pairs =
      all_both (λ n. once_in_head heads n && once_unless item licensed n) (both_or_none item) pairs
      ∙ rw (all_both (once_in_head heads) (once_unless item licensed) pairs) refl
