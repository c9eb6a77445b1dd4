-- Renaming apart raises the pairs' numbers: the clause's pairs stand just beyond those of the unit, each as often as in the clause.
-- So nothing is counted both for the clause and for what was there before.
use Prim.Native.Nat.{ℕ, ◌+◌, ◌-◌, ◌≤◌, ◌<◌}
use mathlib.Core.Path.{◌≡◌, refl}
use mathlib.Core.Bool.{Bool, true, false}
use mathlib.Core.List.{List, [], ◌∷◌, map}
use native.Mathlib.Omega.{arith}
use lib.Dec.{ltb}
use borrow.Author.Tests.{ltb-true, ltb-false}
use Rattle.meaning.specs.Terms.{
  Half,
  writer,
  reader,
  Term,
  Terms,
  variable,
  constant,
  compound,
  end,
  more,
  Named,
  same_half,
  renamed,
  all_renamed,
  renamed_goal,
  occurrences,
  all_occurrences,
  goals_occurrences,
}
use Rattle.laws.proofs.Lists.{eqb_raised}
use Rattle.laws.proofs.Terms.Occurrences.{occurs_in_other}

variable_raised : (h k : Half) (p n m : ℕ) → occurrences h (p + n) (variable k (p + m)) ≡ occurrences h n (variable k m)
unfolding occurrences same_half
variable_raised writer writer p n m = rw (eqb_raised p n m)
variable_raised writer reader p n m = refl
variable_raised reader writer p n m = refl
variable_raised reader reader p n m = rw (eqb_raised p n m)

module _ (p c : ℕ) (h : Half) (n : ℕ) where
  mutual
    unfolding renamed all_renamed occurrences all_occurrences

    renamed_below : (t : Term) → n < p → occurrences h n (renamed p c t) ≡ 0
    renamed_below (variable k m) below = occurs_in_other h k n (p + m) (λ e. omega arith)
    renamed_below (constant k) below = refl
    renamed_below (compound m f ts) below = all_renamed_below ts below

    pub all_renamed_below : (ts : Terms) → n < p → all_occurrences h n (all_renamed p c ts) ≡ 0
    all_renamed_below end below = refl
    all_renamed_below (more t ts) below = omega (arith, renamed_below t below, all_renamed_below ts below)

  mutual
    unfolding renamed all_renamed occurrences all_occurrences

    renamed_above : (t : Term) → occurrences h (p + n) (renamed p c t) ≡ occurrences h n t
    renamed_above (variable k m) = variable_raised h k p n m
    renamed_above (constant k) = refl
    renamed_above (compound m f ts) = all_renamed_above ts

    all_renamed_above : (ts : Terms) → all_occurrences h (p + n) (all_renamed p c ts) ≡ all_occurrences h n ts
    all_renamed_above end = refl
    all_renamed_above (more t ts) = omega (arith, renamed_above t, all_renamed_above ts)

  -- Below the clause's first pair nothing occurs.
  pub goals_renamed_below : (gs : List Named) → n < p → goals_occurrences h n (map (renamed_goal p c) gs) ≡ 0
  unfolding goals_occurrences renamed_goal
  goals_renamed_below [] below = refl
  goals_renamed_below (g ∷ gs) below = omega (arith, all_renamed_below g.arguments below, goals_renamed_below gs below)

  -- From there on it occurs as often as in the clause.
  pub goals_renamed_above : (gs : List Named) → goals_occurrences h (p + n) (map (renamed_goal p c) gs) ≡ goals_occurrences h n gs
  unfolding goals_occurrences renamed_goal
  goals_renamed_above [] = refl
  goals_renamed_above (g ∷ gs) = omega (arith, all_renamed_above g.arguments, goals_renamed_above gs)

module _ (p c : ℕ) (gs : List Named) where
  raised_from : (n : ℕ) → p ≤ n → n ≡ p + (n - p)
  raised_from n e = omega arith

  pub goals_renamed_once : ((h : Half) (n : ℕ) → goals_occurrences h n gs ≤ 1)
      → (h : Half) (n : ℕ) → goals_occurrences h n (map (renamed_goal p c) gs) ≤ 1
  goals_renamed_once once h n = go (ltb n p) refl
    where
      go : (b : Bool) → ltb n p ≡ b → goals_occurrences h n (map (renamed_goal p c) gs) ≤ 1
      go true e = omega (arith, goals_renamed_below p c h n gs (ltb-true n p e))
      go false e = rw (raised_from n (ltb-false n p e), goals_renamed_above p c h (n - p) gs) (once h (n - p))

  pub goals_renamed_beyond : (pairs : ℕ) → ((h : Half) (n : ℕ) → pairs ≤ n → goals_occurrences h n gs ≡ 0)
      → (h : Half) (n : ℕ) → p + pairs ≤ n → goals_occurrences h n (map (renamed_goal p c) gs) ≡ 0
  goals_renamed_beyond pairs beyond h n e =
      rw (raised_from n (omega arith), goals_renamed_above p c h (n - p) gs) (beyond h (n - p) (omega arith))
