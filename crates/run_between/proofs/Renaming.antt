-- A clause's term renamed apart is a term of the unit that the clause enlarges.
use Prim.Native.Nat.{ℕ, ◌+◌}
use mathlib.Core.List.{List}
use native.Mathlib.Omega.{arith}
use Rattle.meaning.specs.Bytes.{Bytes}
use Rattle.meaning.specs.Terms.{Term, Terms, variable, constant, compound, end, more, renamed, all_renamed}
use Rattle.term.specs.Cells.{Known, AllKnown}
use Rattle.term.specs.Setting.{Within, AllWithin, Ranged, AllRanged}

module _ (p c pairs compounds : ℕ) where
  mutual
    unfolding Within AllWithin renamed all_renamed

    pub renamed_within : (t : Term) → Within pairs compounds t → Within (p + pairs) (c + compounds) (renamed p c t)
    renamed_within (variable h n) w = omega arith
    renamed_within (constant k) w = tt
    renamed_within (compound n f ts) w = (omega arith, all_renamed_within ts w.1)

    all_renamed_within : (ts : Terms) → AllWithin pairs compounds ts → AllWithin (p + pairs) (c + compounds) (all_renamed p c ts)
    all_renamed_within end w = tt
    all_renamed_within (more t ts) w = (renamed_within t w.0, all_renamed_within ts w.1)

module _ (p c : ℕ) (names : List Bytes) where
  mutual
    unfolding Known AllKnown renamed all_renamed

    pub renamed_known : (t : Term) → Known names t → Known names (renamed p c t)
    renamed_known (variable h n) k = tt
    renamed_known (constant x) k = k
    renamed_known (compound n f ts) k = (k.0, all_renamed_known ts k.1)

    all_renamed_known : (ts : Terms) → AllKnown names ts → AllKnown names (all_renamed p c ts)
    all_renamed_known end k = tt
    all_renamed_known (more t ts) k = (renamed_known t k.0, all_renamed_known ts k.1)

module _ (p c : ℕ) where
  mutual
    unfolding Ranged AllRanged renamed all_renamed

    pub renamed_ranged : (t : Term) → Ranged t → Ranged (renamed p c t)
    renamed_ranged (variable h n) k = tt
    renamed_ranged (constant x) k = k
    renamed_ranged (compound n f ts) k = all_renamed_ranged ts k

    all_renamed_ranged : (ts : Terms) → AllRanged ts → AllRanged (all_renamed p c ts)
    all_renamed_ranged end k = tt
    all_renamed_ranged (more t ts) k = (renamed_ranged t k.0, all_renamed_ranged ts k.1)
