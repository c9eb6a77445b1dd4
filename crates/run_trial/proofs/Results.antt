-- What the result of a clause's trial makes of the choice among it and those behind it.
use Prim.Native.Nat.{ℕ}
use mathlib.Core.Path.{◌≡◌, refl}
use mathlib.Core.List.{List, ◌∷◌, ◌++◌}
use Rattle.meaning.specs.Terms.{Clause, Named}
use Rattle.meaning.specs.State.{QueryUnit}
use Rattle.meaning.specs.Compare.{Assignment, succeeds, waits, fails}
use Rattle.meaning.specs.Trial.{reduces, trial, choice_from}

module _ (readers : List ℕ) (c : Clause) (cs : List Clause) (unit : QueryUnit) (goal : Named) where
  pub from_succeeds : (given : List Assignment) → trial readers c unit goal ≡ succeeds given → choice_from readers (c ∷ cs) unit goal ≡ reduces c given
  unfolding choice_from
  from_succeeds given e = rw (e, choice_from) refl

  pub from_waits : (others : List ℕ) → trial readers c unit goal ≡ waits others
      → choice_from readers (c ∷ cs) unit goal ≡ choice_from (readers ++ others) cs unit goal
  unfolding choice_from
  from_waits others e = rw (e, choice_from) refl

  pub from_fails : trial readers c unit goal ≡ fails → choice_from readers (c ∷ cs) unit goal ≡ choice_from readers cs unit goal
  unfolding choice_from
  from_fails e = rw (e, choice_from) refl
