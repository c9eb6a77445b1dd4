-- How often a half of a pair occurs in a variable: once in its own, and in no other.
-- So counting is by halves and by numbers alone.
use Prim.Native.Nat.{ℕ}
use mathlib.Core.Path.{◌≡◌, refl}
use borrow.Author.Tests.{eq-eqb, ne_eqb}
use Rattle.meaning.specs.Bytes.{when◌then◌else◌}
use Rattle.meaning.specs.Terms.{Half, writer, reader, variable, same_half, occurrences}

pub occurs_itself : (h : Half) (n : ℕ) → occurrences h n (variable h n) ≡ 1
unfolding occurrences same_half when◌then◌else◌
occurs_itself writer n = rw (eq-eqb n n refl)
occurs_itself reader n = rw (eq-eqb n n refl)

pub occurs_in_other : (h k : Half) (n p : ℕ) → (n ≡ p → ⊥) → occurrences h n (variable k p) ≡ 0
unfolding occurrences same_half when◌then◌else◌
occurs_in_other writer writer n p d = rw (ne_eqb n p d)
occurs_in_other writer reader n p d = refl
occurs_in_other reader writer n p d = refl
occurs_in_other reader reader n p d = rw (ne_eqb n p d)
