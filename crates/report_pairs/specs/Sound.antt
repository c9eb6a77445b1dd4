-- What every term of a run has from its text: the name of a constant has at least one byte, a list cell is "a compound of two arguments", and a
-- compound with a name has at least one.
use Rattle.std.specs.Prelude.{ℕ, ◌≤◌, ◌≡◌, length}
use Rattle.std.proofs.Math.Option.{some}
use Rattle.meaning.specs.Terms.{Constant, integer, name, empty, Functor, cell, named, Term, Terms, variable, constant, compound, end, more, count}
use Rattle.meaning.specs.State.{Values, value}

abbrev pub SoundConstant : Constant → Type 0
SoundConstant (integer i) = Unit {0}
SoundConstant (name f) = 1 ≤ length f
SoundConstant empty = Unit {0}

abbrev pub SoundFunctor : Functor → ℕ → Type 0
SoundFunctor cell k = k ≡ 2
SoundFunctor (named f) k = 1 ≤ k

unfoldable mutual
  pub Sound : Term → Type 0
  Sound (variable h p) = Unit {0}
  Sound (constant k) = SoundConstant k
  Sound (compound n f ts) = SoundFunctor f (count ts) × AllSound ts

  pub AllSound : Terms → Type 0
  AllSound end = Unit {0}
  AllSound (more t ts) = Sound t × AllSound ts

-- So is every value.
abbrev pub SoundValues : Values → Type 0
SoundValues values = (p : ℕ) (t : Term) → value values p ≡ some t → Sound t
