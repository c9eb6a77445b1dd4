-- The pair that a word's view has, and views that are no compound.
use Rattle.std.specs.Prelude.{ℕ, ◌≡◌, Option, Some, None}
use Rattle.term.specs.declared.word.View.{View}
use Rattle.term.specs.declared.word.View.TheVariants.{Nothing, Writer, Reader, Integer, Name, Empty, Compound}

-- The pair of a variable; none of any other term.
abbrev pub pair_seen : View → Option ℕ
pair_seen Nothing = None
pair_seen (Writer p) = Some p
pair_seen (Reader p) = Some p
pair_seen (Integer n) = None
pair_seen (Name k) = None
pair_seen Empty = None
pair_seen (Compound q) = None

-- No compound is seen.
abbrev pub NoCompound : View → Type 0
NoCompound v = (q : ℕ) → v ≡ Compound q → ⊥
