-- No variable before the n-th is spelled so.
use Rattle.std.proofs.Common.{◌≡◌, ℕ, ◌<◌, List, length, get_or, false}
use Rattle.meaning.specs.Bytes.{same}
use Rattle.load_names.specs.Places.{Place}
use Rattle.load_names.specs.Tables.{no_place, VariablesIn}
use Rattle.load_names.proofs.variables.find.Given as goal

abbrev pub invariant-loop-n : goal.invariant-loop-n
invariant-loop-n l =
    (places : List Place) → VariablesIn l.rest places l.table → l.count ≡ length places → (k : ℕ) → k < l.n
    → same l.spelling (get_or places k no_place).spelling ≡ false
