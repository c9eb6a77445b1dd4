-- `report_leaves::source::Source::variable` meets its contract: an underscore, and the number.
use Prim.Native.Nat.{ℕ}
use mathlib.Core.Path.{ap}
use mathlib.Core.List.{◌∷◌}
use native.Mathlib.Omega.{arith}
use Rattle.meaning.specs.Bytes.{decimal}
use Rattle.report_put.proofs.Putting.{puts_two, puts_is, puts_length, puts_one_place}
use Rattle.report_leaves.proofs.source.Source.variable.Goals as goal

pub decimal-requires : goal.decimal-requires
decimal-requires c = rw c.fact.ensures (omega (arith, c.requires.1, puts_one_place c.put-to.ensures, puts_length c.put-to.ensures))

pub returns : goal.returns
returns c = puts_is (ap (λ (n : ℕ). 95 ∷ decimal n) c.fact.ensures) (puts_two c.put-to.ensures c.decimal.ensures)
