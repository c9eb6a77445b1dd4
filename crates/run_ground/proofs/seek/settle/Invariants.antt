-- `run_ground::seek::settle` meets its contract: the term at hand has ground pairs only, and the weight of what is left falls.
use mathlib.Core.Path.{◌≡◌}
use lib.ListN.{length}
use Rattle.run_ground.proofs.Settle.{Settling, settle_weight}
use Rattle.run_ground.proofs.seek.settle.Given as goal

abbrev pub invariant-loop-s : goal.invariant-loop-s
invariant-loop-s l = Settling l.initial.s l.values l.marks l.stamp l.w l.state l.s l.t × (length l.s ≡ length l.initial.s)

abbrev pub decreases-loop-s : goal.decreases-loop-s
decreases-loop-s l = settle_weight l.s l.marks l.t
