-- `run_circle::circle::settle` meets its contract: the term at hand has ground pairs only, and the weight of what is left falls.
use mathlib.Core.Bool.{false}
use Rattle.run_circle.proofs.Measure.{term_weight}
use Rattle.run_circle.proofs.Settle.{is_one, Settling}
use Rattle.run_circle.proofs.circle.settle.Given as goal

abbrev pub invariant-loop-q : goal.invariant-loop-q
invariant-loop-q l = Settling l.initial.s l.values l.marks l.stamp l.pair l.s l.t

abbrev pub decreases-loop-q : goal.decreases-loop-q
decreases-loop-q l = term_weight l.s l.marks is_one false l.t
