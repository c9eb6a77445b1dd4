-- `run_circle::circle::from_entries` meets its contract: through the entries passed there is no circle.
use Rattle.run_circle.proofs.Starts as starts
use Rattle.run_circle.proofs.circle.from_entries.Given as goal

abbrev pub invariant-loop-i : goal.invariant-loop-i
invariant-loop-i l = starts.Passing l.initial.s l.values l.marks l.n l.stamp l.s l.i
