-- The clauses from the last one taken on have joined.
use Rattle.run_index.specs.Building.{Entered}
use Rattle.run_index.proofs.build.enter_all.Given as goal

abbrev pub invariant-loop-k : goal.invariant-loop-k
invariant-loop-k l = Entered l.fn.s l.s l.clauses l.k
