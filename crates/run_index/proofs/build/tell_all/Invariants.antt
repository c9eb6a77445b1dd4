-- What is told may have changed.
use Rattle.run_index.specs.Building.{Telling}
use Rattle.run_index.proofs.build.tell_all.Given as goal

abbrev pub invariant-loop-k : goal.invariant-loop-k
invariant-loop-k l = Telling l.fn.s l.s l.clauses
