-- The words passed are 0.
use Rattle.run_index.specs.Index.{IndexOnly}
use Rattle.run_index.proofs.Telling.{Cleared}
use Rattle.run_index.proofs.build.begin.Given as goal

abbrev pub invariant-loop-k : goal.invariant-loop-k
invariant-loop-k l = record { only : IndexOnly l.fn.s l.s; cleared : Cleared l.s l.k }
