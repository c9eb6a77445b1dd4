-- The arguments behind the one at hand do not lead on.
use Rattle.run_circle.specs.Search.{LastLeads}
use Rattle.run_circle.proofs.circle.last.Given as goal

abbrev pub invariant-loop-k : goal.invariant-loop-k
invariant-loop-k l = LastLeads l.s l.q l.k
