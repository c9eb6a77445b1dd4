-- The first of the clause's pairs have what the head's writers were given.
use Rattle.run_effects.proofs.Assigned.{Begun}
use Rattle.run_effects.proofs.reduce.assign_head.Given as goal

abbrev pub invariant-loop-x : goal.invariant-loop-x
invariant-loop-x l = Begun l.fn.s l.s l.values l.pair l.pairs l.x
