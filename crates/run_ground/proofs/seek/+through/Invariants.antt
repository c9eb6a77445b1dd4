-- The walk through the arguments of a compound of the clause meets its contract: those before the i-th were walked, and what is left is less deep.
use Rattle.run_ground.proofs.Through as calls
use Rattle.run_ground.proofs.seek.+through.Given as goal

abbrev pub decreases-through : goal.decreases-through
decreases-through l = calls.args_weight l.s.now l.q l.k

-- Before the i-th argument.
abbrev pub invariant-loop-i : goal.invariant-loop-i
invariant-loop-i l =
    calls.Passing l.values l.marks l.links l.stamp l.initial.s l.q l.k l.state l.s l.i l.found
