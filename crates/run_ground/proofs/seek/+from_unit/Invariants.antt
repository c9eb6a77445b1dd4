-- The walk through a term of the unit meets its contract: turn by turn it goes on from term to term, as Calls has it, and the weight of what is left falls.
use Prim.Native.Nat.{◌-◌, ◌≤◌}
use Rattle.run_ground.proofs.Entered.{was_entered}
use Rattle.run_ground.proofs.Calls as calls
use Rattle.run_ground.proofs.Words.{weight}
use Rattle.run_ground.proofs.seek.+from_unit.Given as goal

abbrev pub decreases-from_unit : goal.decreases-from_unit
decreases-from_unit l = weight (was_entered l.stamp) l.s.now l.marks l.links l.w

-- Before the i-th argument of a compound.
abbrev pub invariant-loop-i : goal.invariant-loop-i
invariant-loop-i l =
    calls.Walking l.values l.marks l.links l.stamp l.initial.s l.t l.initial.found l.s l.p l.k l.i l.found × (l.i ≤ l.k)

abbrev pub decreases-loop-i : goal.decreases-loop-i
decreases-loop-i l = l.k - l.i

-- Before a turn.
abbrev pub invariant-loop-s : goal.invariant-loop-s
invariant-loop-s l =
    calls.Going l.values l.marks l.links l.stamp l.initial.s l.w l.state l.s l.t l.found
    × (weight (was_entered l.stamp) l.s l.marks l.links l.t ≤ weight (was_entered l.stamp) l.initial.s l.marks l.links l.w)

abbrev pub decreases-loop-s : goal.decreases-loop-s
decreases-loop-s l = weight (was_entered l.stamp) l.s l.marks l.links l.t
