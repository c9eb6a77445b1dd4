-- The search from a term meets its contract: turn by turn it goes on from term to term, as Calls has it, and the weight of what is left falls.
use Prim.Native.Nat.{◌≤◌}
use Rattle.run_circle.specs.Search.{visited}
use Rattle.run_circle.proofs.Calls as calls
use Rattle.run_circle.proofs.Measure.{term_weight}
use Rattle.run_circle.proofs.circle.+from_term.Given as goal

abbrev pub decreases-from_term : goal.decreases-from_term
decreases-from_term l = term_weight l.s.now l.marks (visited l.stamp) l.head l.w

-- Before the i-th argument of a compound.
abbrev pub invariant-loop-i : goal.invariant-loop-i
invariant-loop-i l =
    calls.Walking l.initial.s l.values l.marks l.z l.stamp l.side l.t l.initial.state l.s l.p l.k l.i l.later l.state

-- Before a turn.
abbrev pub invariant-loop-s : goal.invariant-loop-s
invariant-loop-s l =
    calls.Going l.initial.s l.values l.marks l.z l.stamp l.head l.w l.initial.state l.s l.side l.t l.state
    × (term_weight l.s l.marks (visited l.stamp) l.side l.t ≤ term_weight l.initial.s l.marks (visited l.stamp) l.head l.w)

abbrev pub decreases-loop-s : goal.decreases-loop-s
decreases-loop-s l = term_weight l.s l.marks (visited l.stamp) l.side l.t
