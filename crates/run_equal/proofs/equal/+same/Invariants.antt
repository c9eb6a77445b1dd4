-- The comparison meets its contract: turn by turn it goes on from two terms to others, as Calls has it, and no deeper than it was told.
use Prim.Native.Nat.{◌+◌}
use Rattle.run_equal.proofs.Calls as calls
use Prim.Native.Nat.{◌<◌}
use Rattle.run_equal.proofs.equal.+same.Given as goal

abbrev pub decreases-same : goal.decreases-same
decreases-same l = l.depth

-- Before an argument.
abbrev pub invariant-loop-k : goal.invariant-loop-k
invariant-loop-k l =
    calls.Walks l.initial.s l.s l.values l.lists l.links l.initial.taken l.e l.f l.taken l.p l.q l.k × (0 < l.k)
    × ((l.p + l.k < 4294967296) × (l.q + l.k < 4294967296))

abbrev pub decreases-loop-k : goal.decreases-loop-k
decreases-loop-k l = l.k

-- Before a turn.
abbrev pub invariant-loop-deep : goal.invariant-loop-deep
invariant-loop-deep l = calls.Goes l.initial.s l.s l.values l.lists l.links l.first l.depth l.left l.right l.taken l.a l.b l.deep
