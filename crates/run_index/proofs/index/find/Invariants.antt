-- A walk along the key's bucket.
use Rattle.std.proofs.Common.{ℕ}
use Rattle.term.specs.Words.{link_to}
use Rattle.run_index.specs.Index.{IndexedFrom}
use Rattle.run_index.proofs.Chains.{Seeking, to_go}
use Rattle.run_index.proofs.index.find.Given as goal

abbrev pub invariant-loop-next : goal.invariant-loop-next
invariant-loop-next l = (from clauses : ℕ) → IndexedFrom l.s from clauses → Seeking l.s l.key from clauses (link_to l.next)

abbrev pub decreases-loop-next : goal.decreases-loop-next
decreases-loop-next l = to_go l.next
