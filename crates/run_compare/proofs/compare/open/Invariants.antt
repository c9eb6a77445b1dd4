-- The arguments behind the k-th are the same constants.
use Rattle.std.proofs.Common.{get_or}
use Rattle.term.specs.Words.{tag_in}
use Rattle.run_compare.specs.Same.{SameBehind}
use Rattle.run_compare.proofs.compare.open.Given as goal

abbrev pub invariant-loop-k : goal.invariant-loop-k
invariant-loop-k l = SameBehind l.s l.p l.q (tag_in (get_or l.s l.p 0)) l.k
