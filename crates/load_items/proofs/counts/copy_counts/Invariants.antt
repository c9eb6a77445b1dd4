use Rattle.std.proofs.Common.{get_or}
use Rattle.load_items.proofs.Halfway.{Halfway}
use Rattle.load_items.proofs.counts.copy_counts.Given as goal

abbrev pub invariant-loop-i : goal.invariant-loop-i
invariant-loop-i l = Halfway (λ j. get_or l.source j 0) l.fn.table l.table l.i
