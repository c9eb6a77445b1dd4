use Rattle.std.proofs.Common.{◌+◌, min, get_or}
use Rattle.load_items.proofs.Halfway.{Halfway}
use Rattle.load_items.proofs.counts.add_counts.Given as goal

abbrev pub invariant-loop-i : goal.invariant-loop-i
invariant-loop-i l = Halfway (λ j. min 2 (get_or l.fn.table j 0 + get_or l.source j 0)) l.fn.table l.table l.i
