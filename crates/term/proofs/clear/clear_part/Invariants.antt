-- The first i of the words are zero, and all else is as it was.
use Rattle.std.proofs.Common.{◌≡◌}
use Rattle.term.specs.Frames.{zeroed}
use Rattle.term.proofs.clear.clear_part.Given as goal

abbrev pub invariant-loop-i : goal.invariant-loop-i
invariant-loop-i l = l.s ≡ zeroed l.from l.i l.fn.s
