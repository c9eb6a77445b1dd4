-- The measure is the depth of the compound, as its word tells it.
use Rattle.std.proofs.Common.{◌+◌, ◌*◌, length}
use Rattle.run_circle.proofs.Depth.{height}
use Rattle.term.specs.Words.{compound_word}
use Rattle.run_effects.proofs.CopyCalls as calls
use Rattle.run_effects.proofs.build.+copy_arguments_copy_compound.Given as goal

abbrev pub decreases-copy_arguments : goal.decreases-copy_arguments
decreases-copy_arguments l = 2 * height (length l.s.now) l.s.now (compound_word l.p)

abbrev pub decreases-copy_compound : goal.decreases-copy_compound
decreases-copy_compound l = 2 * height (length l.s.now) l.s.now (compound_word l.p) + 1

abbrev pub invariant-copy_arguments-loop-i : goal.invariant-copy_arguments-loop-i
invariant-copy_arguments-loop-i l = calls.Walking l.initial.s l.pair l.to l.p l.k l.s l.free l.i
