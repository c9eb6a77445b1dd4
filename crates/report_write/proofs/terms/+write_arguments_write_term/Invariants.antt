-- Each term that is a compound puts a byte before its arguments, and an argument stands behind what is put, so the bytes of the buffer that are left fall; the
-- walk's invariant says which bytes are put and what is still to be written, also behind the compounds in the frames.
use Prim.Native.Nat.{ℕ, ◌+◌, ◌-◌, ◌*◌}
use mathlib.Core.List.{List}
use lib.ListN.{length}
use Rattle.meaning.specs.Bytes.{Bytes}
use Rattle.term.specs.Setting.{Setting}
use Rattle.report_pairs.specs.Facts.{Readable}
use Rattle.report_leaves.specs.Fits.{Fits}
use Rattle.report_write.specs.Frames.{Before, Nothing}
use Rattle.report_write.proofs.Writing.{Going}
use Rattle.report_write.proofs.terms.+write_arguments_write_term.Given as goal

abbrev pub decreases-write_arguments : goal.decreases-write_arguments
decreases-write_arguments l = 2 * (length l.buffer.now - l.at) + 1

abbrev pub decreases-write_term : goal.decreases-write_term
decreases-write_term l = 2 * (length l.buffer.now - l.at)

abbrev pub invariant-write_arguments-loop-q : goal.invariant-write_arguments-loop-q
invariant-write_arguments-loop-q l =
    (x : Setting) (order : List ℕ) (bs : Bytes) → Readable l.source.s.now l.source.text.now x l.source.facts → Before Nothing l.source.s.now x l.source.facts order l.first 1 bs
    → Fits l.source.s.now x l.source.facts order l.at l.initial.buffer bs
    → Going l.frames l.source.s.now x l.source.facts order bs l.initial.buffer l.buffer l.at l.p l.i l.depth l.to

abbrev pub decreases-write_arguments-loop-q : goal.decreases-write_arguments-loop-q
decreases-write_arguments-loop-q l = length l.initial.buffer + 1 - l.to
