-- Some of the bytes are put, and the walk stands behind an argument.
use Prim.Native.Nat.{ℕ}
use mathlib.Core.List.{List}
use Rattle.meaning.specs.Bytes.{Bytes}
use Rattle.term.specs.Setting.{Setting}
use Rattle.report_pairs.specs.Facts.{Readable}
use Rattle.report_write.specs.Frames.{Behind, Frames}
use Rattle.report_write.proofs.Upward.{Rising}
use Rattle.report_write.proofs.rising.rise.Given as goal

abbrev pub invariant-loop-q : goal.invariant-loop-q
invariant-loop-q l =
    (text : Bytes) (x : Setting) (order : List ℕ) (bs : Bytes) → Readable l.source.s.now text x l.source.facts
    → Behind (Frames l.frames l.source.s.now x l.source.facts order l.deep) l.source.s.now x l.source.facts order l.place l.number bs
    → Rising l.frames l.source.s.now x l.source.facts order l.initial.buffer l.buffer l.at l.to l.p l.i l.depth l.deep bs

abbrev pub decreases-loop-q : goal.decreases-loop-q
decreases-loop-q l = l.depth
