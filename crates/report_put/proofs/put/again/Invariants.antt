-- So many bytes as were passed have been put again.
use Prim.Native.Nat.{◌+◌}
use mathlib.Core.Path.{◌≡◌}
use lib.ListN.{length, take}
use Rattle.meaning.specs.Bytes.{Bytes}
use Rattle.report_pairs.specs.Laid.{Puts, Has}
use Rattle.report_put.proofs.put.again.Given as goal

abbrev pub invariant-loop-i : goal.invariant-loop-i
invariant-loop-i l =
    (bs : Bytes) → l.n ≡ length bs → Has l.initial.buffer l.from bs → Puts l.initial.buffer l.buffer l.at (l.at + l.i) (take l.i bs)
