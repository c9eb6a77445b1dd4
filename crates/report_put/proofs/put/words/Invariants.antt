-- So many bytes as were passed have been put.
use Prim.Native.Nat.{◌+◌}
use mathlib.Core.Path.{◌≡◌}
use lib.ListN.{take}
use Rattle.report_pairs.specs.Laid.{Puts}
use Rattle.report_put.proofs.put.words.Given as goal

abbrev pub invariant-loop-b : goal.invariant-loop-b
invariant-loop-b l = (l.to ≡ l.at + l.b-index) × Puts l.initial.buffer l.buffer l.at l.to (take l.b-index l.bytes)
