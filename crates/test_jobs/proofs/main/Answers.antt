-- `test_jobs::main`: the scratch is as long as it is made, by the lemma, since computing its length would walk through all of it.
use Prim.Native.Nat.{ℕ}
use lib.ListN.{length-replicate}
use mathlib.Core.Path.{sym}
use Rattle.test_jobs.proofs.main.Goals as goal

pub slice_bounds-frames-end-3 : goal.slice_bounds-frames-end-3
slice_bounds-frames-end-3 c = sym (length-replicate {0} {A = ℕ} 600000 7)
