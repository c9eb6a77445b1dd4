-- The first n places are kept.
use Rattle.std.proofs.Common.{◌≡◌}
use Rattle.load_image.specs.Kept.{pairs_kept}
use Rattle.load_image.proofs.keep.keep_places.Given as goal

abbrev pub invariant-loop-n : goal.invariant-loop-n
invariant-loop-n l = l.s ≡ pairs_kept l.table l.from l.place l.n l.fn.s
