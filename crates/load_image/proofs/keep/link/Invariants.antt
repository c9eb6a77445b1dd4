-- The clauses from k on are linked.
use Rattle.std.proofs.Common.{◌≡◌, take, drop}
use Rattle.load_image.specs.Image.{linked}
use Rattle.load_image.proofs.keep.link.Given as goal

abbrev pub invariant-loop-k : goal.invariant-loop-k
invariant-loop-k l = l.s ≡ linked l.k (drop l.k (take l.clauses l.heads)) l.fn.s
