-- Up to q the words are added up.
use Rattle.std.proofs.Common.{◌≡◌}
use Rattle.run_enter.specs.Entering.{record_sum}
use Rattle.run_enter.proofs.enter.sum.Given as goal

abbrev pub invariant-loop-q : goal.invariant-loop-q
invariant-loop-q l = l.all ≡ record_sum l.s l.at l.q
