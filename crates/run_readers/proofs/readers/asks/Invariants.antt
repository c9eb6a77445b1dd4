-- Among the pairs looked at so far none is waited on.
use Rattle.std.proofs.Common.{◌≡◌, []}
use Rattle.run_readers.specs.Readers.{asked_in}
use Rattle.run_readers.proofs.readers.asks.Given as goal

abbrev pub invariant-loop-i : goal.invariant-loop-i
invariant-loop-i l = asked_in l.s l.i ≡ []
