-- Those of the pairs looked at so far that are waited on have joined the list.
use Rattle.run_readers.specs.Readers.{asked_in, Met}
use Rattle.run_readers.proofs.readers.meet_all.Given as goal

abbrev pub invariant-loop-i : goal.invariant-loop-i
invariant-loop-i l = Met l.fn.s l.s l.readers l.pairs l.first (asked_in l.fn.s l.i) l.met
