-- Clause by clause.
use Rattle.run_index.proofs.Telling.{entered_then, entering_next}
use Rattle.run_index.proofs.build.enter_all.Goals as goal

pub enter-requires : goal.enter-requires
enter-requires c =
    (c.args.clauses, entering_next c.loop-k.k c.requires.0 c.loop-k-test.true c.loop-k.auto.k c.loop-k.invariant)

pub loop-k-preserved : goal.loop-k-preserved
loop-k-preserved c =
    let i = c.loop-k.invariant in
    entered_then i (c.enter.ensures c.args.clauses (entering_next c.loop-k.k c.requires.0 c.loop-k-test.true c.loop-k.auto.k i))
