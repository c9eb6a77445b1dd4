-- `run_equal::equal::part` meets its contract.
use Rattle.run_equal.proofs.equal.part.Goals as goal

pub given-requires : goal.given-requires
given-requires c = c.requires.clause c.if-at-lt-TRIAL.true
