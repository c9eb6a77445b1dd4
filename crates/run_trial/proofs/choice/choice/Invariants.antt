-- How far the walk over the clauses has come.
use Rattle.std.proofs.Common.{◌+◌, ◌-◌}
use Rattle.run_trial.proofs.Clauses.{Walking}
use Rattle.run_trial.proofs.choice.choice.Given as goal

abbrev pub invariant-clauses : goal.invariant-clauses
invariant-clauses l = Walking l.initial.s l.values l.marks l.links l.goal l.first l.s l.readers l.stamp l.left

abbrev pub decreases-clauses : goal.decreases-clauses
decreases-clauses l = l.first + 32768 - l.stamp
