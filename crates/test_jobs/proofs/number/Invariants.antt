-- The number stays below 1,000,000,000.
use Rattle.std.proofs.Common.{◌≤◌}
use Rattle.test_jobs.proofs.number.Given as goal

abbrev pub invariant-loop : goal.invariant-loop
invariant-loop l = l.n ≤ 999999999
