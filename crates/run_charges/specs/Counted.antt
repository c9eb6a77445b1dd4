-- What a step counts, small enough to be added up.
use Rattle.std.specs.Prelude.{◌+◌, ◌≤◌}
use Rattle.term.specs.declared.state.Standing.{Standing}

-- A goal is in front, and what is charged and how many goals there are is within a room of the greatest figures.
pub record Counted (t : Standing) : Type 0 where
  pub some : 1 ≤ t.active
  pub pairs : t.pairs ≤ 65535
  pub compounds : t.compounds ≤ 65535
  pub goals : t.active + t.waiting + t.failed ≤ 65535
