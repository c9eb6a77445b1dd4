-- The test of the room, figure by figure.
use Prim.Native.Nat.{ℕ, ◌≤◌, ◌<◌}
use mathlib.Core.Path.{◌≡◌}
use mathlib.Core.Bool.{false}
use lib.Dec.{leb}
use borrow.Author.Tests.{le-leb, lt-leb}
use Rattle.meaning.specs.State.{Room}
use Rattle.meaning.specs.Run.{within}

pub over_pairs : (figures : Room) (pairs compounds goals : ℕ) → figures.pairs < pairs → false ≡ within figures pairs compounds goals
unfolding within
over_pairs figures pairs compounds goals h = rw (lt-leb pairs figures.pairs h)

pub over_compounds : (figures : Room) (pairs compounds goals : ℕ) → pairs ≤ figures.pairs → figures.compounds < compounds
    → false ≡ within figures pairs compounds goals
unfolding within
over_compounds figures pairs compounds goals h k = rw (le-leb pairs figures.pairs h, lt-leb compounds figures.compounds k)

pub goals_decide : (figures : Room) (pairs compounds goals : ℕ) → pairs ≤ figures.pairs → compounds ≤ figures.compounds
    → leb goals figures.goals ≡ within figures pairs compounds goals
unfolding within
goals_decide figures pairs compounds goals h k = rw (le-leb pairs figures.pairs h, le-leb compounds figures.compounds k)
