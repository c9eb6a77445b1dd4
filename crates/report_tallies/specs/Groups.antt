-- The goals of one of the three lists, as words of the scratch: one by one, and those of a query.
use Rattle.std.specs.Prelude.{ℕ, zero, suc, ◌+◌, ◌*◌, ◌≤◌, ◌<◌, Bool, false, List, [], ◌∷◌, ◌++◌, eqb, length, get_or}
use Rattle.meaning.specs.Bytes.{when◌then◌else◌}
use Rattle.meaning.specs.State.{Room}
use Rattle.term.specs.States.{round, standing}
use Rattle.term.specs.Layout.{queue_region, waiting_region, failed_region}
use Rattle.term.specs.declared.state.Standing.{Standing}
use Rattle.term.specs.Words.{tag_in}
use Rattle.report_tallies.specs.declared.groups.Group.{Group}

-- The word of a list's i-th place.
abbrev pub goal_place : Group → ℕ → ℕ
goal_place g i = g.from + g.step * round g.size (g.first + i)

abbrev pub goal_in : List ℕ → Group → ℕ → ℕ
goal_in s g i = get_or s (goal_place g i) 0

-- All of them stand in the scratch.
pub record GroupInside (s : List ℕ) (g : Group) : Type 0 where
  pub few : g.first + g.count ≤ 1000000
  pub inside : (i : ℕ) → i < g.count → goal_place g i < length s

-- A goal's word has its query's place for a remainder by 8; 0 is no goal.
unfoldable pub own : ℕ → ℕ → Bool
own q w = when eqb w 0 then false else eqb (tag_in w) q

-- The goals of so many places from the i-th on, and those of them that are a query's.
unfoldable pub goals_from : List ℕ → Group → ℕ → ℕ → List ℕ
goals_from s g i zero = []
goals_from s g i (suc n) = standing (goal_in s g i) ++ goals_from s g (i + 1) n

unfoldable pub own_from : List ℕ → Group → ℕ → ℕ → ℕ → List ℕ
own_from s g q i zero = []
own_from s g q i (suc n) = when own q (goal_in s g i) then goal_in s g i ∷ own_from s g q (i + 1) n else own_from s g q (i + 1) n

-- The three lists.
abbrev pub active_group : Room → Standing → Group
active_group room t = record { from = queue_region room; step = 1; size = room.goals; first = t.front; count = t.active }

abbrev pub waiting_group : Room → Standing → Group
waiting_group room t = record { from = waiting_region room; step = 2; size = t.log; first = 0; count = t.log }

abbrev pub failed_group : Room → Standing → Group
failed_group room t = record { from = failed_region room; step = 1; size = t.failed; first = 0; count = t.failed }
