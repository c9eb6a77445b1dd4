-- "16 brackets open at once, round and square together": how many may open inside one another in a term.
-- Arguments stand in their compound's bracket, elements in their list's; the rest of a list opens none of its own, nor does a `[]` here.
use Prim.Native.Nat.{ℕ, suc, ◌≤◌, ◌<◌}
use native.Mathlib.Omega.{arith}
use Rattle.meaning.specs.Terms.{Functor, cell, named, Term, Terms, variable, constant, compound, end, more, Named, Guard, as_term}

-- How many may open in the arguments behind the first, where so many may open in the first.
unfoldable pub behind_first_argument : Functor → ℕ → ℕ
behind_first_argument cell inside = suc inside
behind_first_argument (named f) inside = inside

-- No more than so many brackets open inside one another.
unfoldable mutual
  pub Nested : ℕ → Term → Type 0
  Nested most (variable h n) = Unit {0}
  Nested most (constant k) = Unit {0}
  Nested most (compound n f ts) = (inside : ℕ) × (inside < most) × AllNested inside (behind_first_argument f inside) ts

  pub AllNested : ℕ → ℕ → Terms → Type 0
  AllNested first behind end = Unit {0}
  AllNested first behind (more t ts) = Nested first t × AllNested behind behind ts

-- Of a head or a goal, with its own parenthesis.
abbrev pub GoalNested : Named → Type 0
GoalNested g = Nested 16 (as_term g)

-- Of a guard's arguments: its parenthesis is the first bracket, and `==` has none.
abbrev pub GuardNested : Guard → Type 0
GuardNested g = AllNested 16 16 g.arguments

pub nested_wider : {few most : ℕ} → few ≤ most → (t : Term) → Nested few t → Nested most t
unfolding Nested
nested_wider le (variable h n) nested = tt
nested_wider le (constant k) nested = tt
nested_wider le (compound n f ts) (inside, below, all) = (inside, omega arith, all)

pub all_nested_wider : {few behind most : ℕ} → few ≤ most → behind ≤ most → (ts : Terms) → AllNested few behind ts → AllNested most most ts
unfolding AllNested
all_nested_wider le le' end nested = tt
all_nested_wider le le' (more t ts) (first, others) = (nested_wider le t first, all_nested_wider le' le' ts others)
