-- A compound's number is its place among those of its item: its own first, then those of its arguments from left to right, goal behind goal; the guards
-- stand between head and goals.
-- From one number up to another, which is not among them.
use Prim.Native.Nat.{ℕ, ◌+◌}
use mathlib.Core.Path.{◌≡◌}
use mathlib.Core.List.{List, [], ◌∷◌}
use Rattle.meaning.specs.Terms.{
  Term,
  Terms,
  variable,
  constant,
  compound,
  end,
  more,
  Named,
  Test,
  an_integer,
  a_constant,
  a_compound,
  a_ground,
  known,
  equal,
  otherwise,
  Guard,
  as_term,
}

-- The compounds of a term have the numbers from `low` up to `high`.
unfoldable mutual
  pub Numbered : ℕ → ℕ → Term → Type 0
  Numbered low high (variable h n) = low ≡ high
  Numbered low high (constant k) = low ≡ high
  Numbered low high (compound n f ts) = (n ≡ low) × AllNumbered (low + 1) high ts

  pub AllNumbered : ℕ → ℕ → Terms → Type 0
  AllNumbered low high end = low ≡ high
  AllNumbered low high (more t ts) = (middle : ℕ) × Numbered low middle t × AllNumbered middle high ts

-- Of a head or a goal, and of several, one behind the other.
pub record NamedNumbered (low high : ℕ) (g : Named) : Type 0 where
  pub number : g.number ≡ low
  pub arguments : AllNumbered (low + 1) high g.arguments

unfoldable pub GoalsNumbered : ℕ → ℕ → List Named → Type 0
GoalsNumbered low high [] = low ≡ high
GoalsNumbered low high (g ∷ gs) = (middle : ℕ) × NamedNumbered low middle g × GoalsNumbered middle high gs

-- Two terms with a number between them: the left one's compounds, that number, the right one's.
unfoldable pub SidesNumbered : ℕ → ℕ → ℕ → Terms → Type 0
SidesNumbered low n high end = ⊥
SidesNumbered low n high (more t end) = ⊥
SidesNumbered low n high (more t (more u end)) = Numbered low n t × Numbered (n + 1) high u
SidesNumbered low n high (more t (more u (more v ts))) = ⊥

-- Of a guard by its test, its own number and its arguments: `==` stands between its two sides, otherwise is no compound, and any other is like a goal.
unfoldable pub TestNumbered : Test → ℕ → ℕ → ℕ → Terms → Type 0
TestNumbered an_integer low n high ts = (n ≡ low) × AllNumbered (low + 1) high ts
TestNumbered a_constant low n high ts = (n ≡ low) × AllNumbered (low + 1) high ts
TestNumbered a_compound low n high ts = (n ≡ low) × AllNumbered (low + 1) high ts
TestNumbered a_ground low n high ts = (n ≡ low) × AllNumbered (low + 1) high ts
TestNumbered known low n high ts = (n ≡ low) × AllNumbered (low + 1) high ts
TestNumbered equal low n high ts = SidesNumbered low n high ts
TestNumbered otherwise low n high ts = low ≡ high

abbrev pub GuardNumbered : ℕ → ℕ → Guard → Type 0
GuardNumbered low high g = TestNumbered g.row.test low g.number high g.arguments

unfoldable pub GuardsNumbered : ℕ → ℕ → List Guard → Type 0
GuardsNumbered low high [] = low ≡ high
GuardsNumbered low high (g ∷ gs) = (middle : ℕ) × GuardNumbered low middle g × GuardsNumbered middle high gs

-- A goal's numbers are those of the term that it is.
pub as_term_numbered : {low high : ℕ} (g : Named) → NamedNumbered low high g → Numbered low high (as_term g)
unfolding Numbered as_term
as_term_numbered g h = (h.number, h.arguments)
