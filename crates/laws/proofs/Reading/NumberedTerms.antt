-- What numbering in order says: the numbers go up, a term's numbers end in one place alone, and renaming apart raises them all.
-- By induction on terms and their arguments together.
use Prim.Native.Nat.{ℕ, ◌+◌, ◌≤◌}
use mathlib.Core.Path.{◌≡◌}
use mathlib.Core.List.{List, [], ◌∷◌, map}
use native.Mathlib.Omega.{arith}
use Rattle.meaning.specs.Terms.{
  Term,
  Terms,
  variable,
  constant,
  compound,
  end,
  more,
  Named,
  Test,
  an_integer,
  a_constant,
  a_compound,
  a_ground,
  known,
  equal,
  otherwise,
  Guard,
  renamed,
  all_renamed,
  renamed_goal,
}
use Rattle.laws.proofs.Reading.Numbering.{Numbered, AllNumbered, GoalsNumbered, SidesNumbered, TestNumbered, GuardsNumbered}

-- The numbers go up.
mutual
  unfolding Numbered AllNumbered

  pub numbered_grows : (low high : ℕ) (t : Term) → Numbered low high t → low ≤ high
  numbered_grows low high (variable h n) e = omega arith
  numbered_grows low high (constant k) e = omega arith
  numbered_grows low high (compound n f ts) (first, all) = omega (arith, all_numbered_grow (low + 1) high ts all)

  pub all_numbered_grow : (low high : ℕ) (ts : Terms) → AllNumbered low high ts → low ≤ high
  all_numbered_grow low high end e = omega arith
  all_numbered_grow low high (more t ts) (middle, first, all) =
      omega (arith, numbered_grows low middle t first, all_numbered_grow middle high ts all)

pub goals_numbered_grow : (low high : ℕ) (gs : List Named) → GoalsNumbered low high gs → low ≤ high
unfolding GoalsNumbered
goals_numbered_grow low high [] e = omega arith
goals_numbered_grow low high (g ∷ gs) (middle, first, all) =
    omega (arith, all_numbered_grow (low + 1) middle g.arguments first.arguments, goals_numbered_grow middle high gs all)

pub sides_numbered_grow : (low n high : ℕ) (ts : Terms) → SidesNumbered low n high ts → low ≤ high
unfolding SidesNumbered
sides_numbered_grow low n high end h = absurd h
sides_numbered_grow low n high (more t end) h = absurd h
sides_numbered_grow low n high (more t (more u end)) (first, second) = omega (arith, numbered_grows low n t first, numbered_grows (n + 1) high u second)
sides_numbered_grow low n high (more t (more u (more v ts))) h = absurd h

pub test_numbered_grows : (test : Test) (low n high : ℕ) (ts : Terms) → TestNumbered test low n high ts → low ≤ high
unfolding TestNumbered
test_numbered_grows an_integer low n high ts (first, all) = omega (arith, all_numbered_grow (low + 1) high ts all)
test_numbered_grows a_constant low n high ts (first, all) = omega (arith, all_numbered_grow (low + 1) high ts all)
test_numbered_grows a_compound low n high ts (first, all) = omega (arith, all_numbered_grow (low + 1) high ts all)
test_numbered_grows a_ground low n high ts (first, all) = omega (arith, all_numbered_grow (low + 1) high ts all)
test_numbered_grows known low n high ts (first, all) = omega (arith, all_numbered_grow (low + 1) high ts all)
test_numbered_grows equal low n high ts h = sides_numbered_grow low n high ts h
test_numbered_grows otherwise low n high ts h = omega arith

pub guards_numbered_grow : (low high : ℕ) (gs : List Guard) → GuardsNumbered low high gs → low ≤ high
unfolding GuardsNumbered
guards_numbered_grow low high [] e = omega arith
guards_numbered_grow low high (g ∷ gs) (middle, first, all) =
    omega (arith, test_numbered_grows g.row.test low g.number middle g.arguments first, guards_numbered_grow middle high gs all)

-- From one number on, a term's numbers end in one place alone.
mutual
  unfolding Numbered AllNumbered

  pub numbered_ends : (low m n : ℕ) (t : Term) → Numbered low m t → Numbered low n t → m ≡ n
  numbered_ends low m n (variable h k) d e = omega arith
  numbered_ends low m n (constant k) d e = omega arith
  numbered_ends low m n (compound k f ts) (first₁, all₁) (first₂, all₂) = all_numbered_end (low + 1) m n ts all₁ all₂

  pub all_numbered_end : (low m n : ℕ) (ts : Terms) → AllNumbered low m ts → AllNumbered low n ts → m ≡ n
  all_numbered_end low m n end d e = omega arith
  all_numbered_end low m n (more t ts) (middle₁, first₁, all₁) (middle₂, first₂, all₂) =
      all_numbered_end middle₂ m n ts (rw (numbered_ends low middle₁ middle₂ t first₁ first₂) at all₁) all₂

-- Renamed apart, the compounds' numbers are raised by c.
module _ (p c : ℕ) where
  mutual
    unfolding Numbered AllNumbered renamed all_renamed

    pub renamed_numbered : (low high : ℕ) (t : Term) → Numbered low high t → Numbered (c + low) (c + high) (renamed p c t)
    renamed_numbered low high (variable h n) e = omega arith
    renamed_numbered low high (constant k) e = omega arith
    renamed_numbered low high (compound n f ts) (first, all) =
        let raised : c + (low + 1) ≡ c + low + 1 = omega arith in
        (omega arith, rw raised at (all_renamed_numbered (low + 1) high ts all))

    pub all_renamed_numbered : (low high : ℕ) (ts : Terms) → AllNumbered low high ts → AllNumbered (c + low) (c + high) (all_renamed p c ts)
    all_renamed_numbered low high end e = omega arith
    all_renamed_numbered low high (more t ts) (middle, first, all) =
        (c + middle, renamed_numbered low middle t first, all_renamed_numbered middle high ts all)

  pub goals_renamed_numbered : (low high : ℕ) (gs : List Named) → GoalsNumbered low high gs → GoalsNumbered (c + low) (c + high) (map (renamed_goal p c) gs)
  unfolding GoalsNumbered renamed_goal
  goals_renamed_numbered low high [] e = omega arith
  goals_renamed_numbered low high (g ∷ gs) (middle, first, all) =
      let raised : c + (low + 1) ≡ c + low + 1 = omega arith in (
        c + middle,
        record { number = omega arith; arguments = rw raised at (all_renamed_numbered (low + 1) middle g.arguments first.arguments) },
        goals_renamed_numbered middle high gs all,
      )
