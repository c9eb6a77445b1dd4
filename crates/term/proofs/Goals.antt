-- A goal's word taken apart is what it was put together from.
use Prim.Native.Nat.{ℕ, ◌+◌, ◌*◌, ◌/◌, ◌<◌}
use mathlib.Core.Path.{◌≡◌}
use native.Mathlib.Omega.{arith}
use Rattle.meaning.specs.State.{Origin}
use Rattle.term.specs.Words.{packed, tag_in, rest_in}
use Rattle.term.specs.Goals.{origin_word, packed_goal, goal_mark, place_in, clause_in, tries_in, OriginFits}

pub goal_marked : (query place : ℕ) (o : Origin) → packed (goal_mark query o) place ≡ packed_goal query place (origin_word o)
goal_marked query place o = omega arith

module _ (query place : ℕ) (few : query < 8) (low : place < 1048576) where
  pub goal_query : (origin : ℕ) → tag_in (packed_goal query place origin) ≡ query
  goal_query origin = omega arith

  pub goal_rest : (origin : ℕ) → rest_in (packed_goal query place origin) ≡ place + 1048576 * origin
  goal_rest origin = omega arith

  pub goal_place : (origin : ℕ) → place_in (packed_goal query place origin) ≡ place
  goal_place origin = rw (goal_rest origin) (omega arith)

  behind : (origin : ℕ) → rest_in (packed_goal query place origin) / 1048576 ≡ origin
  behind origin = rw (goal_rest origin) (omega arith)

  pub goal_clause : (o : Origin) → OriginFits o → clause_in (packed_goal query place (origin_word o)) ≡ o.clause
  goal_clause o fits = rw (behind (origin_word o)) (omega (arith, fits.clause))

  pub goal_tries : (o : Origin) → OriginFits o → tries_in (packed_goal query place (origin_word o)) ≡ o.tries
  goal_tries o fits = rw (behind (origin_word o)) (omega (arith, fits.clause))
