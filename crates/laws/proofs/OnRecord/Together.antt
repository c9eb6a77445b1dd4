-- The goals of all queries, written out and counted together: a half of a pair of one query stands in none of another's goals.
-- So that each query's goals hold no half twice is that all goals together hold none twice.
use Prim.Native.Nat.{ℕ, ◌≤◌, ◌<◌}
use mathlib.Core.Path.{◌≡◌, refl}
use mathlib.Core.Bool.{Bool, true, false}
use mathlib.Core.List.{◌++◌, map}
use native.Mathlib.Decide.{dec_lt}
use native.Mathlib.Omega.{arith}
use borrow.Author.Tests.{eqb-true, ne_eqb}
use Rattle.meaning.specs.Bytes.{when◌then◌else◌}
use Rattle.meaning.specs.Terms.{Half, Term, occurrences, as_term}
use Rattle.meaning.specs.State.{Goal, Waiting, Goals, State, of, goals_of, part_of}
use Rattle.laws.proofs.Lists.{Each, each_append, each_map, each_implies, sum, sum_map, sum_those, sum_same, sum_of_none}
use Rattle.laws.proofs.Runs.{Placed}
use Rattle.laws.proofs.Single.{SingleOccurrence, written_out}
use Rattle.laws.proofs.Single.Counting.{together, sum_together}

-- A goal written out, "with every assignment applied": those of its query.
abbrev pub goal_written : State → Goal → Term
goal_written state g = written_out (part_of g.query state) (as_term g.goal)

-- How often it holds a half of the pair n of the query at place k: pairs of two queries are two.
abbrev pub times_in : State → ℕ → Half → ℕ → Goal → ℕ
times_in state k h n g = when of k g then occurrences h n (goal_written state g) else 0

-- Of a query's goals as of all goals, of which only the query's count.
sum_of_query : (f : Goal → ℕ) (k : ℕ) (goals : Goals) → sum f (together (goals_of k goals)) ≡ sum (λ g. when of k g then f g else 0) (together goals)
unfolding goals_of
sum_of_query f k goals =
    omega (
      arith,
      sum_together f (goals_of k goals),
      sum_together (λ g. when of k g then f g else 0) goals,
      sum_those f (of k) goals.queue,
      sum_those (λ w. f w.goal) (λ w. of k w.goal) goals.waiting,
      sum_those f (of k) goals.failed,
    )

placed_together : (number : ℕ) (goals : Goals) → Placed number goals → Each (λ g. g.query < number) (together goals)
placed_together number goals p =
    each_append (λ g. g.query < number) (goals.queue ++ map (λ w. w.goal) goals.waiting) goals.failed
    (each_append (λ g. g.query < number) goals.queue (map (λ w. w.goal) goals.waiting) p.queue
    (each_map (λ g. g.query < number) (λ (w : Waiting). w.goal) goals.waiting p.waiting))
    p.failed

module _ (state : State) (k : ℕ) (h : Half) (n : ℕ) where
  -- Its own values are those of the query at its place.
  times_own : (g : Goal) → times_in state k h n g ≡ (when of k g then occurrences h n (written_out (part_of k state) (as_term g.goal)) else 0)
  unfolding of when◌then◌else◌
  times_own g = go (of k g) refl
    where
      go : (b : Bool) → of k g ≡ b
          → times_in state k h n g ≡ (when of k g then occurrences h n (written_out (part_of k state) (as_term g.goal)) else 0)
      go true e = let same : g.query ≡ k = eqb-true g.query k e in rw same
      go false e = rw e

  -- A query's goals hold it at most once: so do all goals.
  own_together : SingleOccurrence (part_of k state) → sum (times_in state k h n) (together state.goals) ≤ 1
  unfolding part_of
  own_together s =
      omega (
        arith,
        sum_same (times_in state k h n) _ times_own (together state.goals),
        sum_of_query (λ g. occurrences h n (written_out (part_of k state) (as_term g.goal))) k state.goals,
        sum_map (λ t. occurrences h n (written_out (part_of k state) t)) (λ g. as_term g.goal) (together (goals_of k state.goals)),
        s.written_once h n,
      )

  -- Where there is no query, there is no goal of it.
  none_there : (number : ℕ) → Placed number state.goals → number ≤ k → sum (times_in state k h n) (together state.goals) ≡ 0
  unfolding of when◌then◌else◌
  none_there number p past =
      sum_of_none (times_in state k h n) (together state.goals)
      (each_implies (λ g. g.query < number) (λ g. times_in state k h n g ≡ 0)
      (λ g below. let other : of k g ≡ false = ne_eqb g.query k (λ e. omega arith) in rw other)
      (together state.goals) (placed_together number state.goals p))

  pub written_once_together : (number : ℕ) → Placed number state.goals
      → ((j : ℕ) → j < number → SingleOccurrence (part_of j state))
      → sum (times_in state k h n) (together state.goals) ≤ 1
  written_once_together number p single = go (dec_lt k number)
    where
      go : Dec (k < number) → sum (times_in state k h n) (together state.goals) ≤ 1
      go (yes below) = own_together (single k below)
      go (no not_below) = omega (arith, none_there number p (omega arith))
