-- The circle test: it finds a circle exactly if there is one, no state of a run has one, and so whatever follows values comes to an end.
-- A path longer than the number of pairs visits one of them twice; so a search through that many links is enough.
pub mod Leaning
pub mod Search
pub mod Never
pub mod Chains
pub mod Following
pub mod Written
pub mod Starts
pub mod ValuesStay
pub mod FailsLater
pub mod NoWriter
pub mod Grown
pub mod CircleLater
pub mod TrialLater
pub mod FailsLaterExample
use Prim.Native.Nat.{ℕ, ◌≤◌}
use mathlib.Core.Path.{◌≡◌}
use mathlib.Core.Option.{none}
use lib.ListN.{length}
use Rattle.meaning.specs.Terms.{Job, Half, Term, variable}
use Rattle.meaning.specs.State.{Room, value}
use Rattle.meaning.specs.Compare.{followed}
use Rattle.meaning.specs.Report.{applied}
use Rattle.laws.proofs.Terms.{Stands}
-- "Any pair would lean on itself through one or more links": the test says so, of one pair and of any, exactly if it does.
unfoldable pub use Leaning.{Leans}
pub use Leaning.{Links}
pub use Search.{circle_at_says, circle_says, no_circle_says}
-- In no state of a run does one.
pub use Never.{NoCircle, values_at, start_no_circle, step_no_circle, run_no_circle}
-- Without a circle every chain of assigned pairs ends within the number of pairs; so does following a term, and writing it out.
pub use Chains.{chains_end}
pub use Following.{followed_within, followed_unassigned}
pub use Written.{applied_within, applied_unassigned}
-- After a trial the test may start at the goal's writers that the trial assigned, and gives the same answer.
pub use Starts.{assigns, circle_from, circle_by_starts, circle_by_pairs, circle_by_assignments}
-- A trial assigns pairs that had no value; so a value, once given, stays.
pub use ValuesStay.{given_unassigned, values_after_stay, step_values_stay}
-- No value is a writer.
pub use NoWriter.{NoWriters, start_no_writers, step_no_writers}
-- A clause that failed, by a place, by the circle test or by a guard, fails as long as the goal's own writers are unassigned.
pub use FailsLater.{HoldsWriter, ValuesGrew, StillOpen, compared_fails_later, trial_fails_later_by_a_place}
pub use CircleLater.{GoalLater, goal_later_then, compared_agrees_later}
pub use TrialLater.{Settles, trial_fails_later, all_fail_later, failed_stays_failed}

-- What these say of a state of a run: the values of a query's pairs where a run ends, under any budget, in any room.
module _ (job : Job) (limit : ℕ) (figures : Room) (place : ℕ) where
  -- No pair leans on itself through one or more links.
  pub run_no_links : (i : ℕ) → ¬ Links (values_at job limit figures place) i i
  run_no_links = (no_circle_says (values_at job limit figures place)).0 (run_no_circle job limit figures place)

  -- "A goal term that is an assigned variable is followed to its value, again and again": more links than there are pairs change nothing,
  -- and what is found is no assigned variable.
  pub run_followed_within : let values = values_at job limit figures place in
      (links : ℕ) → length values ≤ links → (t : Term) → followed links values t ≡ followed (length values) values t
  run_followed_within = followed_within (values_at job limit figures place) (run_no_circle job limit figures place)

  pub run_followed_unassigned : let values = values_at job limit figures place in
      (t : Term) (h : Half) (p : ℕ) → followed (length values) values t ≡ variable h p → value values p ≡ none
  run_followed_unassigned = followed_unassigned (values_at job limit figures place) (run_no_circle job limit figures place)

  -- "Values are written out with every assignment applied": more links than there are pairs change nothing, and no assigned pair is left.
  pub run_applied_within : let values = values_at job limit figures place in
      (links : ℕ) → length values ≤ links → (t : Term) → applied links values t ≡ applied (length values) values t
  run_applied_within = applied_within (values_at job limit figures place) (run_no_circle job limit figures place)

  pub run_applied_unassigned : let values = values_at job limit figures place in
      (t : Term) (p : ℕ) → Stands p (applied (length values) values t) → value values p ≡ none
  run_applied_unassigned = applied_unassigned (values_at job limit figures place) (run_no_circle job limit figures place)
