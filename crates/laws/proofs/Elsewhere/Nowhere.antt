-- That no goal of a query, written out, holds a pair's reader: the same as that none has a chain to it. So it stays, in every later state of the run.
use Prim.Native.Nat.{ℕ, ◌+◌, ◌<◌}
use mathlib.Core.Path.{◌≡◌}
use mathlib.Core.Bool.{true, false}
use mathlib.Core.List.{map}
use mathlib.Core.Option.{none}
use native.Mathlib.Decide.{dec_lt}
use native.Mathlib.Omega.{arith}
use lib.ListN.{length}
use borrow.Author.Tests.{eq-eqb, eqb-true}
use Rattle.meaning.specs.Terms.{reader, Job, occurrences, all_occurrences, as_term}
use Rattle.meaning.specs.State.{Room, Values, value, Goal, Goals, State, Part, unit_at, of, goals_of, part_of}
use Rattle.meaning.specs.Circle.{circle}
use Rattle.meaning.specs.Run.{run}
use Rattle.meaning.specs.Report.{applied}
use Rattle.laws.proofs.Lists.{In, in_map, in_those, in_sum, each_map, each_member, sum, sum_of_none}
use Rattle.laws.proofs.Runs.AllGoals.{EachGoal, each_goal_implies, each_goal_own}
use Rattle.laws.proofs.Runs.Charges.{run_units}
use Rattle.laws.proofs.Circle.Never.{run_no_circle}
use Rattle.laws.proofs.Single.{written_out, goal_terms}
use Rattle.laws.proofs.Single.Chains.{Reaches, reaches_more, applied_reaches}
use Rattle.laws.proofs.Single.Counting.{together}
use Rattle.laws.proofs.Elsewhere.Staying.{each_together, in_queue, in_waiting, in_failed}
use Rattle.laws.proofs.Elsewhere.Written.{reached_exactly_if_written}
use Rattle.laws.proofs.Elsewhere.StaysUnread.{Unread, unread_stays}

-- No goal of the query, written out, holds the pair's reader.
abbrev pub ReadNowhere : Part → ℕ → Type 0
ReadNowhere part z = sum (λ t. occurrences reader z (written_out part t)) (goal_terms part) ≡ 0

module _ (k z : ℕ) (state : State) where
  abbrev values : Values
  values = (unit_at k state.units).values

  abbrev own_goals : Goals
  own_goals = goals_of k state.goals

  -- A goal written out holds the reader as often as this.
  abbrev held_by : Goal → ℕ
  held_by g = occurrences reader z (applied (length values) values (as_term g.goal))

  -- By chains, from what is written out.
  pub nowhere_unread : circle (unit_at k state.units).values ≡ false → value (unit_at k state.units).values z ≡ none
      → ReadNowhere (part_of k state) z → EachGoal (Unread k z (unit_at k state.units).values) state.goals
  unfolding part_of goals_of of as_term
  nowhere_unread no_circle free nowhere =
      record {
        queue = each_member _ state.goals.queue (λ g m own. not_read g (in_queue own_goals (in_those (of k) m (eq-eqb g.query k own))));
        waiting =
            each_member _ state.goals.waiting
            (λ w m own. not_read w.goal (in_waiting own_goals (in_those (λ w. of k w.goal) m (eq-eqb w.goal.query k own))));
        failed = each_member _ state.goals.failed (λ g m own. not_read g (in_failed own_goals (in_those (of k) m (eq-eqb g.query k own))));
      }
    where
      not_read : (g : Goal) → In g (together own_goals) → Reaches values z g.goal.arguments → ⊥
      not_read g m r =
          omega (
            arith,
            (reached_exactly_if_written values z no_circle free g.goal).0 r,
            in_sum (λ t. occurrences reader z (applied (length values) values t)) (in_map (λ (g : Goal). as_term g.goal) m),
          )

  -- A goal without a chain to it does not hold it.
  unread_held : (g : Goal) → ¬ Reaches values z g.goal.arguments → held_by g ≡ 0
  unfolding as_term occurrences all_occurrences
  unread_held g unread = go (dec_lt 0 (held_by g))
    where
      go : Dec (0 < held_by g) → held_by g ≡ 0
      go (yes o) =
          absurd (unread (reaches_more g.goal.arguments (λ h n. omega arith) (applied_reaches values (length values) z (as_term g.goal) o)))
      go (no o) = omega arith

  -- And back.
  pub unread_nowhere : EachGoal (Unread k z (unit_at k state.units).values) state.goals → ReadNowhere (part_of k state) z
  unfolding part_of of
  unread_nowhere unread =
      sum_of_none (λ t. occurrences reader z (applied (length values) values t)) (map (λ g. as_term g.goal) (together own_goals))
      (each_map (λ t. occurrences reader z (applied (length values) values t) ≡ 0) (λ (g : Goal). as_term g.goal) (together own_goals)
      (each_member (λ g. held_by g ≡ 0) (together own_goals)
      (each_together (λ g. held_by g ≡ 0) own_goals
      (each_goal_own (λ g. held_by g ≡ 0) k state.goals
      (each_goal_implies (Unread k z values) (λ g. of k g ≡ true → held_by g ≡ 0) (λ g its own. unread_held g (its (eqb-true g.query k own)))
      state.goals unread)))))

-- Of an unassigned pair, in a state of a run: it stays, in every later state.
pub nowhere_stays : (job : Job) (m n : ℕ) (figures : Room) (k z : ℕ) → k < length job.queries
    → z < length (unit_at k (run job m figures).state.units).values → value (unit_at k (run job m figures).state.units).values z ≡ none
    → ReadNowhere (part_of k (run job m figures).state) z → ReadNowhere (part_of k (run job (m + n) figures).state) z
nowhere_stays job m n figures k z place old free nowhere =
    unread_nowhere k z (run job (m + n) figures).state
    (unread_stays job m n figures k z
    (record {
      place = rw (run_units job m figures) place;
      old = old;
      unread = nowhere_unread k z (run job m figures).state (run_no_circle job m figures k) free nowhere;
    })).unread
