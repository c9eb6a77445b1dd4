-- A step leaves the writers of every other goal unassigned: what it assigns, its own goal reached, and no two goals reach one writer.
-- So a goal that is not reduced is later as it was, but that values grew; and each assignment of a trial for it would be the value of its pair.
use Prim.Native.Nat.{ℕ, ◌+◌, ◌≤◌, ◌<◌}
use mathlib.Core.Path.{◌≡◌, refl}
use mathlib.Core.Logic.{⊎_elim}
use mathlib.Core.Bool.{true}
use mathlib.Core.List.{List}
use mathlib.Core.Option.{Option, none, some}
use native.Mathlib.Omega.{arith}
use lib.ListN.{length}
use Rattle.meaning.specs.Terms.{Half, writer, Term, Terms, variable, Named, Clause, all_renamed, occurrences, all_occurrences}
use Rattle.meaning.specs.State.{Values, value, QueryUnit, Goal, Goals, State, unit_at, of}
use Rattle.meaning.specs.Compare.{Assignment, succeeds}
use Rattle.meaning.specs.Trial.{next_pair, compared, values_after}
use Rattle.laws.proofs.Lists.{differ, In, in_sum, not_beyond}
use Rattle.laws.proofs.Terms.{occurs_itself, all_renamed_below}
use Rattle.laws.proofs.Trial.{assigned_below, value_after_cases}
use Rattle.laws.proofs.Circle.{HoldsWriter, StillOpen}
use Rattle.laws.proofs.Circle.FailsLater.{itself, through}
use Rattle.laws.proofs.Reading.{ClauseOk}
use Rattle.laws.proofs.Single.Closed.{unassigned_open}
use Rattle.laws.proofs.Single.LiveValues.{Count, in_term, in_terms, Settled, Flows, flows_to_less, flows_then, flows_both, occurs_within, link}
use Rattle.laws.proofs.Single.Comparison.{places_flow}
use Rattle.laws.proofs.Single.Balance.{Balanced, balanced_less, settled_given}
use Rattle.laws.proofs.Single.Counting.{together, own, own_of, count_of, sum_together}
use Rattle.laws.proofs.Single.Step.{SoundAt, given_fresh}

-- A chain from terms to a writer is a flow to it, and it ends in range.
holds_flows : (values : Values) {z : ℕ} {ts : Terms} → HoldsWriter values z ts → Flows values (in_terms ts) (in_term (variable writer z))
unfolding all_occurrences
holds_flows values {z} {ts} (itself m) = flows_to_less (occurs_within (in_terms ts) writer z m)
holds_flows values {z} {ts} (through k q u m e further) =
    flows_then (link values (in_terms ts) k q u e m) (flows_then (flows_to_less (λ h n. omega arith)) (holds_flows values further))

holds_inside : {values : Values} {z : ℕ} {ts : Terms} (pairs : ℕ) → ((h : Half) (n : ℕ) → pairs ≤ n → all_occurrences h n ts ≡ 0)
    → ((q : ℕ) (u : Term) → value values q ≡ some u → (h : Half) (n : ℕ) → pairs ≤ n → occurrences h n u ≡ 0)
    → HoldsWriter values z ts → z < pairs
unfolding all_occurrences
holds_inside {z = z} pairs inside values_inside (itself m) = not_beyond z pairs (λ e. omega (arith, inside writer z e))
holds_inside pairs inside values_inside (through k q u m e further) =
    holds_inside pairs (λ h n i. omega (arith, values_inside q u e h n i)) values_inside further

-- A goal agreed with a clause's head; terms that are counted apart from the goal keep their writers.
module _ (unit : QueryUnit) (clause : Clause) (goal : Named) (given : List Assignment) (around : Count)
    (agrees : compared clause unit goal ≡ succeeds given)
    (b : Balanced unit.values (λ h n. all_occurrences h n goal.arguments + around h n))
    (ts : Terms) (apart : (h : Half) (n : ℕ) → all_occurrences h n ts ≤ around h n) where
  pub others_stay_open : StillOpen unit.values (values_after clause given unit) ts
  unfolding compared next_pair
  others_stay_open z held e = go (value (values_after clause given unit) z) refl
    where
      head_below : (h : Half) (n : ℕ) → n < length unit.values
          → all_occurrences h n (all_renamed (length unit.values) unit.compounds clause.head.arguments) ≡ 0
      head_below h n below = all_renamed_below (length unit.values) unit.compounds h n clause.head.arguments below

      assigned : (a : Assignment) × In a given × (a.pair ≡ z) × Unit {0} → ⊥
      assigned (a, m, same, _) =
          let below : z < length unit.values =
          holds_inside (length unit.values) (λ h n past. omega (arith, apart h n, b.below h n past)) b.values_below held in
          let not_closed = unassigned_open unit.values z e in
          let f =
          (flows_both (places_flow unit.values (length unit.values) _ goal.arguments given agrees) (holds_flows unit.values held)
          ).from (λ h n. 0) b.live b.settled
          (λ h n t o i. omega (arith, b.fair h n t o i, head_below h n (assigned_below unit.values n t i), apart h n)) in
          let one : occurrences writer z (variable writer a.pair) ≡ 1 = rw same (occurs_itself writer z) in
          omega (
            arith,
            f.flow writer z not_closed,
            f.fewer writer z,
            b.once writer z not_closed,
            head_below writer z below,
            apart writer z,
            occurs_itself writer z,
            in_sum (λ c. occurrences writer z (variable writer c.pair)) m,
          )

      go : (v : Option Term) → value (values_after clause given unit) z ≡ v → value (values_after clause given unit) z ≡ none
      go none f = f
      go (some t) f =
          absurd (⊎_elim (λ (a, m, same, its). assigned (a, m, same, tt)) (λ i. differ (cc)) (value_after_cases clause given unit z t f))

-- Of a goal among those of a sound state.
module _ (k : ℕ) (state : State) (s : SoundAt k state) (o : Goal) (its : of k o ≡ true) where
  abbrev unit : QueryUnit
  unit = unit_at k state.units

  pub counted : (goals : Goals) → In o (together goals) → (h : Half) (n : ℕ) → all_occurrences h n o.goal.arguments ≤ count_of k goals h n
  counted goals m h n = omega (arith, in_sum (own k h n) m, own_of k h n o its, sum_together (own k h n) goals)

  -- Each assignment of a trial for it would be the value of its pair.
  pub goal_settles : In o (together state.goals) → (clause : Clause) → ClauseOk clause
      → (given : List Assignment) → compared clause (unit_at k state.units) o.goal ≡ succeeds given
      → Settled (values_after clause given (unit_at k state.units)) given
  goal_settles m clause ok given agrees =
      settled_given unit clause o.goal given (λ h n. 0) ok agrees (given_fresh clause unit o.goal given s.no_circle agrees)
      (balanced_less unit.values (count_of k state.goals) _ (λ h n. omega (arith, counted state.goals m h n)) s.balanced)
