-- A circle that a trial would close through a pair of the goal reads that pair in the goal itself: the goal has a chain to its reader.
-- No pair of the circle is closed; so each is live after the trial and held by its reader, the circle is a chain, and the chain was there before.
-- The test comes before the guards, so the clause is counted without its body: in a head nothing stands twice, whatever the guards license.
use Prim.Native.Nat.{ℕ, ◌+◌, ◌≤◌, ◌<◌}
use mathlib.Core.Path.{◌≡◌}
use mathlib.Core.Logic.{◌⊎◌, inl, inr, ⊎_elim}
use mathlib.Core.Bool.{true, false}
use mathlib.Core.List.{List}
use mathlib.Core.Option.{none, some}
use native.Mathlib.Omega.{arith}
use lib.ListN.{length}
use Rattle.meaning.specs.Bytes.{any}
use Rattle.meaning.specs.Terms.{Half, writer, reader, Term, Terms, variable, end, more, Named, Clause, occurrences, all_occurrences}
use Rattle.meaning.specs.State.{Values, value, QueryUnit}
use Rattle.meaning.specs.Compare.{Assignment, succeeds}
use Rattle.meaning.specs.Circle.{circle_at, circle}
use Rattle.meaning.specs.Trial.{compared, values_after}
use Rattle.laws.proofs.Lists.{differ, In, in_sum, in_any, any_in, same_answer}
use Rattle.laws.proofs.Terms.{occurs_itself}
use Rattle.laws.proofs.Trial.{value_after_cases}
use Rattle.laws.proofs.Reading.{ClauseOk}
use Rattle.laws.proofs.Circle.Leaning.{Links, links_join}
use Rattle.laws.proofs.Circle.Search.{circle_at_says, circle_says}
use Rattle.laws.proofs.Circle.Starts.{Assigns, circle_from}
use Rattle.laws.proofs.Circle.ValuesStay.{given_unassigned}
use Rattle.laws.proofs.Single.Closed.{closed, unassigned_open}
use Rattle.laws.proofs.Single.LiveValues.{Count, marks, flows_both}
use Rattle.laws.proofs.Single.Chains.{Reaches, chain_flows}
use Rattle.laws.proofs.Single.Balance.{Balanced, balanced_less, balanced_flow_once, balanced_without_body}
use Rattle.laws.proofs.Single.Step.{given_fresh}
use Rattle.laws.proofs.Elsewhere.Open.{circle_open}
use Rattle.laws.proofs.Elsewhere.Live.{links_value, live_reaches}
use Rattle.laws.proofs.Elsewhere.Before.{given_source, reached_before, beyond_reaches_none, one_beyond}

-- Two goals have no chains to the reader of one pair that is not closed.
pub reached_once : (values : Values) (c : Count) (ts us : Terms) (z : ℕ) → Balanced values c
    → ((h : Half) (n : ℕ) → all_occurrences h n ts + all_occurrences h n us ≤ c h n)
    → closed values z ≡ false → Reaches values z ts → Reaches values z us → ⊥
reached_once values c ts us z b less o one two =
    let both = balanced_less values c (λ h n. all_occurrences h n ts + all_occurrences h n us) less b in
    let at_most = balanced_flow_once values _ _ both (flows_both (chain_flows values one) (chain_flows values two)) reader z o in
    omega (arith, at_most, occurs_itself reader z)

-- A pair that is assigned counts.
pub assigns_marked : (given : List Assignment) (z : ℕ) → Assigns given z → 1 ≤ marks writer writer z given
assigns_marked given z (a, m, p) =
    let i : occurrences writer z (variable writer a.pair) ≡ 1 = rw p (occurs_itself writer z) in
    omega (arith, in_sum (λ a. occurrences writer z (variable writer a.pair)) m)

-- A trial of a clause whose places all agree, in values without a circle; the goal and what is counted around it are balanced.
module _ (unit : QueryUnit) (clause : Clause) (goal : Named) (given : List Assignment) (around : Count) (ok : ClauseOk clause)
    (agrees : compared clause unit goal ≡ succeeds given) (no_circle : circle unit.values ≡ false)
    (b : Balanced unit.values (λ h n. all_occurrences h n goal.arguments + around h n)) where
  -- A pair that the trial assigns had no value.
  pub assigns_unassigned : (z : ℕ) → Assigns given z → value unit.values z ≡ none
  assigns_unassigned z (a, m, p) = rw (← p) (given_unassigned clause unit goal given no_circle agrees a m)

  -- Where a circle runs through an old pair that the trial assigns, the goal has a chain to the pair's reader.
  pub circle_reads : (z : ℕ) → z < length unit.values → Assigns given z → Links (values_after clause given unit) z z
      → Reaches unit.values z goal.arguments
  circle_reads z old assigns c =
      let (t, e) = links_value c in
      let fresh = given_fresh clause unit goal given no_circle agrees in
      let (balanced, live) = balanced_without_body unit clause goal given around ok agrees fresh b in
      let chain =
      live_reaches (values_after clause given unit) _ balanced.live balanced.settled balanced.fair t t e
      (omega (arith, live z, assigns_marked given z assigns)) c e (circle_open (values_after clause given unit) z c) in
      ⊎_elim (λ r. absurd (in_its_value t r (value_after_cases clause given unit z t e))) (λ r. r)
      (reached_before clause unit goal given agrees (more t end) old chain)
    where
      in_its_value : (t : Term) → Reaches unit.values z (more t end)
          → ((a : Assignment) × In a given × (a.pair ≡ z) × (a.value ≡ t)) ⊎ (value unit.values z ≡ some t) → ⊥
      in_its_value t r (inr f) = (let unassigned = assigns_unassigned z assigns in differ (cc))
      in_its_value t r (inl (a, i, f, g)) =
          ⊎_elim (λ (new, _). omega arith)
          (λ new. beyond_reaches_none unit.values z (more t end) old (one_beyond t (λ p s. new p (rw g s))) r)
          (given_source clause unit goal given agrees a i)

  -- So where the goal has none, no circle runs through the pair.
  pub no_circle_through : (z : ℕ) → z < length unit.values → Assigns given z → ¬ Reaches unit.values z goal.arguments
      → ¬ Links (values_after clause given unit) z z
  no_circle_through z old assigns unread c = unread (circle_reads z old assigns c)

  -- Another goal that has one is enough.
  pub no_circle_if_another_reads : (z : ℕ) → z < length unit.values → Assigns given z
      → (ts : Terms) → ((h : Half) (n : ℕ) → all_occurrences h n ts ≤ around h n) → Reaches unit.values z ts
      → ¬ Links (values_after clause given unit) z z
  no_circle_if_another_reads z old assigns ts within elsewhere =
      no_circle_through z old assigns
      (λ r. reached_once unit.values _ goal.arguments ts z b (λ h n. omega (arith, within h n))
      (unassigned_open unit.values z (assigns_unassigned z assigns)) r elsewhere)

-- A test that leaves out pairs through which no circle runs gives the same answer.
module _ (clause : Clause) (unit : QueryUnit) (goal : Named) (given : List Assignment)
    (values_range : (p : ℕ) (t : Term) → value unit.values p ≡ some t
    → (h : Half) (m : ℕ) → length unit.values ≤ m → occurrences h m t ≡ 0)
    (goal_range : (h : Half) (m : ℕ) → length unit.values ≤ m → all_occurrences h m goal.arguments ≡ 0)
    (agree : compared clause unit goal ≡ succeeds given) where
  pub circle_by_some_starts : circle unit.values ≡ false → (starts : List ℕ)
      → ((z : ℕ) → z < length unit.values → Assigns given z → In z starts ⊎ ¬ Links (values_after clause given unit) z z)
      → circle (values_after clause given unit) ≡ any (circle_at (values_after clause given unit)) starts
  circle_by_some_starts no_circle starts all = same_answer (circle after) (any (circle_at after) starts) found is_circle
    where
      after : Values
      after = values_after clause given unit

      found : circle after ≡ true → any (circle_at after) starts ≡ true
      found e =
          let (i, c) = (circle_says after).0 e in
          let (z, b, a, from, to) = circle_from clause unit goal given values_range goal_range agree no_circle i c in
          let at_z = links_join to from in
          ⊎_elim (λ m. in_any (circle_at after) m ((circle_at_says after z).1 at_z)) (λ none. absurd (none at_z)) (all z b a)

      is_circle : any (circle_at after) starts ≡ true → circle after ≡ true
      is_circle e =
          let (z, p, q) = any_in (circle_at after) starts e in
          (circle_says after).1 (z, (circle_at_says after z).0 q)
