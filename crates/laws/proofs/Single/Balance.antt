-- What is kept of a query's goals, whatever their order: counted together with some live values, no half is counted twice.
-- A reduction keeps it: what is left of the live values, and the new assignments, are the live values after it.
use Prim.Native.Nat.{ℕ, ◌+◌, ◌-◌, ◌≤◌, ◌<◌}
use mathlib.Core.Path.{◌≡◌, refl, sym, ◌∙◌}
use mathlib.Core.Bool.{Bool, true, false}
use mathlib.Core.List.{List, [], ◌∷◌, ◌++◌, map}
use mathlib.Core.Option.{some}
use native.Mathlib.Omega.{arith}
use lib.Dec.{ltb}
use lib.ListN.{length}
use borrow.Author.Tests.{ltb-true, ltb-false}
use Rattle.meaning.specs.Terms.{
  Half,
  writer,
  reader,
  Term,
  variable,
  Named,
  Clause,
  same_half,
  all_renamed,
  renamed_goal,
  occurrences,
  all_occurrences,
  goals_occurrences,
}
use Rattle.meaning.specs.Table.{licensed}
use Rattle.meaning.specs.State.{Values, value, QueryUnit}
use Rattle.meaning.specs.Compare.{Assignment, succeeds}
use Rattle.meaning.specs.Trial.{next_pair, compared, with_pairs, values_after}
use Rattle.laws.proofs.Lists.{each_append, each_implies, sum_append, false_not_true, not_true_is_false}
use Rattle.laws.proofs.Terms.{goals_renamed_below, goals_renamed_above, goals_renamed_beyond}
use Rattle.laws.proofs.Trial.{assigned_below, value_beyond, value_with_pairs, length_with_pairs, length_values_after}
use Rattle.laws.proofs.Reading.{ClauseOk}
use Rattle.laws.proofs.Single.Closed.{closed, opens, unassigned_open, closed_kept}
use Rattle.laws.proofs.Single.LiveValues.{Count, held, marks, Settled, Fair, Flow, Flows, no_writer_marks}
use Rattle.laws.proofs.Single.Comparison.{worth, places_flow}
use Rattle.laws.proofs.Single.Assigned.{value_kept, settled_after, After, before, new, value_after}

-- Counted with some live values, each half of a pair that is not closed is counted at most once, and if it is assigned, its reader at most as often
-- as the pair has a live value; an assigned pair's writer is not counted, and pairs beyond the unit's are not; nor do these occur in any value.
pub record Balanced (values : Values) (c : Count) : Type 0 where
  pub live : List Assignment
  pub settled : Settled values live
  pub once : (h : Half) (n : ℕ) → closed values n ≡ false → c h n + held h n live ≤ 1
  pub fair : Fair values c live
  pub gone : (n : ℕ) (t : Term) → value values n ≡ some t → c writer n ≡ 0
  pub below : (h : Half) (n : ℕ) → length values ≤ n → c h n + held h n live ≡ 0
  pub values_below : (m : ℕ) (t : Term) → value values m ≡ some t → (h : Half) (n : ℕ) → length values ≤ n → occurrences h n t ≡ 0

pub balanced_less : (values : Values) (c d : Count) → ((h : Half) (n : ℕ) → d h n ≤ c h n) → Balanced values c → Balanced values d
balanced_less values c d less b =
    record {
      live = b.live;
      settled = b.settled;
      once = λ h n o. omega (arith, less h n, b.once h n o);
      fair = λ h n t o e. omega (arith, less h n, b.fair h n t o e);
      gone = λ n t e. omega (arith, less writer n, b.gone n t e);
      below = λ h n e. omega (arith, less h n, b.below h n e);
      values_below = b.values_below;
    }

-- Whatever is balanced flows to what holds nothing twice, but for closed pairs.
pub balanced_flow_once : (values : Values) (c c' : Count) → Balanced values c → Flows values c c'
    → (h : Half) (n : ℕ) → closed values n ≡ false → c' h n ≤ 1
balanced_flow_once values c c' b flows h n o =
    let f = flows.from (λ h n. 0) b.live b.settled (λ h n t o e. omega (arith, b.fair h n t o e)) in
    omega (arith, f.flow h n o, f.fewer h n, b.once h n o)

-- Each pair given a value has as many live values as writers counted for it.
same_marks : (n : ℕ) (given : List Assignment) → marks reader reader n given ≡ marks writer writer n given
unfolding occurrences same_half
same_marks n [] = refl
same_marks n (a ∷ given) = omega (arith, same_marks n given)

-- A goal agreed with a clause's head, and no pair that has a value is given one.
module _ (unit : QueryUnit) (clause : Clause) (goal : Named) (given : List Assignment) (around : Count) (ok : ClauseOk clause)
    (agrees : compared clause unit goal ≡ succeeds given)
    (fresh : (n : ℕ) (t : Term) → value unit.values n ≡ some t → marks writer writer n given ≡ 0)
    (b : Balanced unit.values (λ h n. all_occurrences h n goal.arguments + around h n)) where
  -- The head and the body, renamed apart.
  abbrev head_count : Count
  head_count h n = all_occurrences h n (all_renamed (next_pair unit) unit.compounds clause.head.arguments)

  abbrev pub body_count : Count
  body_count h n = goals_occurrences h n (map (renamed_goal (next_pair unit) unit.compounds) clause.body)

  clause_below : (h : Half) (n : ℕ) → n < length unit.values → head_count h n + body_count h n ≡ 0
  unfolding goals_occurrences renamed_goal next_pair
  clause_below h n e = goals_renamed_below (next_pair unit) unit.compounds h n (clause.head ∷ clause.body) e

  -- From its first pair on, as often as in the clause.
  clause_above : (h : Half) (n : ℕ) → head_count h (next_pair unit + n) + body_count h (next_pair unit + n) ≡ goals_occurrences h n (clause.head ∷ clause.body)
  unfolding goals_occurrences renamed_goal
  clause_above h n = goals_renamed_above (next_pair unit) unit.compounds h n (clause.head ∷ clause.body)

  head_above : (h : Half) (n : ℕ) → head_count h (next_pair unit + n) ≡ all_occurrences h n clause.head.arguments
  unfolding goals_occurrences renamed_goal
  head_above h n = omega (arith, goals_renamed_above (next_pair unit) unit.compounds h n (clause.head ∷ []))

  clause_beyond : (h : Half) (n : ℕ) → length unit.values + clause.pairs ≤ n → head_count h n + body_count h n ≡ 0
  unfolding goals_occurrences renamed_goal next_pair
  clause_beyond h n e = goals_renamed_beyond (next_pair unit) unit.compounds (clause.head ∷ clause.body) clause.pairs ok.below h n e

  -- A pair beyond the unit's has no value, and is not closed.
  beyond_open : (n : ℕ) → length unit.values ≤ n → closed unit.values n ≡ false
  beyond_open n e = unassigned_open unit.values n (value_beyond unit.values n e)

  -- A pair given a value had none.
  given_open : (n : ℕ) → 1 ≤ marks writer writer n given → closed unit.values n ≡ false
  given_open n m = go (closed unit.values n) refl
    where
      go : (c : Bool) → closed unit.values n ≡ c → closed unit.values n ≡ false
      go false e = e
      go true e = let o = opens unit.values n e in absurd (omega (arith, fresh n o.value_held o.assigned))

  -- A value stays; so does a closed pair.
  pub values_kept : (n : ℕ) (t : Term) → value unit.values n ≡ some t → value (values_after clause given unit) n ≡ some t
  unfolding values_after
  values_kept n t e =
      value_kept given (with_pairs clause.pairs unit.values) n (fresh n t e)
      ∙ value_with_pairs clause.pairs unit.values n
      ∙ e

  open_before : (n : ℕ) → closed (values_after clause given unit) n ≡ false → closed unit.values n ≡ false
  open_before n o = go (closed unit.values n) refl
    where
      go : (c : Bool) → closed unit.values n ≡ c → closed unit.values n ≡ false
      go false e = e
      go true e =
          absurd (false_not_true _ o
          (closed_kept unit.values (values_after clause given unit) (omega (arith, length_values_after clause given unit)) values_kept n e))

  -- The clause's pairs and those in use are apart: what of the clause is counted at most once is so together with what is in use.
  apart : (h : Half) (n c : ℕ) → c ≤ head_count h n + body_count h n → closed unit.values n ≡ false
      → ((m : ℕ) → n ≡ next_pair unit + m → c ≤ 1)
      → c + (all_occurrences h n goal.arguments + around h n + held h n b.live) ≤ 1
  unfolding next_pair
  apart h n c its o once = go (ltb n (length unit.values)) refl
    where
      go : (t : Bool) → ltb n (length unit.values) ≡ t → c + (all_occurrences h n goal.arguments + around h n + held h n b.live) ≤ 1
      go true e = omega (arith, its, clause_below h n (ltb-true n _ e), b.once h n o)
      go false e =
          let past = ltb-false n (length unit.values) e in
          let raised : n ≡ length unit.values + (n - length unit.values) = omega arith in
          omega (arith, once (n - length unit.values) raised, b.below h n past)

  limits_writer : (n : ℕ) → closed unit.values n ≡ false
      → head_count writer n + body_count writer n + (all_occurrences writer n goal.arguments + around writer n + held writer n b.live) ≤ 1
  limits_writer n o =
      apart writer n (head_count writer n + body_count writer n) (omega arith) o (λ m e. rw e (omega (arith, clause_above writer m, ok.writers_once m)))

  comparison : Flow unit.values (λ h n. head_count h n + all_occurrences h n goal.arguments) b.live (worth given)
  unfolding compared
  comparison =
      (places_flow unit.values (length unit.values) _ goal.arguments given agrees).from around b.live b.settled
      (λ h n t o e. omega (arith, b.fair h n t o e, clause_below h n (assigned_below unit.values n t e)))

  -- No pair is given a value twice.
  pub given_once : (n : ℕ) → marks writer writer n given ≤ 1
  given_once n = go (closed unit.values n) refl
    where
      go : (c : Bool) → closed unit.values n ≡ c → marks writer writer n given ≤ 1
      go true e = let o = opens unit.values n e in omega (arith, fresh n o.value_held o.assigned)
      go false e =
          omega (arith, comparison.flow writer n e, limits_writer n e, no_writer_marks n b.live, no_writer_marks n comparison.left)

  -- Pairs given a value, and pairs in the values given, are the unit's or the clause's.
  pub given_inside : (n : ℕ) → length unit.values + clause.pairs ≤ n → marks writer writer n given ≡ 0
  given_inside n e =
      omega (
        arith,
        comparison.flow writer n (beyond_open n (omega arith)),
        b.below writer n (omega arith),
        clause_beyond writer n e,
        no_writer_marks n b.live,
        no_writer_marks n comparison.left,
      )

  pub given_values_inside : (h : Half) (n : ℕ) → length unit.values + clause.pairs ≤ n → held h n given ≡ 0
  given_values_inside h n e =
      omega (arith, comparison.flow h n (beyond_open n (omega arith)), comparison.fewer h n, b.below h n (omega arith), clause_beyond h n e)

  -- Each assignment is the value of its pair.
  pub settled_given : Settled (values_after clause given unit) given
  unfolding values_after
  settled_given =
      settled_after given (with_pairs clause.pairs unit.values) given_once (λ n e. given_inside n (rw length_with_pairs at e))

  -- Some of the body is counted, so much that of pairs which are not closed afterwards nothing is counted twice.
  module _ (body : Count) (part : (h : Half) (n : ℕ) → body h n ≤ body_count h n)
      (limits : (h : Half) (n : ℕ) → closed (values_after clause given unit) n ≡ false
      → head_count h n + body h n + (all_occurrences h n goal.arguments + around h n + held h n b.live) ≤ 1) where
    abbrev live_after : List Assignment
    live_after = comparison.left ++ given

    held_after : (h : Half) (n : ℕ) → held h n live_after ≡ held h n comparison.left + held h n given
    held_after h n = sum_append (λ a. occurrences h n a.value) comparison.left given

    marks_after : (h : Half) (n : ℕ) → marks reader h n live_after ≡ marks reader h n comparison.left + marks reader h n given
    marks_after h n = sum_append (λ a. occurrences h n (variable reader a.pair)) comparison.left given

    once_after : (h : Half) (n : ℕ) → closed (values_after clause given unit) n ≡ false → body h n + around h n + held h n live_after ≤ 1
    once_after h n o = omega (arith, held_after h n, limits h n o, comparison.flow h n (open_before n o), comparison.fewer h n)

    -- A writer that is given a value is counted no more.
    writer_gone : (n : ℕ) → 1 ≤ marks writer writer n given → body writer n + around writer n + held writer n live_after ≡ 0
    writer_gone n m =
        let o = given_open n m in
        omega (
          arith,
          held_after writer n,
          limits_writer n o,
          part writer n,
          comparison.flow writer n o,
          no_writer_marks n b.live,
          no_writer_marks n comparison.left,
        )

    fair_after : Fair (values_after clause given unit) (λ h n. body h n + around h n) live_after
    unfolding values_after
    fair_after h n t o e = go h (value_after given (with_pairs clause.pairs unit.values) n t e)
      where
        go : (h : Half) → After given (with_pairs clause.pairs unit.values) n t
            → body h n + around h n + held h n live_after ≤ marks reader h n live_after
        go h (before i) =
            let j = sym (value_with_pairs clause.pairs unit.values n) ∙ i in
            omega (
              arith,
              held_after h n,
              marks_after h n,
              comparison.flow h n (open_before n o),
              b.fair h n t (open_before n o) j,
              clause_below h n (assigned_below unit.values n t j),
              part h n,
            )
        go writer (new m less) = omega (arith, writer_gone n m)
        go reader (new m less) = omega (arith, marks_after reader n, once_after reader n o, same_marks n given)

    gone_after : (n : ℕ) (t : Term) → value (values_after clause given unit) n ≡ some t → body writer n + around writer n ≡ 0
    unfolding values_after
    gone_after n t e = go (value_after given (with_pairs clause.pairs unit.values) n t e)
      where
        go : After given (with_pairs clause.pairs unit.values) n t → body writer n + around writer n ≡ 0
        go (before i) =
            let j = sym (value_with_pairs clause.pairs unit.values n) ∙ i in
            omega (arith, b.gone n t j, clause_below writer n (assigned_below unit.values n t j), part writer n)
        go (new m less) = omega (arith, writer_gone n m)

    below_after : (h : Half) (n : ℕ) → length unit.values + clause.pairs ≤ n → body h n + around h n + held h n live_after ≡ 0
    below_after h n e =
        omega (
          arith,
          held_after h n,
          comparison.flow h n (beyond_open n (omega arith)),
          comparison.fewer h n,
          clause_beyond h n e,
          part h n,
          b.below h n (omega arith),
        )

    values_below_after : (m : ℕ) (t : Term) → value (values_after clause given unit) m ≡ some t
        → (h : Half) (n : ℕ) → length unit.values + clause.pairs ≤ n → occurrences h n t ≡ 0
    unfolding values_after
    values_below_after m t e h n i = go (value_after given (with_pairs clause.pairs unit.values) m t e)
      where
        go : After given (with_pairs clause.pairs unit.values) m t → occurrences h n t ≡ 0
        go (before j) = b.values_below m t (sym (value_with_pairs clause.pairs unit.values m) ∙ j) h n (omega arith)
        go (new k less) = omega (arith, less h n, given_values_inside h n i)

    -- The balance is kept, and each pair given a value is live.
    balanced_with : (after : Balanced (values_after clause given unit) (λ h n. body h n + around h n))
        × ((n : ℕ) → marks writer writer n given ≤ marks reader reader n after.live)
    unfolding values_after
    balanced_with = (
      record {
        live = live_after;
        settled =
            each_append _ comparison.left given
            (each_implies _ _ (λ a. values_kept a.pair a.value) comparison.left comparison.settled)
            settled_given;
        once = once_after;
        fair = fair_after;
        gone = gone_after;
        below = λ h n e. below_after h n (rw length_values_after at e);
        values_below = λ m t e h n i. values_below_after m t e h n (rw length_values_after at i);
      },
      λ n. omega (arith, marks_after reader n, same_marks n given),
    )

  -- The balance before the guards: without the body nothing of the clause is counted twice, whatever its guards license.
  pub balanced_without_body : (after : Balanced (values_after clause given unit) (λ h n. 0 + around h n))
      × ((n : ℕ) → marks writer writer n given ≤ marks reader reader n after.live)
  balanced_without_body =
      balanced_with (λ h n. 0) (λ h n. omega arith)
      (λ h n o. apart h n (head_count h n + 0) (omega arith) (open_before n o) (λ m e. rw e (omega (arith, head_above h m, ok.head_once h m))))

  -- A reduction keeps the balance: the pairs of licensed readers are closed afterwards.
  module _ (shut : (n : ℕ) → licensed clause.guards n ≡ true → closed (values_after clause given unit) (next_pair unit + n) ≡ true) where
    limits : (h : Half) (n : ℕ) → closed (values_after clause given unit) n ≡ false
        → head_count h n + body_count h n + (all_occurrences h n goal.arguments + around h n + held h n b.live) ≤ 1
    limits writer n o = limits_writer n (open_before n o)
    limits reader n o =
        apart reader n (head_count reader n + body_count reader n) (omega arith) (open_before n o)
        (λ m e. rw e (omega (arith, clause_above reader m, ok.readers_once m (not_true_is_false _ (λ l. false_not_true _ o (rw e (shut m l)))))))

    pub balanced_and_live : (after : Balanced (values_after clause given unit) (λ h n. body_count h n + around h n))
        × ((n : ℕ) → marks writer writer n given ≤ marks reader reader n after.live)
    balanced_and_live = balanced_with body_count (λ h n. omega arith) limits
