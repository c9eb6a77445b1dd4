-- The readers in the value that a pair is given are read where the pair's reader is, and nowhere else; but for those of closed pairs.
-- Such a reader is held once, by the live value of that pair: so every chain to it comes through the pair's reader. A closed pair's may stand anywhere.
use Prim.Native.Nat.{ℕ, ◌+◌, ◌≤◌}
use mathlib.Core.Path.{◌≡◌, refl, sym}
use mathlib.Core.Logic.{◌↔◌, ◌⊎◌, inl, inr, ⊎_elim}
use mathlib.Core.Bool.{false}
use mathlib.Core.List.{List, map}
use mathlib.Core.Option.{some}
use native.Mathlib.Decide.{ℕ_discrete}
use native.Mathlib.Omega.{arith}
use Rattle.meaning.specs.Terms.{Half, writer, reader, Term, Terms, end, more, Named, Clause, renamed_goal, occurrences, all_occurrences, goals_occurrences}
use Rattle.meaning.specs.State.{Values, value, QueryUnit}
use Rattle.meaning.specs.Compare.{Assignment, succeeds}
use Rattle.meaning.specs.Circle.{circle}
use Rattle.meaning.specs.Trial.{next_pair, values_after, trial}
use Rattle.laws.proofs.Terms.{occurs_in_other}
use Rattle.laws.proofs.Reading.{ClauseOk}
use Rattle.laws.proofs.Circle.Starts.{Assigns}
use Rattle.laws.proofs.Single.Closed.{closed}
use Rattle.laws.proofs.Single.LiveValues.{Count, held, marks, Settled, Fair, no_writer_marks, taken_out}
use Rattle.laws.proofs.Single.Chains.{Reaches, here, through, reaches_then}
use Rattle.laws.proofs.Single.Balance.{Balanced}
use Rattle.laws.proofs.Single.Step.{reduction_balanced_and_live}
use Rattle.laws.proofs.Elsewhere.Open.{reaches_open}
use Rattle.laws.proofs.Elsewhere.NoCircle.{assigns_marked}

module _ (values : Values) (c : Count) (live : List Assignment) (settled : Settled values live) (fair : Fair values c live)
    (once : (h : Half) (n : ℕ) → closed values n ≡ false → c h n + held h n live ≤ 1)
    (z : ℕ) (u : Term) (given : value values z ≡ some u) (its_live : 1 ≤ marks reader reader z live)
    (x : ℕ) (inside : 1 ≤ occurrences reader x u) (unshut : closed values x ≡ false) where
  -- What is counted or held of an assigned pair that has a chain to the reader is its reader, and the pair is live.
  live_reader : (k : Half) (q : ℕ) (v : Term) → value values q ≡ some v → Reaches values x (more v end) → 1 ≤ c k q + held k q live
      → (k ≡ reader) × (1 ≤ marks reader reader q live)
  live_reader writer q v e chain m = absurd (omega (arith, fair writer q v (reaches_open values q x v e chain unshut) e, no_writer_marks q live))
  live_reader reader q v e chain m = (refl, omega (arith, fair reader q v (reaches_open values q x v e chain unshut) e))

  held_there : 1 ≤ held reader x live
  held_there = omega (arith, (taken_out values z u live settled given its_live).values_out reader x)

  -- A live pair whose value holds the reader is the pair that was given it.
  only_there : (i : ℕ) (t : Term) → value values i ≡ some t → 1 ≤ marks reader reader i live → 1 ≤ occurrences reader x t → i ≡ z
  only_there i t e m o = go (ℕ_discrete i z)
    where
      go : Dec (i ≡ z) → i ≡ z
      go (yes same) = same
      go (no d) =
          let out = taken_out values i t live settled e m in
          let still : 1 ≤ marks reader reader z out.left = omega (arith, out.readers_out reader z, occurs_in_other reader reader z i (λ s. d (sym s))) in
          absurd (omega (arith, once reader x unshut, out.values_out reader x, (taken_out values z u out.left out.settled given still).values_out reader x))

  -- A chain from a live pair's value begins at the pair itself, or comes through the pair's reader.
  live_through : (i : ℕ) (t : Term) → value values i ≡ some t → 1 ≤ marks reader reader i live → Reaches values x (more t end)
      → (i ≡ z) ⊎ Reaches values z (more t end)
  unfolding all_occurrences
  live_through i t e m (here o) = inl (only_there i t e m (omega arith))
  live_through i t e m (through k q v o f further) =
      let (is_reader, its) = live_reader k q v f further (omega (arith, (taken_out values i t live settled e m).values_out k q)) in
      let there : 1 ≤ occurrences reader q t = rw (← is_reader) (omega arith) in
      inr (⊎_elim (λ same. here {ts = more t end} (rw (← same) (omega arith))) (λ r. through {ts = more t end} k q v o f r) (live_through q v f its further))

  -- Every chain to the reader, from what is counted, comes through the pair's.
  pub read_through : (ts : Terms) → ((h : Half) (n : ℕ) → all_occurrences h n ts ≤ c h n) → Reaches values x ts → Reaches values z ts
  read_through ts counted (here o) = absurd (omega (arith, once reader x unshut, held_there, counted reader x))
  read_through ts counted (through k q v o f further) =
      let (is_reader, its) = live_reader k q v f further (omega (arith, counted k q)) in
      let there : 1 ≤ all_occurrences reader q ts = rw (← is_reader) o in
      ⊎_elim (λ same. here {ts = ts} (rw (← same) there)) (λ r. through {ts = ts} k q v o f r) (live_through q v f its further)

-- A reduction; the goal and what is counted around it are balanced.
module _ (clause : Clause) (ok : ClauseOk clause) (unit : QueryUnit) (goal : Named) (given : List Assignment) (earlier : List ℕ)
    (succeeded : trial earlier clause unit goal ≡ succeeds given) (no_circle : circle unit.values ≡ false)
    (around : Count) (b : Balanced unit.values (λ h n. all_occurrences h n goal.arguments + around h n)) where
  -- Where it gives a pair a value that holds the reader of x, the same goals have a chain to x's reader as to the pair's, if x is not closed.
  pub read_where_given : (p x : ℕ) (u : Term) → Assigns given p → value (values_after clause given unit) p ≡ some u → 1 ≤ occurrences reader x u
      → closed (values_after clause given unit) x ≡ false
      → (ts : Terms) → ((h : Half) (n : ℕ) → all_occurrences h n ts
      ≤ goals_occurrences h n (map (renamed_goal (next_pair unit) unit.compounds) clause.body) + around h n)
      → Reaches (values_after clause given unit) x ts ↔ Reaches (values_after clause given unit) p ts
  unfolding all_occurrences
  read_where_given p x u assigns e inside unshut ts counted =
      let (balanced, live) = reduction_balanced_and_live clause ok unit goal given earlier succeeded no_circle around b in (
        read_through (values_after clause given unit) _ balanced.live balanced.settled balanced.fair balanced.once p u e
            (omega (arith, live p, assigns_marked given p assigns)) x inside unshut ts counted,
        λ r. reaches_then ts u r e (here {ts = more u end} (omega arith)),
      )
