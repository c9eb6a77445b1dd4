-- A goal has a chain to an unassigned pair's reader exactly if it holds that reader when written out.
-- Writing out goes along every chain, and only along chains; without a circle its links are enough for each.
use Prim.Native.Nat.{ℕ, zero, suc, ◌+◌, ◌≤◌, ◌<◌}
use mathlib.Core.Path.{◌≡◌}
use mathlib.Core.Logic.{◌↔◌}
use mathlib.Core.Bool.{false}
use mathlib.Core.Option.{none, some}
use native.Mathlib.Decide.{dec_lt}
use native.Mathlib.Omega.{arith}
use lib.ListN.{length}
use Rattle.meaning.specs.Bytes.{when◌then◌else◌}
use Rattle.meaning.specs.Terms.{
  Half,
  writer,
  reader,
  Term,
  Terms,
  variable,
  constant,
  compound,
  end,
  more,
  Named,
  same_half,
  occurrences,
  all_occurrences,
  replaced,
  all_replaced,
  as_term,
}
use Rattle.meaning.specs.State.{Values, value}
use Rattle.meaning.specs.Circle.{circle}
use Rattle.meaning.specs.Report.{applied}
use Rattle.laws.proofs.Terms.{occurs_itself, occurs_stands, Stands}
use Rattle.laws.proofs.Circle.Written.{applied_within}
use Rattle.laws.proofs.Single.Chains.{Reaches, here, through, reaches_more, applied_reaches}

-- A half that occurs in a variable is that variable.
occurs_same : (h k : Half) (n p : ℕ) → 1 ≤ occurrences h n (variable k p) → variable h n ≡ variable k p
unfolding occurrences same_half when◌then◌else◌ Stands
occurs_same h k n p o = go h k o (occurs_stands (variable k p) h n o)
  where
    go : (h k : Half) → 1 ≤ occurrences h n (variable k p) → n ≡ p → variable h n ≡ variable k p
    go writer writer o e = cc
    go writer reader o e = absurd (omega arith)
    go reader writer o e = absurd (omega arith)
    go reader reader o e = cc

-- What replaces a variable of a term occurs in the term after replacing.
module _ (by : Half → ℕ → Term) where
  mutual
    unfolding replaced all_replaced occurrences all_occurrences

    replaced_holds : (t : Term) (k : Half) (q : ℕ) → 1 ≤ occurrences k q t → (h : Half) (n : ℕ)
        → occurrences h n (by k q) ≤ occurrences h n (replaced by t)
    replaced_holds (variable l p) k q o h n =
        let same : variable k q ≡ variable l p = occurs_same k l q p o in
        let halves : k ≡ l = cc in
        let pairs : q ≡ p = cc in
        rw (halves, pairs) (omega arith)
    replaced_holds (constant c) k q o h n = absurd (omega arith)
    replaced_holds (compound m f ts) k q o h n = all_replaced_hold ts k q o h n

    all_replaced_hold : (ts : Terms) (k : Half) (q : ℕ) → 1 ≤ all_occurrences k q ts → (h : Half) (n : ℕ)
        → occurrences h n (by k q) ≤ all_occurrences h n (all_replaced by ts)
    all_replaced_hold end k q o h n = absurd (omega arith)
    all_replaced_hold (more t ts) k q o h n =
        go (dec_lt 0 (occurrences k q t)) (λ i. replaced_holds t k q i h n) (λ i. all_replaced_hold ts k q i h n)
      where
        go : Dec (0 < occurrences k q t) → (1 ≤ occurrences k q t → occurrences h n (by k q) ≤ occurrences h n (replaced by t))
            → (1 ≤ all_occurrences k q ts → occurrences h n (by k q) ≤ all_occurrences h n (all_replaced by ts))
            → occurrences h n (by k q) ≤ occurrences h n (replaced by t) + all_occurrences h n (all_replaced by ts)
        go (yes i) one others = omega (arith, one i)
        go (no i) one others = omega (arith, others (omega arith))

module _ (values : Values) where
  -- What a variable is written out as.
  abbrev written_as : ℕ → Half → ℕ → Term
  written_as links h p = elim (value values p) [ none ↦ variable h p | some u ↦ applied links values u ]

  written_unassigned : (links : ℕ) (h : Half) (p : ℕ) → value values p ≡ none → written_as links h p ≡ variable h p
  written_unassigned links h p e = rw (e, written_as)

  written_assigned : (links : ℕ) (h : Half) (p : ℕ) (u : Term) → value values p ≡ some u → written_as links h p ≡ applied links values u
  written_assigned links h p u e = rw (e, written_as)

  module _ (z : ℕ) where
    -- With as many links as the chain has, the reader is written out.
    chain_written : (ts : Terms) → value values z ≡ none → Reaches values z ts
        → (links : ℕ) × ((larger : ℕ) → links ≤ larger → 1 ≤ all_occurrences reader z (all_replaced (written_as larger) ts))
    unfolding all_occurrences applied all_replaced
    chain_written ts free (here m) = (
      0,
      λ larger h.
          let itself : occurrences reader z (written_as larger reader z) ≡ 1 = rw (written_unassigned larger reader z free) (occurs_itself reader z) in
          omega (arith, all_replaced_hold (written_as larger) ts reader z m reader z),
    )
    chain_written ts free (through k q u m e further) =
        let (links, rest) = chain_written (more u end) free further in
        (suc links, go links rest)
      where
        go : (links : ℕ) → ((larger : ℕ) → links ≤ larger → 1 ≤ all_occurrences reader z (all_replaced (written_as larger) (more u end)))
            → (larger : ℕ) → suc links ≤ larger → 1 ≤ all_occurrences reader z (all_replaced (written_as larger) ts)
        go links rest zero h = absurd (omega arith)
        go links rest (suc larger) h =
            let its : 1 ≤ occurrences reader z (written_as (suc larger) k q) =
            rw (written_assigned (suc larger) k q u e) (omega (arith, rest larger (omega arith))) in
            omega (arith, all_replaced_hold (written_as (suc larger)) ts k q m reader z)

    -- A goal has a chain to an unassigned pair's reader exactly if it holds that reader when written out.
    pub reached_exactly_if_written : circle values ≡ false → value values z ≡ none → (g : Named)
        → Reaches values z g.arguments ↔ (1 ≤ occurrences reader z (applied (length values) values (as_term g)))
    unfolding occurrences all_occurrences applied replaced as_term
    reached_exactly_if_written no_circle free g = (
      λ chain.
          let (links, rest) = chain_written g.arguments free chain in
          rw (← applied_within values no_circle (suc (links + length values)) (omega arith) (as_term g)) (rest (links + length values) (omega arith)),
      λ o. reaches_more g.arguments (λ h n. omega arith) (applied_reaches values (length values) z (as_term g) o),
    )
