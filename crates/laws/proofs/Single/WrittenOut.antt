-- "Values are written out with every assignment applied": each assigned variable becomes its value, which is written out in turn.
-- So writing out is a flow, over any number of links.
use Prim.Native.Nat.{ℕ, zero, suc}
use mathlib.Core.Path.{◌≡◌, refl}
use mathlib.Core.List.{List, [], ◌∷◌}
use mathlib.Core.Option.{Option, none, some}
use native.Mathlib.Omega.{arith}
use Rattle.meaning.specs.Terms.{
  Half,
  Term,
  Terms,
  variable,
  constant,
  compound,
  end,
  more,
  occurrences,
  all_occurrences,
  replaced,
  all_replaced,
}
use Rattle.meaning.specs.State.{Values, value}
use Rattle.meaning.specs.Report.{applied}
use Rattle.laws.proofs.Lists.{sum}
use Rattle.laws.proofs.Single.LiveValues.{in_term, in_terms, Flows, flows_to_less, flows_then, flows_both, value_flows}

module _ (values : Values) where
  module _ (by : Half → ℕ → Term) (flows : (k : Half) (p : ℕ) → Flows values (in_term (variable k p)) (in_term (by k p))) where
    mutual
      unfolding replaced all_replaced occurrences all_occurrences

      replaced_flows : (t : Term) → Flows values (in_term t) (in_term (replaced by t))
      replaced_flows (variable k p) = flows k p
      replaced_flows (constant k) = flows_to_less (λ h n. omega arith)
      replaced_flows (compound m f ts) = all_replaced_flow ts

      all_replaced_flow : (ts : Terms) → Flows values (in_terms ts) (in_terms (all_replaced by ts))
      all_replaced_flow end = flows_to_less (λ h n. omega arith)
      all_replaced_flow (more t ts) = flows_both (replaced_flows t) (all_replaced_flow ts)

  -- A term written out.
  pub applied_flows : (links : ℕ) (t : Term) → Flows values (in_term t) (in_term (applied links values t))
  unfolding applied
  applied_flows zero t = flows_to_less (λ h n. omega arith)
  applied_flows (suc links) t =
      replaced_flows (λ h p. elim (value values p) [ none ↦ variable h p | some u ↦ applied links values u ])
      (λ k p. go k p (value values p) refl (applied_flows links)) t
    where
      go : (k : Half) (p : ℕ) (o : Option Term) → value values p ≡ o
          → ((u : Term) → Flows values (in_term u) (in_term (applied links values u)))
          → Flows values (in_term (variable k p))
          (in_term (elim (value values p) [ none ↦ variable k p | some u ↦ applied links values u ]))
      go k p none e further = rw e (flows_to_less (λ h n. omega arith))
      go k p (some u) e further = rw e (flows_then (value_flows values k p u e) (further u))

  -- Terms written out, one after the other.
  pub all_applied_flow : (links : ℕ) (ts : List Term)
      → Flows values (λ h n. sum (λ t. occurrences h n t) ts) (λ h n. sum (λ t. occurrences h n (applied links values t)) ts)
  all_applied_flow links [] = flows_to_less (λ h n. omega arith)
  all_applied_flow links (t ∷ ts) = flows_both (applied_flows links t) (all_applied_flow links ts)
