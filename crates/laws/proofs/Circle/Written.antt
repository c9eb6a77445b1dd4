-- Where there is no circle, writing a term out ends within its links: more of them change nothing, and what is written holds no assigned pair.
-- As for following, over all the pairs of a term.
use Prim.Native.Nat.{ℕ, zero, suc, ◌≤◌}
use mathlib.Core.Path.{◌≡◌, refl, sym, ap, ap₂, subst, ◌∙◌}
use mathlib.Core.Logic.{inl, inr}
use mathlib.Core.Bool.{false}
use mathlib.Core.Option.{Option, none, some}
use native.Mathlib.Omega.{arith}
use lib.ListN.{length}
use Rattle.meaning.specs.Terms.{Half, Term, Terms, variable, constant, compound, end, more, replaced, all_replaced}
use Rattle.meaning.specs.State.{Values, value}
use Rattle.meaning.specs.Circle.{circle}
use Rattle.meaning.specs.Report.{applied}
use Rattle.laws.proofs.Terms.{Stands, StandsIn}
use Rattle.laws.proofs.Circle.Chains.{EndsWithin, AllEndWithin, chains_end}

-- Replacing agrees where it agrees at the pairs of the term.
mutual
  unfolding Stands StandsIn replaced all_replaced

  pub replaced_alike : (t : Term) (f g : Half → ℕ → Term) → ((h : Half) (p : ℕ) → Stands p t → f h p ≡ g h p)
      → replaced f t ≡ replaced g t
  replaced_alike (variable h p) f g alike = alike h p refl
  replaced_alike (constant k) f g alike = refl
  replaced_alike (compound n m ts) f g alike = ap (compound n m) (all_replaced_alike ts f g alike)

  pub all_replaced_alike : (ts : Terms) (f g : Half → ℕ → Term) → ((h : Half) (p : ℕ) → StandsIn p ts → f h p ≡ g h p)
      → all_replaced f ts ≡ all_replaced g ts
  all_replaced_alike end f g alike = refl
  all_replaced_alike (more t ts) f g alike =
      ap₂ more (replaced_alike t f g (λ h p s. alike h p (inl s))) (all_replaced_alike ts f g (λ h p s. alike h p (inr s)))

-- Replaced by themselves, the variables stay.
mutual
  unfolding replaced all_replaced

  pub replaced_same : (t : Term) → replaced variable t ≡ t
  replaced_same (variable h p) = refl
  replaced_same (constant k) = refl
  replaced_same (compound n m ts) = ap (compound n m) (all_replaced_same ts)

  pub all_replaced_same : (ts : Terms) → all_replaced variable ts ≡ ts
  all_replaced_same end = refl
  all_replaced_same (more t ts) = ap₂ more (replaced_same t) (all_replaced_same ts)

-- A pair of the term after replacing stands in what replaced a variable of it.
mutual
  unfolding Stands StandsIn replaced all_replaced

  pub stands_replaced : (t : Term) (f : Half → ℕ → Term) (p : ℕ) → Stands p (replaced f t)
      → (h : Half) × (q : ℕ) × Stands q t × Stands p (f h q)
  stands_replaced (variable h q) f p s = (h, q, refl, s)
  stands_replaced (constant k) f p s = absurd s
  stands_replaced (compound n m ts) f p s = stands_all_replaced ts f p s

  pub stands_all_replaced : (ts : Terms) (f : Half → ℕ → Term) (p : ℕ) → StandsIn p (all_replaced f ts)
      → (h : Half) × (q : ℕ) × StandsIn q ts × Stands p (f h q)
  stands_all_replaced end f p s = absurd s
  stands_all_replaced (more t ts) f p (inl s) = let (h, q, r, u) = stands_replaced t f p s in (h, q, inl r, u)
  stands_all_replaced (more t ts) f p (inr s) = let (h, q, r, u) = stands_all_replaced ts f p s in (h, q, inr r, u)

module _ (values : Values) where
  -- What a variable is written out as.
  abbrev pub written_as : ℕ → Half → ℕ → Term
  written_as links h p = elim (value values p) [ none ↦ variable h p | some u ↦ applied links values u ]

  pub written_unassigned : (links : ℕ) (h : Half) (p : ℕ) → value values p ≡ none → written_as links h p ≡ variable h p
  written_unassigned links h p e = rw (e, written_as)

  pub written_assigned : (links : ℕ) (h : Half) (p : ℕ) (u : Term) → value values p ≡ some u → written_as links h p ≡ applied links values u
  written_assigned links h p u e = rw (e, written_as)

  applied_more_links : (links larger : ℕ) → links ≤ larger → (t : Term) → AllEndWithin links values t
      → applied larger values t ≡ applied links values t
  unfolding applied EndsWithin
  applied_more_links zero zero h t ends = refl
  applied_more_links zero (suc larger) h t ends =
      replaced_alike t (written_as larger) variable (λ k p s. written_unassigned larger k p (ends p s)) ∙ replaced_same t
  applied_more_links (suc links) zero h t ends = absurd (omega arith)
  applied_more_links (suc links) (suc larger) h t ends =
      replaced_alike t (written_as larger) (written_as links)
      (λ k p s. go (applied_more_links links larger (omega arith)) k p s (value values p) refl)
    where
      go : ((u : Term) → AllEndWithin links values u → applied larger values u ≡ applied links values u)
          → (k : Half) (p : ℕ) → Stands p t → (v : Option Term) → value values p ≡ v → written_as larger k p ≡ written_as links k p
      go further k p s none e = written_unassigned larger k p e ∙ sym (written_unassigned links k p e)
      go further k p s (some u) e =
          written_assigned larger k p u e ∙ further u (ends p s u e) ∙ sym (written_assigned links k p u e)

  applied_to_end : (links : ℕ) (t : Term) (p : ℕ) → AllEndWithin links values t → Stands p (applied links values t) → value values p ≡ none
  unfolding applied Stands EndsWithin
  applied_to_end zero t p ends s = ends p s
  applied_to_end (suc links) t p ends s =
      let (k, q, r, u) = stands_replaced t (written_as links) p s in
      go (applied_to_end links) k q r (value values q) refl u
    where
      go : ((u : Term) (p : ℕ) → AllEndWithin links values u → Stands p (applied links values u) → value values p ≡ none)
          → (k : Half) (q : ℕ) → Stands q t → (v : Option Term) → value values q ≡ v → Stands p (written_as links k q) → value values p ≡ none
      go further k q r none e u =
          let same : p ≡ q = subst (Stands p) (written_unassigned links k q e) u in
          rw same e
      go further k q r (some w) e u = further w p (ends q r w e) (subst (Stands p) (written_assigned links k q w e) u)

  -- "Values are written out with every assignment applied": more links than there are pairs change nothing.
  pub applied_within : circle values ≡ false → (links : ℕ) → length values ≤ links → (t : Term)
      → applied links values t ≡ applied (length values) values t
  applied_within no_circle links h t = applied_more_links (length values) links h t (λ p s. chains_end values no_circle p)

  -- A term written out holds no assigned pair.
  pub applied_unassigned : circle values ≡ false → (t : Term) (p : ℕ) → Stands p (applied (length values) values t) → value values p ≡ none
  applied_unassigned no_circle t p s = applied_to_end (length values) t p (λ q r. chains_end values no_circle q) s
