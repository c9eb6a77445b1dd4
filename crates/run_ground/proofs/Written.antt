-- What a term gives, written out: by its variables, each of which gives what its value does. It succeeds exactly if all its pairs are ground.
use Prim.Native.Nat.{ℕ, zero, suc}
use mathlib.Core.Path.{◌≡◌, refl, sym, ap, ◌∙◌}
use mathlib.Core.Bool.{Bool, true, false}
use mathlib.Core.Logic.{inl, inr}
use mathlib.Core.List.{[]}
use mathlib.Core.Option.{Option, none, some}
use native.Mathlib.Omega.{arith}
use lib.ListN.{length}
use Rattle.meaning.specs.Terms.{Half, writer, reader, Constant, Functor, Term, Terms, variable, constant, compound, end, more, replaced, all_replaced}
use Rattle.meaning.specs.State.{Values, value, applied}
use Rattle.meaning.specs.Circle.{circle}
use Rattle.meaning.specs.Compare.{Result, succeeds, waits, fails, waits_on, with_assignments, with_readers, and_then}
use Rattle.meaning.specs.Guards.{first_of, unassigned, variables, all_variables}
use Rattle.laws.proofs.Terms.Standing.{Stands, StandsIn}
use Rattle.laws.proofs.Circle.Chains.{EndsWithin, chains_end}
use Rattle.laws.proofs.Circle.Written.{replaced_alike, applied_within}
use Rattle.run_circle.specs.Ground.{Ground, a_ground}
use Rattle.run_ground.specs.Seeking.{together}
use Rattle.run_ground.proofs.Results.{then_readers}

-- A result assigns nothing.
abbrev Plain : Result → Type 0
Plain (succeeds given) = given ≡ []
Plain (waits rs) = Unit {0}
Plain fails = Unit {0}

plain_together : (b : Bool) (a c : Result) → Plain a → Plain c → Plain (together b a c)
unfolding first_of and_then with_assignments with_readers
plain_together true (succeeds given) c p q = q
plain_together true (waits rs) c p q = tt
plain_together true fails c p q = tt
plain_together false (succeeds given) (succeeds others) p q = rw p q
plain_together false (succeeds given) (waits qs) p q = tt
plain_together false (succeeds given) fails p q = tt
plain_together false (waits rs) (succeeds others) p q = tt
plain_together false (waits rs) (waits qs) p q = tt
plain_together false (waits rs) fails p q = tt
plain_together false fails c p q = tt

both_succeed : (b : Bool) (a c : Result) → Plain a → together b a c ≡ succeeds [] → (a ≡ succeeds []) × (c ≡ succeeds [])
unfolding first_of and_then with_assignments with_readers
both_succeed true (succeeds given) c p e = (ap succeeds p, e)
both_succeed true (waits rs) c p e = let z : ◌≡◌ {A = ℕ} 0 1 = cc in absurd (omega arith)
both_succeed true fails c p e = let z : ◌≡◌ {A = ℕ} 0 1 = cc in absurd (omega arith)
both_succeed false (succeeds given) (succeeds others) p e = (ap succeeds p, rw p at e)
both_succeed false (succeeds given) (waits qs) p e = let z : ◌≡◌ {A = ℕ} 0 1 = cc in absurd (omega arith)
both_succeed false (succeeds given) fails p e = let z : ◌≡◌ {A = ℕ} 0 1 = cc in absurd (omega arith)
both_succeed false (waits rs) (succeeds others) p e = let z : ◌≡◌ {A = ℕ} 0 1 = cc in absurd (omega arith)
both_succeed false (waits rs) (waits qs) p e = let z : ◌≡◌ {A = ℕ} 0 1 = cc in absurd (omega arith)
both_succeed false (waits rs) fails p e = let z : ◌≡◌ {A = ℕ} 0 1 = cc in absurd (omega arith)
both_succeed false fails c p e = let z : ◌≡◌ {A = ℕ} 0 1 = cc in absurd (omega arith)

module _ (b : Bool) where
  mutual
    unfolding variables all_variables unassigned waits_on

    plain : (t : Term) → Plain (variables (together b) t)
    plain (variable writer p) = tt
    plain (variable reader p) = tt
    plain (constant k) = refl
    plain (compound n f ts) = all_plain ts

    all_plain : (ts : Terms) → Plain (all_variables (together b) ts)
    all_plain end = refl
    all_plain (more t ts) =
        plain_together b (variables (together b) t) (all_variables (together b) ts) (plain t) (all_plain ts)

  -- A term succeeds if what replaces its variables does, and only then.
  module _ (f : Half → ℕ → Term) where
    mutual
      unfolding variables all_variables replaced all_replaced Stands StandsIn

      all_succeed : (t : Term) → ((h : Half) (p : ℕ) → Stands p t → variables (together b) (f h p) ≡ succeeds [])
          → variables (together b) (replaced f t) ≡ succeeds []
      all_succeed (variable h p) each = each h p refl
      all_succeed (constant k) each = refl
      all_succeed (compound n g ts) each = terms_succeed ts each

      terms_succeed : (ts : Terms) → ((h : Half) (p : ℕ) → StandsIn p ts → variables (together b) (f h p) ≡ succeeds [])
          → all_variables (together b) (all_replaced f ts) ≡ succeeds []
      terms_succeed end each = refl
      terms_succeed (more t ts) each =
          rw (all_succeed t (λ h p s. each h p (inl s)), terms_succeed ts (λ h p s. each h p (inr s))) (then_readers b [] [] (λ e. refl))

    mutual
      unfolding variables all_variables replaced all_replaced Stands StandsIn

      each_succeeds : (t : Term) → variables (together b) (replaced f t) ≡ succeeds [] → (p : ℕ) → Stands p t
          → (h : Half) × (variables (together b) (f h p) ≡ succeeds [])
      each_succeeds (variable h q) e p s = (h, rw s e)
      each_succeeds (constant k) e p s = absurd s
      each_succeeds (compound n g ts) e p s = each_in_succeeds ts e p s

      each_in_succeeds : (ts : Terms) → all_variables (together b) (all_replaced f ts) ≡ succeeds [] → (p : ℕ) → StandsIn p ts
          → (h : Half) × (variables (together b) (f h p) ≡ succeeds [])
      each_in_succeeds end e p s = absurd s
      each_in_succeeds (more t ts) e p (inl s) = each_succeeds t
          (both_succeed b (variables (together b) (replaced f t)) (all_variables (together b) (all_replaced f ts)) (plain (replaced f t)) e).0 p s
      each_in_succeeds (more t ts) e p (inr s) = each_in_succeeds ts
          (both_succeed b (variables (together b) (replaced f t)) (all_variables (together b) (all_replaced f ts)) (plain (replaced f t)) e).1 p s

module _ (values : Values) (no_circle : circle values ≡ false) where
  -- A variable written out.
  abbrev pub written : Half → ℕ → Term
  written h p = applied (length values) values (variable h p)

  abbrev written_as : Half → ℕ → Term
  written_as h p = elim (value values p) [ none ↦ variable h p | some u ↦ applied (length values) values u ]

  one_more : (t : Term) → applied (length values) values t ≡ applied (suc (length values)) values t
  one_more t = sym (applied_within values no_circle (suc (length values)) (omega arith) t)

  as_written : (h : Half) (p : ℕ) → written h p ≡ written_as h p
  unfolding applied replaced
  as_written h p = one_more (variable h p)

  pub written_assigned : (h : Half) (p : ℕ) (u : Term) → value values p ≡ some u → written h p ≡ applied (length values) values u
  written_assigned h p u e = as_written h p ∙ rw (e, written_as) refl

  pub written_unassigned : (h : Half) (p : ℕ) → value values p ≡ none → written h p ≡ variable h p
  written_unassigned h p e = as_written h p ∙ rw (e, written_as) refl

  pub written_by_variables : (t : Term) → applied (length values) values t ≡ replaced written t
  unfolding applied replaced
  written_by_variables t = one_more t ∙ replaced_alike t written_as written (λ h p s. sym (as_written h p))

  module _ (b : Bool) where
    abbrev result : Term → Result
    result t = variables (together b) (applied (length values) values t)

    pub ground_succeeds : {p : ℕ} → Ground values p → (h : Half) → result (variable h p) ≡ succeeds []
    ground_succeeds (a_ground {n = p} t e all) h =
        ap (variables (together b)) (written_assigned h p t e ∙ written_by_variables t)
        ∙ all_succeed b written t (λ k q s. ground_succeeds (all q s) k)

    unassigned_open : (h : Half) (p : ℕ) → unassigned h p ≡ succeeds [] → ⊥
    unfolding unassigned waits_on
    unassigned_open writer p e = let z : ◌≡◌ {A = ℕ} 0 1 = cc in absurd (omega arith)
    unassigned_open reader p e = let z : ◌≡◌ {A = ℕ} 0 1 = cc in absurd (omega arith)

    pub unassigned_result : (h : Half) (p : ℕ) → value values p ≡ none → result (variable h p) ≡ unassigned h p
    unfolding variables
    unassigned_result h p e = ap (variables (together b)) (written_unassigned h p e)

    pub assigned_result : (h : Half) (p : ℕ) (u : Term) → value values p ≡ some u → result (variable h p) ≡ result u
    assigned_result h p u e = ap (variables (together b)) (written_assigned h p u e)

    pub succeeds_each : (t : Term) → result t ≡ succeeds [] → (p : ℕ) → Stands p t → (h : Half) × (result (variable h p) ≡ succeeds [])
    succeeds_each t e p s = each_succeeds b written t (ap (variables (together b)) (sym (written_by_variables t)) ∙ e) p s

    ground_within : (n : ℕ) (h : Half) (p : ℕ) → EndsWithin n values p → result (variable h p) ≡ succeeds [] → Ground values p
    unfolding EndsWithin
    ground_within zero h p ends e = absurd (unassigned_open h p (sym (unassigned_result h p ends) ∙ e))
    ground_within (suc n) h p ends e = go (value values p) refl (ground_within n)
      where
        go : (v : Option Term) → value values p ≡ v
            → ((k : Half) (q : ℕ) → EndsWithin n values q → result (variable k q) ≡ succeeds [] → Ground values q) → Ground values p
        go none f further = absurd (unassigned_open h p (sym (unassigned_result h p f) ∙ e))
        go (some u) f further =
            a_ground u f (λ j s. let (k, r) = succeeds_each u (sym (assigned_result h p u f) ∙ e) j s in further k j (ends u f j s) r)

    -- It succeeds: its pairs are ground.
    pub firm_of : (t : Term) → result t ≡ succeeds [] → (p : ℕ) → Stands p t → Ground values p
    firm_of t e p s = let (h, r) = succeeds_each t e p s in ground_within (length values) h p (chains_end values no_circle p) r

    -- A compound gives what its arguments give, by their variables.
    pub compound_result : (n : ℕ) (f : Functor) (ts : Terms)
        → result (compound n f ts) ≡ all_variables (together b) (all_replaced written ts)
    unfolding variables replaced
    compound_result n f ts = ap (variables (together b)) (written_by_variables (compound n f ts))

    pub argument_result : (t : Term) → variables (together b) (replaced written t) ≡ result t
    argument_result t = ap (variables (together b)) (sym (written_by_variables t))

    pub constant_result : (k : Constant) → result (constant k) ≡ succeeds []
    unfolding variables replaced
    constant_result k = ap (variables (together b)) (written_by_variables (constant k))
