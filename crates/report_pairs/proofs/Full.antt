-- A term with every assignment applied, part by part: a compound by its arguments, an assigned variable by its value.
-- Without a circle following a term changes nothing of it.
use Prim.Native.Nat.{ℕ, zero, suc}
use mathlib.Core.Path.{◌≡◌, refl, sym, ap, ◌∙◌}
use mathlib.Core.Bool.{false}
use mathlib.Core.Option.{Option, none, some}
use native.Mathlib.Omega.{arith}
use lib.ListN.{length}
use Rattle.meaning.specs.Terms.{Half, Constant, Functor, Term, Terms, variable, constant, compound, end, more, count, replaced, all_replaced}
use Rattle.meaning.specs.State.{Values, value}
use Rattle.meaning.specs.Compare.{followed}
use Rattle.meaning.specs.Circle.{circle}
use Rattle.meaning.specs.Report.{applied}
use Rattle.laws.proofs.Circle.Following.{followed_unassigned}
use Rattle.laws.proofs.Circle.Written.{applied_within, applied_unassigned}
use Rattle.laws.proofs.Terms.Standing.{Stands}
use Rattle.report_pairs.specs.Threaded.{full, all_full}

-- What stands for a variable, over so many links more.
abbrev applied_as : Values → ℕ → Half → ℕ → Term
applied_as values links h p = elim (value values p) [ none ↦ variable h p | some u ↦ applied links values u ]

all_applied : ℕ → Values → Terms → Terms
all_applied links values end = end
all_applied links values (more t ts) = more (applied links values t) (all_applied links values ts)

all_applied_none : (values : Values) (ts : Terms) → all_applied zero values ts ≡ ts
unfolding all_applied applied
all_applied_none values end = refl
all_applied_none values (more t ts) = ap (more t) (all_applied_none values ts)

all_applied_replaced : (links : ℕ) (values : Values) (ts : Terms) → all_applied (suc links) values ts ≡ all_replaced (applied_as values links) ts
unfolding all_applied applied all_replaced
all_applied_replaced links values end = refl
all_applied_replaced links values (more t ts) = ap (more (applied (suc links) values t)) (all_applied_replaced links values ts)

applied_compound : (links : ℕ) (values : Values) (n : ℕ) (f : Functor) (ts : Terms)
    → applied links values (compound n f ts) ≡ compound n f (all_applied links values ts)
unfolding applied replaced
applied_compound zero values n f ts = ap (compound n f) (sym (all_applied_none values ts))
applied_compound (suc links) values n f ts = ap (compound n f) (sym (all_applied_replaced links values ts))

all_applied_full : (values : Values) (ts : Terms) → all_applied (length values) values ts ≡ all_full values ts
unfolding all_applied all_full full
all_applied_full values end = refl
all_applied_full values (more t ts) = ap (more (full values t)) (all_applied_full values ts)

applied_constant : (links : ℕ) (values : Values) (k : Constant) → applied links values (constant k) ≡ constant k
unfolding applied replaced
applied_constant zero values k = refl
applied_constant (suc links) values k = refl

as_unassigned : (values : Values) (links : ℕ) (h : Half) (p : ℕ) → value values p ≡ none → applied_as values links h p ≡ variable h p
as_unassigned values links h p e = rw (e, applied_as)

as_assigned : (values : Values) (links : ℕ) (h : Half) (p : ℕ) (u : Term) → value values p ≡ some u → applied_as values links h p ≡ applied links values u
as_assigned values links h p u e = rw (e, applied_as)

applied_unassigned_variable : (links : ℕ) (values : Values) (h : Half) (p : ℕ) → value values p ≡ none
    → applied links values (variable h p) ≡ variable h p
unfolding applied replaced
applied_unassigned_variable zero values h p e = refl
applied_unassigned_variable (suc links) values h p e = as_unassigned values links h p e

applied_assigned_variable : (links : ℕ) (values : Values) (h : Half) (p : ℕ) (u : Term) → value values p ≡ some u
    → applied (suc links) values (variable h p) ≡ applied links values u
unfolding applied replaced
applied_assigned_variable links values h p u e = as_assigned values links h p u e

-- A constant stays; of a compound the arguments are written out; an unassigned variable stays.
pub full_constant : (values : Values) (k : Constant) → full values (constant k) ≡ constant k
unfolding full
full_constant values k = applied_constant (length values) values k

pub full_compound : (values : Values) (n : ℕ) (f : Functor) (ts : Terms) → full values (compound n f ts) ≡ compound n f (all_full values ts)
unfolding full
full_compound values n f ts = applied_compound (length values) values n f ts ∙ ap (compound n f) (all_applied_full values ts)

pub full_unassigned : (values : Values) (h : Half) (p : ℕ) → value values p ≡ none → full values (variable h p) ≡ variable h p
unfolding full
full_unassigned values h p e = applied_unassigned_variable (length values) values h p e

-- As many arguments.
pub count_full : (values : Values) (ts : Terms) → count (all_full values ts) ≡ count ts
unfolding count all_full
count_full values end = refl
count_full values (more t ts) = ap suc (count_full values ts)

-- Without a circle: an assigned variable is its value, following changes nothing, and what it ends at is no assigned variable.
module _ (values : Values) (no_circle : circle values ≡ false) where
  pub full_assigned : (h : Half) (p : ℕ) (u : Term) → value values p ≡ some u → full values (variable h p) ≡ full values u
  unfolding full
  full_assigned h p u e =
      sym (applied_within values no_circle (suc (length values)) (omega arith) (variable h p))
      ∙ applied_assigned_variable (length values) values h p u e

  pub full_followed : (links : ℕ) (t : Term) → full values (followed links values t) ≡ full values t
  unfolding followed
  full_followed zero t = refl
  full_followed (suc links) (variable h p) = go (value values p) refl (full_followed links)
    where
      go : (v : Option Term) → value values p ≡ v → ((t : Term) → full values (followed links values t) ≡ full values t)
          → full values (followed (suc links) values (variable h p)) ≡ full values (variable h p)
      go none e further = rw (e, followed)
      go (some u) e further = rw (e, followed) (further u ∙ sym (full_assigned h p u e))
  full_followed (suc links) (constant k) = refl
  full_followed (suc links) (compound n f ts) = refl

  pub full_ended : (t : Term) (h : Half) (p : ℕ) → followed (length values) values t ≡ variable h p → value values p ≡ none
  full_ended = followed_unassigned values no_circle

  -- No assigned pair stands in what is written.
  pub full_stands : (t : Term) (p : ℕ) → Stands p (full values t) → value values p ≡ none
  unfolding full
  full_stands t p s = applied_unassigned values no_circle t p s
