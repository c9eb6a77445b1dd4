-- Terms cut off some levels down: what agrees so far agrees less far too; two ground terms that agree however far are equal, and equally deep.
use Prim.Native.Nat.{ℕ, zero, suc, max}
use mathlib.Core.Path.{◌≡◌, refl, sym, ap, ap₂, ◌∙◌}
use mathlib.Core.Bool.{true}
use borrow.Author.Tests.{eq-eqb, eqb-true}
use Rattle.meaning.specs.Terms.{
  Integer,
  plus,
  minus,
  Constant,
  Functor,
  cell,
  named,
  Term,
  Terms,
  variable,
  constant,
  compound,
  end,
  more,
  count,
  same_integer,
  same_constant,
  same_functor,
}
use Rattle.meaning.specs.Guards.{same_term, same_terms}
use Rattle.laws.proofs.Lists.Tests.{differ, and_left, and_right, same_refl}
use Rattle.run_circle.proofs.Depth.{depth, depths}
use Rattle.run_compare.proofs.Equal.{same_true}
use Rattle.run_equal.specs.Equal.{each, cut, Bare, AllBare}

-- Cut off twice, the shorter cut is what shows.
each_twice : (n : ℕ) → ((t : Term) → cut n (cut (suc n) t) ≡ cut n t) → (ts : Terms) → each (cut n) (each (cut (suc n)) ts) ≡ each (cut n) ts
unfolding each
each_twice n further end = refl
each_twice n further (more t ts) = ap₂ more (further t) (each_twice n further ts)

cut_twice : (n : ℕ) (t : Term) → cut n (cut (suc n) t) ≡ cut n t
unfolding cut
cut_twice zero t = refl
cut_twice (suc n) (variable h p) = refl
cut_twice (suc n) (constant k) = refl
cut_twice (suc n) (compound m f ts) = ap (compound 0 f) (each_twice n (cut_twice n) ts)

pub cut_down : (n : ℕ) (t u : Term) → cut (suc n) t ≡ cut (suc n) u → cut n t ≡ cut n u
cut_down n t u e = sym (cut_twice n t) ∙ ap (cut n) e ∙ cut_twice n u

pub cut_none : (t u : Term) → cut 0 t ≡ cut 0 u
unfolding cut
cut_none t u = refl

-- Of compounds.
module _ (n m : ℕ) (g : Functor) (us : Terms) (l : ℕ) (f : Functor) (ts : Terms) where
  pub cut_compounds : g ≡ f → each (cut n) us ≡ each (cut n) ts → cut (suc n) (compound m g us) ≡ cut (suc n) (compound l f ts)
  unfolding cut
  cut_compounds e d = ap₂ (compound 0) e d

  pub functors_agree : cut (suc n) (compound m g us) ≡ cut (suc n) (compound l f ts) → g ≡ f
  unfolding cut
  functors_agree e = cc

  pub arguments_agree : cut (suc n) (compound m g us) ≡ cut (suc n) (compound l f ts) → each (cut n) us ≡ each (cut n) ts
  unfolding cut
  arguments_agree e = cc

pub first_agrees : (n : ℕ) (t u : Term) (ts us : Terms) → each (cut n) (more t ts) ≡ each (cut n) (more u us) → cut n t ≡ cut n u
unfolding each
first_agrees n t u ts us e = cc

pub others_agree : (n : ℕ) (t u : Term) (ts us : Terms) → each (cut n) (more t ts) ≡ each (cut n) (more u us) → each (cut n) ts ≡ each (cut n) us
unfolding each
others_agree n t u ts us e = cc

pub more_agree : (n : ℕ) (t u : Term) (ts us : Terms) → cut n t ≡ cut n u → each (cut n) ts ≡ each (cut n) us
    → each (cut n) (more t ts) ≡ each (cut n) (more u us)
unfolding each
more_agree n t u ts us e d = ap₂ more e d

-- Constants agree if they are equal, and never agree with compounds.
pub constants_agree : (k c : Constant) → cut 1 (constant k) ≡ cut 1 (constant c) → k ≡ c
unfolding cut
constants_agree k c e = cc

pub constant_agrees_not : (k : Constant) (m : ℕ) (f : Functor) (ts : Terms) → cut 1 (constant k) ≡ cut 1 (compound m f ts) → ⊥
unfolding cut
constant_agrees_not k m f ts e = differ (cc)

-- Equal constants, functors and terms.
same_integer_refl : (i : Integer) → same_integer i i ≡ true
unfolding same_integer
same_integer_refl (plus n) = eq-eqb n n refl
same_integer_refl (minus n) = eq-eqb n n refl

same_constant_refl : (k : Constant) → same_constant k k ≡ true
unfolding same_constant
same_constant_refl (Constant.integer i) = same_integer_refl i
same_constant_refl (Constant.name f) = same_refl f
same_constant_refl Constant.empty = refl

same_functor_refl : (f : Functor) → same_functor f f ≡ true
unfolding same_functor
same_functor_refl cell = refl
same_functor_refl (named f) = same_refl f

same_integer_true : (i j : Integer) → same_integer i j ≡ true → i ≡ j
unfolding same_integer
same_integer_true (plus m) (plus n) e = ap plus (eqb-true m n e)
same_integer_true (plus m) (minus n) e = absurd (differ (cc))
same_integer_true (minus m) (plus n) e = absurd (differ (cc))
same_integer_true (minus m) (minus n) e = ap minus (eqb-true m n e)

pub same_constant_true : (k c : Constant) → same_constant k c ≡ true → k ≡ c
unfolding same_constant
same_constant_true (Constant.integer i) (Constant.integer j) e = ap Constant.integer (same_integer_true i j e)
same_constant_true (Constant.integer i) (Constant.name g) e = absurd (differ (cc))
same_constant_true (Constant.integer i) Constant.empty e = absurd (differ (cc))
same_constant_true (Constant.name f) (Constant.integer j) e = absurd (differ (cc))
same_constant_true (Constant.name f) (Constant.name g) e = ap Constant.name (same_true f g e)
same_constant_true (Constant.name f) Constant.empty e = absurd (differ (cc))
same_constant_true Constant.empty (Constant.integer j) e = absurd (differ (cc))
same_constant_true Constant.empty (Constant.name g) e = absurd (differ (cc))
same_constant_true Constant.empty Constant.empty e = refl

pub same_functor_true : (g f : Functor) → same_functor g f ≡ true → g ≡ f
unfolding same_functor
same_functor_true cell cell e = refl
same_functor_true cell (named g) e = absurd (differ (cc))
same_functor_true (named f) cell e = absurd (differ (cc))
same_functor_true (named f) (named g) e = ap named (same_true f g e)

abbrev pub Equal : Term → Term → Type 0
Equal t u = (n : ℕ) → cut n t ≡ cut n u

abbrev pub AllEqual : Terms → Terms → Type 0
AllEqual ts us = (n : ℕ) → each (cut n) ts ≡ each (cut n) us

mutual
  unfolding same_term same_terms Bare AllBare each

  pub agree_same : (t u : Term) → Bare t → Bare u → Equal t u → same_term t u ≡ true
  agree_same (variable h p) u a b e = absurd a
  agree_same (constant k) (variable h p) a b e = absurd b
  agree_same (constant k) (constant c) a b e = rw (constants_agree k c (e 1)) (same_constant_refl c)
  agree_same (constant k) (compound n f ts) a b e = absurd (constant_agrees_not k n f ts (e 1))
  agree_same (compound m g us) (variable h p) a b e = absurd b
  agree_same (compound m g us) (constant c) a b e = absurd (constant_agrees_not c m g us (sym (e 1)))
  agree_same (compound m g us) (compound n f ts) a b e =
      rw (functors_agree 0 m g us n f ts (e 1), same_functor_refl f)
      (all_agree_same us ts a b (λ i. arguments_agree i m g us n f ts (e (suc i))))

  pub all_agree_same : (us ts : Terms) → AllBare us → AllBare ts → AllEqual us ts → same_terms us ts ≡ true
  all_agree_same end end a b e = refl
  all_agree_same end (more t ts) a b e = absurd (let z = e 0 in differ (cc))
  all_agree_same (more u us) end a b e = absurd (let z = e 0 in differ (cc))
  all_agree_same (more u us) (more t ts) a b e =
      rw (agree_same u t a.0 b.0 (λ n. first_agrees n u t us ts (e n)))
      (all_agree_same us ts a.1 b.1 (λ n. others_agree n u t us ts (e n)))

mutual
  unfolding same_term same_terms cut each

  pub same_agree : (t u : Term) → same_term t u ≡ true → Equal t u
  same_agree (variable h p) u e n = absurd (differ (cc))
  same_agree (constant k) (variable h p) e n = absurd (differ (cc))
  same_agree (constant k) (constant c) e n = rw (same_constant_true k c e) refl
  same_agree (constant k) (compound m f ts) e n = absurd (differ (cc))
  same_agree (compound m g us) (variable h p) e n = absurd (differ (cc))
  same_agree (compound m g us) (constant c) e n = absurd (differ (cc))
  same_agree (compound m g us) (compound l f ts) e zero = refl
  same_agree (compound m g us) (compound l f ts) e (suc n) =
      cut_compounds n m g us l f ts (same_functor_true g f (and_left (same_functor g f) (same_terms us ts) e))
      (all_same_agree us ts (and_right (same_functor g f) (same_terms us ts) e) n)

  pub all_same_agree : (us ts : Terms) → same_terms us ts ≡ true → AllEqual us ts
  all_same_agree end end e n = refl
  all_same_agree end (more t ts) e n = absurd (differ (cc))
  all_same_agree (more u us) end e n = absurd (differ (cc))
  all_same_agree (more u us) (more t ts) e n =
      more_agree n u t us ts (same_agree u t (and_left (same_term u t) (same_terms us ts) e) n)
      (all_same_agree us ts (and_right (same_term u t) (same_terms us ts) e) n)

mutual
  unfolding depth depths cut each

  pub agree_deep : (t u : Term) → Equal t u → depth t ≡ depth u
  agree_deep (variable h p) (variable k q) e = refl
  agree_deep (variable h p) (constant c) e = refl
  agree_deep (variable h p) (compound n f ts) e = absurd (let z = e 1 in differ (cc))
  agree_deep (constant k) (variable h p) e = refl
  agree_deep (constant k) (constant c) e = refl
  agree_deep (constant k) (compound n f ts) e = absurd (let z = e 1 in differ (cc))
  agree_deep (compound m g us) (variable h p) e = absurd (let z = e 1 in differ (cc))
  agree_deep (compound m g us) (constant c) e = absurd (let z = e 1 in differ (cc))
  agree_deep (compound m g us) (compound n f ts) e = ap suc (all_agree_deep us ts (λ i. arguments_agree i m g us n f ts (e (suc i))))

  pub all_agree_deep : (us ts : Terms) → AllEqual us ts → depths us ≡ depths ts
  all_agree_deep end end e = refl
  all_agree_deep end (more t ts) e = absurd (let z = e 0 in differ (cc))
  all_agree_deep (more u us) end e = absurd (let z = e 0 in differ (cc))
  all_agree_deep (more u us) (more t ts) e =
      ap₂ max (agree_deep u t (λ n. first_agrees n u t us ts (e n))) (all_agree_deep us ts (λ n. others_agree n u t us ts (e n)))

-- Compounds of the same functor and equal arguments.
pub compounds_equal : (m : ℕ) (g : Functor) (us : Terms) (l : ℕ) (f : Functor) (ts : Terms) → g ≡ f → AllEqual us ts
    → Equal (compound m g us) (compound l f ts)
compounds_equal m g us l f ts e all zero = cut_none (compound m g us) (compound l f ts)
compounds_equal m g us l f ts e all (suc n) = cut_compounds n m g us l f ts e (all n)

pub equal_count : (us ts : Terms) → each (cut 0) us ≡ each (cut 0) ts → count us ≡ count ts
unfolding each count
equal_count end end e = refl
equal_count end (more t ts) e = absurd (differ (cc))
equal_count (more u us) end e = absurd (differ (cc))
equal_count (more u us) (more t ts) e = ap suc (equal_count us ts (others_agree 0 u t us ts e))
