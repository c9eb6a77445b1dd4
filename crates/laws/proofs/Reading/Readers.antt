-- The law of each reader of an item, from arguments up to a query's goals: read alike; what is read fits, its compounds
-- numbered from the count before it up to the count behind it. A term is read by induction on how many more brackets may open inside it.
use Prim.Native.Nat.{ℕ, zero, suc, ◌≤◌}
use mathlib.Core.Path.{refl}
use mathlib.Core.List.{List, [], ◌∷◌}
use native.Mathlib.Omega.{arith}
use lib.Dec.{eqb}
use lib.ListN.{length}
use Rattle.meaning.specs.Bytes.{Bytes, byte}
use Rattle.meaning.specs.Terms.{Constant, empty, cell, Term, Terms, compound, end, more, Named, count, as_term}
use Rattle.meaning.specs.Tokens.{Token, name, variable, integer, sign, bad}
use Rattle.meaning.specs.Items.{
  Counted,
  Reader,
  ◌>>=◌,
  give,
  passes,
  is,
  is_name,
  begins_term,
  arguments,
  compound_of,
  tail_of,
  elements,
  list_of,
  term_from,
  term,
  goal_from,
  goal,
  goals,
}
use Rattle.laws.proofs.Lists.{Each}
use Rattle.laws.proofs.Reading.Numbering.{
  Numbered,
  AllNumbered,
  NamedNumbered,
  GoalsNumbered,
  as_term_numbered,
}
use Rattle.laws.proofs.Reading.Brackets.{behind_first_argument, Nested, AllNested, GoalNested, nested_wider}
use Rattle.laws.proofs.Reading.TokensFit.{TokenFits}
use Rattle.laws.proofs.Reading.Figures.{
  Known,
  ConstantFits,
  FunctorFits,
  TermFits,
  TermsFit,
  NamedFits,
  term_widens,
  named_widens,
  widens_trans,
  as_term_fits,
}
use Rattle.laws.proofs.Reading.Alike.{
  bounds,
  ReadAlike,
  ReadAlikeBy,
  give_alike,
  cannot_stand_alike,
  passes_alike,
  if_alike,
  next_alike,
  if_next_alike,
  then_alike,
  behind_alike,
}
use Rattle.laws.proofs.Reading.Counting.{
  standing_alike,
  expect_alike,
  either_alike,
  count_name_alike,
  count_variable_alike,
  count_compound_alike,
}

-- What is said of a term, of arguments of which so many may still come, and of a head or a goal, behind so many compounds.
pub record Fits (brackets low : ℕ) (c : Counted) (t : Term) : Type 0 where
  pub fits : TermFits (bounds c) t
  pub nested : Nested brackets t
  pub numbered : Numbered low c.compounds t

pub record AllFit (brackets left low : ℕ) (c : Counted) (ts : Terms) : Type 0 where
  pub fit : TermsFit (bounds c) ts
  pub nested : AllNested brackets brackets ts
  pub some_arguments : 1 ≤ count ts
  pub few_arguments : count ts ≤ left
  pub numbered : AllNumbered low c.compounds ts

pub record GoalFits (brackets low : ℕ) (c : Counted) (g : Named) : Type 0 where
  pub fits : NamedFits (bounds c) g
  pub nested : Nested brackets (as_term g)
  pub numbered : NamedNumbered low c.compounds g

pub record GoalsFit (left low : ℕ) (c : Counted) (gs : List Named) : Type 0 where
  pub fit : Each (NamedFits (bounds c)) gs
  pub nested : Each GoalNested gs
  pub some_goals : 1 ≤ length gs
  pub few_goals : length gs ≤ left
  pub numbered : GoalsNumbered low c.compounds gs

-- A reader is like itself, from wherever it begins.
abbrev pub SteadyBy : {A : Type 0} → (A → A → Type 0) → (ℕ → Counted → A → Type 0) → Reader A → Type 0
SteadyBy R P r = (c : Counted) → ReadAlikeBy c R (P c.compounds) r r

abbrev pub Steady : {A : Type 0} → (ℕ → Counted → A → Type 0) → Reader A → Type 0
Steady P r = (c : Counted) → ReadAlike c (P c.compounds) r r

-- `[]`, a name or an integer has no compounds.
pub constant_alike : (brackets : ℕ) (k : Constant) (c : Counted) → ConstantFits (bounds c) k
    → ReadAlike c (Fits brackets c.compounds) (give (Term.constant k)) (give (Term.constant k))
unfolding TermFits Numbered Nested
constant_alike brackets k c fits = give_alike (Term.constant k) (record { fits = fits; nested = tt; numbered = refl })

module _ (inside : ℕ) (argument : Reader Term) (steady : Steady (Fits inside) argument) where
  pub arguments_steady : (left : ℕ) → Steady (AllFit inside left) (arguments argument left)
  unfolding arguments TermsFit AllNested AllNumbered count
  arguments_steady zero c = behind_alike (standing_alike c begins_term) (λ d u w same. passes_alike)
  arguments_steady (suc left) c =
      then_alike (steady c) (λ d t w first.
      then_alike (either_alike d "," ")") (λ e another v same.
      if_alike another
      (λ test. then_alike (arguments_steady left e) (λ f ts u all.
      give_alike (more t ts) (record {
        fit = (term_widens (widens_trans v u) t first.fits, all.fit);
        nested = (first.nested, all.nested);
        some_arguments = omega arith;
        few_arguments = omega (arith, all.few_arguments);
        numbered = (e.compounds, rw same at first.numbered, all.numbered);
      })))
      (λ test. give_alike (more t end) (record {
        fit = (term_widens v t first.fits, tt);
        nested = (first.nested, tt);
        some_arguments = omega arith;
        few_arguments = omega arith;
        numbered = (d.compounds, first.numbered, same);
      }))))

  pub compound_of_alike : (f : Bytes) (c : Counted) → Known (bounds c) f → ReadAlike c (GoalFits (suc inside) c.compounds) (compound_of argument f) (compound_of argument f)
  unfolding compound_of Nested behind_first_argument as_term
  compound_of_alike f c known =
      then_alike (count_compound_alike c) (λ d n w next.
      then_alike (arguments_steady 6 d) (λ e ts v all.
      give_alike (record { number = n; name = f; arguments = ts }) (record {
        fits = record {
          number = omega arith;
          known = v.names f (w.names f known);
          some_arguments = all.some_arguments;
          few_arguments = all.few_arguments;
          arguments = all.fit;
        };
        nested = (inside, omega arith, all.nested);
        numbered = record { number = next.0; arguments = rw next.1 at all.numbered };
      })))

  pub tail_of_alike : (elements : Reader Term) → Steady (Fits (suc inside)) elements → (place₁ place₂ : ℕ) (t : Token) (c : Counted)
      → ReadAlike c (Fits (suc inside) c.compounds) (tail_of argument elements place₁ t) (tail_of argument elements place₂ t)
  unfolding tail_of ConstantFits
  tail_of_alike elements others place₁ place₂ t c =
      if_alike (is "," t) (λ e. others c)
      (λ e. if_alike (is "|" t)
      (λ e. then_alike (steady c) (λ d tail w last.
      behind_alike (expect_alike d "]") (λ e u v same.
      give_alike tail (record {
        fits = term_widens v tail last.fits;
        nested = nested_wider (omega arith) tail last.nested;
        numbered = rw same at last.numbered;
      }))))
      (λ e. if_alike (is "]" t) (λ e. constant_alike (suc inside) empty c tt) (λ e. cannot_stand_alike place₁ place₂)))

  pub elements_steady : (left : ℕ) → Steady (Fits (suc inside)) (elements argument left)
  unfolding elements TermFits TermsFit FunctorFits Nested AllNested behind_first_argument Numbered AllNumbered count
  elements_steady zero c = behind_alike (standing_alike c begins_term) (λ d u w same. passes_alike)
  elements_steady (suc left) c =
      behind_alike (standing_alike c begins_term) (λ b u w same.
      then_alike (count_compound_alike b) (λ d n w next.
      then_alike (steady d) (λ e t v first.
      then_alike (next_alike (λ place₁ place₂ s fits. tail_of_alike (elements argument left) (elements_steady left) place₁ place₂ s e)) (λ f tail u last.
      give_alike (compound n cell (more t (more tail end))) (record {
        fits = (omega arith, refl, (term_widens u t first.fits, (last.fits, tt)));
        nested = (inside, omega arith, (first.nested, (last.nested, tt)));
        numbered = rw same (next.0, (e.compounds, rw next.1 at first.numbered, (f.compounds, last.numbered, refl)));
      })))))

  pub list_of_steady : Steady (Fits (suc inside)) (list_of argument)
  unfolding list_of ConstantFits
  list_of_steady c = if_next_alike "]" (constant_alike (suc inside) empty c tt) (elements_steady 32 c)

module _ (brackets : ℕ) (round : Bytes → Reader Term) (square : Reader Term)
    (round_alike : (f : Bytes) (c : Counted) → Known (bounds c) f → ReadAlike c (Fits brackets c.compounds) (round f) (round f))
    (square_steady : Steady (Fits brackets) square) where
  pub term_from_alike : (place₁ place₂ : ℕ) (t : Token) → TokenFits t
      → (c : Counted) → ReadAlike c (Fits brackets c.compounds) (term_from round square place₁ t) (term_from round square place₂ t)
  unfolding term_from TokenFits TermFits ConstantFits Nested Numbered
  term_from_alike place₁ place₂ (name f) spelled c =
      behind_alike (count_name_alike f spelled c) (λ d u w known.
      rw known.1 (if_next_alike "(" (round_alike f d known.0) (constant_alike brackets (Constant.name f) d known.0)))
  term_from_alike place₁ place₂ (variable h x) spelled c =
      then_alike (count_variable_alike x spelled c) (λ d n w below. give_alike (Term.variable h n) (record { fits = below.0; nested = tt; numbered = below.1 }))
  term_from_alike place₁ place₂ (integer i) in_range c = constant_alike brackets (Constant.integer i) c in_range
  term_from_alike place₁ place₂ (sign b) fits c =
      if_alike (eqb b (byte "[")) (λ e. square_steady c) (λ e. cannot_stand_alike place₁ place₂)
  term_from_alike place₁ place₂ bad fits c = cannot_stand_alike place₁ place₂

-- "16 brackets open at once": every term fits what has been counted behind it.
pub term_steady : (left : ℕ) → Steady (Fits left) (term left)
unfolding term
term_steady zero c =
    next_alike (λ place₁ place₂ t fits. term_from_alike 0 (λ f. passes) passes (λ f d known. passes_alike) (λ d. passes_alike) place₁ place₂ t fits c)
term_steady (suc left) c =
    next_alike (λ place₁ place₂ t fits.
    term_from_alike (suc left) (λ f. compound_of (term left) f >>= λ g. give (as_term g)) (list_of (term left))
    (λ f d known. then_alike (compound_of_alike left (term left) (term_steady left) f d known) (λ e g w goal.
    give_alike (as_term g) (record { fits = as_term_fits (bounds e) g goal.fits; nested = goal.nested; numbered = as_term_numbered g goal.numbered })))
    (list_of_steady left (term left) (term_steady left)) place₁ place₂ t fits c)

goal_from_alike : (place₁ place₂ : ℕ) (t : Token) → TokenFits t
    → (c : Counted) → ReadAlike c (GoalFits 16 c.compounds) (goal_from place₁ t) (goal_from place₂ t)
unfolding goal_from TokenFits
goal_from_alike place₁ place₂ (name f) spelled c =
    behind_alike (count_name_alike f spelled c) (λ d u w known.
    behind_alike (expect_alike d "(") (λ e u v same. rw (known.1, same) (compound_of_alike 15 (term 15) (term_steady 15) f e (v.names f known.0))))
goal_from_alike place₁ place₂ (variable h x) fits c = cannot_stand_alike place₁ place₂
goal_from_alike place₁ place₂ (integer i) fits c = cannot_stand_alike place₁ place₂
goal_from_alike place₁ place₂ (sign b) fits c = cannot_stand_alike place₁ place₂
goal_from_alike place₁ place₂ bad fits c = cannot_stand_alike place₁ place₂

pub goal_steady : Steady (GoalFits 16) goal
unfolding goal
goal_steady c = next_alike (λ place₁ place₂ t fits. goal_from_alike place₁ place₂ t fits c)

-- "8 body or query goals", at least one, each of which fits.
pub goals_steady : (left : ℕ) → Steady (GoalsFit left) (goals left)
unfolding goals GoalsNumbered
goals_steady zero c = behind_alike (standing_alike c is_name) (λ d u w same. passes_alike)
goals_steady (suc left) c =
    then_alike (goal_steady c) (λ d g w first.
    then_alike (either_alike d "," ".") (λ e another v same.
    if_alike another
    (λ test. then_alike (goals_steady left e) (λ f gs u all.
    give_alike (g ∷ gs) (record {
      fit = (named_widens (widens_trans v u) g first.fits, all.fit);
      nested = (first.nested, all.nested);
      some_goals = omega arith;
      few_goals = omega (arith, all.few_goals);
      numbered = (e.compounds, rw same at first.numbered, all.numbered);
    })))
    (λ test. give_alike (g ∷ []) (record {
      fit = (named_widens v g first.fits, tt);
      nested = (first.nested, tt);
      some_goals = omega arith;
      few_goals = omega arith;
      numbered = (d.compounds, first.numbered, same);
    }))))
