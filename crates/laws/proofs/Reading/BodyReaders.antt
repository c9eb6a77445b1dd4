-- The law of the readers behind a clause's `:-`, and of a rule: read alike, but for the places of the tokens behind its bar; what is read fits, its
-- compounds numbered from the count before it up to the count behind it. Elements are judged as goals at the full stop, and are the guards at the bar.
use Prim.Native.Nat.{ℕ, zero, suc, ◌+◌, ◌≤◌, ◌<◌}
use mathlib.Core.Path.{◌≡◌, refl}
use mathlib.Core.Bool.{Bool}
use mathlib.Core.List.{List, [], ◌∷◌, ◌++◌}
use mathlib.Core.Option.{Option, none, some}
use native.Mathlib.Omega.{arith}
use lib.ListN.{length, length-append}
use Rattle.meaning.specs.Bytes.{when◌then◌else◌}
use Rattle.meaning.specs.Terms.{Constant, empty, cell, named, Term, compound, Named, as_term}
use Rattle.meaning.specs.Tokens.{is}
use Rattle.meaning.specs.Table.{Element, whole, bare, equals, as_goals}
use Rattle.meaning.specs.Items.{
  Counted,
  give,
  next,
  cannot_stand,
  begins_term,
  goals,
  by_itself,
  equals_behind,
  element_behind,
  Body,
  unguarded,
  guarded,
  behind_element,
  body,
  Rule,
  rule,
}
use Rattle.laws.proofs.Lists.{Each, each_append, each_implies}
use Rattle.laws.proofs.Reading.Numbering.{Numbered, NamedNumbered, GoalsNumbered}
use Rattle.laws.proofs.Reading.Brackets.{Nested, GoalNested}
use Rattle.laws.proofs.Reading.Figures.{Bounds, Widens, Known, ConstantFits, FunctorFits, TermFits, NamedFits, term_widens, named_widens, widens_trans}
use Rattle.laws.proofs.Reading.Alike.{
  bounds,
  ReadAlike,
  ReadAlikeBy,
  give_alike,
  give_alike_by,
  cannot_stand_alike,
  passes_alike,
  if_alike,
  next_alike,
  if_next_alike,
  then_alike,
  then_alike_by,
  behind_alike,
  here_alike,
  less_alike,
}
use Rattle.laws.proofs.Reading.Counting.{standing_alike, either_alike, count_compound_alike}
use Rattle.laws.proofs.Reading.Readers.{Fits, GoalsFit, Steady, SteadyBy, term_steady, goal_steady, goals_steady}

-- An element behind `:-` fits, and its compounds are numbered in order; of `==` the left side's, its own, the right side's.
unfoldable pub ElementFits : Bounds → Element → Type 0
ElementFits b (whole g) = NamedFits b g × GoalNested g
ElementFits b (bare f) = Known b f
ElementFits b (equals n t u) = (n < b.compounds) × (TermFits b t × Nested 16 t) × (TermFits b u × Nested 16 u)

unfoldable pub ElementNumbered : ℕ → ℕ → Element → Type 0
ElementNumbered low high (whole g) = NamedNumbered low high g
ElementNumbered low high (bare f) = low ≡ high
ElementNumbered low high (equals n t u) = Numbered low n t × Numbered (n + 1) high u

unfoldable pub ElementsNumbered : ℕ → ℕ → List Element → Type 0
ElementsNumbered low high [] = low ≡ high
ElementsNumbered low high (e ∷ es) = (middle : ℕ) × ElementNumbered low middle e × ElementsNumbered middle high es

element_widens : {b c : Bounds} → Widens b c → (e : Element) → ElementFits b e → ElementFits c e
unfolding ElementFits
element_widens w (whole g) h = (named_widens w g h.0, h.1)
element_widens w (bare f) h = w.names f h
element_widens w (equals n t u) h =
    (omega (arith, w.compounds), (term_widens w t h.1.0, h.1.1), (term_widens w u h.2.0, h.2.1))

one_more_numbered : (low middle high : ℕ) (es : List Element) (e : Element) → ElementsNumbered low middle es → ElementNumbered middle high e
    → ElementsNumbered low high (es ++ (e ∷ []))
unfolding ElementsNumbered
one_more_numbered low middle high [] e same h = (high, rw same h, refl)
one_more_numbered low middle high (f ∷ es) e (between, first, others) h = (between, first, one_more_numbered between middle high es e others h)

pub record ElementRead (low : ℕ) (c : Counted) (e : Element) : Type 0 where
  pub fits : ElementFits (bounds c) e
  pub numbered : ElementNumbered low c.compounds e

nothing_stands_alike : {A : Type 0} {c : Counted} {P : Counted → A → Type 0} → ReadAlike c P (next (λ place t. cannot_stand place)) (next (λ place t. cannot_stand place))
nothing_stands_alike = next_alike (λ place₁ place₂ t fits. cannot_stand_alike place₁ place₂)

by_itself_alike : (low : ℕ) (c : Counted) (t : Term) → Fits 16 low c t → ReadAlike c (ElementRead low) (by_itself t) (by_itself t)
unfolding by_itself ElementFits ElementNumbered TermFits FunctorFits ConstantFits Nested Numbered as_term
by_itself_alike low c (compound n (named f) ts) h =
    give_alike (whole (record { number = n; name = f; arguments = ts })) (record {
      fits = (
        record {
          number = h.fits.0;
          known = h.fits.1.0;
          some_arguments = h.fits.1.1;
          few_arguments = h.fits.1.2;
          arguments = h.fits.2;
        },
        h.nested,
      );
      numbered = record { number = h.numbered.0; arguments = h.numbered.1 };
    })
by_itself_alike low c (compound n cell ts) h = nothing_stands_alike
by_itself_alike low c (Term.constant (Constant.name f)) h = give_alike (bare f) (record { fits = h.fits; numbered = h.numbered })
by_itself_alike low c (Term.constant (Constant.integer i)) h = nothing_stands_alike
by_itself_alike low c (Term.constant empty) h = nothing_stands_alike
by_itself_alike low c (Term.variable k n) h = nothing_stands_alike

element_behind_steady : Steady ElementRead element_behind
unfolding element_behind equals_behind ElementFits ElementNumbered
element_behind_steady c =
    then_alike (term_steady 16 c) (λ d t w left.
    if_next_alike "="
    (then_alike (count_compound_alike d) (λ e n v next.
    then_alike (term_steady 16 e) (λ f right u last.
    give_alike (equals n t right) (record {
      fits = (omega (arith, u.compounds), (term_widens (widens_trans v u) t left.fits, left.nested), (last.fits, last.nested));
      numbered = rw next.0 (left.numbered, rw next.1 at last.numbered);
    }))))
    (by_itself_alike c.compounds d t left))

-- The elements as goals.
pub record AsGoals (b : Bounds) (low high : ℕ) (es : List Element) (gs : List Named) : Type 0 where
  pub fit : Each (NamedFits b) gs
  pub nested : Each GoalNested gs
  pub as_many : length gs ≡ length es
  pub numbered : GoalsNumbered low high gs

GoalsOr : Bounds → ℕ → ℕ → List Element → Option (List Named) → Type 0
GoalsOr b low high es none = Unit {0}
GoalsOr b low high es (some gs) = AsGoals b low high es gs

as_goals_fit : (b : Bounds) (low high : ℕ) (es : List Element) → Each (ElementFits b) es → ElementsNumbered low high es → GoalsOr b low high es (as_goals es)
unfolding as_goals GoalsOr ElementFits ElementNumbered ElementsNumbered GoalsNumbered
as_goals_fit b low high [] fits numbered = record { fit = tt; nested = tt; as_many = refl; numbered = numbered }
as_goals_fit b low high (whole g ∷ es) fits (middle, first, others) = go (as_goals es) refl (as_goals_fit b middle high es fits.1 others)
  where
    go : (o : Option (List Named)) → as_goals es ≡ o → GoalsOr b middle high es (as_goals es) → GoalsOr b low high (whole g ∷ es) (as_goals (whole g ∷ es))
    go none e h = rw (e, as_goals) tt
    go (some gs) e h =
        let all : AsGoals b middle high es gs = rw e at h in
        rw (e, as_goals) (record {
          fit = (fits.0.0, all.fit);
          nested = (fits.0.1, all.nested);
          as_many = omega (arith, all.as_many);
          numbered = (middle, first, all.numbered);
        })
as_goals_fit b low high (bare f ∷ es) fits numbered = tt
as_goals_fit b low high (equals n t u ∷ es) fits numbered = tt

pub record BodyFits (low : ℕ) (c : Counted) (b : Body) : Type 0 where
  pub behind_guards : ℕ
  pub guards_fit : Each (ElementFits (bounds c)) b.guards
  pub guards_numbered : ElementsNumbered low behind_guards b.guards
  pub few_guards : length b.guards ≤ 8
  pub fit : Each (NamedFits (bounds c)) b.goals
  pub nested : Each GoalNested b.goals
  pub few_goals : length b.goals ≤ 8
  pub numbered : GoalsNumbered behind_guards c.compounds b.goals

-- The same guards and goals; the tokens behind a bar are the same but for their places.
pub record BodyAlike (b₁ b₂ : Body) : Type 0 where
  pub guards : b₁.guards ≡ b₂.guards
  pub goals : b₁.goals ≡ b₂.goals

-- "Perhaps no goal."
record PerhapsGoals (low : ℕ) (c : Counted) (gs : List Named) : Type 0 where
  fit : Each (NamedFits (bounds c)) gs
  nested : Each GoalNested gs
  few_goals : length gs ≤ 8
  numbered : GoalsNumbered low c.compounds gs

some_goals : (c : Counted) → ReadAlike c (PerhapsGoals c.compounds) (goals 8) (goals 8)
some_goals c =
    less_alike c (GoalsFit 8 c.compounds) (PerhapsGoals c.compounds)
    (λ d gs h. record { fit = h.fit; nested = h.nested; few_goals = h.few_goals; numbered = h.numbered }) (goals_steady 8 c)

module _ (low : ℕ) where
  guarded_alike : (es : List Element) (c : Counted) → length es ≤ 8 → Each (ElementFits (bounds c)) es → ElementsNumbered low c.compounds es
      → ReadAlikeBy c BodyAlike (BodyFits low) (guarded es) (guarded es)
  unfolding guarded GoalsNumbered
  guarded_alike es c few fits numbered =
      here_alike (λ behind₁ behind₂.
      then_alike {P = PerhapsGoals c.compounds} (if_next_alike "." (give_alike [] (record { fit = tt; nested = tt; few_goals = omega arith; numbered = refl })) (some_goals c))
      (λ d gs w all.
      give_alike_by (record { guards = es; goals = gs; behind = some behind₁ }) (record { guards = es; goals = gs; behind = some behind₂ })
      (record { guards = refl; goals = refl }) (record {
        behind_guards = c.compounds;
        guards_fit = each_implies _ _ (element_widens w) es fits;
        guards_numbered = numbered;
        few_guards = few;
        fit = all.fit;
        nested = all.nested;
        few_goals = all.few_goals;
        numbered = all.numbered;
      })))

  unguarded_alike : (es : List Element) (c : Counted) → length es ≤ 8 → (place₁ place₂ : ℕ) (o : Option (List Named)) → GoalsOr (bounds c) low c.compounds es o
      → ReadAlikeBy c BodyAlike (BodyFits low) (unguarded place₁ o) (unguarded place₂ o)
  unfolding unguarded GoalsOr ElementsNumbered
  unguarded_alike es c few place₁ place₂ none h = cannot_stand_alike place₁ place₂
  unguarded_alike es c few place₁ place₂ (some gs) h =
      give_alike_by (record { guards = []; goals = gs; behind = none }) (record { guards = []; goals = gs; behind = none }) (record { guards = refl; goals = refl }) (record {
        behind_guards = low;
        guards_fit = tt;
        guards_numbered = refl;
        few_guards = omega arith;
        fit = h.fit;
        nested = h.nested;
        few_goals = omega (arith, h.as_many);
        numbered = h.numbered;
      })

  body_alike : (left : ℕ) (before : List Element) (c : Counted) → length before + left ≡ 8 → Each (ElementFits (bounds c)) before
      → ElementsNumbered low c.compounds before → ReadAlikeBy c BodyAlike (BodyFits low) (body left before) (body left before)
  unfolding body behind_element
  body_alike zero before c few fits numbered = behind_alike (standing_alike c begins_term) (λ d u w same. passes_alike)
  body_alike (suc left) before c few fits numbered =
      then_alike (element_behind_steady c) (λ d e w it.
      let es = before ++ (e ∷ []) in
      let longer = length-append before (e ∷ []) in
      let all = each_append (ElementFits (bounds d)) before (e ∷ []) (each_implies _ _ (element_widens w) before fits) (it.fits, tt) in
      let in_order = one_more_numbered low c.compounds d.compounds before e numbered it.numbered in
      next_alike (λ place₁ place₂ t fits.
      if_alike (is "," t) (λ i. body_alike left es d (omega (arith, longer)) all in_order)
      (λ i. if_alike (is "|" t) (λ i. guarded_alike es d (omega (arith, longer)) all in_order)
      (λ i. if_alike (is "." t)
      (λ i. unguarded_alike es d (omega (arith, longer)) place₁ place₂ (as_goals es) (as_goals_fit (bounds d) low d.compounds es all in_order))
      (λ i. cannot_stand_alike place₁ place₂)))))

pub record RuleFits (low : ℕ) (c : Counted) (r : Rule) : Type 0 where
  pub behind_head : ℕ
  pub behind_guards : ℕ
  pub head : NamedFits (bounds c) r.head
  pub guards : Each (ElementFits (bounds c)) r.body.guards
  pub body : Each (NamedFits (bounds c)) r.body.goals
  pub nested : Each GoalNested (r.head ∷ r.body.goals)
  pub few_guards : length r.body.guards ≤ 8
  pub few_goals : length r.body.goals ≤ 8
  pub head_numbered : NamedNumbered low behind_head r.head
  pub guards_numbered : ElementsNumbered behind_head behind_guards r.body.guards
  pub body_numbered : GoalsNumbered behind_guards c.compounds r.body.goals

pub record RuleAlike (r₁ r₂ : Rule) : Type 0 where
  pub head : r₁.head ≡ r₂.head
  pub guards : r₁.body.guards ≡ r₂.body.guards
  pub goals : r₁.body.goals ≡ r₂.body.goals

no_elements : (e : Counted) → ElementsNumbered e.compounds e.compounds []
unfolding ElementsNumbered
no_elements e = refl

no_goals : (e : Counted) → GoalsNumbered e.compounds e.compounds []
unfolding GoalsNumbered
no_goals e = refl

behind_sign_alike : (implied : Bool) (e : Counted)
    → ReadAlikeBy e BodyAlike (BodyFits e.compounds) (when implied then body 8 [] else give (record { guards = []; goals = []; behind = none }))
    (when implied then body 8 [] else give (record { guards = []; goals = []; behind = none }))
behind_sign_alike implied e =
    if_alike implied (λ test. body_alike e.compounds 8 [] e refl tt (no_elements e))
    (λ test. give_alike_by (record { guards = []; goals = []; behind = none }) (record { guards = []; goals = []; behind = none }) (record { guards = refl; goals = refl }) (record {
      behind_guards = e.compounds;
      guards_fit = tt;
      guards_numbered = no_elements e;
      few_guards = omega arith;
      fit = tt;
      nested = tt;
      few_goals = omega arith;
      numbered = no_goals e;
    }))

pub rule_steady : SteadyBy RuleAlike RuleFits rule
unfolding rule
rule_steady c =
    then_alike (goal_steady c) (λ d head w first.
    then_alike (either_alike d ":" ".") (λ e implied v same.
    then_alike_by (behind_sign_alike implied e) (λ f behind₁ behind₂ u alike all.
    give_alike_by (record { head = head; body = behind₁ }) (record { head = head; body = behind₂ })
    (record { head = refl; guards = alike.guards; goals = alike.goals }) (record {
      behind_head = e.compounds;
      behind_guards = all.behind_guards;
      head = named_widens (widens_trans v u) head first.fits;
      guards = all.guards_fit;
      body = all.fit;
      nested = (first.nested, all.nested);
      few_guards = all.few_guards;
      few_goals = all.few_goals;
      head_numbered = rw same at first.numbered;
      guards_numbered = all.guards_numbered;
      body_numbered = all.numbered;
    }))))
