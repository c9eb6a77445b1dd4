-- What is read is laid out: its compounds numbered one behind the other from what had been counted, at most 6 arguments, every name known.
use Prim.Native.Nat.{ℕ, zero, suc, ◌+◌, ◌≤◌}
use mathlib.Core.Path.{◌≡◌, ap, sym, ◌∙◌}
use mathlib.Core.List.{List, [], ◌∷◌}
use native.Mathlib.Omega.{arith}
use lib.Dec.{eqb}
use lib.ListN.{length}
use Rattle.meaning.specs.Bytes.{Bytes, byte}
use Rattle.meaning.specs.Terms.{
  Constant,
  empty,
  Functor,
  cell,
  named,
  Term,
  Terms,
  compound,
  end,
  more,
  Named,
  Guard,
  count,
  as_term,
}
use Rattle.meaning.specs.Tokens.{Token, name, variable, integer, sign, bad, Tokens}
use Rattle.meaning.specs.Items.{
  Counted,
  Reader,
  ◌>>=◌,
  give,
  passes,
  is,
  begins_term,
  arguments,
  compound_of,
  tail_of,
  elements,
  list_of,
  term_from,
  term,
}
use Rattle.term.specs.Cells.{Numbered, AllNumbered, KnownName, KnownConstant, KnownFunctor, Known, AllKnown}
use Rattle.term.specs.Guards.{GuardsKnown}
use Rattle.term.specs.Jobs.{GoalsNumbered, GoalsKnown}
use Rattle.load_image.proofs.Steps.{
  name_added,
  variable_added,
  Steps,
  StepsFrom,
  then_steps,
  behind_steps,
  give_steps,
  next_steps,
  passes_steps,
  cannot_stand_steps,
  if_steps,
  sign_steps,
  if_next_steps,
}
use Rattle.load_image.proofs.SmallSteps.{
  standing_steps,
  expect_steps,
  either_steps,
  count_compound_steps,
  count_name_steps,
  count_variable_steps,
}

-- More compounds counted, and more names known.
mutual
  unfolding Numbered AllNumbered

  pub numbered_wider : (lo hi hi' : ℕ) (t : Term) → hi ≤ hi' → Numbered lo hi t → Numbered lo hi' t
  numbered_wider lo hi hi' (Term.variable h n) w k = omega (arith, k)
  numbered_wider lo hi hi' (Term.constant c) w k = omega (arith, k)
  numbered_wider lo hi hi' (Term.compound n f ts) w k = (k.0, k.1, all_numbered_wider (lo + 1) hi hi' ts w k.2)

  pub all_numbered_wider : (lo hi hi' : ℕ) (ts : Terms) → hi ≤ hi' → AllNumbered lo hi ts → AllNumbered lo hi' ts
  all_numbered_wider lo hi hi' end w k = omega (arith, k)
  all_numbered_wider lo hi hi' (more t ts) w k = (k.0, k.1, all_numbered_wider k.0 hi hi' ts w k.2)

module _ (n n' : List Bytes) (wider : (f : Bytes) → KnownName n f → KnownName n' f) where
  known_constant_wider : (k : Constant) → KnownConstant n k → KnownConstant n' k
  known_constant_wider (Constant.integer i) h = tt
  known_constant_wider (Constant.name f) h = wider f h
  known_constant_wider Constant.empty h = tt

  known_functor_wider : (f : Functor) → KnownFunctor n f → KnownFunctor n' f
  known_functor_wider cell h = tt
  known_functor_wider (named f) h = wider f h

  mutual
    unfolding Known AllKnown

    pub known_wider : (t : Term) → Known n t → Known n' t
    known_wider (Term.variable h m) k = tt
    known_wider (Term.constant c) k = known_constant_wider c k
    known_wider (Term.compound m f ts) k = (known_functor_wider f k.0, all_known_wider ts k.1)

    pub all_known_wider : (ts : Terms) → AllKnown n ts → AllKnown n' ts
    all_known_wider end k = tt
    all_known_wider (more t ts) k = (known_wider t k.0, all_known_wider ts k.1)

  pub goals_known_wider : (gs : List Named) → GoalsKnown n gs → GoalsKnown n' gs
  unfolding GoalsKnown
  goals_known_wider [] k = tt
  goals_known_wider (g ∷ gs) k = (known_wider (as_term g) k.0, goals_known_wider gs k.1)

  pub guards_known_wider : (gs : List Guard) → GuardsKnown n gs → GuardsKnown n' gs
  unfolding GuardsKnown
  guards_known_wider [] k = tt
  guards_known_wider (g ∷ gs) k = ((all_known_wider g.arguments k.0.0, k.0.1, k.0.2), guards_known_wider gs k.1)

-- A term, arguments of which so many may still come, a head or a goal: read from what had been counted up to what has been.
pub record TermLaid (from : ℕ) (d : Counted) (t : Term) : Type 0 where
  pub numbered : Numbered from d.compounds t
  pub known : Known d.names t

pub record TermsLaid (from left : ℕ) (d : Counted) (ts : Terms) : Type 0 where
  pub numbered : AllNumbered from d.compounds ts
  pub known : AllKnown d.names ts
  pub few : count ts ≤ left

pub record GoalsLaid (from left : ℕ) (d : Counted) (gs : List Named) : Type 0 where
  pub numbered : GoalsNumbered from d.compounds gs
  pub known : GoalsKnown d.names gs
  pub few : length gs ≤ left

abbrev GoodTerm : Reader Term → Type 0
GoodTerm r = (c : Counted) (ts : Tokens) → StepsFrom c ts (λ d s t. TermLaid c.compounds d t) r

module _ (argument : Reader Term) (good : GoodTerm argument) where
  pub arguments_steps : (left : ℕ) (c : Counted) (ts : Tokens)
      → StepsFrom c ts (λ d s us. TermsLaid c.compounds left d us) (arguments argument left)
  unfolding arguments AllNumbered AllKnown count
  arguments_steps zero c ts = behind_steps (standing_steps c ts begins_term) (λ d s u o h. passes_steps)
  arguments_steps (suc left) c ts =
      then_steps (good c ts) (λ d s t o laid.
      then_steps (either_steps d s "," ")") (λ e u another p h.
      if_steps another
      (λ test. then_steps (arguments_steps left e u) (λ f v us q all.
      give_steps (more t us) (record {
        numbered = (e.compounds, numbered_wider c.compounds d.compounds e.compounds t p.order laid.numbered, all.numbered);
        known = (known_wider d.names f.names (λ g k. q.wider g (p.wider g k)) t laid.known, all.known);
        few = omega (arith, all.few);
      })))
      (λ test. give_steps (more t end) (record {
        numbered = (e.compounds, numbered_wider c.compounds d.compounds e.compounds t p.order laid.numbered, omega arith);
        known = (known_wider d.names e.names p.wider t laid.known, tt);
        few = omega arith;
      }))))

  pub compound_of_steps : (f : Bytes) (c : Counted) (ts : Tokens) → KnownName c.names f
      → StepsFrom c ts (λ d s g. TermLaid c.compounds d (as_term g)) (compound_of argument f)
  unfolding compound_of Numbered Known as_term
  compound_of_steps f c ts known =
      then_steps (count_compound_steps c ts) (λ d s n o h.
      then_steps (arguments_steps 6 d s) (λ e u us p all.
      give_steps (record { number = n; name = f; arguments = us }) (record {
        numbered = (h.0, all.few, rw h.1 at all.numbered);
        known = (p.wider f (o.wider f known), all.known);
      })))

  tail_of_steps : (elements : Reader Term) → GoodTerm elements → (place : ℕ) (t : Token) (c : Counted) (s : Tokens)
      → Steps (name_added t c.names) (variable_added t c.variables) c s (λ d u x. TermLaid c.compounds d x) (tail_of argument elements place t)
  unfolding tail_of Numbered Known
  tail_of_steps elements others place t c s =
      if_steps (is "," t) (λ e. sign_steps "," t e (others c s))
      (λ e. if_steps (is "|" t)
      (λ e. sign_steps "|" t e
      (then_steps (good c s) (λ d u tail w laid.
      behind_steps (expect_steps d u "]") (λ e v x y h.
      give_steps tail (record {
        numbered = numbered_wider c.compounds d.compounds e.compounds tail y.order laid.numbered;
        known = known_wider d.names e.names y.wider tail laid.known;
      })))))
      (λ e. if_steps (is "]" t)
      (λ e. sign_steps "]" t e (give_steps (Term.constant empty) (record { numbered = omega arith; known = tt })))
      (λ e. cannot_stand_steps place)))

  elements_steps : (left : ℕ) → GoodTerm (elements argument left)
  unfolding elements Numbered AllNumbered Known AllKnown count
  elements_steps zero c ts = behind_steps (standing_steps c ts begins_term) (λ d s u o h. passes_steps)
  elements_steps (suc left) c ts =
      behind_steps (standing_steps c ts begins_term) (λ d₀ s₀ u o₀ h₀.
      then_steps (count_compound_steps d₀ s₀) (λ d₁ s₁ n o₁ h.
      then_steps (good d₁ s₁) (λ d₂ s₂ t o₂ laid.
      then_steps (next_steps (λ p x s. tail_of_steps (elements argument left) (elements_steps left) p x d₂ s)) (λ d₃ s₃ tail o₃ last.
      let same : d₀.compounds ≡ c.compounds = ap (λ x. x.compounds) h₀ in
      let one : d₁.compounds ≡ c.compounds + 1 = omega (arith, h.1) in
      give_steps (compound n cell (more t (more tail end))) (record {
        numbered = (h.0 ∙ same, omega arith, (d₂.compounds, rw one at laid.numbered, (d₃.compounds, last.numbered, omega arith)));
        known = (tt, (known_wider d₂.names d₃.names o₃.wider t laid.known, (last.known, tt)));
      })))))

  list_of_steps : GoodTerm (list_of argument)
  unfolding list_of Numbered Known
  list_of_steps c ts =
      if_next_steps "]" (λ s. give_steps (Term.constant empty) (record { numbered = omega arith; known = tt })) (elements_steps 32 c ts)

module _ (round : Bytes → Reader Term) (square : Reader Term)
    (round_steps : (f : Bytes) (c : Counted) (ts : Tokens) → KnownName c.names f → StepsFrom c ts (λ d s t. TermLaid c.compounds d t) (round f))
    (square_steps : GoodTerm square) where
  term_from_steps : (place : ℕ) (t : Token) (c : Counted) (s : Tokens)
      → Steps (name_added t c.names) (variable_added t c.variables) c s (λ d u x. TermLaid c.compounds d x) (term_from round square place t)
  unfolding term_from name_added variable_added Numbered Known
  term_from_steps place (name f) c s =
      behind_steps (count_name_steps f c s) (λ d u w o h.
      rw (sym h.1)
      (if_next_steps "(" (λ v. round_steps f d v h.0) (give_steps (Term.constant (Constant.name f)) (record { numbered = omega arith; known = h.0 }))))
  term_from_steps place (variable h x) c s =
      then_steps (count_variable_steps x c s) (λ d u n o e. give_steps (Term.variable h n) (record { numbered = o.order; known = tt }))
  term_from_steps place (integer i) c s = give_steps (Term.constant (Constant.integer i)) (record { numbered = omega arith; known = tt })
  term_from_steps place (sign b) c s = if_steps (eqb b (byte "[")) (λ e. square_steps c s) (λ e. cannot_stand_steps place)
  term_from_steps place bad c s = cannot_stand_steps place

pub term_steps : (left : ℕ) → GoodTerm (term left)
unfolding term
term_steps zero c ts =
    next_steps (λ p t s. term_from_steps (λ f. passes) passes (λ f d u known. passes_steps) (λ d u. passes_steps) p t c s)
term_steps (suc left) c ts =
    next_steps (λ p t s.
    term_from_steps (λ f. compound_of (term left) f >>= λ g. give (as_term g)) (list_of (term left))
    (λ f d u known. then_steps (compound_of_steps (term left) (term_steps left) f d u known) (λ e v g o laid. give_steps (as_term g) laid))
    (list_of_steps (term left) (term_steps left)) p t c s)
