-- Goals, clauses and queries that are read are laid out, up to their full stop; and so is the item that a piece of the text holds.
use Prim.Native.Nat.{ℕ, zero, suc, ◌+◌, ◌≤◌, ◌<◌}
use mathlib.Core.Path.{◌≡◌, refl, ap, sym, ◌∙◌}
use mathlib.Core.Bool.{Bool, true, false}
use mathlib.Core.List.{List, [], ◌∷◌, ◌++◌}
use mathlib.Core.Option.{Option, none, some}
use native.Mathlib.Omega.{arith}
use lib.Dec.{ltb}
use lib.ListN.{length}
use borrow.Author.Tests.{ltb-true}
use Rattle.meaning.specs.Bytes.{Bytes, when◌then◌else◌, all}
use Rattle.meaning.specs.Terms.{Named, Guard, Clause, Query, as_term}
use Rattle.meaning.specs.Tokens.{Token, name, variable, integer, sign, bad, Tokens, ends, token}
use Rattle.meaning.specs.Faults.{Fault, pairing, clause_faults, query_faults, least}
use Rattle.meaning.specs.Table.{Element, as_goals, as_guards, of_the_head}
use Rattle.meaning.specs.Items.{
  Counted,
  Read,
  read,
  malformed,
  passed,
  Body,
  Rule,
  give,
  is,
  is_name,
  begins_term,
  if_next,
  term,
  goal_from,
  goal,
  goals,
  unguarded,
  guarded,
  behind_element,
  body,
  rule,
  figure,
  no_item,
  guard_rule,
  Piece,
  nothing,
  clause,
  query,
  refused,
  unless_broken,
  free,
  with_guards,
  unless_unknown,
  clause_piece,
  query_piece,
  fresh,
  clause_from,
  query_from,
  item_from,
  item,
}
use Rattle.term.specs.Cells.{Numbered, Known}
use Rattle.term.specs.Jobs.{GoalsNumbered, GoalsKnown, ClauseLaid, QueryLaid}
use Rattle.load_image.proofs.Steps.{
  name_added,
  variable_added,
  names_after,
  variables_after,
  Ends,
  Cut,
  Onward,
  Good,
  Steps,
  StepsFrom,
  then_steps,
  behind_steps,
  give_steps,
  next_steps,
  next_cut_steps,
  passes_steps,
  cannot_stand_steps,
  if_steps,
  sign_adds,
  sign_steps,
  if_stop_steps,
  here_steps,
}
use Rattle.load_image.proofs.SmallSteps.{standing_steps, expect_steps, either_steps, count_name_steps}
use Rattle.load_image.proofs.Laid.{
  numbered_wider,
  known_wider,
  TermLaid,
  GoalsLaid,
  compound_of_steps,
  term_steps,
}
use Rattle.load_image.proofs.LaidElements.{
  ElementsNumbered,
  ElementsKnown,
  ElementsLaid,
  elements_known_wider,
  laid_snoc,
  element_steps,
  as_goals_laid,
  as_guards_laid,
}

goal_from_steps : (place : ℕ) (t : Token) (c : Counted) (s : Tokens)
    → Steps (name_added t c.names) (variable_added t c.variables) c s (λ d u g. TermLaid c.compounds d (as_term g)) (goal_from place t)
unfolding goal_from name_added variable_added
goal_from_steps place (name f) c s =
    behind_steps (count_name_steps f c s) (λ d u w o h.
    behind_steps (expect_steps d u "(") (λ e v x p q.
    let same : c.compounds ≡ e.compounds = sym (ap (λ x. x.compounds) q ∙ h.1) in
    rw same (compound_of_steps (term 15) (term_steps 15) f e v (p.wider f h.0))))
goal_from_steps place (variable h x) c s = cannot_stand_steps place
goal_from_steps place (integer i) c s = cannot_stand_steps place
goal_from_steps place (sign b) c s = cannot_stand_steps place
goal_from_steps place bad c s = cannot_stand_steps place

goal_steps : (c : Counted) (ts : Tokens) → StepsFrom c ts (λ d s g. TermLaid c.compounds d (as_term g)) goal
unfolding goal
goal_steps c ts = next_steps (λ p t s. goal_from_steps p t c s)

-- Goals up to the full stop, behind which nothing comes.
goals_steps : (left : ℕ) (c : Counted) (ts : Tokens) → StepsFrom c ts (λ d s gs. GoalsLaid c.compounds left d gs × Ends s) (goals left)
unfolding goals GoalsNumbered GoalsKnown
goals_steps zero c ts = behind_steps (standing_steps c ts is_name) (λ d s u o h. passes_steps)
goals_steps (suc left) c ts =
    then_steps (goal_steps c ts) (λ d s g o laid.
    then_steps (either_steps d s "," ".") (λ e u another p h.
    if_steps another
    (λ test. then_steps (goals_steps left e u) (λ f v gs q all.
    give_steps (g ∷ gs) (
      record {
        numbered = (e.compounds, numbered_wider c.compounds d.compounds e.compounds (as_term g) p.order laid.numbered, all.0.numbered);
        known = (known_wider d.names f.names (λ x k. q.wider x (p.wider x k)) (as_term g) laid.known, all.0.known);
        few = omega (arith, all.0.few);
      },
      all.1,
    )))
    (λ test. give_steps (g ∷ []) (
      record {
        numbered = (e.compounds, numbered_wider c.compounds d.compounds e.compounds (as_term g) p.order laid.numbered, omega arith);
        known = (known_wider d.names e.names p.wider (as_term g) laid.known, tt);
        few = omega arith;
      },
      h.1 test (λ t stop. stop),
    ))))

-- What stands behind `:-`: the elements before the bar, and the goals.
pub record BodyLaid (from : ℕ) (d : Counted) (b : Body) : Type 0 where
  pub behind_guards : ℕ
  pub guards_numbered : ElementsNumbered from behind_guards b.guards
  pub goals_numbered : GoalsNumbered behind_guards d.compounds b.goals
  pub guards_known : ElementsKnown d.names b.guards
  pub goals_known : GoalsKnown d.names b.goals
  pub few_guards : length b.guards ≤ 8
  pub few_goals : length b.goals ≤ 8

length_snoc : (es : List Element) (e : Element) → length (es ++ (e ∷ [])) ≡ length es + 1
length_snoc [] e = refl
length_snoc (x ∷ es) e = omega (arith, length_snoc es e)

-- Behind the bar: a full stop, or goals.
goals_or_stop : (c : Counted) (ts : Tokens) → StepsFrom c ts (λ d s gs. GoalsLaid c.compounds 8 d gs × Ends s) (if_next "." (give []) (goals 8))
unfolding GoalsNumbered GoalsKnown
goals_or_stop c ts = if_stop_steps (λ s stops. give_steps [] (record { numbered = omega arith; known = tt; few = omega arith }, stops)) (goals_steps 8 c ts)

cannot_stand_none : {c : Counted} {ts : Tokens} {P : Counted → Tokens → Body → Type 0} (place : ℕ) → StepsFrom c ts P (unguarded place none)
unfolding unguarded
cannot_stand_none place = cannot_stand_steps place

given_goals : (from place : ℕ) (es : List Element) (gs : List Named) (c : Counted) (ts : Tokens) → as_goals es ≡ some gs → ElementsLaid from c es → length es ≤ 8
    → Ends ts → StepsFrom c ts (λ d s b. BodyLaid from d b × Ends s) (unguarded place (some gs))
unfolding unguarded ElementsNumbered ElementsKnown
given_goals from place es gs c ts q laid few stops =
    let (numbered, known, size) = as_goals_laid from c.compounds c.names es gs q laid.numbered laid.known in
    give_steps (record { guards = []; goals = gs; behind = none }) (
      record {
        behind_guards = from;
        guards_numbered = refl;
        goals_numbered = numbered;
        guards_known = tt;
        goals_known = known;
        few_guards = omega arith;
        few_goals = omega (arith, size);
      },
      stops,
    )

unguarded_steps : (from place : ℕ) (es : List Element) (c : Counted) (ts : Tokens) → ElementsLaid from c es → length es ≤ 8 → Ends ts
    → StepsFrom c ts (λ d s b. BodyLaid from d b × Ends s) (unguarded place (as_goals es))
unguarded_steps from place es c ts laid few stops = by (as_goals es) refl
  where
    by : (o : Option (List Named)) → as_goals es ≡ o → StepsFrom c ts (λ d s b. BodyLaid from d b × Ends s) (unguarded place o)
    by none q = cannot_stand_none place
    by (some gs) q = given_goals from place es gs c ts q laid few stops

guarded_steps : (from : ℕ) (es : List Element) (c : Counted) (ts : Tokens) → ElementsLaid from c es → length es ≤ 8
    → StepsFrom c ts (λ d s b. BodyLaid from d b × Ends s) (guarded es)
unfolding guarded GoalsNumbered GoalsKnown
guarded_steps from es c ts laid few =
    then_steps (here_steps c ts) (λ d s behind o h.
    then_steps (goals_or_stop d s) (λ e u gs p all.
    give_steps (record { guards = es; goals = gs; behind = some behind }) (
      record {
        behind_guards = c.compounds;
        guards_numbered = laid.numbered;
        goals_numbered = let same : c.compounds ≡ d.compounds = sym (ap (λ x. x.compounds) h.0) in rw same all.0.numbered;
        guards_known = elements_known_wider c.names e.names (λ f k. p.wider f (o.wider f k)) es laid.known;
        goals_known = all.0.known;
        few_guards = few;
        few_goals = all.0.few;
      },
      all.1,
    )))

body_steps : (left from : ℕ) (before : List Element) (c : Counted) (ts : Tokens) → ElementsLaid from c before → length before + left ≤ 8
    → StepsFrom c ts (λ d s b. BodyLaid from d b × Ends s) (body left before)
unfolding body behind_element
body_steps zero from before c ts laid few = behind_steps (standing_steps c ts begins_term) (λ d s u o h. passes_steps)
body_steps (suc left) from before c ts laid few =
    then_steps (element_steps c ts) (λ d s e o one.
    let es = before ++ (e ∷ []) in
    let longer : length es ≡ length before + 1 = length_snoc before e in
    let all : ElementsLaid from d es = laid_snoc from c d before e o.wider laid one in
    next_cut_steps (λ p t u stops.
    if_steps (is "," t) (λ q. sign_steps "," t q (body_steps left from es d u all (omega arith)))
    (λ q. if_steps (is "|" t) (λ r. sign_steps "|" t r (guarded_steps from es d u all (omega arith)))
    (λ r. if_steps (is "." t) (λ w. sign_steps "." t w (unguarded_steps from p es d u all (omega arith) (stops w))) (λ w. cannot_stand_steps p)))))

pub record RuleLaid (from : ℕ) (d : Counted) (r : Rule) : Type 0 where
  pub behind_head : ℕ
  pub head_numbered : Numbered from behind_head (as_term r.head)
  pub head_known : Known d.names (as_term r.head)
  pub body : BodyLaid behind_head d r.body

behind_steps_of : (implied : Bool) (c : Counted) (ts : Tokens) → (implied ≡ false → Ends ts)
    → StepsFrom c ts (λ d s b. BodyLaid c.compounds d b × Ends s)
    (when implied then body 8 [] else give (record { guards = []; goals = []; behind = none }))
unfolding GoalsNumbered GoalsKnown ElementsNumbered ElementsKnown
behind_steps_of implied c ts stops =
    if_steps implied (λ test. body_steps 8 c.compounds [] c ts (record { numbered = refl; known = tt }) (omega arith))
    (λ test. give_steps (record { guards = []; goals = []; behind = none }) (
      record {
        behind_guards = c.compounds;
        guards_numbered = refl;
        goals_numbered = omega arith;
        guards_known = tt;
        goals_known = tt;
        few_guards = omega arith;
        few_goals = omega arith;
      },
      stops test,
    ))

rule_steps : (c : Counted) (ts : Tokens) → StepsFrom c ts (λ d s r. RuleLaid c.compounds d r × Ends s) rule
unfolding rule
rule_steps c ts =
    then_steps (goal_steps c ts) (λ d s head o laid.
    then_steps (either_steps d s ":" ".") (λ e u implied p h.
    then_steps (behind_steps_of implied e u (λ test. h.1 test (λ t stop. stop))) (λ f v behind q all.
    give_steps (record { head = head; body = behind }) (
      record {
        behind_head = e.compounds;
        head_numbered = numbered_wider c.compounds d.compounds e.compounds (as_term head) p.order laid.numbered;
        head_known = known_wider d.names f.names (λ x k. q.wider x (p.wider x k)) (as_term head) laid.known;
        body = all.0;
      },
      all.1,
    ))))

-- What is said of a piece of the text by what it reads as.
pub record ClausePiece (piece : Tokens) (known : List Bytes) (k : ℕ) (c : Clause) (names : List Bytes) : Type 0 where
  pub number : k < 128
  pub nth : c.place ≡ k + 1
  pub names_are : names ≡ names_after piece known
  pub laid : ClauseLaid names c
  pub few_names : length known ≤ 256 → length names ≤ 256

pub record QueryPiece (piece : Tokens) (known : List Bytes) (k : ℕ) (q : Query) (names : List Bytes) : Type 0 where
  pub number : k < 8
  pub names_are : names ≡ names_after piece known
  pub variables_are : q.variables ≡ variables_after piece []
  pub laid : QueryLaid names q
  pub few_names : length known ≤ 256 → length names ≤ 256

unfoldable pub PieceIs : Tokens → List Bytes → ℕ → ℕ → Piece → Type 0
PieceIs piece known k q nothing = Ends piece
PieceIs piece known k q (clause c names) = ClausePiece piece known k c names
PieceIs piece known k q (query g names) = QueryPiece piece known q g names
PieceIs piece known k q (refused r) = Unit {0}

names_at_end : (s : Tokens) (known : List Bytes) → Ends s → names_after s known ≡ known
unfolding Ends names_after
names_at_end (ends n) known h = refl
names_at_end (token at t s) known h = absurd h

variables_at_end : (s : Tokens) (known : List Bytes) → Ends s → variables_after s known ≡ known
unfolding Ends variables_after
variables_at_end (ends n) known h = refl
variables_at_end (token at t s) known h = absurd h

module _ (known : List Bytes) (k q : ℕ) (begins : ℕ) (piece : Tokens) (few : k < 128) (r : Rule) (d : Counted) (s : Tokens) (gs : List Guard)
    (e : as_guards r.body.guards ≡ some gs) (g : Onward known [] (fresh known) piece d s × (RuleLaid 0 d r × Ends s)) where
  the_clause : Clause
  the_clause = record { place = k + 1; head = r.head; guards = gs; body = r.body.goals; pairs = length d.variables; compounds = d.compounds }

  the_clause_laid : ClauseLaid d.names the_clause
  unfolding the_clause GoalsKnown fresh
  the_clause_laid =
      let laid = g.1.0 in
      let behind = laid.body in
      let (numbered, spelled, size) = as_guards_laid laid.behind_head behind.behind_guards d.names r.body.guards gs e behind.guards_numbered behind.guards_known in
      record {
        few_pairs = g.0.few_variables (omega arith);
        few_compounds = g.0.few_compounds (omega arith);
        few_goals = behind.few_goals;
        few_guards = omega (arith, size, behind.few_guards);
        behind_head = laid.behind_head;
        behind_guards = behind.behind_guards;
        head_numbered = laid.head_numbered;
        guards_numbered = numbered;
        body_numbered = behind.goals_numbered;
        known = (laid.head_known, behind.goals_known);
        guards_known = spelled;
      }

  clause_laid_is : PieceIs piece known k q (with_guards (k + 1) begins piece r d gs)
  unfolding with_guards the_clause unless_broken PieceIs when◌then◌else◌ fresh
  clause_laid_is = by (all (of_the_head (length d.variables) r.head) gs)
    where
      judged : (o : Option Fault) → PieceIs piece known k q (unless_broken begins o (clause the_clause d.names))
      judged none = record {
        number = few;
        nth = refl;
        names_are = sym (g.0.names ∙ names_at_end s d.names g.1.1);
        laid = the_clause_laid;
        few_names = g.0.few_names;
      }
      judged (some f) = tt

      by : (b : Bool) → PieceIs piece known k q
          (when b then unless_broken begins (least (clause_faults (free gs d.variables) (pairing r.body.behind piece) d.variables)) (clause the_clause d.names)
          else refused (guard_rule begins))
      by true = judged (least (clause_faults (free gs d.variables) (pairing r.body.behind piece) d.variables))
      by false = tt

module _ (known : List Bytes) (k q : ℕ) (begins : ℕ) where
  clause_piece_is : (piece : Tokens) → k < 128 → (x : Read Rule)
      → Good (λ r d s. Onward known [] (fresh known) piece d s × (RuleLaid 0 d r × Ends s)) x → PieceIs piece known k q (clause_piece (k + 1) begins piece x)
  unfolding Good clause_piece unless_unknown PieceIs
  clause_piece_is piece few (malformed place) g = tt
  clause_piece_is piece few passed g = tt
  clause_piece_is piece few (read r d s) g = by (as_guards r.body.guards) refl
    where
      by : (o : Option (List Guard)) → as_guards r.body.guards ≡ o → PieceIs piece known k q (unless_unknown (k + 1) begins piece r d o)
      by none e = tt
      by (some gs) e = clause_laid_is known k q begins piece few r d s gs e g

  query_piece_is : (place : ℕ) (t : Token) (behind : Tokens) → is "?" t ≡ true → q < 8 → (x : Read (List Named))
      → Good (λ gs d s. Onward known [] (fresh known) behind d s × (GoalsLaid 0 8 d gs × Ends s)) x
      → PieceIs (token place t behind) known k q (query_piece begins behind x)
  unfolding Good query_piece unless_broken PieceIs fresh names_after variables_after
  query_piece_is place t behind asks few (malformed p) g = tt
  query_piece_is place t behind asks few passed g = tt
  query_piece_is place t behind asks few (read gs d s) g = by (least (query_faults behind d.variables))
    where
      by : (o : Option Fault) → PieceIs (token place t behind) known k q
          (unless_broken begins o (query (record { goals = gs; variables = d.variables; compounds = d.compounds }) d.names))
      by none = record {
        number = few;
        names_are = sym (ap (names_after behind) (sign_adds "?" t known asks).0 ∙ (g.0.names ∙ names_at_end s d.names g.1.1));
        variables_are = sym (ap (variables_after behind) (sign_adds "?" t [] asks).1 ∙ (g.0.variables ∙ variables_at_end s d.variables g.1.1));
        laid = record {
          few_pairs = g.0.few_variables (omega arith);
          few_compounds = g.0.few_compounds (omega arith);
          few_goals = g.1.0.few;
          numbered = g.1.0.numbered;
          known = g.1.0.known;
        };
        few_names = g.0.few_names;
      }
      by (some f) = tt

-- The item that a piece holds.
module _ (known : List Bytes) (k q : ℕ) where
  clause_from_is : (begins : ℕ) (piece : Tokens) → Cut piece → (b : Bool) → ltb k 128 ≡ b
      → PieceIs piece known k q (when b then clause_piece (k + 1) begins piece (rule (fresh known) piece) else refused (figure begins))
  unfolding when◌then◌else◌ PieceIs fresh
  clause_from_is begins piece cut true h =
      clause_piece_is known k q begins piece (ltb-true k 128 h) (rule (fresh known) piece) ((rule_steps (fresh known) piece).go cut)
  clause_from_is begins piece cut false h = tt

  query_from_is : (begins : ℕ) (t : Token) (behind : Tokens) → is "?" t ≡ true → Cut behind → (b : Bool) → ltb q 8 ≡ b
      → PieceIs (token begins t behind) known k q (when b then query_piece begins behind (goals 8 (fresh known) behind) else refused (figure begins))
  unfolding when◌then◌else◌ PieceIs fresh
  query_from_is begins t behind asks cut true h =
      query_piece_is known k q begins begins t behind asks (ltb-true q 8 h) (goals 8 (fresh known) behind) ((goals_steps 8 (fresh known) behind).go cut)
  query_from_is begins t behind asks cut false h = tt

  pub item_is : (piece : Tokens) → Cut piece → PieceIs piece known k q (item (record { names = known; clauses = k; queries = q }) piece)
  unfolding item item_from clause_from query_from PieceIs Cut Ends when◌then◌else◌
  item_is (ends place) cut = tt
  item_is (token begins t rest) cut = by (is_name t) (is "?" t) refl
    where
      by : (a b : Bool) → is "?" t ≡ b → PieceIs (token begins t rest) known k q
          (when a then clause_from (record { names = known; clauses = k; queries = q }) begins (token begins t rest)
          else when b then query_from (record { names = known; clauses = k; queries = q }) begins rest
          else refused (no_item begins))
      by true b h = clause_from_is begins (token begins t rest) cut (ltb k 128) refl
      by false true h = query_from_is begins t rest h cut.1 (ltb q 8) refl
      by false false h = tt
