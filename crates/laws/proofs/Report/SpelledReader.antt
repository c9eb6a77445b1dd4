-- What every name token and every variable token of a text satisfies, the names and the queries' variables of the job read from it satisfy.
-- One law for each reader: from good tokens and good counts it reads something good and leaves them good.
use Prim.Native.Char.{Char}
use Prim.Native.Nat.{ℕ, zero, suc, ◌+◌}
use mathlib.Core.Path.{◌≡◌, refl}
use mathlib.Core.Bool.{Bool, true, false}
use mathlib.Core.List.{List, [], ◌∷◌, ◌++◌}
use mathlib.Core.Option.{Option, none, some}
use lib.Dec.{ltb, eqb}
use lib.ListN.{length}
use Rattle.meaning.specs.Bytes.{Bytes, byte, same, when◌then◌else◌, any}
use Rattle.meaning.specs.Terms.{Constant, empty, cell, named, Term, Terms, compound, end, more, Named, as_term}
use Rattle.meaning.specs.Tokens.{Token, name, variable, integer, sign, bad, Tokens, ends, token}
use Rattle.meaning.specs.Table.{Element, whole, bare, equals, as_goals}
use Rattle.meaning.specs.Items.{
  Counted,
  Read,
  read,
  malformed,
  passed,
  Reader,
  read_on,
  ◌>>=◌,
  ◌>>◌,
  give,
  cannot_stand,
  passes,
  next,
  is,
  is_name,
  begins_term,
  standing,
  expect,
  either,
  if_next,
  count_name,
  place_of,
  new_variable,
  count_variable,
  count_compound,
  arguments,
  compound_of,
  tail_of,
  elements,
  list_of,
  term_from,
  term,
  goal_from,
  goal,
  goals,
  by_itself,
  equals_behind,
  element_behind,
  Body,
  unguarded,
  here,
  guarded,
  behind_element,
  body,
  Rule,
  rule,
}
use Rattle.laws.proofs.Lists.{Each, each_append}
use Rattle.laws.proofs.Reading.EachToken.{EachToken}
use Rattle.laws.proofs.Report.Spelled.{Spelled, AllSpelled, ConstantSpelled, FunctorSpelled, GoalSpelled}

module _ (N X : Bytes → Type 0) where
  -- Good tokens: names satisfy N, variables satisfy X.
  abbrev pub TokenGood : Token → Type 0
  TokenGood (name f) = N f
  TokenGood (variable h x) = X x
  TokenGood (integer i) = Unit {0}
  TokenGood (sign b) = Unit {0}
  TokenGood bad = Unit {0}

  abbrev pub TokensGood : Tokens → Type 0
  TokensGood s = EachToken TokenGood s

  abbrev pub Good : {A : Type 0} → (A → Type 0) → Read A → Type 0
  Good P (read a counted rest) = P a × Each X counted.variables × TokensGood rest
  Good P (malformed place) = Unit {0}
  Good P passed = Unit {0}

  pub record Reads (A : Type 0) (P : A → Type 0) (r : Reader A) : Type 0 where
    pub from : (counted : Counted) (rest : Tokens) → Each X counted.variables → TokensGood rest → Good P (r counted rest)

  abbrev Any : {A : Type 0} → A → Type 0
  Any a = Unit {0}

  then_reads : {A B : Type 0} {P : A → Type 0} {Q : B → Type 0} {r : Reader A} {f : A → Reader B}
      → Reads A P r → ((a : A) → P a → Reads B Q (f a)) → Reads B Q (r >>= f)
  unfolding ◌>>=◌ read_on
  then_reads {A} {B} {P = P} {Q = Q} {r = r} {f = f} p q =
      record { from = λ counted rest c t. go (r counted rest) (p.from counted rest c t) }
    where
      go : (x : Read A) → Good P x → Good Q (read_on x f)
      go (read a counted rest) g = (q a g.0).from counted rest g.1 g.2
      go (malformed place) g = tt
      go passed g = tt

  behind_reads : {A B : Type 0} {P : A → Type 0} {Q : B → Type 0} {r : Reader A} {s : Reader B}
      → Reads A P r → Reads B Q s → Reads B Q (r >> s)
  unfolding ◌>>◌ read_on
  behind_reads {A} {B} {P = P} {Q = Q} {r = r} {s = s} p q =
      record { from = λ counted rest c t. go (r counted rest) (p.from counted rest c t) }
    where
      go : (x : Read A) → Good P x → Good Q (read_on x (λ a. s))
      go (read a counted rest) g = q.from counted rest g.1 g.2
      go (malformed place) g = tt
      go passed g = tt

  give_reads : {A : Type 0} {P : A → Type 0} (a : A) → P a → Reads A P (give a)
  unfolding give
  give_reads a p = record { from = λ counted rest c t. (p, c, t) }

  cannot_stand_reads : {A : Type 0} {P : A → Type 0} (place : ℕ) → Reads A P (cannot_stand {A = A} place)
  unfolding cannot_stand
  cannot_stand_reads place = record { from = λ counted rest c t. tt }

  passes_reads : {A : Type 0} {P : A → Type 0} → Reads A P (passes {A = A})
  unfolding passes
  passes_reads = record { from = λ counted rest c t. tt }

  if_reads : {A : Type 0} {P : A → Type 0} (b : Bool) {r s : Reader A} → Reads A P r → Reads A P s → Reads A P (when b then r else s)
  unfolding when◌then◌else◌
  if_reads true p q = p
  if_reads false p q = q

  next_reads : {A : Type 0} {P : A → Type 0} {on : ℕ → Token → Reader A}
      → ((place : ℕ) (t : Token) → TokenGood t → Reads A P (on place t)) → Reads A P (next on)
  unfolding next
  next_reads {A} {P} {on} p = record { from = go }
    where
      go : (counted : Counted) (rest : Tokens) → Each X counted.variables → TokensGood rest → Good P (next on counted rest)
      go counted (ends place) c t = tt
      go counted (token place s rest) c t = (p place s t.0).from counted rest c t.1

  if_next_reads : {A : Type 0} {P : A → Type 0} (mark : Char) {r s : Reader A} → Reads A P r → Reads A P s → Reads A P (if_next mark r s)
  unfolding if_next when◌then◌else◌
  if_next_reads {A} {P} mark {r} {s} p q = record { from = go }
    where
      take : (b : Bool) (place : ℕ) (t : Token) (counted : Counted) (rest : Tokens) → Each X counted.variables → TokenGood t → TokensGood rest
          → Good P (when b then r counted rest else s counted (token place t rest))
      take true place t counted rest c g h = p.from counted rest c h
      take false place t counted rest c g h = q.from counted (token place t rest) c (g, h)

      go : (counted : Counted) (rest : Tokens) → Each X counted.variables → TokensGood rest → Good P (if_next mark r s counted rest)
      go counted (ends place) c t = q.from counted (ends place) c t
      go counted (token place u rest) c t = take (is mark u) place u counted rest c t.0 t.1

  standing_reads : (can : Token → Bool) → Reads (Unit {0}) Any (standing can)
  unfolding standing when◌then◌else◌
  standing_reads can = record { from = go }
    where
      stand : (b : Bool) (place : ℕ) (t : Token) (counted : Counted) (rest : Tokens) → Each X counted.variables → TokensGood (token place t rest)
          → Good {A = Unit {0}} Any (when b then read (tt {0}) counted (token place t rest) else malformed place)
      stand true place t counted rest c g = (tt, c, g)
      stand false place t counted rest c g = tt

      go : (counted : Counted) (rest : Tokens) → Each X counted.variables → TokensGood rest → Good Any (standing can counted rest)
      go counted (ends place) c t = tt
      go counted (token place s rest) c t = stand (can s) place s counted rest c t

  expect_reads : (mark : Char) → Reads (Unit {0}) Any (expect mark)
  unfolding expect
  expect_reads mark = next_reads (λ place t g. if_reads (is mark t) (give_reads tt tt) (cannot_stand_reads place))

  either_reads : (first second : Char) → Reads Bool Any (either first second)
  unfolding either
  either_reads first second =
      next_reads (λ place t g.
      if_reads (is first t) (give_reads true tt) (if_reads (is second t) (give_reads false tt) (cannot_stand_reads place)))

  -- Counting: a new variable is a good one.
  count_name_reads : (f : Bytes) → Reads (Unit {0}) Any (count_name f)
  unfolding count_name when◌then◌else◌
  count_name_reads f = record { from = λ counted rest c t. go counted rest c t (any (same f) counted.names) (ltb (length counted.names) 256) }
    where
      go : (counted : Counted) (rest : Tokens) → Each X counted.variables → TokensGood rest → (known few : Bool)
          → Good {A = Unit {0}} Any
          (when known then read (tt {0}) counted rest
          else when few
          then read (tt {0}) (record { names = counted.names ++ (f ∷ []); variables = counted.variables; compounds = counted.compounds }) rest
          else passed)
      go counted rest c t true few = (tt, c, t)
      go counted rest c t false true = (tt, c, t)
      go counted rest c t false false = tt

  new_variable_reads : (x : Bytes) → X x → (place : Option ℕ) → Reads ℕ Any (new_variable x place)
  unfolding new_variable when◌then◌else◌
  new_variable_reads x g (some n) = record { from = λ counted rest c t. (tt, c, t) }
  new_variable_reads x g none = record { from = λ counted rest c t. go counted rest c t (ltb (length counted.variables) 16) }
    where
      go : (counted : Counted) (rest : Tokens) → Each X counted.variables → TokensGood rest → (few : Bool)
          → Good {A = ℕ} Any
          (when few
          then read (length counted.variables)
          (record { names = counted.names; variables = counted.variables ++ (x ∷ []); compounds = counted.compounds }) rest
          else passed)
      go counted rest c t true = (tt, each_append X counted.variables (x ∷ []) c (g, tt), t)
      go counted rest c t false = tt

  count_variable_reads : (x : Bytes) → X x → Reads ℕ Any (count_variable x)
  unfolding count_variable
  count_variable_reads x g = record { from = λ counted rest c t. (new_variable_reads x g (place_of x counted.variables)).from counted rest c t }

  count_compound_reads : Reads ℕ Any count_compound
  unfolding count_compound when◌then◌else◌
  count_compound_reads = record { from = λ counted rest c t. go counted rest c t (ltb counted.compounds 32) }
    where
      go : (counted : Counted) (rest : Tokens) → Each X counted.variables → TokensGood rest → (few : Bool)
          → Good {A = ℕ} Any
          (when few
          then read counted.compounds
          (record { names = counted.names; variables = counted.variables; compounds = counted.compounds + 1 }) rest
          else passed)
      go counted rest c t true = (tt, c, t)
      go counted rest c t false = tt

  -- Terms.
  module _ (argument : Reader Term) (reads : Reads Term (Spelled N) argument) where
    arguments_reads : (left : ℕ) → Reads Terms (AllSpelled N) (arguments argument left)
    unfolding arguments AllSpelled
    arguments_reads zero = behind_reads (standing_reads begins_term) passes_reads
    arguments_reads (suc left) =
        then_reads reads (λ t s.
        then_reads (either_reads "," ")") (λ another u.
        if_reads another (then_reads (arguments_reads left) (λ ts ss. give_reads (more t ts) (s, ss))) (give_reads (more t end) (s, tt))))

    compound_of_reads : (f : Bytes) → N f → Reads Named (GoalSpelled N) (compound_of argument f)
    unfolding compound_of GoalSpelled
    compound_of_reads f g =
        then_reads count_compound_reads (λ n u.
        then_reads (arguments_reads 6) (λ ts ss. give_reads (record { number = n; name = f; arguments = ts }) (g, ss)))

    tail_of_reads : (others : Reader Term) → Reads Term (Spelled N) others → (place : ℕ) (t : Token) → Reads Term (Spelled N) (tail_of argument others place t)
    unfolding tail_of Spelled ConstantSpelled
    tail_of_reads others o place t =
        if_reads (is "," t) o
        (if_reads (is "|" t)
        (then_reads reads (λ tail s. behind_reads (expect_reads "]") (give_reads tail s)))
        (if_reads (is "]" t) (give_reads (Term.constant empty) tt) (cannot_stand_reads place)))

    elements_reads : (left : ℕ) → Reads Term (Spelled N) (elements argument left)
    unfolding elements Spelled AllSpelled FunctorSpelled
    elements_reads zero = behind_reads (standing_reads begins_term) passes_reads
    elements_reads (suc left) =
        behind_reads (standing_reads begins_term)
        (then_reads count_compound_reads (λ n u.
        then_reads reads (λ t s.
        then_reads (next_reads (λ place v g. tail_of_reads (elements argument left) (elements_reads left) place v)) (λ tail ss.
        give_reads (compound n cell (more t (more tail end))) (tt, (s, (ss, tt)))))))

    list_of_reads : Reads Term (Spelled N) (list_of argument)
    unfolding list_of Spelled ConstantSpelled
    list_of_reads = if_next_reads "]" (give_reads (Term.constant empty) tt) (elements_reads 32)

  term_from_reads : (round : Bytes → Reader Term) (square : Reader Term) → ((f : Bytes) → N f → Reads Term (Spelled N) (round f))
      → Reads Term (Spelled N) square → (place : ℕ) (t : Token) → TokenGood t → Reads Term (Spelled N) (term_from round square place t)
  unfolding term_from Spelled ConstantSpelled
  term_from_reads round square r s place (name f) g =
      behind_reads (count_name_reads f) (if_next_reads "(" (r f g) (give_reads (Term.constant (Constant.name f)) g))
  term_from_reads round square r s place (variable h x) g = then_reads (count_variable_reads x g) (λ n u. give_reads (Term.variable h n) tt)
  term_from_reads round square r s place (integer i) g = give_reads (Term.constant (Constant.integer i)) tt
  term_from_reads round square r s place (sign b) g = if_reads (eqb b (byte "[")) s (cannot_stand_reads place)
  term_from_reads round square r s place bad g = cannot_stand_reads place

  term_reads : (left : ℕ) → Reads Term (Spelled N) (term left)
  unfolding term as_term Spelled FunctorSpelled GoalSpelled
  term_reads zero = next_reads (term_from_reads _ _ (λ f g. passes_reads) passes_reads)
  term_reads (suc left) =
      next_reads (term_from_reads _ _
      (λ f g. then_reads (compound_of_reads (term left) (term_reads left) f g) (λ h s. give_reads (as_term h) s))
      (list_of_reads (term left) (term_reads left)))

  -- Goals and items.
  goal_from_reads : (place : ℕ) (t : Token) → TokenGood t → Reads Named (GoalSpelled N) (goal_from place t)
  unfolding goal_from
  goal_from_reads place (name f) g =
      behind_reads (count_name_reads f) (behind_reads (expect_reads "(") (compound_of_reads (term 15) (term_reads 15) f g))
  goal_from_reads place (variable h x) g = cannot_stand_reads place
  goal_from_reads place (integer i) g = cannot_stand_reads place
  goal_from_reads place (sign b) g = cannot_stand_reads place
  goal_from_reads place bad g = cannot_stand_reads place

  goal_reads : Reads Named (GoalSpelled N) goal
  unfolding goal
  goal_reads = next_reads goal_from_reads

  pub goals_reads : (left : ℕ) → Reads (List Named) (Each (GoalSpelled N)) (goals left)
  unfolding goals
  goals_reads zero = behind_reads (standing_reads is_name) passes_reads
  goals_reads (suc left) =
      then_reads goal_reads (λ g s.
      then_reads (either_reads "," ".") (λ another u.
      if_reads another (then_reads (goals_reads left) (λ gs ss. give_reads (g ∷ gs) (s, ss))) (give_reads (g ∷ []) (s, tt))))

  pub record RuleSpelled (r : Rule) : Type 0 where
    pub head : GoalSpelled N r.head
    pub body : Each (GoalSpelled N) r.body.goals

  -- Behind `:-`: what can be a goal is spelled as one.
  abbrev ElementGood : Element → Type 0
  ElementGood (whole g) = GoalSpelled N g
  ElementGood (bare f) = Unit {0}
  ElementGood (equals n t u) = Unit {0}

  abbrev GoalsGood : Option (List Named) → Type 0
  GoalsGood none = Unit {0}
  GoalsGood (some gs) = Each (GoalSpelled N) gs

  as_goals_good : (es : List Element) → Each ElementGood es → GoalsGood (as_goals es)
  unfolding as_goals
  as_goals_good [] h = tt
  as_goals_good (whole g ∷ es) h = go (as_goals es) refl (as_goals_good es h.1)
    where
      go : (o : Option (List Named)) → as_goals es ≡ o → GoalsGood (as_goals es) → GoalsGood (as_goals (whole g ∷ es))
      go none e i = rw (e, as_goals) tt
      go (some gs) e i = rw (e, as_goals) (h.0, rw e at i)
  as_goals_good (bare f ∷ es) h = tt
  as_goals_good (equals n t u ∷ es) h = tt

  abbrev BodyGood : Body → Type 0
  BodyGood b = Each (GoalSpelled N) b.goals

  nothing_stands_reads : {A : Type 0} {P : A → Type 0} → Reads A P (next (λ place t. cannot_stand place))
  nothing_stands_reads = next_reads (λ place t g. cannot_stand_reads place)

  by_itself_reads : (t : Term) → Spelled N t → Reads Element ElementGood (by_itself t)
  unfolding by_itself Spelled FunctorSpelled GoalSpelled
  by_itself_reads (compound n (named f) ts) s = give_reads (whole (record { number = n; name = f; arguments = ts })) s
  by_itself_reads (compound n cell ts) s = nothing_stands_reads
  by_itself_reads (Term.constant (Constant.name f)) s = give_reads (bare f) tt
  by_itself_reads (Term.constant (Constant.integer i)) s = nothing_stands_reads
  by_itself_reads (Term.constant empty) s = nothing_stands_reads
  by_itself_reads (Term.variable h n) s = nothing_stands_reads

  element_behind_reads : Reads Element ElementGood element_behind
  unfolding element_behind equals_behind
  element_behind_reads =
      then_reads (term_reads 16) (λ t s.
      if_next_reads "="
      (then_reads count_compound_reads (λ n u. then_reads (term_reads 16) (λ right ss. give_reads (equals n t right) tt)))
      (by_itself_reads t s))

  guarded_reads : (es : List Element) → Reads Body BodyGood (guarded es)
  unfolding guarded here
  guarded_reads es =
      then_reads {P = Any} (record { from = λ counted rest c t. (tt, c, t) }) (λ behind u.
      then_reads {P = Each (GoalSpelled N)} (if_next_reads "." (give_reads [] tt) (goals_reads 8)) (λ gs ss.
      give_reads (record { guards = es; goals = gs; behind = some behind }) ss))

  unguarded_reads : (place : ℕ) (o : Option (List Named)) → GoalsGood o → Reads Body BodyGood (unguarded place o)
  unfolding unguarded
  unguarded_reads place none h = cannot_stand_reads place
  unguarded_reads place (some gs) h = give_reads (record { guards = []; goals = gs; behind = none }) h

  body_reads : (left : ℕ) (before : List Element) → Each ElementGood before → Reads Body BodyGood (body left before)
  unfolding body behind_element
  body_reads zero before h = behind_reads (standing_reads begins_term) passes_reads
  body_reads (suc left) before h =
      then_reads element_behind_reads (λ e s.
      let hs = each_append ElementGood before (e ∷ []) h (s, tt) in
      next_reads (λ place t g.
      if_reads (is "," t) (body_reads left (before ++ (e ∷ [])) hs)
      (if_reads (is "|" t) (guarded_reads (before ++ (e ∷ [])))
      (if_reads (is "." t) (unguarded_reads place (as_goals (before ++ (e ∷ []))) (as_goals_good (before ++ (e ∷ [])) hs)) (cannot_stand_reads place)))))

  pub rule_reads : Reads Rule RuleSpelled rule
  unfolding rule
  rule_reads =
      then_reads goal_reads (λ head s.
      then_reads (either_reads ":" ".") (λ implied u.
      then_reads {P = BodyGood} (if_reads implied (body_reads 8 [] tt) (give_reads (record { guards = []; goals = []; behind = none }) tt)) (λ behind ss.
      give_reads (record { head = head; body = behind }) (record { head = s; body = ss }))))
