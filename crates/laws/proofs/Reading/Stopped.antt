-- Where a reader stops: at the place of one of its tokens, or at their end; and it reads on behind some of them.
-- Each law is put together like the reader itself.
use Prim.Native.Char.{Char}
use Prim.Native.Nat.{ℕ, zero, suc, ◌+◌}
use mathlib.Core.Path.{◌≡◌, refl}
use mathlib.Core.Logic.{◌⊎◌, inl, inr}
use mathlib.Core.Bool.{Bool, true, false}
use mathlib.Core.List.{List, [], ◌∷◌, ◌++◌}
use mathlib.Core.Option.{Option, none, some}
use lib.Dec.{ltb, eqb}
use lib.ListN.{length}
use Rattle.meaning.specs.Bytes.{Bytes, byte, when◌then◌else◌, same, any}
use Rattle.meaning.specs.Terms.{Constant, empty, cell, named, Term, compound, end, more, Named, as_term}
use Rattle.meaning.specs.Tokens.{Token, name, variable, integer, sign, bad, Tokens, ends, token}
use Rattle.meaning.specs.Table.{Element, whole, bare, equals, as_goals}
use Rattle.meaning.specs.Items.{
  Counted,
  Read,
  read,
  malformed,
  passed,
  Reader,
  read_on,
  ◌>>=◌,
  ◌>>◌,
  give,
  cannot_stand,
  passes,
  next,
  is,
  is_name,
  begins_term,
  standing,
  expect,
  either,
  if_next,
  count_name,
  place_of,
  new_variable,
  count_variable,
  count_compound,
  arguments,
  compound_of,
  tail_of,
  elements,
  list_of,
  term_from,
  term,
  goal_from,
  goal,
  goals,
  by_itself,
  equals_behind,
  element_behind,
  unguarded,
  here,
  guarded,
  behind_element,
  body,
  rule,
}

-- A place of some tokens, or of their end.
unfoldable pub At : ℕ → Tokens → Type 0
At p (ends place) = p ≡ place
At p (token place t rest) = (p ≡ place) ⊎ At p rest

-- A reader stops at a place of its tokens, and the places that it leaves are some of theirs.
abbrev From : {A : Type 0} → (ℕ → Type 0) → Read A → Type 0
From here_at (read a d rest) = (p : ℕ) → At p rest → here_at p
From here_at (malformed place) = here_at place
From here_at passed = Unit {0}

pub record Stops {A : Type 0} (r : Reader A) : Type 0 where
  pub from : (c : Counted) (s : Tokens) → From (λ p. At p s) (r c s)

-- The same behind a token at this place.
pub record StopsBehind {A : Type 0} (place : ℕ) (r : Reader A) : Type 0 where
  pub from : (c : Counted) (s : Tokens) → From (λ p. (p ≡ place) ⊎ At p s) (r c s)

wider : {A : Type 0} (P Q : ℕ → Type 0) → ((p : ℕ) → P p → Q p) → (x : Read A) → From P x → From Q x
wider P Q f (read a d rest) h = λ p m. f p (h p m)
wider P Q f (malformed place) h = f place h
wider P Q f passed h = tt

module _ {A : Type 0} where
  give_stops : (a : A) → Stops (give a)
  unfolding give
  give_stops a = record { from = λ c s p m. m }

  passes_stops : Stops {A = A} passes
  unfolding passes
  passes_stops = record { from = λ c s. tt }

  cannot_stand_stops : (place : ℕ) → StopsBehind {A = A} place (cannot_stand place)
  unfolding cannot_stand
  cannot_stand_stops place = record { from = λ c s. inl refl }

  behind_token : (place : ℕ) {r : Reader A} → Stops r → StopsBehind place r
  behind_token place {r} h = record { from = λ c s. wider (λ p. At p s) (λ p. (p ≡ place) ⊎ At p s) (λ p m. inr m) (r c s) (h.from c s) }

  if_stops : (test : Bool) {r₁ r₂ : Reader A} → Stops r₁ → Stops r₂ → Stops (when test then r₁ else r₂)
  unfolding when◌then◌else◌
  if_stops true first second = first
  if_stops false first second = second

  if_stops_behind : (place : ℕ) (test : Bool) {r₁ r₂ : Reader A} → StopsBehind place r₁ → StopsBehind place r₂ → StopsBehind place (when test then r₁ else r₂)
  unfolding when◌then◌else◌
  if_stops_behind place true first second = first
  if_stops_behind place false first second = second

  next_stops : {on : ℕ → Token → Reader A} → ((place : ℕ) (t : Token) → StopsBehind place (on place t)) → Stops (next on)
  unfolding next At
  next_stops {on} h = record { from = go }
    where
      go : (c : Counted) (s : Tokens) → From (λ p. At p s) (next on c s)
      go c (ends place) = refl
      go c (token place t s) = (h place t).from c s

  if_next_stops : (first_sign : Char) {r₁ r₂ : Reader A} → Stops r₁ → Stops r₂ → Stops (if_next first_sign r₁ r₂)
  unfolding if_next At when◌then◌else◌
  if_next_stops first_sign {r₁} {r₂} first second = record { from = go }
    where
      go : (c : Counted) (s : Tokens) → From (λ p. At p s) (if_next first_sign r₁ r₂ c s)
      go c (ends place) = second.from c (ends place)
      go c (token place t s) = by (is first_sign t)
        where
          by : (b : Bool) → From (λ p. At p (token place t s)) (when b then r₁ c s else r₂ c (token place t s))
          by true = (behind_token place first).from c s
          by false = second.from c (token place t s)

module _ {A B : Type 0} where
  read_on_from : (P : ℕ → Type 0) (k : A → Reader B) → ((a : A) → Stops (k a)) → (x : Read A) → From P x → From P (read_on x k)
  unfolding read_on
  read_on_from P k h (read a d rest) m = wider (λ p. At p rest) P m (k a d rest) ((h a).from d rest)
  read_on_from P k h (malformed place) m = m
  read_on_from P k h passed m = tt

  then_stops : {r : Reader A} {k : A → Reader B} → Stops r → ((a : A) → Stops (k a)) → Stops (r >>= k)
  unfolding ◌>>=◌
  then_stops {r} {k} first on = record { from = λ c s. read_on_from (λ p. At p s) k on (r c s) (first.from c s) }

  behind_stops : {r : Reader A} {q : Reader B} → Stops r → Stops q → Stops (r >> q)
  unfolding ◌>>◌
  behind_stops {r} {q} first on = record { from = λ c s. read_on_from (λ p. At p s) (λ a. q) (λ a. on) (r c s) (first.from c s) }

standing_stops : (can : Token → Bool) → Stops (standing can)
unfolding standing At when◌then◌else◌
standing_stops can = record { from = go }
  where
    go : (c : Counted) (s : Tokens) → From (λ p. At p s) (standing can c s)
    go c (ends place) = refl
    go c (token place t s) = by (can t)
      where
        by : (b : Bool) → From (λ p. At p (token place t s)) (when b then read (tt {0}) c (token place t s) else malformed place)
        by true = λ p m. m
        by false = inl refl

count_name_stops : (f : Bytes) → Stops (count_name f)
unfolding count_name when◌then◌else◌
count_name_stops f = record { from = λ c s. by (any (same f) c.names) (ltb (length c.names) 256) c s }
  where
    by : (there room : Bool) (c : Counted) (s : Tokens)
        → From (λ p. At p s) (when there then read (tt {0}) c s else when room then read tt (record { names = c.names ++ (f ∷ []); variables = c.variables; compounds = c.compounds }) s else passed)
    by true room c s = λ p m. m
    by false true c s = λ p m. m
    by false false c s = tt

count_compound_stops : Stops count_compound
unfolding count_compound when◌then◌else◌
count_compound_stops = record { from = λ c s. by (ltb c.compounds 32) c s }
  where
    by : (room : Bool) (c : Counted) (s : Tokens)
        → From (λ p. At p s) (when room then read c.compounds (record { names = c.names; variables = c.variables; compounds = c.compounds + 1 }) s else passed)
    by true c s = λ p m. m
    by false c s = tt

count_variable_stops : (x : Bytes) → Stops (count_variable x)
unfolding count_variable new_variable when◌then◌else◌
count_variable_stops x = record { from = λ c s. by (place_of x c.variables) c s }
  where
    room_or_not : (room : Bool) (c : Counted) (s : Tokens)
        → From (λ p. At p s) (when room then read (length c.variables) (record { names = c.names; variables = c.variables ++ (x ∷ []); compounds = c.compounds }) s else passed)
    room_or_not true c s = λ p m. m
    room_or_not false c s = tt

    by : (o : Option ℕ) (c : Counted) (s : Tokens) → From (λ p. At p s) (new_variable x o c s)
    by (some n) c s = λ p m. m
    by none c s = room_or_not (ltb (length c.variables) 16) c s

expect_stops : (c : Char) → Stops (expect c)
unfolding expect
expect_stops c = next_stops (λ place t. if_stops_behind place (is c t) (behind_token place (give_stops tt)) (cannot_stand_stops place))

either_stops : (c d : Char) → Stops (either c d)
unfolding either
either_stops c d =
    next_stops (λ place t. if_stops_behind place (is c t) (behind_token place (give_stops true))
    (if_stops_behind place (is d t) (behind_token place (give_stops false)) (cannot_stand_stops place)))

module _ (argument : Reader Term) (stops : Stops argument) where
  arguments_stop : (left : ℕ) → Stops (arguments argument left)
  unfolding arguments
  arguments_stop zero = behind_stops (standing_stops begins_term) passes_stops
  arguments_stop (suc left) =
      then_stops stops (λ t. then_stops (either_stops "," ")") (λ another.
      if_stops another (then_stops (arguments_stop left) (λ ts. give_stops (more t ts))) (give_stops (more t end))))

  compound_of_stops : (f : Bytes) → Stops (compound_of argument f)
  unfolding compound_of
  compound_of_stops f =
      then_stops count_compound_stops (λ n. then_stops (arguments_stop 6) (λ ts. give_stops (record { number = n; name = f; arguments = ts })))

  tail_of_stops : (elements : Reader Term) → Stops elements → (place : ℕ) (t : Token) → StopsBehind place (tail_of argument elements place t)
  unfolding tail_of
  tail_of_stops elements others place t =
      if_stops_behind place (is "," t) (behind_token place others)
      (if_stops_behind place (is "|" t) (behind_token place (then_stops stops (λ tail. behind_stops (expect_stops "]") (give_stops tail))))
      (if_stops_behind place (is "]" t) (behind_token place (give_stops (Term.constant empty))) (cannot_stand_stops place)))

  elements_stop : (left : ℕ) → Stops (elements argument left)
  unfolding elements
  elements_stop zero = behind_stops (standing_stops begins_term) passes_stops
  elements_stop (suc left) =
      behind_stops (standing_stops begins_term) (then_stops count_compound_stops (λ n. then_stops stops (λ t.
      then_stops (next_stops (λ place s. tail_of_stops (elements argument left) (elements_stop left) place s)) (λ tail.
      give_stops (compound n cell (more t (more tail end)))))))

  list_of_stops : Stops (list_of argument)
  unfolding list_of
  list_of_stops = if_next_stops "]" (give_stops (Term.constant empty)) (elements_stop 32)

module _ (round : Bytes → Reader Term) (square : Reader Term) (rounds : (f : Bytes) → Stops (round f)) (squares : Stops square) where
  term_from_stops : (place : ℕ) (t : Token) → StopsBehind place (term_from round square place t)
  unfolding term_from
  term_from_stops place (name f) =
      behind_token place (behind_stops (count_name_stops f) (if_next_stops "(" (rounds f) (give_stops (Term.constant (Constant.name f)))))
  term_from_stops place (variable h x) = behind_token place (then_stops (count_variable_stops x) (λ n. give_stops (Term.variable h n)))
  term_from_stops place (integer i) = behind_token place (give_stops (Term.constant (Constant.integer i)))
  term_from_stops place (sign b) = if_stops_behind place (eqb b (byte "[")) (behind_token place squares) (cannot_stand_stops place)
  term_from_stops place bad = cannot_stand_stops place

term_stops : (left : ℕ) → Stops (term left)
unfolding term
term_stops zero = next_stops (λ place t. term_from_stops (λ f. passes) passes (λ f. passes_stops) passes_stops place t)
term_stops (suc left) =
    next_stops (λ place t.
    term_from_stops (λ f. compound_of (term left) f >>= λ g. give (as_term g)) (list_of (term left))
    (λ f. then_stops (compound_of_stops (term left) (term_stops left) f) (λ g. give_stops (as_term g)))
    (list_of_stops (term left) (term_stops left)) place t)

goal_from_stops : (place : ℕ) (t : Token) → StopsBehind place (goal_from place t)
unfolding goal_from
goal_from_stops place (name f) =
    behind_token place (behind_stops (count_name_stops f) (behind_stops (expect_stops "(") (compound_of_stops (term 15) (term_stops 15) f)))
goal_from_stops place (variable h x) = cannot_stand_stops place
goal_from_stops place (integer i) = cannot_stand_stops place
goal_from_stops place (sign b) = cannot_stand_stops place
goal_from_stops place bad = cannot_stand_stops place

goal_stops : Stops goal
unfolding goal
goal_stops = next_stops goal_from_stops

pub goals_stop : (left : ℕ) → Stops (goals left)
unfolding goals
goals_stop zero = behind_stops (standing_stops is_name) passes_stops
goals_stop (suc left) =
    then_stops goal_stops (λ g. then_stops (either_stops "," ".") (λ another.
    if_stops another (then_stops (goals_stop left) (λ gs. give_stops (g ∷ gs))) (give_stops (g ∷ []))))

-- What stands behind a clause's `:-`.
nothing_stands_stops : {A : Type 0} → Stops {A = A} (next (λ place t. cannot_stand place))
nothing_stands_stops = next_stops (λ place t. cannot_stand_stops place)

by_itself_stops : (t : Term) → Stops (by_itself t)
unfolding by_itself
by_itself_stops (compound n (named f) ts) = give_stops (whole (record { number = n; name = f; arguments = ts }))
by_itself_stops (compound n cell ts) = nothing_stands_stops
by_itself_stops (Term.constant (Constant.name f)) = give_stops (bare f)
by_itself_stops (Term.constant (Constant.integer i)) = nothing_stands_stops
by_itself_stops (Term.constant empty) = nothing_stands_stops
by_itself_stops (Term.variable h n) = nothing_stands_stops

element_behind_stops : Stops element_behind
unfolding element_behind equals_behind
element_behind_stops =
    then_stops (term_stops 16) (λ t.
    if_next_stops "=" (then_stops count_compound_stops (λ n. then_stops (term_stops 16) (λ right. give_stops (equals n t right)))) (by_itself_stops t))

guarded_stops : (es : List Element) → Stops (guarded es)
unfolding guarded here
guarded_stops es =
    then_stops (record { from = λ c s p m. m }) (λ behind.
    then_stops (if_next_stops "." (give_stops []) (goals_stop 8)) (λ gs. give_stops (record { guards = es; goals = gs; behind = some behind })))

unguarded_stops : (place : ℕ) (o : Option (List Named)) → StopsBehind place (unguarded place o)
unfolding unguarded
unguarded_stops place none = cannot_stand_stops place
unguarded_stops place (some gs) = behind_token place (give_stops (record { guards = []; goals = gs; behind = none }))

body_stops : (left : ℕ) (before : List Element) → Stops (body left before)
unfolding body behind_element
body_stops zero before = behind_stops (standing_stops begins_term) passes_stops
body_stops (suc left) before =
    then_stops element_behind_stops (λ e. next_stops (λ place t.
    if_stops_behind place (is "," t) (behind_token place (body_stops left (before ++ (e ∷ []))))
    (if_stops_behind place (is "|" t) (behind_token place (guarded_stops (before ++ (e ∷ []))))
    (if_stops_behind place (is "." t) (unguarded_stops place (as_goals (before ++ (e ∷ [])))) (cannot_stand_stops place)))))

pub rule_stops : Stops rule
unfolding rule
rule_stops =
    then_stops goal_stops (λ head. then_stops (either_stops ":" ".") (λ implied.
    then_stops (if_stops implied (body_stops 8 []) (give_stops (record { guards = []; goals = []; behind = none }))) (λ b. give_stops (record { head = head; body = b }))))
