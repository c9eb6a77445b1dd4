-- What a reader has read has no bad token: by one law for each combinator. So the walk over an item that was read meets none.
use Prim.Native.Char.{Char}
use Prim.Native.Nat.{ℕ, zero, suc}
use mathlib.Core.Path.{◌≡◌, refl}
use mathlib.Core.Bool.{Bool, true, false}
use mathlib.Core.Logic.{inl, inr}
use mathlib.Core.List.{List, [], ◌∷◌, ◌++◌}
use mathlib.Core.Option.{Option, none, some}
use native.Mathlib.Omega.{arith}
use lib.Dec.{ltb, eqb}
use lib.ListN.{length}
use Rattle.meaning.specs.Bytes.{Bytes, byte, same, any, when◌then◌else◌}
use Rattle.meaning.specs.Terms.{Half, writer, reader, same_half, Constant, empty, Term, cell, named, compound, end, more, Named, as_term}
use Rattle.meaning.specs.Tokens.{Token, name, variable, integer, sign, bad, Tokens, ends, token}
use Rattle.meaning.specs.Table.{Element, whole, bare, equals, as_goals}
use Rattle.meaning.specs.Faults.{is_half, occurs_at}
use Rattle.meaning.specs.Items.{
  Counted,
  Read,
  read,
  malformed,
  passed,
  Reader,
  read_on,
  ◌>>=◌,
  ◌>>◌,
  give,
  cannot_stand,
  passes,
  next,
  is,
  is_name,
  begins_term,
  standing,
  expect,
  either,
  if_next,
  count_name,
  place_of,
  new_variable,
  count_variable,
  count_compound,
  arguments,
  compound_of,
  tail_of,
  elements,
  list_of,
  term_from,
  term,
  goal_from,
  goal,
  goals,
  by_itself,
  equals_behind,
  element_behind,
  Body,
  unguarded,
  here,
  guarded,
  behind_element,
  body,
  Rule,
  rule,
}
use Rattle.laws.proofs.Lists.Tests.{false_not_true, same_refl}
use Rattle.laws.proofs.Reading.Rising.{StandsAt}
use Rattle.load_faults.specs.Finding.{Passable, Walkable}

unfoldable pub Good : Token → Type 0
Good (name f) = Unit {0}
Good (variable h x) = Unit {0}
Good (integer i) = Unit {0}
Good (sign b) = Unit {0}
Good bad = ⊥

unfoldable pub Sound : Tokens → Type 0
Sound (ends place) = Unit {0}
Sound (token place t rest) = Good t × Sound rest

-- What was read from these tokens is sound if what is left is.
unfoldable Fits : {A : Type 0} → Tokens → Read A → Type 0
Fits s (read a d rest) = Sound rest → Sound s
Fits s (malformed place) = Unit {0}
Fits s passed = Unit {0}

record Keeps {A : Type 0} (r : Reader A) : Type 0 where
  keep : (c : Counted) (s : Tokens) → Fits s (r c s)

record KeepsBehind {A : Type 0} (t : Token) (r : Reader A) : Type 0 where
  keep : (place : ℕ) (c : Counted) (s : Tokens) → Fits (token place t s) (r c s)

weaken : {A : Type 0} (m s : Tokens) (x : Read A) → (Sound m → Sound s) → Fits m x → Fits s x
unfolding Fits
weaken m s (read a d rest) g h = λ k. g (h k)
weaken m s (malformed place) g h = tt
weaken m s passed g h = tt

if_fits : {A : Type 0} (s : Tokens) (b : Bool) (x y : Read A) → Fits s x → Fits s y → Fits s (when b then x else y)
unfolding when◌then◌else◌
if_fits s true x y h k = h
if_fits s false x y h k = k

module _ {A : Type 0} where
  give_keeps : (a : A) → Keeps (give a)
  unfolding give Fits
  give_keeps a = record { keep = λ c s h. h }

  cannot_keeps : (place : ℕ) → Keeps {A = A} (cannot_stand place)
  unfolding cannot_stand Fits
  cannot_keeps place = record { keep = λ c s. tt }

  cannot_behind : (place : ℕ) (t : Token) → KeepsBehind {A = A} t (cannot_stand place)
  unfolding cannot_stand Fits
  cannot_behind place t = record { keep = λ p c s. tt }

  passes_keeps : Keeps {A = A} passes
  unfolding passes Fits
  passes_keeps = record { keep = λ c s. tt }

  if_keeps : (b : Bool) {r q : Reader A} → Keeps r → Keeps q → Keeps (when b then r else q)
  unfolding when◌then◌else◌
  if_keeps true h k = h
  if_keeps false h k = k

  if_behind : (b : Bool) (t : Token) {r q : Reader A} → (b ≡ true → KeepsBehind t r) → (b ≡ false → KeepsBehind t q) → KeepsBehind t (when b then r else q)
  unfolding when◌then◌else◌
  if_behind true t h k = h refl
  if_behind false t h k = k refl

  behind : (t : Token) → Good t → {r : Reader A} → Keeps r → KeepsBehind t r
  unfolding Sound
  behind t g {r} h = record { keep = λ place c s. weaken s (token place t s) (r c s) (λ k. (g, k)) (h.keep c s) }

  next_keeps : {on : ℕ → Token → Reader A} → ((place : ℕ) (t : Token) → KeepsBehind t (on place t)) → Keeps (next on)
  unfolding next Fits
  next_keeps {on} h = record { keep = go }
    where
      go : (c : Counted) (s : Tokens) → Fits s (next on c s)
      go c (ends place) = tt
      go c (token place t s) = (h place t).keep place c s

  if_next_keeps : (c : Char) {r q : Reader A} → ((t : Token) → is c t ≡ true → KeepsBehind t r) → Keeps q → Keeps (if_next c r q)
  unfolding if_next when◌then◌else◌
  if_next_keeps c {r} {q} h k = record { keep = go }
    where
      go : (d : Counted) (s : Tokens) → Fits s (if_next c r q d s)
      go d (ends place) = k.keep d (ends place)
      go d (token place t s) = by (is c t) refl
        where
          by : (b : Bool) → is c t ≡ b → Fits (token place t s) (if_next c r q d (token place t s))
          by true e = rw e ((h t e).keep place d s)
          by false e = rw e (k.keep d (token place t s))

module _ {A B : Type 0} where
  on_fits : (k : A → Reader B) → ((a : A) → Keeps (k a)) → (s : Tokens) (x : Read A) → Fits s x → Fits s (read_on x k)
  unfolding read_on Fits
  on_fits k h s (read a d m) g = weaken m s (k a d m) g ((h a).keep d m)
  on_fits k h s (malformed place) g = tt
  on_fits k h s passed g = tt

  then_keeps : {r : Reader A} {k : A → Reader B} → Keeps r → ((a : A) → Keeps (k a)) → Keeps (r >>= k)
  unfolding ◌>>=◌
  then_keeps {r} {k} h g = record { keep = λ c s. on_fits k g s (r c s) (h.keep c s) }

  and_keeps : {r : Reader A} {q : Reader B} → Keeps r → Keeps q → Keeps (r >> q)
  unfolding ◌>>◌
  and_keeps {r} {q} h g = record { keep = λ c s. on_fits (λ a. q) (λ a. g) s (r c s) (h.keep c s) }

standing_keeps : (can : Token → Bool) → Keeps (standing can)
unfolding standing Fits
standing_keeps can = record { keep = go }
  where
    go : (c : Counted) (s : Tokens) → Fits s (standing can c s)
    go c (ends place) = tt
    go c (token place t s) = if_fits (token place t s) (can t) (read tt c (token place t s)) (malformed place) (λ h. h) tt

count_name_keeps : (f : Bytes) → Keeps (count_name f)
unfolding count_name Fits
count_name_keeps f =
    record { keep = λ c s. if_fits s (any (same f) c.names) (read tt c s) _ (λ h. h) (if_fits s (ltb (length c.names) 256) (read tt _ s) passed (λ h. h) tt) }

count_compound_keeps : Keeps count_compound
unfolding count_compound Fits
count_compound_keeps = record { keep = λ c s. if_fits s (ltb c.compounds 32) (read c.compounds _ s) passed (λ h. h) tt }

new_variable_fits : (x : Bytes) (c : Counted) (s : Tokens) (o : Option ℕ) → Fits s (new_variable x o c s)
unfolding new_variable Fits
new_variable_fits x c s (some n) = λ h. h
new_variable_fits x c s none = if_fits s (ltb (length c.variables) 16) (read (length c.variables) _ s) passed (λ h. h) tt

count_variable_keeps : (x : Bytes) → Keeps (count_variable x)
unfolding count_variable
count_variable_keeps x = record { keep = λ c s. new_variable_fits x c s (place_of x c.variables) }

-- A sign is good.
sign_good : (c : Char) (t : Token) → is c t ≡ true → Good t
unfolding is Good
sign_good c (name f) e = tt
sign_good c (variable h x) e = tt
sign_good c (integer i) e = tt
sign_good c (sign b) e = tt
sign_good c bad e = false_not_true false refl e

expect_keeps : (c : Char) → Keeps (expect c)
unfolding expect
expect_keeps c = next_keeps (λ place t. if_behind (is c t) t (λ e. behind t (sign_good c t e) (give_keeps tt)) (λ e. cannot_behind place t))

either_keeps : (c d : Char) → Keeps (either c d)
unfolding either
either_keeps c d =
    next_keeps (λ place t. if_behind (is c t) t (λ e. behind t (sign_good c t e) (give_keeps true))
    (λ e. if_behind (is d t) t (λ e. behind t (sign_good d t e) (give_keeps false)) (λ e. cannot_behind place t)))

module _ (argument : Reader Term) (keeps : Keeps argument) where
  arguments_keeps : (left : ℕ) → Keeps (arguments argument left)
  unfolding arguments
  arguments_keeps zero = and_keeps (standing_keeps begins_term) passes_keeps
  arguments_keeps (suc left) =
      then_keeps keeps (λ t. then_keeps (either_keeps "," ")") (λ another.
      if_keeps another (then_keeps (arguments_keeps left) (λ ts. give_keeps (more t ts))) (give_keeps (more t end))))

  compound_of_keeps : (f : Bytes) → Keeps (compound_of argument f)
  unfolding compound_of
  compound_of_keeps f = then_keeps count_compound_keeps (λ n. then_keeps (arguments_keeps 6) (λ ts. give_keeps (record { number = n; name = f; arguments = ts })))

  tail_of_keeps : (elements : Reader Term) → Keeps elements → (place : ℕ) (t : Token) → KeepsBehind t (tail_of argument elements place t)
  unfolding tail_of
  tail_of_keeps elements others place t =
      if_behind (is "," t) t (λ e. behind t (sign_good "," t e) others)
      (λ e. if_behind (is "|" t) t
      (λ e. behind t (sign_good "|" t e) (then_keeps keeps (λ tail. and_keeps (expect_keeps "]") (give_keeps tail))))
      (λ e. if_behind (is "]" t) t (λ e. behind t (sign_good "]" t e) (give_keeps (Term.constant empty))) (λ e. cannot_behind place t)))

  elements_keeps : (left : ℕ) → Keeps (elements argument left)
  unfolding elements
  elements_keeps zero = and_keeps (standing_keeps begins_term) passes_keeps
  elements_keeps (suc left) =
      and_keeps (standing_keeps begins_term) (then_keeps count_compound_keeps (λ n. then_keeps keeps (λ t.
      then_keeps (next_keeps (λ place s. tail_of_keeps (elements argument left) (elements_keeps left) place s)) (λ tail.
      give_keeps (compound n cell (more t (more tail end)))))))

  list_of_keeps : Keeps (list_of argument)
  unfolding list_of
  list_of_keeps = if_next_keeps "]" (λ t e. behind t (sign_good "]" t e) (give_keeps (Term.constant empty))) (elements_keeps 32)

module _ (round : Bytes → Reader Term) (square : Reader Term) (rounds : (f : Bytes) → Keeps (round f)) (squares : Keeps square) where
  term_from_keeps : (place : ℕ) (t : Token) → KeepsBehind t (term_from round square place t)
  unfolding term_from Good
  term_from_keeps place (name f) =
      behind (name f) tt (and_keeps (count_name_keeps f)
      (if_next_keeps "(" (λ t e. behind t (sign_good "(" t e) (rounds f)) (give_keeps (Term.constant (Constant.name f)))))
  term_from_keeps place (variable h x) = behind (variable h x) tt (then_keeps (count_variable_keeps x) (λ n. give_keeps (Term.variable h n)))
  term_from_keeps place (integer i) = behind (integer i) tt (give_keeps (Term.constant (Constant.integer i)))
  term_from_keeps place (sign b) = behind (sign b) tt (if_keeps (eqb b (byte "[")) squares (cannot_keeps place))
  term_from_keeps place bad = cannot_behind place bad

term_keeps : (left : ℕ) → Keeps (term left)
unfolding term
term_keeps zero = next_keeps (λ place t. term_from_keeps (λ f. passes) passes (λ f. passes_keeps) passes_keeps place t)
term_keeps (suc left) =
    next_keeps (λ place t. term_from_keeps (λ f. compound_of (term left) f >>= λ g. give (as_term g)) (list_of (term left))
    (λ f. then_keeps (compound_of_keeps (term left) (term_keeps left) f) (λ g. give_keeps (as_term g)))
    (list_of_keeps (term left) (term_keeps left)) place t)

goal_from_keeps : (place : ℕ) (t : Token) → KeepsBehind t (goal_from place t)
unfolding goal_from Good
goal_from_keeps place (name f) =
    behind (name f) tt (and_keeps (count_name_keeps f) (and_keeps (expect_keeps "(") (compound_of_keeps (term 15) (term_keeps 15) f)))
goal_from_keeps place (variable h x) = cannot_behind place (variable h x)
goal_from_keeps place (integer i) = cannot_behind place (integer i)
goal_from_keeps place (sign b) = cannot_behind place (sign b)
goal_from_keeps place bad = cannot_behind place bad

goal_keeps : Keeps goal
unfolding goal
goal_keeps = next_keeps goal_from_keeps

goals_keeps : (left : ℕ) → Keeps (goals left)
unfolding goals
goals_keeps zero = and_keeps (standing_keeps is_name) passes_keeps
goals_keeps (suc left) =
    then_keeps goal_keeps (λ g. then_keeps (either_keeps "," ".") (λ another.
    if_keeps another (then_keeps (goals_keeps left) (λ gs. give_keeps (g ∷ gs))) (give_keeps (g ∷ []))))

by_itself_keeps : (t : Term) → Keeps (by_itself t)
unfolding by_itself
by_itself_keeps (compound n (named f) ts) = give_keeps (whole (record { number = n; name = f; arguments = ts }))
by_itself_keeps (compound n cell ts) = next_keeps (λ place t. cannot_behind place t)
by_itself_keeps (Term.constant (Constant.name f)) = give_keeps (bare f)
by_itself_keeps (Term.constant (Constant.integer i)) = next_keeps (λ place t. cannot_behind place t)
by_itself_keeps (Term.constant empty) = next_keeps (λ place t. cannot_behind place t)
by_itself_keeps (Term.variable h n) = next_keeps (λ place t. cannot_behind place t)

equals_behind_keeps : (left : Term) → Keeps (equals_behind left)
unfolding equals_behind
equals_behind_keeps left = then_keeps count_compound_keeps (λ n. then_keeps (term_keeps 16) (λ right. give_keeps (equals n left right)))

element_behind_keeps : Keeps element_behind
unfolding element_behind
element_behind_keeps =
    then_keeps (term_keeps 16) (λ t. if_next_keeps "=" (λ s e. behind s (sign_good "=" s e) (equals_behind_keeps t)) (by_itself_keeps t))

unguarded_keeps : (place : ℕ) (gs : Option (List Named)) → Keeps (unguarded place gs)
unfolding unguarded
unguarded_keeps place none = cannot_keeps place
unguarded_keeps place (some gs) = give_keeps (record { guards = []; goals = gs; behind = none })

here_keeps : Keeps here
unfolding here Fits
here_keeps = record { keep = λ c s h. h }

guarded_keeps : (es : List Element) → Keeps (guarded es)
unfolding guarded
guarded_keeps es =
    then_keeps here_keeps (λ after. then_keeps (if_next_keeps "." (λ t e. behind t (sign_good "." t e) (give_keeps [])) (goals_keeps 8))
    (λ gs. give_keeps (record { guards = es; goals = gs; behind = some after })))

behind_element_keeps : (further : List Element → Reader Body) → ((es : List Element) → Keeps (further es)) → (es : List Element) (place : ℕ) (t : Token)
    → KeepsBehind t (behind_element further es place t)
unfolding behind_element
behind_element_keeps further keeps es place t =
    if_behind (is "," t) t (λ e. behind t (sign_good "," t e) (keeps es))
    (λ e. if_behind (is "|" t) t (λ e. behind t (sign_good "|" t e) (guarded_keeps es))
    (λ e. if_behind (is "." t) t (λ e. behind t (sign_good "." t e) (unguarded_keeps place (as_goals es))) (λ e. cannot_behind place t)))

body_keeps : (left : ℕ) (before : List Element) → Keeps (body left before)
unfolding body
body_keeps zero before = and_keeps (standing_keeps begins_term) passes_keeps
body_keeps (suc left) before =
    then_keeps element_behind_keeps (λ e. next_keeps (λ place t. behind_element_keeps (body left) (body_keeps left) (before ++ (e ∷ [])) place t))

rule_keeps : Keeps rule
unfolding rule
rule_keeps =
    then_keeps goal_keeps (λ head. then_keeps (either_keeps ":" ".") (λ implied.
    then_keeps (if_keeps implied (body_keeps 8 []) (give_keeps (record { guards = []; goals = []; behind = none }))) (λ b. give_keeps (record { head = head; body = b }))))

-- An item that was read to its full stop.
pub rule_sound : (c d : Counted) (s : Tokens) (r : Rule) (stop : ℕ) → rule c s ≡ read r d (ends stop) → Sound s
unfolding Fits Sound
rule_sound c d s r stop e = (rw e at (rule_keeps.keep c s)) tt

pub goals_sound : (c d : Counted) (s : Tokens) (gs : List Named) (stop : ℕ) → goals 8 c s ≡ read gs d (ends stop) → Sound s
unfolding Fits Sound
goals_sound c d s gs stop e = (rw e at ((goals_keeps 8).keep c s)) tt

-- Tokens that all stand among sound ones are sound: so those that count for a clause's pairing.
good_there : (p : ℕ) (t : Token) (s : Tokens) → Sound s → StandsAt p t s → Good t
unfolding Sound StandsAt
good_there p t (ends place) h m = absurd m
good_there p t (token place u rest) h (inl e) = let t_is : t ≡ u = e.1 in rw t_is h.0
good_there p t (token place u rest) h (inr m) = good_there p t rest h.1 m

pub sound_among : (s part : Tokens) → Sound s → ((p : ℕ) (t : Token) → StandsAt p t part → StandsAt p t s) → Sound part
unfolding Sound StandsAt
sound_among s (ends place) h m = tt
sound_among s (token place t rest) h m = (good_there place t s h (m place t (inl (refl, refl))), sound_among s rest h (λ p u k. m p u (inr k)))

occurs_here : (place : ℕ) (h : Half) (x : Bytes) (rest : Tokens) → length (occurs_at h x (token place (variable h x) rest)) ≡ 0 → ⊥
unfolding occurs_at is_half same_half when◌then◌else◌
occurs_here place writer x rest e = let e' : length (place ∷ occurs_at writer x rest) ≡ 0 = rw (same_refl x) at e in omega arith
occurs_here place reader x rest e = let e' : length (place ∷ occurs_at reader x rest) ≡ 0 = rw (same_refl x) at e in omega arith

occurs_later : (g : Half) (x : Bytes) (place : ℕ) (t : Token) (rest : Tokens) → length (occurs_at g x (token place t rest)) ≡ 0 → length (occurs_at g x rest) ≡ 0
unfolding occurs_at when◌then◌else◌
occurs_later g x place t rest e = go (is_half g x t) refl
  where
    go : (b : Bool) → is_half g x t ≡ b → length (occurs_at g x rest) ≡ 0
    go true q = let e' : length (place ∷ occurs_at g x rest) ≡ 0 = rw q at e in absurd (omega arith)
    go false q = rw q at e

passable : (xs : List Bytes) (place : ℕ) (t : Token) (rest : Tokens) → Good t
    → ((h : Half) (x : Bytes) → place_of x xs ≡ none → length (occurs_at h x (token place t rest)) ≡ 0) → Passable xs t
unfolding Passable Good
passable xs place (name f) rest g k = tt
passable xs place (variable h x) rest g k = go (place_of x xs) refl
  where
    go : (o : Option ℕ) → place_of x xs ≡ o → (n : ℕ) × (place_of x xs ≡ some n)
    go none e = absurd (occurs_here place h x rest (k h x e))
    go (some n) e = (n, e)
passable xs place (integer i) rest g k = tt
passable xs place (sign b) rest g k = tt
passable xs place bad rest g k = g

-- Its variables have places, if no other occurs among its tokens.
pub walkable : (xs : List Bytes) (s : Tokens) → Sound s → ((h : Half) (x : Bytes) → place_of x xs ≡ none → length (occurs_at h x s) ≡ 0) → Walkable xs s
unfolding Walkable Sound
walkable xs (ends place) h k = tt
walkable xs (token place t rest) h k =
    (passable xs place t rest h.0 k, walkable xs rest h.1 (λ g x e. occurs_later g x place t rest (k g x e)))
