-- What a reader leaves behind what it reads: every name and variable that it passed is counted, the counts keep the figures, and known names
-- stay known. One law for each way in which readers are put together.
use Prim.Native.Nat.{ℕ, ◌≤◌}
use Prim.Native.Char.{Char}
use mathlib.Core.Path.{◌≡◌, refl, ap, ◌∙◌}
use mathlib.Core.Bool.{Bool, true, false}
use mathlib.Core.List.{List, [], ◌∷◌, ◌++◌}
use native.Mathlib.Omega.{arith}
use lib.ListN.{length}
use Rattle.meaning.specs.Bytes.{Bytes, same, any, when◌then◌else◌}
use Rattle.meaning.specs.Tokens.{Token, name, variable, integer, sign, bad, Tokens, ends, token}
use Rattle.meaning.specs.Items.{
  Counted,
  Read,
  Reader,
  read,
  malformed,
  passed,
  read_on,
  ◌>>=◌,
  ◌>>◌,
  give,
  cannot_stand,
  passes,
  next,
  is,
  if_next,
  here,
}
use Rattle.term.specs.Cells.{KnownName}

-- A spelling more, unless it is known; the names and the variables over some tokens.
unfoldable pub added : Bytes → List Bytes → List Bytes
added f known = when any (same f) known then known else known ++ (f ∷ [])

unfoldable pub name_added : Token → List Bytes → List Bytes
name_added (name f) known = added f known
name_added (variable h x) known = known
name_added (integer i) known = known
name_added (sign b) known = known
name_added bad known = known

unfoldable pub variable_added : Token → List Bytes → List Bytes
variable_added (name f) known = known
variable_added (variable h x) known = added x known
variable_added (integer i) known = known
variable_added (sign b) known = known
variable_added bad known = known

unfoldable pub names_after : Tokens → List Bytes → List Bytes
names_after (ends n) known = known
names_after (token at t rest) known = names_after rest (name_added t known)

unfoldable pub variables_after : Tokens → List Bytes → List Bytes
variables_after (ends n) known = known
variables_after (token at t rest) known = variables_after rest (variable_added t known)

-- Nothing comes behind a full stop.
unfoldable pub Ends : Tokens → Type 0
Ends (ends n) = Unit {0}
Ends (token at t rest) = ⊥

unfoldable pub Cut : Tokens → Type 0
Cut (ends n) = Unit {0}
Cut (token at t rest) = (is "." t ≡ true → Ends rest) × Cut rest

-- From c at ts, where these names and variables are to be counted, the reading has come to d at s.
pub record Onward (names₀ variables₀ : List Bytes) (c : Counted) (ts : Tokens) (d : Counted) (s : Tokens) : Type 0 where
  pub names : names_after ts names₀ ≡ names_after s d.names
  pub variables : variables_after ts variables₀ ≡ variables_after s d.variables
  pub order : c.compounds ≤ d.compounds
  pub few_compounds : c.compounds ≤ 32 → d.compounds ≤ 32
  pub few_variables : length c.variables ≤ 16 → length d.variables ≤ 16
  pub few_names : length c.names ≤ 256 → length d.names ≤ 256
  pub wider : (f : Bytes) → KnownName c.names f → KnownName d.names f
  pub cut : Cut s

unfoldable pub Good : {A : Type 0} → (A → Counted → Tokens → Type 0) → Read A → Type 0
Good Q (read a c s) = Q a c s
Good Q (malformed place) = Unit {0}
Good Q passed = Unit {0}

-- If it reads at all.
pub record Steps {A : Type 0} (names₀ variables₀ : List Bytes) (c : Counted) (ts : Tokens) (P : Counted → Tokens → A → Type 0) (r : Reader A) : Type 0 where
  pub go : Cut ts → Good (λ a d s. Onward names₀ variables₀ c ts d s × P d s a) (r c ts)

-- Nothing is pending.
abbrev pub StepsFrom : {A : Type 0} (c : Counted) (ts : Tokens) (P : Counted → Tokens → A → Type 0) (r : Reader A) → Type 0
StepsFrom c ts P r = Steps c.names c.variables c ts P r

pub onward_same : (c : Counted) (ts : Tokens) → Cut ts → Onward c.names c.variables c ts c ts
onward_same c ts cut = record {
  names = refl;
  variables = refl;
  order = omega arith;
  few_compounds = λ h. h;
  few_variables = λ h. h;
  few_names = λ h. h;
  wider = λ f h. h;
  cut = cut;
}

pub onward_then : {n v : List Bytes} {c d e : Counted} {ts s u : Tokens} → Onward n v c ts d s → Onward d.names d.variables d s e u
    → Onward n v c ts e u
onward_then a b = record {
  names = a.names ∙ b.names;
  variables = a.variables ∙ b.variables;
  order = omega (arith, a.order, b.order);
  few_compounds = λ h. b.few_compounds (a.few_compounds h);
  few_variables = λ h. b.few_variables (a.few_variables h);
  few_names = λ h. b.few_names (a.few_names h);
  wider = λ f h. b.wider f (a.wider f h);
  cut = b.cut;
}

good_on : {A B : Type 0} (Q : A → Counted → Tokens → Type 0) (R : B → Counted → Tokens → Type 0) (x : Read A) (k : A → Reader B)
    → ((a : A) (c : Counted) (s : Tokens) → Q a c s → Good R (k a c s)) → Good Q x → Good R (read_on x k)
unfolding Good read_on
good_on Q R (read a c s) k h g = h a c s g
good_on Q R (malformed place) k h g = tt
good_on Q R passed k h g = tt

good_map : {A : Type 0} (Q R : A → Counted → Tokens → Type 0) (x : Read A) → ((a : A) (c : Counted) (s : Tokens) → Q a c s → R a c s)
    → Good Q x → Good R x
unfolding Good
good_map Q R (read a c s) h g = h a c s g
good_map Q R (malformed place) h g = tt
good_map Q R passed h g = tt

module _ {A B : Type 0} {n v : List Bytes} {c : Counted} {ts : Tokens} {P : Counted → Tokens → A → Type 0} {Q : Counted → Tokens → B → Type 0} where
  pub then_steps : {f : Reader A} {k : A → Reader B} → Steps n v c ts P f
      → ((d : Counted) (s : Tokens) (a : A) → Onward n v c ts d s → P d s a → StepsFrom d s Q (k a)) → Steps n v c ts Q (f >>= k)
  unfolding ◌>>=◌
  then_steps {f} {k} first after = record {
    go = λ cut. good_on (λ a d s. Onward n v c ts d s × P d s a) (λ b e u. Onward n v c ts e u × Q e u b) (f c ts) k
        (λ a d s h. good_map (λ b e u. Onward d.names d.variables d s e u × Q e u b) (λ b e u. Onward n v c ts e u × Q e u b) (k a d s)
        (λ b e u g. (onward_then h.0 g.0, g.1)) ((after d s a h.0 h.1).go h.0.cut))
        (first.go cut);
  }

  pub behind_steps : {f : Reader A} {r : Reader B} → Steps n v c ts P f
      → ((d : Counted) (s : Tokens) (a : A) → Onward n v c ts d s → P d s a → StepsFrom d s Q r) → Steps n v c ts Q (f >> r)
  unfolding ◌>>◌
  behind_steps {f} {r} first after = record {
    go = λ cut. good_on (λ a d s. Onward n v c ts d s × P d s a) (λ b e u. Onward n v c ts e u × Q e u b) (f c ts) (λ a. r)
        (λ a d s h. good_map (λ b e u. Onward d.names d.variables d s e u × Q e u b) (λ b e u. Onward n v c ts e u × Q e u b) (r d s)
        (λ b e u g. (onward_then h.0 g.0, g.1)) ((after d s a h.0 h.1).go h.0.cut))
        (first.go cut);
  }

-- A token in front, with what it adds.
onward_token : (place : ℕ) (t : Token) (c : Counted) (s : Tokens) (d : Counted) (u : Tokens)
    → Onward (name_added t c.names) (variable_added t c.variables) c s d u → Onward c.names c.variables c (token place t s) d u
unfolding names_after variables_after
onward_token place t c s d u g = record {
  names = g.names;
  variables = g.variables;
  order = g.order;
  few_compounds = g.few_compounds;
  few_variables = g.few_variables;
  few_names = g.few_names;
  wider = g.wider;
  cut = g.cut;
}

module _ {A : Type 0} {c : Counted} {ts : Tokens} {P : Counted → Tokens → A → Type 0} where
  pub give_steps : (a : A) → P c ts a → StepsFrom c ts P (give a)
  unfolding give Good
  give_steps a h = record { go = λ cut. (onward_same c ts cut, h) }

  pub next_steps : {on : ℕ → Token → Reader A}
      → ((p : ℕ) (t : Token) (s : Tokens) → Steps (name_added t c.names) (variable_added t c.variables) c s P (on p t))
      → StepsFrom c ts P (next on)
  unfolding next Good Cut names_after variables_after
  next_steps {on} h = record { go = by ts }
    where
      by : (ts : Tokens) → Cut ts → Good (λ a d s. Onward c.names c.variables c ts d s × P d s a) (next on c ts)
      by (ends place) cut = tt
      by (token place t s) cut =
          good_map (λ a d u. Onward (name_added t c.names) (variable_added t c.variables) c s d u × P d u a)
          (λ a d u. Onward c.names c.variables c (token place t s) d u × P d u a) (on place t c s)
          (λ a d u g. (onward_token place t c s d u g.0, g.1))
          ((h place t s).go cut.1)

  -- The same, told that nothing comes behind a full stop.
  pub next_cut_steps : {on : ℕ → Token → Reader A}
      → ((p : ℕ) (t : Token) (s : Tokens) → (is "." t ≡ true → Ends s) → Steps (name_added t c.names) (variable_added t c.variables) c s P (on p t))
      → StepsFrom c ts P (next on)
  unfolding next Good Cut
  next_cut_steps {on} h = record { go = by ts }
    where
      by : (ts : Tokens) → Cut ts → Good (λ a d s. Onward c.names c.variables c ts d s × P d s a) (next on c ts)
      by (ends place) cut = tt
      by (token place t s) cut =
          good_map (λ a d u. Onward (name_added t c.names) (variable_added t c.variables) c s d u × P d u a)
          (λ a d u. Onward c.names c.variables c (token place t s) d u × P d u a) (on place t c s)
          (λ a d u g. (onward_token place t c s d u g.0, g.1))
          ((h place t s cut.0).go cut.1)

module _ {A : Type 0} {n v : List Bytes} {c : Counted} {ts : Tokens} {P : Counted → Tokens → A → Type 0} where
  pub passes_steps : Steps n v c ts P passes
  unfolding passes Good
  passes_steps = record { go = λ cut. tt }

  pub cannot_stand_steps : (place : ℕ) → Steps n v c ts P (cannot_stand place)
  unfolding cannot_stand Good
  cannot_stand_steps place = record { go = λ cut. tt }

  pub if_steps : {r₁ r₂ : Reader A} (b : Bool) → (b ≡ true → Steps n v c ts P r₁) → (b ≡ false → Steps n v c ts P r₂)
      → Steps n v c ts P (when b then r₁ else r₂)
  unfolding when◌then◌else◌
  if_steps true a b = a refl
  if_steps false a b = b refl

-- A sign adds nothing.
pub sign_adds : (ch : Char) (t : Token) (known : List Bytes) → is ch t ≡ true → (name_added t known ≡ known) × (variable_added t known ≡ known)
unfolding is name_added variable_added
sign_adds ch (name f) known h = let z : ◌≡◌ {A = ℕ} 0 1 = cc in absurd (omega arith)
sign_adds ch (variable k x) known h = let z : ◌≡◌ {A = ℕ} 0 1 = cc in absurd (omega arith)
sign_adds ch (integer i) known h = (refl, refl)
sign_adds ch (sign b) known h = (refl, refl)
sign_adds ch bad known h = (refl, refl)

pub onward_sign : (ch : Char) (c : Counted) (place : ℕ) (t : Token) (s : Tokens) → is ch t ≡ true → Cut s
    → Onward c.names c.variables c (token place t s) c s
unfolding names_after variables_after
onward_sign ch c place t s h cut = record {
  names = ap (names_after s) (sign_adds ch t c.names h).0;
  variables = ap (variables_after s) (sign_adds ch t c.variables h).1;
  order = omega arith;
  few_compounds = λ h. h;
  few_variables = λ h. h;
  few_names = λ h. h;
  wider = λ f h. h;
  cut = cut;
}

pub sign_steps : {A : Type 0} {c : Counted} {ts : Tokens} {P : Counted → Tokens → A → Type 0} {r : Reader A} (ch : Char) (t : Token) → is ch t ≡ true
    → StepsFrom c ts P r → Steps (name_added t c.names) (variable_added t c.variables) c ts P r
sign_steps {c = c} ch t h steps = rw ((sign_adds ch t c.names h).0, (sign_adds ch t c.variables h).1) steps

-- A sign that comes next is taken, or the other reader reads on from it.
module _ {A : Type 0} {c : Counted} {ts : Tokens} {P : Counted → Tokens → A → Type 0} where
  pub if_next_steps : (ch : Char) {first second : Reader A} → ((s : Tokens) → StepsFrom c s P first) → StepsFrom c ts P second
      → StepsFrom c ts P (if_next ch first second)
  unfolding if_next when◌then◌else◌ Good Cut
  if_next_steps ch {first} {second} taken left = record { go = by ts left }
    where
      test : (place : ℕ) (t : Token) (s : Tokens) → StepsFrom c (token place t s) P second → Cut (token place t s) → (b : Bool) → is ch t ≡ b
          → Good (λ a d u. Onward c.names c.variables c (token place t s) d u × P d u a) (when b then first c s else second c (token place t s))
      test place t s left cut true h =
          good_map (λ a d u. Onward c.names c.variables c s d u × P d u a)
          (λ a d u. Onward c.names c.variables c (token place t s) d u × P d u a) (first c s)
          (λ a d u g. (onward_then (onward_sign ch c place t s h cut.1) g.0, g.1)) ((taken s).go cut.1)
      test place t s left cut false h = left.go cut

      by : (ts : Tokens) → StepsFrom c ts P second → Cut ts
          → Good (λ a d s. Onward c.names c.variables c ts d s × P d s a) (if_next ch first second c ts)
      by (ends place) left cut = left.go cut
      by (token place t s) left cut = test place t s left cut (is ch t) refl

  -- The same of a full stop, behind which nothing comes.
  pub if_stop_steps : {first second : Reader A} → ((s : Tokens) → Ends s → StepsFrom c s P first) → StepsFrom c ts P second
      → StepsFrom c ts P (if_next "." first second)
  unfolding if_next when◌then◌else◌ Good Cut
  if_stop_steps {first} {second} taken left = record { go = by ts left }
    where
      test : (place : ℕ) (t : Token) (s : Tokens) → StepsFrom c (token place t s) P second → Cut (token place t s) → (b : Bool) → is "." t ≡ b
          → Good (λ a d u. Onward c.names c.variables c (token place t s) d u × P d u a) (when b then first c s else second c (token place t s))
      test place t s left cut true h =
          good_map (λ a d u. Onward c.names c.variables c s d u × P d u a)
          (λ a d u. Onward c.names c.variables c (token place t s) d u × P d u a) (first c s)
          (λ a d u g. (onward_then (onward_sign "." c place t s h cut.1) g.0, g.1)) ((taken s (cut.0 h)).go cut.1)
      test place t s left cut false h = left.go cut

      by : (ts : Tokens) → StepsFrom c ts P second → Cut ts
          → Good (λ a d s. Onward c.names c.variables c ts d s × P d s a) (if_next "." first second c ts)
      by (ends place) left cut = left.go cut
      by (token place t s) left cut = test place t s left cut (is "." t) refl

-- The tokens that come next are told, and none is taken.
pub here_steps : (c : Counted) (ts : Tokens) → StepsFrom c ts (λ d s b. (d ≡ c) × (s ≡ ts)) here
unfolding here Good
here_steps c ts = record { go = λ cut. (onward_same c ts cut, (refl, refl)) }
