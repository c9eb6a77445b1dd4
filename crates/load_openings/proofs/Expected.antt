-- The definitions' small readers at the tokens in front: a piece up to a token that is no full stop, a sign that comes next or none of those
-- expected.
use Prim.Native.Nat.{ℕ}
use Prim.Native.Char.{Char}
use mathlib.Core.Path.{◌≡◌, refl, ap}
use mathlib.Core.Bool.{true, false}
use mathlib.Core.List.{List, [], ◌∷◌}
use native.Mathlib.Omega.{arith}
use lib.Dec.{eqb}
use borrow.Author.Tests.{ne_eqb}
use Rattle.std.proofs.lemmas.Bool.Decides.{nat_tests}
use Rattle.meaning.specs.Bytes.{byte, among, when◌then◌else◌}
use Rattle.meaning.specs.Terms.{Term}
use Rattle.meaning.specs.Tokens.{Token, name, variable, integer, sign, bad, Tokens, ends, token}
use Rattle.meaning.specs.Items.{Counted, Reader, read, malformed, give, cannot_stand, next, is, expect, either, if_next, tail_of}
use Rattle.load_openings.specs.Reading.{piece}
use Rattle.load_tokens.specs.Nexts.{one_of, Stops}

-- A piece goes on behind a token that is no full stop, and ends behind one that is.
pub piece_open : (at : ℕ) (t : Token) (ts : Tokens) → is "." t ≡ false → piece (token at t ts) ≡ token at t (piece ts)
unfolding piece when◌then◌else◌
piece_open at t ts h = rw h

pub piece_stop : (at : ℕ) (t : Token) (ts : Tokens) → is "." t ≡ true → piece (token at t ts) ≡ token at t (ends at)
unfolding piece when◌then◌else◌
piece_stop at t ts h = rw h

-- A token that is none of some signs is no one of them.
other_sign : (b x : ℕ) (signs : List ℕ) → among x signs ≡ true → among b signs ≡ false → eqb b x ≡ false
other_sign b x signs m h = ne_eqb b x (λ e. let z : among b signs ≡ true = rw e m in cc)

none_of : (c : Char) (signs : List ℕ) (t : Token) → among (byte c) signs ≡ true → one_of signs t ≡ false → is c t ≡ false
unfolding is one_of
none_of c signs (name f) m h = refl
none_of c signs (variable k x) m h = refl
none_of c signs (integer i) m h = refl
none_of c signs (sign b) m h = other_sign b (byte c) signs m h
none_of c signs bad m h = refl

-- Of two signs, what is not the second is the first.
pub first_of_two : (b x y : ℕ) → among b (x ∷ y ∷ []) ≡ true → (b ≡ y → ⊥) → b ≡ x
unfolding among
first_of_two b x y h p = grind (arith, nat_tests)

first_among : (x : ℕ) (signs : List ℕ) → among x (x ∷ signs) ≡ true
unfolding among
first_among x signs = grind (arith, nat_tests)

second_among : (x y : ℕ) (signs : List ℕ) → among y (x ∷ y ∷ signs) ≡ true
unfolding among
second_among x y signs = grind (arith, nat_tests)

module _ (counted : Counted) where
  pub expect_this : (c : Char) (at : ℕ) (t : Token) (ts : Tokens) → is c t ≡ true → expect c counted (token at t ts) ≡ read tt counted ts
  unfolding expect next give when◌then◌else◌
  expect_this c at t ts h = rw h

  pub either_first : (c d : Char) (at : ℕ) (t : Token) (ts : Tokens) → is c t ≡ true → either c d counted (token at t ts) ≡ read true counted ts
  unfolding either next give when◌then◌else◌
  either_first c d at t ts h = rw h

  pub either_second : (c d : Char) (at : ℕ) (t : Token) (ts : Tokens) → is c t ≡ false → is d t ≡ true
      → either c d counted (token at t ts) ≡ read false counted ts
  unfolding either next give when◌then◌else◌
  either_second c d at t ts h k = rw (h, k)

  -- Where no sign comes next that can stand there.
  pub expect_stops : (c : Char) (place : ℕ) (ts : Tokens) → Stops (one_of (byte c ∷ [])) place ts → expect c counted ts ≡ malformed place
  unfolding expect next cannot_stand when◌then◌else◌
  expect_stops c place (ends n) h = ap malformed h
  expect_stops c place (token at t ts) h = rw (none_of c (byte c ∷ []) t (first_among (byte c) []) h.1) (ap malformed h.0)

  pub either_stops : (c e : Char) (place : ℕ) (ts : Tokens) → Stops (one_of (byte c ∷ byte e ∷ [])) place ts
      → either c e counted ts ≡ malformed place
  unfolding either next cannot_stand when◌then◌else◌
  either_stops c e place (ends n) h = ap malformed h
  either_stops c e place (token at t ts) h =
      let signs : List ℕ = byte c ∷ byte e ∷ [] in
      let first = none_of c signs t (first_among (byte c) (byte e ∷ [])) h.1 in
      let second = none_of e signs t (second_among (byte c) (byte e) []) h.1 in
      rw (first, second) (ap malformed h.0)

  pub tail_stops : (element others : Reader Term) (place : ℕ) (ts : Tokens) → Stops (one_of (44 ∷ 124 ∷ 93 ∷ [])) place ts
      → next (tail_of element others) counted ts ≡ malformed place
  unfolding next tail_of cannot_stand byte among when◌then◌else◌
  tail_stops element others place (ends n) h = ap malformed h
  tail_stops element others place (token at t ts) h =
      let signs : List ℕ = 44 ∷ 124 ∷ 93 ∷ [] in
      let comma = none_of "," signs t refl h.1 in
      let bar = none_of "|" signs t refl h.1 in
      let bracket = none_of "]" signs t refl h.1 in
      rw (comma, bar, bracket) (ap malformed h.0)

  pub if_next_other : {A : Type 0} (c : Char) (first second : Reader A) (place : ℕ) (ts : Tokens) → Stops (one_of (byte c ∷ [])) place ts
      → if_next c first second counted ts ≡ second counted ts
  unfolding if_next when◌then◌else◌
  if_next_other c first second place (ends p) h = refl
  if_next_other c first second place (token p t ts) h = rw (none_of c (byte c ∷ []) t (first_among (byte c) []) h.1)

-- A sign is itself, so it cannot come as another answer.
pub never : {P : Type 0} → true ≡ false → P
never h = let z : ◌≡◌ {A = ℕ} 0 1 = cc in absurd (omega arith)
