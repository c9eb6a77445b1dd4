-- The token in front, as the code's answers say it: it can begin a term or not, and it is one of some signs or none.
use Prim.Native.Nat.{ℕ, ◌+◌, ◌≤◌, ◌<◌}
use mathlib.Core.Path.{◌≡◌, refl}
use mathlib.Core.Bool.{Bool, true, false}
use mathlib.Core.List.{List, [], ◌∷◌}
use mathlib.Core.Logic.{◌⊎◌, inl, inr}
use native.Mathlib.Omega.{arith}
use lib.Dec.{eqb}
use lib.ListN.{length}
use Rattle.std.specs.List.{list_any}
use Rattle.std.proofs.lemmas.Bool.Decides.{nat_tests}
use Rattle.meaning.specs.Bytes.{Bytes, byte, among, when◌then◌else◌}
use Rattle.meaning.specs.Items.{begins_term}
use Rattle.load_tokens.specs.Fronts.{tokens_in, double_sign, behind, FrontIs}
use Rattle.load_tokens.specs.Nexts.{one_of, Stops, StopsAt, Goes, SignAt}
use Rattle.load_tokens.specs.declared.token.Token.{Token as Code}
use Rattle.load_tokens.specs.declared.token.Token.TheVariants.{Name, Writer, Reader, Integer, Sign, Bad}

if_past : (b : Bool) (a : ℕ) → a < (when b then a + 2 else a + 1)
unfolding when◌then◌else◌
if_past true a = omega arith
if_past false a = omega arith

pub behind_past : (x a : ℕ) → a < behind x a
unfolding behind
behind_past x a = if_past (double_sign x) a

module _ (rest : Bytes) (at : ℕ) where
  pub sign_front : (x a : ℕ) → FrontIs rest at (Sign x a) → SignAt rest at x (behind x a)
  sign_front x a f = record { place = a; ends_at = refl; forward = omega (arith, behind_past x a, f.0); inside = f.1; follows = f.2 }

  -- Another sign is none of these.
  pub not_sign : (signs : List ℕ) (b a : ℕ) → FrontIs rest at (Sign b a) → among b signs ≡ false → StopsAt (one_of signs) rest at (record { 0 = a })
  unfolding one_of
  not_sign signs b a f n = (omega (arith, behind_past b a, f.1), λ from. rw (f.2 from) (refl, n))

  pub other_sign : (x b a : ℕ) → FrontIs rest at (Sign b a) → eqb b x ≡ false → StopsAt (one_of (x ∷ [])) rest at (record { 0 = a })
  unfolding among
  other_sign x b a f n = not_sign (x ∷ []) b a f (rw n)

  -- What can begin a term.
  name_starts : (a e : ℕ) → FrontIs rest at (Name a e) → (from : ℕ) → Goes begins_term (tokens_in from rest at)
  unfolding begins_term
  name_starts a e f from = rw (f.4 from)

  writer_starts : (a e : ℕ) → FrontIs rest at (Writer a e) → (from : ℕ) → Goes begins_term (tokens_in from rest at)
  unfolding begins_term
  writer_starts a e f from = rw (f.4 from)

  reader_starts : (a e : ℕ) → FrontIs rest at (Reader a e) → (from : ℕ) → Goes begins_term (tokens_in from rest at)
  unfolding begins_term
  reader_starts a e f from = rw (f.4 from)

  integer_starts : (w a e : ℕ) → FrontIs rest at (Integer w a e) → (from : ℕ) → Goes begins_term (tokens_in from rest at)
  unfolding begins_term
  integer_starts w a e f from = rw (f.6 from)

  pub term_starts : (r : Code)
      → ((a : ℕ) × (e : ℕ) × (r ≡ Name a e)) ⊎ (((a : ℕ) × (e : ℕ) × (r ≡ Writer a e)) ⊎ (((a : ℕ) × (e : ℕ) × (r ≡ Reader a e)) ⊎ ((w : ℕ) × (a : ℕ) × (e : ℕ) × (r ≡ Integer w a e))))
      → FrontIs rest at r → (from : ℕ) → Goes begins_term (tokens_in from rest at)
  term_starts r (inl n) f = name_starts n.0 n.1 (rw n.2 at f)
  term_starts r (inr (inl w)) f = writer_starts w.0 w.1 (rw w.2 at f)
  term_starts r (inr (inr (inl q))) f = reader_starts q.0 q.1 (rw q.2 at f)
  term_starts r (inr (inr (inr i))) f = integer_starts i.0 i.1 i.2 (rw i.3 at f)

  pub bracket_starts : (b a : ℕ) → FrontIs rest at (Sign b a) → eqb b 91 ≡ true → (from : ℕ) → Goes begins_term (tokens_in from rest at)
  unfolding begins_term byte
  bracket_starts b a f e from = rw (f.2 from) e

  pub sign_cannot : (b a : ℕ) → FrontIs rest at (Sign b a) → eqb b 91 ≡ false
      → (a ≤ length rest) × ((from : ℕ) → Stops begins_term (from + a) (tokens_in from rest at))
  unfolding begins_term byte
  sign_cannot b a f e = (omega (arith, behind_past b a, f.1), λ from. rw (f.2 from) (refl, e))

  pub bad_cannot : (a : ℕ) → FrontIs rest at (Bad a) → (a ≤ length rest) × ((from : ℕ) → Stops begins_term (from + a) (tokens_in from rest at))
  unfolding begins_term
  bad_cannot a f = (omega (arith, f.1), λ from. rw (f.2 from).1 (refl, refl))

-- The sign in front is this one.
pub next_sign : (rest : Bytes) (at b a x r : ℕ) → FrontIs rest at (Sign b a) → b ≡ x → r ≡ behind b a → SignAt rest at x r
next_sign rest at b a x r f e p = rw (p, e) (rw e at (sign_front rest at b a f))

either_way : (x b : ℕ) → eqb x b ≡ eqb b x
either_way x b = grind (arith, nat_tests)

-- The library's test of a slice is the definitions' word.
pub contains_among : (b : ℕ) (signs : List ℕ) → list_any (λ x. eqb x b) signs ≡ among b signs
unfolding among
contains_among b [] = refl
contains_among b (x ∷ signs) = rw (either_way x b, contains_among b signs)

-- Of two signs, or of three, what is none before is the last.
pub last_of_two : (b x y : ℕ) → among b (x ∷ y ∷ []) ≡ true → (b ≡ x → ⊥) → b ≡ y
unfolding among
last_of_two b x y h p = grind (arith, nat_tests)

pub last_of_three : (b x y z : ℕ) → among b (x ∷ y ∷ z ∷ []) ≡ true → (b ≡ x → ⊥) → (b ≡ y → ⊥) → b ≡ z
unfolding among
last_of_three b x y z h p q = grind (arith, nat_tests)
