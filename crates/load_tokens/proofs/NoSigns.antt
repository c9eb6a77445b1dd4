-- A byte of a token that begins no sign leads a token that is none of some signs: a name, a variable, an integer or a bad one.
-- The tests of `front` are gone through in its order.
use Prim.Native.Nat.{ℕ, ◌+◌, ◌-◌, ◌<◌}
use mathlib.Core.Path.{◌≡◌, refl, ◌∙◌}
use mathlib.Core.Bool.{Bool, true, false, ◌&&◌, ◌||◌}
use mathlib.Core.List.{List}
use lib.Dec.{leb, eqb}
use lib.ListN.{length, drop, get_or}
use borrow.Author.Tests.{eqb-true}
use Rattle.meaning.specs.Bytes.{Bytes, byte, bytes, same, when◌then◌else◌}
use Rattle.meaning.specs.Terms.{writer, reader, plus, minus}
use Rattle.meaning.specs.Tokens.{Token, name, variable, integer, bad, Front, lowercase, uppercase, digit, underscore, separates, run, next_is, unless_overlong, value, no_leading_zero, unsigned, negative, name_front, variable_front, minus_front, front}
use Rattle.laws.proofs.Reading.NameBytes.{row_is_the_former_test}
use Rattle.load_tokens.specs.Fronts.{tokens_in, begins_sign}
use Rattle.load_tokens.specs.Nexts.{one_of, Stops}
use Rattle.load_tokens.proofs.Leads.{name_leads, variable_leads, digit_leads, minus_leads, underscore_leads, bad_leads, Nothing}
use Rattle.load_tokens.proofs.TokensIn.{stops_in_front}

-- What stands in front is a token, and none of these signs.
record NoSign (signs : List ℕ) (f : Front) : Type 0 where
  count : ℕ
  kind : Token
  is : f ≡ Front.token count kind
  none : one_of signs kind ≡ false

module _ (signs : List ℕ) where
  unless : (b : Bool) (t : Token) → one_of signs t ≡ false → one_of signs (when b then t else bad) ≡ false
  unfolding one_of when◌then◌else◌
  unless true t e = e
  unless false t e = refl

  plain : (n : ℕ) (t : Token) → one_of signs t ≡ false → NoSign signs (Front.token n t)
  plain n t e = record { count = n; kind = t; is = refl; none = e }

  a_name : (cs : Bytes) → NoSign signs (name_front cs)
  unfolding name_front unless_overlong one_of
  a_name cs = plain _ _ (unless (leb (length cs) 31) (name cs) refl)

  variable_by : (cs : Bytes) (b : Bool) → NoSign signs (when b then Front.token (length cs) (unless_overlong cs (variable reader cs)) else Front.token (length cs - 1) (unless_overlong cs (variable writer cs)))
  unfolding when◌then◌else◌ unless_overlong one_of
  variable_by cs true = plain _ _ (unless (leb (length cs) 31) (variable reader cs) refl)
  variable_by cs false = plain _ _ (unless (leb (length cs) 31) (variable writer cs) refl)

  a_variable : (cs behind : Bytes) → NoSign signs (variable_front cs behind)
  unfolding variable_front
  a_variable cs behind = variable_by cs (next_is (λ c. eqb c (byte "?")) behind)

  a_number : (n : ℕ) (cs : Bytes) → NoSign signs (Front.token n (unsigned cs))
  unfolding unsigned one_of
  a_number n cs = plain n _ (unless (same cs (bytes "0") || no_leading_zero cs && leb (value 0 cs) 2147483647) (integer (plus (value 0 cs))) refl)

  minus_by : (cs : Bytes) (b : Bool) → NoSign signs (when b then Front.token (length (run cs)) (negative (run cs)) else Front.token 0 bad)
  unfolding when◌then◌else◌ negative one_of
  minus_by cs true = plain _ _ (unless (no_leading_zero (run cs) && leb (value 0 (run cs)) 2147483648) (integer (minus (value 0 (run cs)))) refl)
  minus_by cs false = plain 0 bad refl

  a_minus : (cs : Bytes) → NoSign signs (minus_front cs)
  unfolding minus_front
  a_minus cs = minus_by cs (next_is digit cs)

  module _ (c : ℕ) (cs : Bytes) (s : separates c ≡ false) (r : eqb c (byte "%") ≡ false) (g : begins_sign c cs ≡ false) where
    by_minus : lowercase c ≡ false → uppercase c ≡ false → digit c ≡ false → underscore c ≡ false → (b : Bool) → eqb c (byte "-") ≡ b → NoSign signs (front c cs)
    unfolding one_of byte
    by_minus l u d k true e = rw (minus_leads c cs (eqb-true c (byte "-") e)) (a_minus cs)
    by_minus l u d k false e =
        let o : Nothing c cs = record { no_separator = s; no_remark = r; no_run = row_is_the_former_test c ∙ rw (l, u, d, k); no_minus = e; no_sign = g } in
        rw (bad_leads c cs o) (plain 0 bad refl)

    by_underscore : lowercase c ≡ false → uppercase c ≡ false → digit c ≡ false → (b : Bool) → underscore c ≡ b → NoSign signs (front c cs)
    unfolding one_of
    by_underscore l u d true e = rw (underscore_leads c cs e) (plain _ bad refl)
    by_underscore l u d false e = by_minus l u d e (eqb c (byte "-")) refl

    by_digit : lowercase c ≡ false → uppercase c ≡ false → (b : Bool) → digit c ≡ b → NoSign signs (front c cs)
    by_digit l u true e = rw (digit_leads c cs e) (a_number _ _)
    by_digit l u false e = by_underscore l u e (underscore c) refl

    by_variable : lowercase c ≡ false → (b : Bool) → uppercase c ≡ b → NoSign signs (front c cs)
    by_variable l true e = rw (variable_leads c cs e) (a_variable _ _)
    by_variable l false e = by_digit l e (digit c) refl

    by_name : (b : Bool) → lowercase c ≡ b → NoSign signs (front c cs)
    by_name true e = rw (name_leads c cs e) (a_name _)
    by_name false e = by_variable e (uppercase c) refl

    no_sign_leads : NoSign signs (front c cs)
    no_sign_leads = by_name (lowercase c) refl

-- The tokens stop at a byte that begins no sign.
pub no_sign_stops : (rest : Bytes) (a : ℕ) → a < length rest → separates (get_or rest a 0) ≡ false → eqb (get_or rest a 0) (byte "%") ≡ false
    → begins_sign (get_or rest a 0) (drop (a + 1) rest) ≡ false → (signs : List ℕ) (from : ℕ) → Stops (one_of signs) (from + a) (tokens_in from rest a)
no_sign_stops rest a h s r g signs from =
    let n = no_sign_leads signs (get_or rest a 0) (drop (a + 1) rest) s r g in
    stops_in_front rest a h signs n.count n.kind n.is n.none from
