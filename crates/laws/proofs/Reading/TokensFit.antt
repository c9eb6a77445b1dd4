-- The tokens of a text: an integer is in range, and a spelling has 1 to 31 bytes, led by a letter.
-- An integer's digits have no leading zero, so that of a negative one the value is at least 1.
use Prim.Native.Nat.{ℕ, ◌≤◌, ◌+◌, ◌*◌, ◌-◌}
use mathlib.Core.Path.{◌≡◌, refl}
use mathlib.Core.Logic.{◌⊎◌, inl, inr}
use mathlib.Core.Bool.{true, not, ◌&&◌, ◌||◌}
use mathlib.Core.List.{[], ◌∷◌}
use native.Mathlib.Omega.{arith}
use lib.Dec.{leb, eqb}
use borrow.Author.Tests.{leb-true, eqb-false, not-true}
use Rattle.meaning.specs.Bytes.{Bytes, byte, bytes, same, all}
use Rattle.meaning.specs.Tokens.{
  Token,
  name,
  variable,
  integer,
  sign,
  bad,
  between,
  lowercase,
  uppercase,
  digit,
  next_is,
  value,
  no_leading_zero,
  unsigned,
  negative,
  tokens,
}
use Rattle.meaning.specs.Items.{pieces}
use Rattle.laws.proofs.Lists.{Each, if_holds, and_left, and_right, or_true, or_true_right, same_true}
use Rattle.laws.proofs.Reading.Figures.{IntegerFits, letter, SpellingFits}
use Rattle.laws.proofs.Reading.EachToken.{EachToken, each_token_of_text, each_token_of_pieces}

unfoldable pub TokenFits : Token → Type 0
TokenFits (name f) = SpellingFits f
TokenFits (variable h x) = SpellingFits x
TokenFits (integer i) = IntegerFits i
TokenFits (sign b) = Unit {0}
TokenFits bad = Unit {0}

-- More digits make no smaller value.
value_grows : (n : ℕ) (cs : Bytes) → n ≤ value n cs
unfolding value
value_grows n [] = omega arith
value_grows n (c ∷ cs) = omega (arith, value_grows (n * 10 + (c - 48)) cs)

-- "Digits without a leading zero", at least one of them.
led_by_no_zero : (c : ℕ) (cs : Bytes) → digit c ≡ true → no_leading_zero (c ∷ cs) ≡ true → 1 ≤ value 0 (c ∷ cs)
unfolding no_leading_zero next_is value digit between byte
led_by_no_zero c cs d e =
    let low = leb-true 48 c (and_left (leb 48 c) (leb c 57) d) in
    let first = eqb-false c 48 (not-true (eqb c 48) (and_right (all digit (c ∷ cs)) (not (eqb c 48)) e)) in
    let grows = value_grows (0 * 10 + (c - 48)) cs in
    omega arith

unsigned_fits : (cs : Bytes) → TokenFits (unsigned cs)
unfolding TokenFits unsigned IntegerFits value bytes
unsigned_fits cs =
    if_holds TokenFits (same cs (bytes "0") || no_leading_zero cs && leb (value 0 cs) 2147483647) _ _
    (λ e. go (or_true (same cs (bytes "0")) (no_leading_zero cs && leb (value 0 cs) 2147483647) e)) (λ e. tt)
  where
    go : (same cs (bytes "0") ≡ true) ⊎ ((no_leading_zero cs && leb (value 0 cs) 2147483647) ≡ true) → value 0 cs ≤ 2147483647
    go (inl e) = rw (same_true cs (bytes "0") e) (omega arith)
    go (inr e) = leb-true (value 0 cs) 2147483647 (and_right (no_leading_zero cs) _ e)

negative_fits : (c : ℕ) (cs : Bytes) → digit c ≡ true → TokenFits (negative (c ∷ cs))
unfolding TokenFits negative IntegerFits
negative_fits c cs d =
    if_holds TokenFits (no_leading_zero (c ∷ cs) && leb (value 0 (c ∷ cs)) 2147483648) _ _
    (λ e. (led_by_no_zero c cs d (and_left (no_leading_zero (c ∷ cs)) _ e), leb-true (value 0 (c ∷ cs)) 2147483648 (and_right (no_leading_zero (c ∷ cs)) _ e)))
    (λ e. tt)

-- Every token of a text fits, in each of the pieces behind its full stops.
pub tokens_fit : (text : Bytes) → Each (EachToken TokenFits) (pieces (tokens text))
unfolding TokenFits letter next_is
tokens_fit text =
    each_token_of_pieces TokenFits (tokens text)
    (each_token_of_text TokenFits (record {
      names = λ c cs low few. record { some = omega arith; few = few; led = rw low refl };
      variables = λ h c cs up few. record { some = omega arith; few = few; led = or_true_right (lowercase c) (uppercase c) up };
      unsigned_ones = unsigned_fits;
      negative_ones = negative_fits;
      signs = λ c. tt;
      bad_one = tt;
    }) text)
