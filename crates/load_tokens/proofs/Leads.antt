-- What stands in front by its first byte: one case of `front` for each kind of token.
-- The tests before a kind's own fail by the number of its byte; the byte behind may decide too.
use Prim.Native.Nat.{ℕ, ◌≤◌, ◌<◌}
use mathlib.Core.Path.{◌≡◌, refl, sym, ◌∙◌}
use mathlib.Core.Bool.{Bool, true, false, ◌||◌}
use native.Mathlib.Omega.{arith}
use lib.Dec.{eqb}
use lib.ListN.{length, drop, get_or, length-drop, drop_of_length-le}
use mathlib.Core.List.{[], ◌∷◌}
use borrow.Author.Tests.{eqb-true}
use Rattle.meaning.specs.Bytes.{Bytes, byte, when◌then◌else◌}
use Rattle.meaning.specs.Tokens.{tokens_words, Front, bad, sign, lowercase, uppercase, digit, underscore, separates, single_sign, in_run, run, next_is, unsigned, name_front, variable_front, minus_front, front}
use Rattle.laws.proofs.Reading.NameBytes.{row_is_the_former_test}
use Rattle.load_tokens.proofs.Parts.{drop_next}
use Rattle.load_tokens.specs.Fronts.{double_sign, second, begins_sign}
use Rattle.load_tokens.proofs.Classes.{either, of_signs, lowercase_bytes, uppercase_bytes, digit_bytes, not_lowercase, not_uppercase, not_separates, not_remark}

-- The byte at an offset, as the next one of what stands behind.
pub next_in : (test : ℕ → Bool) (rest : Bytes) (i : ℕ) → i < length rest → next_is test (drop i rest) ≡ test (get_or rest i 0)
unfolding next_is
next_in test rest i h = rw (drop_next rest i h)

pub next_out : (test : ℕ → Bool) (rest : Bytes) (i : ℕ) → length rest ≤ i → next_is test (drop i rest) ≡ false
unfolding next_is
next_out test rest i h = rw (drop_of_length-le rest {i = i} h)

-- A next byte that passes a test is there.
some : (test : ℕ → Bool) (cs : Bytes) → next_is test cs ≡ true → 0 < length cs
unfolding next_is
some test [] e =
    let z : ◌≡◌ {A = ℕ} 0 1 = cc in
    absurd (omega arith)
some test (c ∷ cs) e = omega arith

pub next_inside : (test : ℕ → Bool) (rest : Bytes) (i : ℕ) → next_is test (drop i rest) ≡ true → i < length rest
next_inside test rest i e = omega (arith, some test (drop i rest) e, length-drop i rest)

module _ (c : ℕ) (cs : Bytes) where
  pub name_leads : lowercase c ≡ true → front c cs ≡ name_front (c ∷ run cs)
  unfolding front when◌then◌else◌
  name_leads e =
      let within = lowercase_bytes c e in
      rw (not_separates c (omega arith), not_remark c (omega arith), e)

  pub variable_leads : uppercase c ≡ true → front c cs ≡ variable_front (c ∷ run cs) (drop (length (run cs)) cs)
  unfolding front when◌then◌else◌
  variable_leads e =
      let within = uppercase_bytes c e in
      rw (not_separates c (omega arith), not_remark c (omega arith), not_lowercase c (omega arith), e)

  pub digit_leads : digit c ≡ true → front c cs ≡ Front.token (length (run cs)) (unsigned (c ∷ run cs))
  unfolding front when◌then◌else◌
  digit_leads e =
      let within = digit_bytes c e in
      rw (not_separates c (omega arith), not_remark c (omega arith), not_lowercase c (omega arith), not_uppercase c (omega arith), e)

  pub minus_leads : c ≡ byte "-" → front c cs ≡ minus_front cs
  unfolding tokens_words
  minus_leads e = rw e

  -- What a sign of two bytes is by the byte behind its first.
  abbrev pub by_second : Front
  by_second = when next_is (λ d. eqb d (second c)) cs then Front.token 1 (sign c) else Front.token 0 bad

  double_by : double_sign c ≡ true → (b d : Bool) → eqb c (byte ":") ≡ b → eqb c (byte "?") ≡ d → front c cs ≡ by_second
  unfolding tokens_words double_sign second
  double_by t true d e f = rw (eqb-true c 58 e)
  double_by t false true e f = rw (eqb-true c 63 f)
  double_by t false false e f =
      let equals : eqb c 61 ≡ true = rw (e, f) at t in
      rw (eqb-true c 61 equals)

  pub double_leads : double_sign c ≡ true → front c cs ≡ by_second
  double_leads t = double_by t (eqb c (byte ":")) (eqb c (byte "?")) refl refl

  pub sign_leads : single_sign c ≡ true → front c cs ≡ Front.token 0 (sign c)
  unfolding tokens_words
  sign_leads = of_signs (λ b. front b cs ≡ Front.token 0 (sign b)) refl refl refl refl refl refl refl c

  -- "A run led by `_`" is a bad token.
  pub underscore_leads : underscore c ≡ true → front c cs ≡ Front.token (length (run cs)) bad
  unfolding tokens_words
  underscore_leads e = rw (eqb-true c 95 e)

  -- A byte of a token that begins no run, no integer and no sign.
  pub record Nothing : Type 0 where
    pub no_separator : separates c ≡ false
    pub no_remark : eqb c (byte "%") ≡ false
    pub no_run : in_run c ≡ false
    pub no_minus : eqb c (byte "-") ≡ false
    pub no_sign : begins_sign c cs ≡ false

  module _ (o : Nothing) where
    bad_by : (b : Bool) → double_sign c ≡ b → front c cs ≡ Front.token 0 bad
    unfolding front when◌then◌else◌ double_sign begins_sign
    bad_by true t =
        let other = (either (single_sign c) _ o.no_sign).1 in
        let behind : next_is (λ d. eqb d (second c)) cs ≡ false = rw t at other in
        double_leads t ∙ rw behind
    bad_by false t =
        let single = (either (single_sign c) _ o.no_sign).0 in
        let k = either (lowercase c || uppercase c || digit c) (underscore c) (sym (row_is_the_former_test c) ∙ o.no_run) in
        let d = either (lowercase c || uppercase c) (digit c) k.0 in
        let l = either (lowercase c) (uppercase c) d.0 in
        let two = either (eqb c (byte ":") || eqb c (byte "?")) (eqb c (byte "=")) t in
        rw (o.no_separator, o.no_remark, l.0, l.1, d.1, k.1, o.no_minus, two.0, two.1, single)

    -- "Any other byte" is a bad token.
    pub bad_leads : front c cs ≡ Front.token 0 bad
    bad_leads = bad_by (double_sign c) refl
