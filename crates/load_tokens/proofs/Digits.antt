-- The value of decimal digits, and the integer that they are: more than ten digits without a leading zero pass every limit.
-- What the code reads of at most ten bytes is their value, or none.
use Prim.Native.Nat.{ℕ, ◌+◌, ◌*◌, ◌-◌, ◌^◌, ◌≤◌, ◌<◌}
use mathlib.Core.Path.{◌≡◌, refl, sym, ◌∙◌}
use mathlib.Core.Bool.{Bool, true, false, ◌&&◌, and-true, and-false}
use mathlib.Core.List.{[], ◌∷◌}
use native.Mathlib.Nat.{pow-succ', mul_assoc, mul-le-mul_right, pow-le-pow_right, one-le-pow, le_trans}
use native.Mathlib.Omega.{arith}
use native.Mathlib.Numerals.{add-one}
use lib.Dec.{leb}
use lib.ListN.{length, drop, get_or}
use borrow.Author.Tests.{le-leb, lt-leb, ne_eqb}
use Rattle.meaning.specs.Bytes.{Bytes, byte, bytes, same, all, when◌then◌else◌}
use Rattle.meaning.specs.Terms.{plus, minus}
use Rattle.meaning.specs.Tokens.{tokens_words, integer, bad, digit, value, no_leading_zero, unsigned, negative}
use Rattle.std.specs.Prelude.{Option, Some, None}
use Rattle.std.proofs.lemmas.Option.{none-some}
use Rattle.load_tokens.proofs.Parts.{drop_next}

value_least : (n : ℕ) (cs : Bytes) → n * 10 ^ length cs ≤ value n cs
unfolding value
value_least n [] = omega arith
value_least n (c ∷ cs) =
    let more : n * 10 ≤ n * 10 + (c - 48) = omega arith in
    rw (pow-succ' 10 (length cs), ← mul_assoc n 10 (10 ^ length cs))
    (le_trans (mul-le-mul_right (10 ^ length cs) more) (value_least (n * 10 + (c - 48)) cs))

value_led : (c : ℕ) (cs : Bytes) → 49 ≤ c → 10 ^ length cs ≤ value 0 (c ∷ cs)
unfolding value
value_led c cs h =
    let first : 1 ≤ 0 * 10 + (c - 48) = omega arith in
    omega (arith, mul-le-mul_right (10 ^ length cs) first, value_least (0 * 10 + (c - 48)) cs)

pub value_positive : (c : ℕ) (cs : Bytes) → 49 ≤ c → 0 < value 0 (c ∷ cs)
value_positive c cs h = omega (arith, value_led c cs h, one-le-pow (length cs) 10 (omega arith))

pub value_long : (c : ℕ) (cs : Bytes) → 49 ≤ c → 10 ≤ length cs → 2147483648 < value 0 (c ∷ cs)
value_long c cs h k =
    let ten : 10 ^ 10 ≤ 10 ^ length cs = pow-le-pow_right (omega arith) k in
    omega (arith, value_led c cs h, ten)

-- One digit more keeps the value below the next power of ten.
pub value_below : (v d k : ℕ) → v < 10 ^ k → d < 10 → v * 10 + d < 10 ^ (k + 1)
value_below v d k h l = rw (add-one k, pow-succ' 10 k) (omega arith)

module _ (digits : Bytes) (i : ℕ) (h : i < length digits) where
  pub value_next : (v : ℕ) → value v (drop i digits) ≡ value (v * 10 + (get_or digits i 0 - 48)) (drop (i + 1) digits)
  unfolding value
  value_next v = rw (drop_next digits i h)

  pub digits_next : digit (get_or digits i 0) ≡ true → all digit (drop i digits) ≡ all digit (drop (i + 1) digits)
  unfolding all
  digits_next d = rw (drop_next digits i h, d)

  pub digits_stop : digit (get_or digits i 0) ≡ false → all digit (drop i digits) ≡ false
  unfolding all
  digits_stop d = rw (drop_next digits i h, d)

-- What the code reads.
abbrev pub reading : Bytes → Option ℕ
reading cs = when all digit cs then Some (value 0 cs) else None

read_within : (cs : Bytes) (v : ℕ) → Some v ≡ reading cs → (b : Bool) → all digit cs ≡ b → (all digit cs ≡ true) × (v ≡ value 0 cs)
unfolding when◌then◌else◌
read_within cs v q true e =
    let same : Some v ≡ Some (value 0 cs) = rw e at q in
    (e, cc)
read_within cs v q false e =
    let none : ◌≡◌ {A = Option ℕ} (Some v) None = rw e at q in
    absurd (none-some v (sym none))

pub within : (cs : Bytes) (v : ℕ) → Some v ≡ reading cs → (all digit cs ≡ true) × (v ≡ value 0 cs)
within cs v q = read_within cs v q (all digit cs) refl

read_beyond : (cs : Bytes) (limit : ℕ) → ((v : ℕ) → Some v ≡ reading cs → limit < v) → (b : Bool) → all digit cs ≡ b → (all digit cs && leb (value 0 cs) limit) ≡ false
unfolding when◌then◌else◌
read_beyond cs limit q true e =
    let more : limit < value 0 cs = q (value 0 cs) (rw e refl) in
    rw (e, lt-leb (value 0 cs) limit more)
read_beyond cs limit q false e = rw e

pub beyond : (cs : Bytes) (limit : ℕ) → ((v : ℕ) → Some v ≡ reading cs → limit < v) → (all digit cs && leb (value 0 cs) limit) ≡ false
beyond cs limit q = read_beyond cs limit q (all digit cs) refl

pub above : (cs : Bytes) (limit w : ℕ) → Some w ≡ reading cs → limit < w → (v : ℕ) → Some v ≡ reading cs → limit < v
above cs limit w read more v q =
    let same : Some w ≡ Some v = read ∙ sym q in
    grind arith

pub no_value : (cs : Bytes) (limit : ℕ) → None ≡ reading cs → (v : ℕ) → Some v ≡ reading cs → limit < v
no_value cs limit read v q =
    let same : None ≡ Some v = read ∙ sym q in
    absurd (none-some v same)

-- A leading zero is the byte 48.
module _ (c : ℕ) (cs : Bytes) (nonzero : c ≡ 48 → ⊥) where
  no_zero_leads : no_leading_zero (c ∷ cs) ≡ all digit (c ∷ cs)
  unfolding no_leading_zero Rattle.meaning.specs.Tokens.next_is byte
  no_zero_leads = rw (ne_eqb c 48 nonzero, and-true)

  not_zero : same (c ∷ cs) (bytes "0") ≡ false
  unfolding same bytes
  not_zero = rw (ne_eqb c 48 nonzero)

  pub unsigned_good : all digit (c ∷ cs) ≡ true → value 0 (c ∷ cs) ≤ 2147483647 → unsigned (c ∷ cs) ≡ integer (plus (value 0 (c ∷ cs)))
  unfolding unsigned when◌then◌else◌
  unsigned_good d h = rw (not_zero, no_zero_leads, d, le-leb (value 0 (c ∷ cs)) 2147483647 h)

  pub unsigned_bad : (all digit (c ∷ cs) && leb (value 0 (c ∷ cs)) 2147483647) ≡ false → unsigned (c ∷ cs) ≡ bad
  unfolding unsigned when◌then◌else◌
  unsigned_bad h = rw (not_zero, no_zero_leads, h)

  pub negative_good : all digit (c ∷ cs) ≡ true → value 0 (c ∷ cs) ≤ 2147483648 → negative (c ∷ cs) ≡ integer (minus (value 0 (c ∷ cs)))
  unfolding negative when◌then◌else◌
  negative_good d h = rw (no_zero_leads, d, le-leb (value 0 (c ∷ cs)) 2147483648 h)

  pub negative_bad : (all digit (c ∷ cs) && leb (value 0 (c ∷ cs)) 2147483648) ≡ false → negative (c ∷ cs) ≡ bad
  unfolding negative when◌then◌else◌
  negative_bad h = rw (no_zero_leads, h)

  -- More than ten digits.
  pub too_long : (limit : ℕ) → limit ≤ 2147483648 → 49 ≤ c → 10 ≤ length cs → (all digit (c ∷ cs) && leb (value 0 (c ∷ cs)) limit) ≡ false
  too_long limit l h k = rw (lt-leb (value 0 (c ∷ cs)) limit (omega (arith, value_long c cs h k)), and-false)

pub unsigned_zero : (cs : Bytes) → length cs ≡ 0 → unsigned (48 ∷ cs) ≡ integer (plus 0)
unfolding tokens_words
unsigned_zero [] h = refl
unsigned_zero (d ∷ cs) h = absurd (omega arith)

zero_led : (cs : Bytes) → no_leading_zero (48 ∷ cs) ≡ false
unfolding tokens_words
zero_led cs = and-false (all digit (48 ∷ cs))

pub unsigned_zero_led : (cs : Bytes) → 0 < length cs → unsigned (48 ∷ cs) ≡ bad
unfolding unsigned when◌then◌else◌ same bytes
unsigned_zero_led [] h = absurd (omega arith)
unsigned_zero_led (d ∷ cs) h = rw (zero_led (d ∷ cs))

pub negative_zero_led : (cs : Bytes) → negative (48 ∷ cs) ≡ bad
unfolding negative when◌then◌else◌
negative_zero_led cs = rw (zero_led cs)
