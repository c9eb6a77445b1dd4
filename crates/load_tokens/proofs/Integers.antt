-- Integers in front: a run led by a digit, or behind a `-` right before a digit.
-- One case for each answer of the code.
use Prim.Native.Nat.{ℕ, ◌+◌, ◌-◌, ◌≤◌, ◌<◌}
use mathlib.Core.Path.{◌≡◌, refl, sym, ap, ◌∙◌}
use mathlib.Core.Bool.{true}
use mathlib.Core.List.{◌∷◌}
use native.Mathlib.Omega.{arith}
use lib.ListN.{length, drop, get_or}
use Rattle.std.specs.Prelude.{Some, slice_range}
use Rattle.meaning.specs.Bytes.{Bytes, byte, when◌then◌else◌}
use Rattle.meaning.specs.Terms.{plus, minus}
use Rattle.meaning.specs.Tokens.{Token, Front, integer, bad, digit, run, unsigned, negative, minus_front, front}
use Rattle.load_tokens.specs.Fronts.{FrontIs}
use Rattle.load_tokens.specs.Ends.{end_of_run}
use Rattle.load_tokens.specs.declared.token.Token.TheVariants.{Integer as AnInteger, Bad}
use Rattle.load_tokens.proofs.Parts.{between_slice}
use Rattle.load_tokens.proofs.Ends.{led, led_inside, run_part, run_inside, run_of_digit}
use Rattle.load_tokens.proofs.TokensIn.{token_in_front, bad_in_front}
use Rattle.load_tokens.proofs.Classes.{digit_bytes}
use Rattle.load_tokens.proofs.Leads.{next_in, digit_leads, minus_leads}
use Rattle.load_tokens.proofs.Digits.{reading, within, beyond, value_positive, too_long, unsigned_good, unsigned_bad, unsigned_zero, unsigned_zero_led, negative_good, negative_bad, negative_zero_led}

module _ (rest : Bytes) (a e : ℕ) (h : a < length rest) (q : e ≡ end_of_run rest (a + 1)) (d : digit (get_or rest a 0) ≡ true) where
  unsigned_is : (w : ℕ) → w < 4294967296 → unsigned (get_or rest a 0 ∷ run (drop (a + 1) rest)) ≡ integer (plus w) → FrontIs rest a (AnInteger w a e)
  unsigned_is w k u =
      let cs = run (drop (a + 1) rest) in
      let found = digit_leads (get_or rest a 0) (drop (a + 1) rest) d ∙ ap (λ t. Front.token (length cs) t) u in
      let inside : e ≤ length rest = led_inside rest a e h q in
      (omega arith, omega arith, inside, k, plus w, refl, token_in_front rest a h (length cs) e (integer (plus w)) found (sym q) inside)

  bad_unsigned_is : unsigned (get_or rest a 0 ∷ run (drop (a + 1) rest)) ≡ bad → FrontIs rest a (Bad a)
  bad_unsigned_is u =
      let cs = run (drop (a + 1) rest) in
      bad_in_front rest a h (length cs) (digit_leads (get_or rest a 0) (drop (a + 1) rest) d ∙ ap (λ t. Front.token (length cs) t) u)

  pub zero_is : get_or rest a 0 ≡ 48 → e ≡ a + 1 → FrontIs rest a (AnInteger 0 a e)
  zero_is z k = unsigned_is 0 (omega arith) (rw z (unsigned_zero (run (drop (a + 1) rest)) (omega arith)))

  pub zero_led_is : get_or rest a 0 ≡ 48 → (e ≡ a + 1 → ⊥) → FrontIs rest a (Bad a)
  zero_led_is z k =
      let some : 0 < length (run (drop (a + 1) rest)) = omega arith in
      bad_unsigned_is (rw z (unsigned_zero_led (run (drop (a + 1) rest)) some))

  module _ (nonzero : get_or rest a 0 ≡ 48 → ⊥) where
    pub long_unsigned_is : 10 < e - a → FrontIs rest a (Bad a)
    long_unsigned_is k =
        let cs = run (drop (a + 1) rest) in
        let within_digits = digit_bytes (get_or rest a 0) d in
        let first : 49 ≤ get_or rest a 0 = omega arith in
        bad_unsigned_is (unsigned_bad (get_or rest a 0) cs nonzero (too_long (get_or rest a 0) cs nonzero 2147483647 (omega arith) first (omega arith)))

    led_part : slice_range rest a e ≡ get_or rest a 0 ∷ run (drop (a + 1) rest)
    led_part = between_slice a e rest ∙ led rest a e h q

    pub unsigned_within_is : (v : ℕ) → Some v ≡ reading (slice_range rest a e) → v ≤ 2147483647 → FrontIs rest a (AnInteger v a e)
    unsigned_within_is v r k =
        let cs = run (drop (a + 1) rest) in
        let w = within (get_or rest a 0 ∷ cs) v (rw led_part at r) in
        let good = unsigned_good (get_or rest a 0) cs nonzero w.0 (omega (arith, w.1)) in
        unsigned_is v (omega arith) (good ∙ ap (λ n. integer (plus n)) (sym w.1))

    pub unsigned_beyond_is : ((v : ℕ) → Some v ≡ reading (slice_range rest a e) → 2147483647 < v) → FrontIs rest a (Bad a)
    unsigned_beyond_is k =
        let cs = run (drop (a + 1) rest) in
        bad_unsigned_is (unsigned_bad (get_or rest a 0) cs nonzero (beyond (get_or rest a 0 ∷ cs) 2147483647 (rw led_part at k)))

module _ (rest : Bytes) (a e : ℕ) (h : a + 1 < length rest) (q : e ≡ end_of_run rest (a + 1)) (m : get_or rest a 0 ≡ byte "-") (d : digit (get_or rest (a + 1) 0) ≡ true) where
  before : a < length rest
  before = omega arith

  digits_behind : run (drop (a + 1) rest) ≡ get_or rest (a + 1) 0 ∷ run (drop (a + 1 + 1) rest)
  digits_behind = run_of_digit rest (a + 1) h d

  minus_digits : (t : Token) → negative (get_or rest (a + 1) 0 ∷ run (drop (a + 1 + 1) rest)) ≡ t
      → front (get_or rest a 0) (drop (a + 1) rest) ≡ Front.token (length (run (drop (a + 1) rest))) t
  unfolding minus_front when◌then◌else◌
  minus_digits t n =
      let first : Rattle.meaning.specs.Tokens.next_is digit (drop (a + 1) rest) ≡ true = next_in digit rest (a + 1) h ∙ d in
      let same : negative (run (drop (a + 1) rest)) ≡ t = rw digits_behind n in
      minus_leads (get_or rest a 0) (drop (a + 1) rest) m ∙ rw first (ap (λ u. Front.token (length (run (drop (a + 1) rest))) u) same)

  bad_negative_is : negative (get_or rest (a + 1) 0 ∷ run (drop (a + 1 + 1) rest)) ≡ bad → FrontIs rest a (Bad a)
  bad_negative_is n = bad_in_front rest a before _ (minus_digits bad n)

  pub minus_zero_is : get_or rest (a + 1) 0 ≡ 48 → FrontIs rest a (Bad a)
  minus_zero_is z = bad_negative_is (rw z (negative_zero_led (run (drop (a + 1 + 1) rest))))

  module _ (nonzero : get_or rest (a + 1) 0 ≡ 48 → ⊥) where
    first_digit : 49 ≤ get_or rest (a + 1) 0
    first_digit =
        let within_digits = digit_bytes (get_or rest (a + 1) 0) d in
        omega arith

    pub long_negative_is : 11 < e - a → FrontIs rest a (Bad a)
    long_negative_is k =
        let cs = run (drop (a + 1 + 1) rest) in
        let many : 10 ≤ length cs = omega (arith, ap length digits_behind) in
        bad_negative_is (negative_bad (get_or rest (a + 1) 0) cs nonzero (too_long (get_or rest (a + 1) 0) cs nonzero 2147483648 (omega arith) first_digit many))

    part_behind : slice_range rest (a + 1) e ≡ get_or rest (a + 1) 0 ∷ run (drop (a + 1 + 1) rest)
    part_behind = between_slice (a + 1) e rest ∙ rw q (sym (run_part rest (a + 1)) ∙ digits_behind)

    pub negative_within_is : (v : ℕ) → Some v ≡ reading (slice_range rest (a + 1) e) → v ≤ 2147483648 → FrontIs rest a (AnInteger (4294967296 - v) a e)
    negative_within_is v r k =
        let c = get_or rest (a + 1) 0 in
        let cs = run (drop (a + 1 + 1) rest) in
        let w = within (c ∷ cs) v (rw part_behind at r) in
        let good = negative_good c cs nonzero w.0 (omega (arith, w.1)) ∙ ap (λ n. integer (minus n)) (sym w.1) in
        let some : 0 < v = omega (arith, w.1, value_positive c cs first_digit) in
        let inside : e ≤ length rest = rw q (run_inside rest (a + 1) (omega arith)) in (
          omega arith,
          omega arith,
          inside,
          omega arith,
          minus v,
          refl,
          token_in_front rest a before (length (run (drop (a + 1) rest))) e (integer (minus v)) (minus_digits (integer (minus v)) good) (sym q) inside,
        )

    pub negative_beyond_is : ((v : ℕ) → Some v ≡ reading (slice_range rest (a + 1) e) → 2147483648 < v) → FrontIs rest a (Bad a)
    negative_beyond_is k =
        let c = get_or rest (a + 1) 0 in
        let cs = run (drop (a + 1 + 1) rest) in
        bad_negative_is (negative_bad c cs nonzero (beyond (c ∷ cs) 2147483648 (rw part_behind at k)))
