-- A number in decimal by its last digit and the number without it: what writes digits by dividing writes these.
use Prim.Native.Nat.{ℕ, zero, suc, ◌+◌, ◌*◌, ◌/◌, ◌%◌, ◌≤◌, ◌<◌}
use mathlib.Core.Path.{◌≡◌, refl, sym, ap, ◌∙◌}
use mathlib.Core.Bool.{Bool, true, false}
use mathlib.Core.List.{[], ◌∷◌, ◌++◌, append_assoc}
use native.Mathlib.Decide.{dec_lt}
use native.Mathlib.Omega.{arith}
use lib.Dec.{ltb}
use lib.ListN.{length, length-append}
use borrow.Author.Tests.{leb-true, le-leb}
use Rattle.meaning.specs.Bytes.{Bytes, digits, decimal}

-- Digits before others are the digits alone, and then the others.
digits_before : (fuel n : ℕ) (behind : Bytes) → digits fuel n behind ≡ digits fuel n [] ++ behind
unfolding digits
digits_before zero n behind = refl
digits_before (suc fuel) n behind =
    go (ltb n 10) refl (digits_before fuel (n / 10) ((48 + n % 10) ∷ behind)) (digits_before fuel (n / 10) ((48 + n % 10) ∷ []))
  where
    go : (b : Bool) → ltb n 10 ≡ b
        → digits fuel (n / 10) ((48 + n % 10) ∷ behind) ≡ digits fuel (n / 10) [] ++ ((48 + n % 10) ∷ behind)
        → digits fuel (n / 10) ((48 + n % 10) ∷ []) ≡ digits fuel (n / 10) [] ++ ((48 + n % 10) ∷ [])
        → digits (suc fuel) n behind ≡ digits (suc fuel) n [] ++ behind
    go true e f g = rw (e, digits)
    go false e f g =
        rw (e, digits) (f ∙ sym (append_assoc (digits fuel (n / 10) []) ((48 + n % 10) ∷ []) behind) ∙ ap (λ (l : Bytes). l ++ behind) (sym g))

-- More fuel than the number changes nothing.
digits_fuel : (f g n : ℕ) (behind : Bytes) → n ≤ f → n ≤ g → digits f n behind ≡ digits g n behind
unfolding digits
digits_fuel zero zero n behind h k = refl
digits_fuel zero (suc g) n behind h k = rw (le-leb (suc n) 10 (omega arith), digits)
digits_fuel (suc f) zero n behind h k = rw (le-leb (suc n) 10 (omega arith), digits)
digits_fuel (suc f) (suc g) n behind h k = go (ltb n 10) refl (λ l m. digits_fuel f g (n / 10) ((48 + n % 10) ∷ behind) l m)
  where
    go : (b : Bool) → ltb n 10 ≡ b
        → (n / 10 ≤ f → n / 10 ≤ g → digits f (n / 10) ((48 + n % 10) ∷ behind) ≡ digits g (n / 10) ((48 + n % 10) ∷ behind))
        → digits (suc f) n behind ≡ digits (suc g) n behind
    go true e further = rw (e, digits)
    go false e further = rw (e, digits) (further (omega arith) (omega arith))

-- A number below ten is its digit; any other is the number without its last digit, and then that digit.
pub decimal_digit : (n : ℕ) → n < 10 → decimal n ≡ (48 + n) ∷ []
unfolding decimal digits
decimal_digit zero h = refl
decimal_digit (suc n) h = rw (le-leb (suc (suc n)) 10 h, digits)

pub decimal_step : (n : ℕ) → 10 ≤ n → decimal n ≡ decimal (n / 10) ++ ((48 + n % 10) ∷ [])
unfolding decimal digits
decimal_step zero h = absurd (omega arith)
decimal_step (suc n) h =
    let large : ltb (suc n) 10 ≡ false = not_less (suc n) h in
    rw (large, digits)
    (digits_fuel n (suc n / 10) (suc n / 10) ((48 + suc n % 10) ∷ []) (omega arith) (omega arith)
    ∙ digits_before (suc n / 10) (suc n / 10) ((48 + suc n % 10) ∷ []))
  where
    not_less : (m : ℕ) → 10 ≤ m → ltb m 10 ≡ false
    not_less m k = go (ltb m 10) refl
      where
        go : (b : Bool) → ltb m 10 ≡ b → ltb m 10 ≡ false
        go true e = absurd (omega (arith, leb-true (suc m) 10 e))
        go false e = e

-- So it has one digit more.
pub decimal_length : (n : ℕ) → 10 ≤ n → length (decimal n) ≡ length (decimal (n / 10)) + 1
decimal_length n h = ap length (decimal_step n h) ∙ length-append (decimal (n / 10)) ((48 + n % 10) ∷ [])

-- A number below a power of ten has few digits.
power : ℕ → ℕ
power zero = 10
power (suc k) = 10 * power k

fewer : (k n : ℕ) → n < power k → length (decimal n) ≤ suc k
unfolding power
fewer zero n h = omega (arith, ap length (decimal_digit n h))
fewer (suc k) n h = go (dec_lt n 10) (fewer k (n / 10))
  where
    go : Dec (n < 10) → (n / 10 < power k → length (decimal (n / 10)) ≤ suc k) → length (decimal n) ≤ suc (suc k)
    go (yes b) further = omega (arith, ap length (decimal_digit n b))
    go (no b) further = omega (arith, decimal_length n (omega arith), further (omega arith))

pub decimal_few : (n : ℕ) → n < 18446744073709551616 → length (decimal n) ≤ 20
unfolding power
decimal_few n h = fewer 19 n (omega arith)
