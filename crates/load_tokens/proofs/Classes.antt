-- The classes of bytes by the numbers of their bytes: a byte of one class lies outside the others.
-- A test that passes bounds the byte, and a byte out of bounds fails the test.
use Prim.Native.Nat.{ℕ, ◌≤◌, ◌<◌}
use mathlib.Core.Path.{◌≡◌, refl}
use mathlib.Core.Bool.{Bool, true, false, ◌||◌}
use native.Mathlib.Omega.{arith}
use lib.Dec.{eqb}
use borrow.Author.Tests.{eqb-true}
use Rattle.std.specs.Char.{is_ascii_digit, is_ascii_lowercase, is_ascii_uppercase}
use Rattle.std.proofs.lemmas.Bool.Decides.{nat_tests}
use Rattle.meaning.specs.Bytes.{byte}
use Rattle.meaning.specs.Tokens.{tokens_words, lowercase, uppercase, digit, separates, single_sign}

pub lowercase_bytes : (c : ℕ) → lowercase c ≡ true → (97 ≤ c) × (c ≤ 122)
unfolding tokens_words
lowercase_bytes c e = (grind (arith, nat_tests), grind (arith, nat_tests))

pub uppercase_bytes : (c : ℕ) → uppercase c ≡ true → (65 ≤ c) × (c ≤ 90)
unfolding tokens_words
uppercase_bytes c e = (grind (arith, nat_tests), grind (arith, nat_tests))

pub digit_bytes : (c : ℕ) → digit c ≡ true → (48 ≤ c) × (c ≤ 57)
unfolding tokens_words
digit_bytes c e = (grind (arith, nat_tests), grind (arith, nat_tests))

pub not_lowercase : (c : ℕ) → c < 97 → lowercase c ≡ false
unfolding tokens_words
not_lowercase c h = grind (arith, nat_tests)

pub not_uppercase : (c : ℕ) → c < 65 → uppercase c ≡ false
unfolding tokens_words
not_uppercase c h = grind (arith, nat_tests)

pub not_separates : (c : ℕ) → 32 < c → separates c ≡ false
unfolding tokens_words
not_separates c h = grind (arith, nat_tests)

pub not_remark : (c : ℕ) → 37 < c → eqb c (byte "%") ≡ false
unfolding byte
not_remark c h = grind (arith, nat_tests)

pub either : (a b : Bool) → (a || b) ≡ false → (a ≡ false) × (b ≡ false)
either true b e = (cc, cc)
either false b e = (refl, e)

-- What holds of a byte, and follows from the tests before, holds of what passes one of them or is that byte.
one_more : (P : ℕ → Type 0) (c k : ℕ) (b : Bool) → (b ≡ true → P c) → P k → (b || eqb c k) ≡ true → P c
one_more P c k true q p t = q refl
one_more P c k false q p t = rw (eqb-true c k t) p

-- What holds of each sign of a single byte.
pub of_signs : (P : ℕ → Type 0) → P 40 → P 41 → P 91 → P 93 → P 44 → P 124 → P 46 → (c : ℕ) → single_sign c ≡ true → P c
unfolding tokens_words
of_signs P round close square shut comma bar stop c =
    let two = one_more P c 41 (eqb c 40) (λ t. rw (eqb-true c 40 t) round) close in
    let four = one_more P c 93 _ (one_more P c 91 _ two square) shut in
    one_more P c 46 _ (one_more P c 124 _ (one_more P c 44 _ four comma) bar) stop

-- The library's classes are the definitions'.
pub digit_is : (c : ℕ) → is_ascii_digit c ≡ digit c
unfolding tokens_words
digit_is c = grind (arith, nat_tests)

pub lowercase_is : (c : ℕ) → is_ascii_lowercase c ≡ lowercase c
unfolding tokens_words
lowercase_is c = grind (arith, nat_tests)

pub uppercase_is : (c : ℕ) → is_ascii_uppercase c ≡ uppercase c
unfolding tokens_words
uppercase_is c = grind (arith, nat_tests)
