-- A test over the numbers up to n, one number more at a time and as the library makes it.
use Prim.Native.Nat.{ℕ, zero, suc, ◌+◌}
use mathlib.Core.Path.{◌≡◌, refl, sym, ap, ◌∙◌}
use mathlib.Core.Bool.{Bool, true, false, ◌&&◌, and_assoc, and-true}
use mathlib.Core.List.{List, [], ◌∷◌, ◌++◌}
use native.Mathlib.Omega.{arith}
use native.Mathlib.Nat.{add-zero, zero-add}
use native.Mathlib.Numerals.{add-one}
use Rattle.std.specs.List.{list_all, range_with_len}
use Rattle.meaning.specs.Bytes.{all, up_to}

all_append : (test : ℕ → Bool) (xs ys : List ℕ) → all test (xs ++ ys) ≡ all test xs && all test ys
unfolding all
all_append test [] ys = refl
all_append test (x ∷ xs) ys = rw (all_append test xs ys) (sym (and_assoc (test x) (all test xs) (all test ys)))

-- One number more.
pub all_suc : (test : ℕ → Bool) (n : ℕ) → all test (up_to (suc n)) ≡ all test (up_to n) && test n
unfolding up_to all
all_suc test n = rw (all_append test (up_to n) (n ∷ []), and-true (test n))

-- As the library tests them, from some number on.
all_from : (test : ℕ → Bool) (a n : ℕ) → (all test (up_to a) && list_all test (range_with_len a n)) ≡ all test (up_to (a + n))
all_from test a zero = rw (add-zero a) (and-true (all test (up_to a)))
all_from test a (suc n) =
    sym (and_assoc (all test (up_to a)) (test a) (list_all test (range_with_len (a + 1) n)))
    ∙ ap (λ t. t && list_all test (range_with_len (a + 1) n)) (sym (rw (add-one a) (all_suc test a)))
    ∙ all_from test (a + 1) n
    ∙ ap (λ k. all test (up_to k)) (omega arith)

pub all_counted : (test : ℕ → Bool) (n : ℕ) → list_all test (range_with_len 0 n) ≡ all test (up_to n)
unfolding up_to all
all_counted test n = all_from test 0 n ∙ ap (λ k. all test (up_to k)) (zero-add n)

-- Both tests at once.
pub swap_and : (a b c d : Bool) → (a && b) && (c && d) ≡ (a && c) && (b && d)
swap_and true true c d = refl
swap_and true false true d = refl
swap_and true false false d = refl
swap_and false b c d = refl
