-- How many of the first i elements pass a test, one element after the other.
use Prim.Native.Nat.{ℕ, ◌+◌, ◌<◌}
use mathlib.Core.Path.{◌≡◌, refl}
use mathlib.Core.Bool.{Bool, true, false}
use mathlib.Core.List.{List, [], ◌∷◌}
use native.Mathlib.Omega.{arith}
use native.Mathlib.Numerals.{add-one}
use lib.ListN.{length, get_or, take, length-append}
use lib.Seq.{take-suc}
use Rattle.meaning.specs.Bytes.{those, when◌then◌else◌}
use Rattle.laws.proofs.Lists.Filters.{those_append}

those_one : (test : ℕ → Bool) (x : ℕ) → test x ≡ true → length (those test (x ∷ [])) ≡ 1
unfolding those when◌then◌else◌
those_one test x h = rw h

those_no_one : (test : ℕ → Bool) (x : ℕ) → test x ≡ false → length (those test (x ∷ [])) ≡ 0
unfolding those when◌then◌else◌
those_no_one test x h = rw h

module _ (test : ℕ → Bool) (l : List ℕ) (i : ℕ) (inside : i < length l) where
  those_split : length (those test (take (i + 1) l)) ≡ length (those test (take i l)) + length (those test (get_or l i 0 ∷ []))
  those_split =
      rw (add-one i, take-suc l i 0 inside, those_append test (take i l) (get_or l i 0 ∷ []), length-append (those test (take i l)) (those test (get_or l i 0 ∷ [])))

  pub those_passes : test (get_or l i 0) ≡ true → length (those test (take (i + 1) l)) ≡ length (those test (take i l)) + 1
  those_passes h = rw (those_split, those_one test (get_or l i 0) h)

  pub those_fails : test (get_or l i 0) ≡ false → length (those test (take (i + 1) l)) ≡ length (those test (take i l))
  those_fails h = omega (arith, those_split, those_no_one test (get_or l i 0) h)

pub those_none : (test : ℕ → Bool) (l : List ℕ) → length (those test (take 0 l)) ≡ 0
unfolding those
those_none test l = refl
