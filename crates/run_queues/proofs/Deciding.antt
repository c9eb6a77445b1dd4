-- A test on two numbers, decided.
use Prim.Native.Nat.{ℕ, ◌≤◌, ◌<◌}
use mathlib.Core.Path.{◌≡◌, refl}
use mathlib.Core.Bool.{Bool, true, false}
use native.Mathlib.Omega.{arith}
use lib.Dec.{ltb}
use borrow.Author.Tests.{ltb-true, ltb-false}
use Rattle.meaning.specs.Bytes.{when◌then◌else◌}

pub if_below : {A : Type 0} (m n : ℕ) (a b : A) → m < n → (when ltb m n then a else b) ≡ a
unfolding when◌then◌else◌
if_below m n a b h = go (ltb m n) refl
  where
    go : (t : Bool) → ltb m n ≡ t → (when t then a else b) ≡ a
    go true e = refl
    go false e = absurd (omega (arith, ltb-false m n e))

pub if_beyond : {A : Type 0} (m n : ℕ) (a b : A) → n ≤ m → (when ltb m n then a else b) ≡ b
unfolding when◌then◌else◌
if_beyond m n a b h = go (ltb m n) refl
  where
    go : (t : Bool) → ltb m n ≡ t → (when t then a else b) ≡ b
    go true e = absurd (omega (arith, ltb-true m n e))
    go false e = refl
