-- One element taken out of a list, at any place: what stood before it and what stood after it are left, in order.
-- A sum over the list is its share and the others'; what holds of each holds of it and of the others. The front is one place.
use Prim.Native.Nat.{ℕ, ◌+◌}
use mathlib.Core.Path.{◌≡◌, refl, ap}
use mathlib.Core.List.{List, [], ◌∷◌, ◌++◌}
use mathlib.Core.Bool.{Bool, false}
use native.Mathlib.Omega.{arith}
use lib.ListN.{length, length-append}
use Rattle.meaning.specs.Bytes.{those}
use Rattle.laws.proofs.Lists.Filters.{those_append, those_out}
use Rattle.laws.proofs.Lists.Sums.{sum, sum_append}
use Rattle.laws.proofs.Lists.EachOf.{Each, each_append, each_split}

pub record TakenOut {A : Type 0} (a : A) (others all : List A) : Type 0 where
  pub before : List A
  pub after : List A
  pub stood : all ≡ before ++ a ∷ after
  pub leaves : others ≡ before ++ after

module _ {A : Type 0} {a : A} where
  pub taken_at : (before after : List A) {all : List A} → all ≡ before ++ a ∷ after → TakenOut a (before ++ after) all
  taken_at before after e = record { before = before; after = after; stood = e; leaves = refl }

  pub taken_front : {others all : List A} → all ≡ a ∷ others → TakenOut a others all
  taken_front {others} e = taken_at [] others e

  pub taken_sum : (f : A → ℕ) {others all : List A} → TakenOut a others all → sum f all ≡ f a + sum f others
  taken_sum f t =
      omega (
        arith,
        ap (sum f) t.stood,
        ap (sum f) t.leaves,
        sum_append f t.before (a ∷ t.after),
        sum_append f t.before t.after,
      )

  pub taken_length : {others all : List A} → TakenOut a others all → length all ≡ length others + 1
  taken_length t = rw (t.stood, t.leaves) (simp length-append (omega arith))

  pub taken_each : (P : A → Type 0) {others all : List A} → TakenOut a others all → Each P all → P a × Each P others
  taken_each P t each =
      let (firsts, behind) = each_split P t.before (a ∷ t.after) (rw t.stood at each) in
      (behind.0, rw t.leaves (each_append P t.before t.after firsts behind.1))

  -- Those that pass a test which it does not pass are the same without it.
  pub taken_other : (test : A → Bool) → test a ≡ false → {others all : List A} → TakenOut a others all → those test all ≡ those test others
  taken_other test passes_not t =
      rw (
        t.stood,
        t.leaves,
        those_append test t.before (a ∷ t.after),
        those_append test t.before t.after,
        those_out test a t.after passes_not,
      )
