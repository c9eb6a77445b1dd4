-- Bytes put one behind the other, with everything but the bytes left to be found.
use Prim.Native.Nat.{ℕ, ◌+◌}
use mathlib.Core.Path.{◌≡◌}
use mathlib.Core.List.{List, [], ◌∷◌, ◌++◌}
use lib.ListN.{length}
use Rattle.meaning.specs.Bytes.{Bytes}
use Rattle.report_pairs.specs.Laid.{Puts}
use Rattle.report_pairs.proofs.Laid.{puts_behind, puts_as, puts_size}

pub puts_two : {xs ys : Bytes} {b c d : List ℕ} {at m to : ℕ} → Puts b c at m xs → Puts c d m to ys → Puts b d at to (xs ++ ys)
puts_two {xs} {ys} {b} {c} {d} {at} {m} {to} p q = puts_behind xs ys b c d at m to p q

pub puts_is : {xs ys : Bytes} {b c : List ℕ} {at to : ℕ} → xs ≡ ys → Puts b c at to xs → Puts b c at to ys
puts_is {xs} {ys} {b} {c} {at} {to} e p = puts_as xs ys b c at to e p

pub puts_length : {xs : Bytes} {b c : List ℕ} {at to : ℕ} → Puts b c at to xs → length c ≡ length b
puts_length {xs} {b} {c} {at} {to} p = puts_size xs b c at to p

pub puts_one_place : {x : ℕ} {b c : List ℕ} {at to : ℕ} → Puts b c at to (x ∷ []) → to ≡ at + 1
puts_one_place p = p.place
