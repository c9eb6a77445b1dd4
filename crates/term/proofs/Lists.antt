-- Lists of words: zeroing them from the front, one word at a time.
use Prim.Native.Nat.{ℕ, zero, suc, ◌+◌, ◌<◌}
use mathlib.Core.Path.{◌≡◌, refl, ap}
use mathlib.Core.List.{List, ◌∷◌, ◌++◌}
use native.Mathlib.Numerals.{add-one}
use lib.ListN.{length, set, drop, replicate, length-replicate}
use lib.Seq.{drop-cons, set_at}

zero_behind : (i : ℕ) (rest : List ℕ) → replicate i 0 ++ 0 ∷ rest ≡ 0 ∷ (replicate i 0 ++ rest)
zero_behind zero rest = refl
zero_behind (suc i) rest = ap (λ l. 0 ∷ l) (zero_behind i rest)

-- One word more is zero.
pub zero_next : (s : List ℕ) (i : ℕ) → i < length s → set (replicate i 0 ++ drop i s) i 0 ≡ replicate (i + 1) 0 ++ drop (i + 1) s
zero_next s i h =
    rw (add-one i, drop-cons s i 0 h, set_at (replicate i 0) _ (drop (suc i) s) 0 i (length-replicate i 0))
    (zero_behind i (drop (suc i) s))
