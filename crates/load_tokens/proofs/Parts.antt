-- Lists by offsets: the element at an offset with what stands behind it, and a part of a list by its length or by its end.
-- The code's `i + 1` stands where the library's laws have `suc i`.
use Prim.Native.Nat.{ℕ, zero, suc, ◌+◌, ◌≤◌, ◌<◌}
use mathlib.Core.Path.{◌≡◌, ◌∙◌}
use mathlib.Core.List.{List, [], ◌∷◌}
use native.Mathlib.Nat.{zero-add, suc-add}
use native.Mathlib.Numerals.{add-one}
use Rattle.std.specs.Prelude.{slice_range}
use Rattle.std.proofs.lemmas.Slice.{between_is}
use lib.ListN.{length, take, drop, get_or}
use lib.Seq.{drop-cons, take-nil, slice, slice-cons}

pub drop_next : (l : List ℕ) (i : ℕ) → i < length l → drop i l ≡ get_or l i 0 ∷ drop (i + 1) l
drop_next l i h = rw (add-one i) (drop-cons l i 0 h)

pub slice_next : (f t : ℕ) (l : List ℕ) → f < t → t ≤ length l → slice f t l ≡ get_or l f 0 ∷ slice (f + 1) t l
slice_next f t l h k = rw (add-one f) (slice-cons f t l 0 h k)

-- So many elements from an offset on are those up to the offset behind them.
pub take_drop : (f k : ℕ) (l : List ℕ) → take k (drop f l) ≡ slice f (f + k) l
take_drop zero k l = rw (zero-add k)
take_drop (suc f) k [] = take-nil k ∙ rw (suc-add f k)
take_drop (suc f) k (x ∷ xs) = rw (suc-add f k) (take_drop f k xs)

-- The code's part of a slice.
pub between_slice : (f t : ℕ) (l : List ℕ) → slice_range l f t ≡ slice f t l
between_slice f t l = between_is l f t
