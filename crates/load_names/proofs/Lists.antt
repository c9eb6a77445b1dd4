-- Lists with one element more, and parts of a list that begins at an offset of another: each by the lists' own recursion.
use Prim.Native.Nat.{ℕ, zero, suc, ◌+◌, ◌-◌, ◌≤◌, ◌<◌}
use mathlib.Core.Path.{◌≡◌, refl, sym, ap, ◌∙◌}
use mathlib.Core.List.{List, [], ◌∷◌, ◌++◌}
use native.Mathlib.Nat.{zero-add, suc-add}
use native.Mathlib.Omega.{arith}
use lib.ListN.{length, get_or, drop, length-drop, replicate}
use lib.Seq.{slice, take-nil, drop-nil, length-slice}

module _ {A : Type 0} where
  pub length_more : (l : List A) (a : A) → length (l ++ (a ∷ [])) ≡ suc (length l)
  length_more [] a = refl
  length_more (b ∷ l) a = ap suc (length_more l a)

  -- What holds at each place of a list, and of one element more behind it, holds at each place of the longer list.
  pub each_more : (P : ℕ → A → Type 0) (l : List A) (a d : A) → ((n : ℕ) → n < length l → P n (get_or l n d)) → P (length l) a
      → (n : ℕ) → n < length (l ++ (a ∷ [])) → P n (get_or (l ++ (a ∷ [])) n d)
  each_more P [] a d all last zero h = last
  each_more P [] a d all last (suc n) h = absurd (omega arith)
  each_more P (b ∷ l) a d all last zero h = all zero (omega arith)
  each_more P (b ∷ l) a d all last (suc n) h = each_more (λ m. P (suc m)) l a d (λ m k. all (suc m) (omega arith)) last n (omega arith)

  pub slice_drop : (from a e : ℕ) (l : List A) → slice a e (drop from l) ≡ slice (from + a) (from + e) l
  slice_drop zero a e l = rw (zero-add a, zero-add e)
  slice_drop (suc from) a e [] = rw (take-nil e, take-nil (suc from + e), drop-nil a, drop-nil (suc from + a))
  slice_drop (suc from) a e (x ∷ l) = rw (suc-add from a, suc-add from e) (slice_drop from a e l)

  -- A part of a list is the part of its own length from the same start; and so it is of a longer list, of which that list is the end.
  pub part_here : (l : List A) (a e : ℕ) → a ≤ e → e ≤ length l
      → (a + length (slice a e l) ≤ length l) × (slice a (a + length (slice a e l)) l ≡ slice a e l)
  part_here l a e ordered within =
      let reaches : a + length (slice a e l) ≡ e = omega (arith, length-slice a e l within) in
      (rw reaches within, rw reaches)

  pub part_behind : (l rest : List A) (from a e : ℕ) → from ≤ length l → rest ≡ drop from l → a ≤ e → e ≤ length rest
      → (from + a + length (slice a e rest) ≤ length l) × (slice (from + a) (from + a + length (slice a e rest)) l ≡ slice a e rest)
  part_behind l rest from a e begins behind ordered within =
      let long : length rest ≡ length l - from = ap length behind ∙ length-drop from l in
      let reaches : from + a + length (slice a e rest) ≡ from + e = omega (arith, length-slice a e rest within) in
      (omega arith, rw (reaches, behind) (sym (slice_drop from a e l)))

pub getD_zeros : (n k : ℕ) → ◌≡◌ {A = ℕ} (get_or (replicate n 0) k 0) 0
getD_zeros zero k = refl
getD_zeros (suc n) zero = refl
getD_zeros (suc n) (suc k) = getD_zeros n k
