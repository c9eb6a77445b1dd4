-- Bytes that stand in a whole: in pieces, and by other equations. What was put stands where it was put, and the bytes before it are as they were.
use Prim.Native.Nat.{ℕ, zero, suc, ◌+◌, ◌-◌, ◌≤◌, ◌<◌}
use mathlib.Core.Path.{◌≡◌, refl, sym, ap, ◌∙◌}
use mathlib.Core.List.{List, [], ◌∷◌, ◌++◌}
use native.Mathlib.Decide.{dec_lt}
use native.Mathlib.Omega.{arith}
use lib.ListN.{length, length-append, length-set, get_or, set, get_or-append}
use lib.Seq.{get_or-set_same, get_or-set_other, get_or-append-add}
use Rattle.meaning.specs.Bytes.{Bytes}
use Rattle.report_pairs.specs.Laid.{laid, Puts, Has}

-- The first piece, and the one behind it.
pub has_front : (xs ys whole : Bytes) (at : ℕ) → Has whole at (xs ++ ys) → Has whole at xs
has_front xs ys whole at h k l = h k (omega (arith, length-append xs ys)) ∙ get_or-append xs ys 0 k l

pub has_behind : (xs ys whole : Bytes) (at to : ℕ) → to ≡ at + length xs → Has whole at (xs ++ ys) → Has whole to ys
has_behind xs ys whole at to e h k l =
    let place : to + k ≡ at + (length xs + k) = omega arith in
    ap (λ (n : ℕ). get_or whole n 0) place ∙ h (length xs + k) (omega (arith, length-append xs ys)) ∙ get_or-append-add xs ys k 0

pub has_as : {xs ys : Bytes} (whole : Bytes) (at : ℕ) → xs ≡ ys → Has whole at xs → Has whole at ys
has_as whole at e h = rw e at h

-- The bytes before what was put.
pub laid_before : (bs : Bytes) (b : List ℕ) (at k : ℕ) → k < at → get_or (laid b at bs) k 0 ≡ get_or b k 0
unfolding laid
laid_before [] b at k h = refl
laid_before (c ∷ bs) b at k h = laid_before bs (set b at c) (at + 1) k (omega arith) ∙ get_or-set_other b at k c 0 (λ e. omega arith)

-- What was put.
pub laid_has : (bs : Bytes) (b : List ℕ) (at : ℕ) → at + length bs ≤ length b → Has (laid b at bs) at bs
unfolding laid
laid_has [] b at h k l = absurd (omega arith)
laid_has (c ∷ bs) b at h zero l =
    let place : at + 0 ≡ at = omega arith in
    ap (λ (n : ℕ). get_or (laid (set b at c) (at + 1) bs) n 0) place ∙ laid_before bs (set b at c) (at + 1) at (omega arith)
    ∙ get_or-set_same b at c 0 (omega arith)
laid_has (c ∷ bs) b at h (suc k) l =
    let place : at + suc k ≡ at + 1 + k = omega arith in
    ap (λ (n : ℕ). get_or (laid (set b at c) (at + 1) bs) n 0) place ∙ laid_has bs (set b at c) (at + 1) (omega (arith, length-set b at c)) k (omega arith)

-- A buffer that agreed with a whole up to a place agrees with it behind what was put there, if the whole has it there.
pub puts_agree : (bs : Bytes) (b b' : List ℕ) (at to : ℕ) (whole : Bytes) → at + length bs ≤ length b → Puts b b' at to bs → Has whole at bs
    → ((k : ℕ) → k < at → get_or b k 0 ≡ get_or whole k 0) → (k : ℕ) → k < to → get_or b' k 0 ≡ get_or whole k 0
puts_agree bs b b' at to whole fit p h agree k l = go (dec_lt k at)
  where
    go : Dec (k < at) → get_or b' k 0 ≡ get_or whole k 0
    go (yes c) = ap (λ (l : List ℕ). get_or l k 0) p.laid_there ∙ laid_before bs b at k c ∙ agree k c
    go (no c) =
        let place : k ≡ at + (k - at) = omega arith in
        let inside : k - at < length bs = omega (arith, p.place) in
        ap (λ (l : List ℕ). get_or l k 0) p.laid_there
        ∙ ap (λ (n : ℕ). get_or (laid b at bs) n 0) place
        ∙ laid_has bs b at fit (k - at) inside
        ∙ sym (h (k - at) inside)
        ∙ ap (λ (n : ℕ). get_or whole n 0) (sym place)
