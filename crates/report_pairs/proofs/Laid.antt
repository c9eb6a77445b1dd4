-- Bytes put behind bytes, and a buffer whose front is filled.
use Prim.Native.Nat.{ℕ, zero, suc, ◌+◌, ◌≤◌, ◌<◌}
use mathlib.Core.Path.{◌≡◌, refl, sym, ap, ap₂, ◌∙◌}
use mathlib.Core.List.{List, [], ◌∷◌, ◌++◌, append_assoc}
use native.Mathlib.Omega.{arith}
use lib.ListN.{length, length-append, length-set, set, drop}
use Rattle.meaning.specs.Bytes.{Bytes}
use Rattle.report_pairs.specs.Laid.{laid, Puts}

pub laid_size : (bs : Bytes) (b : List ℕ) (at : ℕ) → length (laid b at bs) ≡ length b
unfolding laid
laid_size [] b at = refl
laid_size (c ∷ bs) b at = laid_size bs (set b at c) (at + 1) ∙ length-set b at c

pub laid_append : (xs ys : Bytes) (b : List ℕ) (at : ℕ) → laid (laid b at xs) (at + length xs) ys ≡ laid b at (xs ++ ys)
unfolding laid
laid_append [] ys b at = let none : at + 0 ≡ at = omega arith in ap (λ (i : ℕ). laid b i ys) none
laid_append (c ∷ xs) ys b at =
    let next : at + suc (length xs) ≡ at + 1 + length xs = omega arith in
    ap (λ (i : ℕ). laid (laid (set b at c) (at + 1) xs) i ys) next ∙ laid_append xs ys (set b at c) (at + 1)

-- No bytes; one byte; bytes behind bytes; the same bytes by another equation; the buffer's length.
pub puts_none : (b : List ℕ) (at : ℕ) → Puts b b at at []
unfolding laid
puts_none b at = record { place = omega arith; laid_there = refl }

pub puts_one : (b : List ℕ) (at c : ℕ) → Puts b (set b at c) at (at + 1) (c ∷ [])
unfolding laid
puts_one b at c = record { place = refl; laid_there = refl }

pub puts_behind : (xs ys : Bytes) (b c d : List ℕ) (at m to : ℕ) → Puts b c at m xs → Puts c d m to ys → Puts b d at to (xs ++ ys)
puts_behind xs ys b c d at m to p q =
    record {
      place = q.place ∙ ap (λ (n : ℕ). n + length ys) p.place ∙ simp length-append (omega arith);
      laid_there = q.laid_there ∙ ap₂ (λ (l : List ℕ) (i : ℕ). laid l i ys) p.laid_there p.place ∙ laid_append xs ys b at;
    }

pub puts_as : (xs ys : Bytes) (b c : List ℕ) (at to : ℕ) → xs ≡ ys → Puts b c at to xs → Puts b c at to ys
puts_as xs ys b c at to e p = rw e at p

pub puts_size : (bs : Bytes) (b c : List ℕ) (at to : ℕ) → Puts b c at to bs → length c ≡ length b
puts_size bs b c at to p = ap length p.laid_there ∙ laid_size bs b at

-- Put from the front on, the bytes stand at the front and the others behind keep their values.
set_middle : (front behind : List ℕ) (a b : ℕ) → set (front ++ (a ∷ behind)) (length front) b ≡ front ++ (b ∷ behind)
set_middle [] behind a b = refl
set_middle (x ∷ front) behind a b = ap (◌∷◌ x) (set_middle front behind a b)

laid_middle : (bs : Bytes) (front back : List ℕ) → length bs ≤ length back
    → laid (front ++ back) (length front) bs ≡ front ++ (bs ++ drop (length bs) back)
unfolding laid
laid_middle [] front back h = refl
laid_middle (b ∷ bs) front [] h = absurd (omega arith)
laid_middle (b ∷ bs) front (m ∷ back) h =
    let one : length front + 1 ≡ length (front ++ (b ∷ [])) = sym (length-append front (b ∷ [])) in
    ap₂ (λ (l : List ℕ) (i : ℕ). laid l i bs) (set_middle front back m b ∙ sym (append_assoc front (b ∷ []) back)) one
    ∙ laid_middle bs (front ++ (b ∷ [])) back (omega arith)
    ∙ append_assoc front (b ∷ []) (bs ++ drop (length bs) back)

pub laid_whole : (bs : Bytes) (b : List ℕ) → length bs ≤ length b → laid b 0 bs ≡ bs ++ drop (length bs) b
laid_whole bs b h = laid_middle bs [] b h
