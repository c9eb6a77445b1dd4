-- How many words have not a mark: a new mark takes one away, and marks never add any.
use Prim.Native.Nat.{ℕ, zero, suc, ◌+◌, ◌≤◌, ◌<◌}
use mathlib.Core.Path.{◌≡◌, refl, sym, ap, ◌∙◌}
use mathlib.Core.Bool.{Bool, true, false, true≢false}
use mathlib.Core.List.{List, [], ◌∷◌}
use native.Mathlib.Omega.{arith}
use lib.ListN.{length, get_or, set, length-set}
use lib.Seq.{get_or-set_other}
use Rattle.meaning.specs.Bytes.{when◌then◌else◌}

unfoldable pub unseen : (ℕ → Bool) → List ℕ → ℕ
unseen marked [] = 0
unseen marked (n ∷ ns) = (when marked n then 0 else 1) + unseen marked ns

pub unseen_set : (marked : ℕ → Bool) (s : List ℕ) (i w : ℕ) → i < length s → marked (get_or s i 0) ≡ false → marked w ≡ true
    → unseen marked (set s i w) + 1 ≤ unseen marked s
unfolding unseen when◌then◌else◌
unseen_set marked [] i w h d e = absurd (omega arith)
unseen_set marked (n ∷ ns) zero w h d e = rw (d, e) (omega arith)
unseen_set marked (n ∷ ns) (suc i) w h d e = omega (arith, unseen_set marked ns i w (omega arith) d e)

one_seen : (marked : ℕ → Bool) (m n : ℕ) → ((marked m ≡ true → ⊥) → m ≡ n) → (when marked m then 0 else 1) ≤ (when marked n then 0 else 1)
unfolding when◌then◌else◌
one_seen marked m n others = go (marked m) refl
  where
    go : (b : Bool) → marked m ≡ b → (when b then 0 else 1) ≤ (when marked n then 0 else 1)
    go true e = omega arith
    go false e =
        let same : m ≡ n = others (λ f. true≢false (sym f ∙ e)) in
        let e' : marked n ≡ false = rw same at e in
        rw e' (omega arith)

pub unseen_less : (marked : ℕ → Bool) (s s' : List ℕ) → length s' ≡ length s
    → ((k : ℕ) → (marked (get_or s' k 0) ≡ true → ⊥) → get_or s' k 0 ≡ get_or s k 0) → unseen marked s' ≤ unseen marked s
unfolding unseen
unseen_less marked [] [] e others = omega arith
unseen_less marked [] (m ∷ ms) e others = absurd (omega arith)
unseen_less marked (n ∷ ns) [] e others = absurd (omega arith)
unseen_less marked (n ∷ ns) (m ∷ ms) e others =
    omega (arith, one_seen marked m n (others 0), unseen_less marked ns ms (omega arith) (λ k. others (suc k)))

-- Where one word is newly marked.
pub unseen_new : (marked : ℕ → Bool) (s s' : List ℕ) (i : ℕ) → length s' ≡ length s → i < length s → marked (get_or s i 0) ≡ false
    → marked (get_or s' i 0) ≡ true → ((k : ℕ) → (marked (get_or s' k 0) ≡ true → ⊥) → get_or s' k 0 ≡ get_or s k 0)
    → unseen marked s' + 1 ≤ unseen marked s
unseen_new marked s s' i size inside d e others =
    omega (arith, unseen_less marked (set s i (get_or s' i 0)) s' (size ∙ sym (length-set s i (get_or s' i 0))) same, unseen_set marked s i (get_or s' i 0) inside d e)
  where
    same : (k : ℕ) → (marked (get_or s' k 0) ≡ true → ⊥) → get_or s' k 0 ≡ get_or (set s i (get_or s' i 0)) k 0
    same k n = others k n ∙ sym (get_or-set_other s i k (get_or s' i 0) 0 (λ f. n (ap (λ l. marked (get_or s' l 0)) f ∙ e)))
