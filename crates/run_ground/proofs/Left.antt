-- How many of so many marks have not yet a certain kind: a new mark of that kind takes one away, and none is added where marks keep it.
use Prim.Native.Nat.{ℕ, zero, suc, ◌+◌, ◌≤◌, ◌<◌}
use mathlib.Core.Path.{◌≡◌, refl, sym}
use mathlib.Core.Bool.{Bool, true, false}
use mathlib.Core.List.{List}
use native.Mathlib.Decide.{ℕ_discrete}
use native.Mathlib.Omega.{arith}
use lib.ListN.{length, get_or, set}
use lib.Seq.{get_or-set_same, get_or-set_other}

abbrev one_unless : Bool → ℕ
one_unless true = 0
one_unless false = 1

unfoldable pub left : (ℕ → Bool) → List ℕ → ℕ → ℕ → ℕ
left marked s marks zero = 0
left marked s marks (suc n) = one_unless (marked (get_or s (marks + n) 0)) + left marked s marks n

one_less : (a b : Bool) → (a ≡ true → b ≡ true) → one_unless b ≤ one_unless a
one_less true b h = rw (h refl) (omega arith)
one_less false true h = omega arith
one_less false false h = omega arith

pub left_less : (marked : ℕ → Bool) (s s' : List ℕ) (marks n : ℕ)
    → ((p : ℕ) → p < n → marked (get_or s (marks + p) 0) ≡ true → marked (get_or s' (marks + p) 0) ≡ true)
    → left marked s' marks n ≤ left marked s marks n
unfolding left
left_less marked s s' marks zero stays = omega arith
left_less marked s s' marks (suc n) stays =
    omega (
      arith,
      one_less (marked (get_or s (marks + n) 0)) (marked (get_or s' (marks + n) 0)) (stays n (omega arith)),
      left_less marked s s' marks n (λ p h. stays p (omega arith)),
    )

pub left_set : (marked : ℕ → Bool) (s : List ℕ) (marks n p w : ℕ) → p < n → marks + n ≤ length s → marked (get_or s (marks + p) 0) ≡ false
    → marked w ≡ true → left marked (set s (marks + p) w) marks n + 1 ≤ left marked s marks n
unfolding left
left_set marked s marks zero p w h inside d e = absurd (omega arith)
left_set marked s marks (suc n) p w h inside d e = go (ℕ_discrete p n) (λ l. left_set marked s marks n p w l (omega arith) d e)
  where
    kept : (q : ℕ) → (q ≡ p → ⊥) → get_or (set s (marks + p) w) (marks + q) 0 ≡ get_or s (marks + q) 0
    kept q apart = get_or-set_other s (marks + p) (marks + q) w 0 (λ f. apart (omega arith))

    go : Dec (p ≡ n) → (p < n → left marked (set s (marks + p) w) marks n + 1 ≤ left marked s marks n)
        → one_unless (marked (get_or (set s (marks + p) w) (marks + n) 0)) + left marked (set s (marks + p) w) marks n + 1
        ≤ one_unless (marked (get_or s (marks + n) 0)) + left marked s marks n
    go (yes f) further =
        let now : marked (get_or (set s (marks + p) w) (marks + n) 0) ≡ true =
        rw (← f, get_or-set_same s (marks + p) w 0 (omega arith)) e in
        let was : marked (get_or s (marks + n) 0) ≡ false = rw (← f) d in
        let rest : left marked (set s (marks + p) w) marks n ≤ left marked s marks n =
        left_less marked s (set s (marks + p) w) marks n (λ q l m. rw (kept q (λ g. omega arith)) m) in
        rw (now, was) (omega arith)
    go (no f) further = rw (kept n (λ g. f (sym g))) (omega (arith, further (omega arith)))
