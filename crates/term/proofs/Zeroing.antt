-- A region that is zeroed: its words are zero, no other word has changed; and the pairs' words of which a run asks that they are zero stay so.
use Prim.Native.Nat.{ℕ, zero, suc, ◌+◌, ◌≤◌, ◌<◌}
use mathlib.Core.Path.{◌≡◌, refl, ◌∙◌}
use mathlib.Core.List.{List}
use mathlib.Core.Logic.{⊎_elim}
use native.Mathlib.Omega.{arith}
use native.Mathlib.Nat.{eq-or-lt_of_le}
use native.Mathlib.Numerals.{add-one}
use lib.ListN.{length, get_or, set, length-set}
use lib.Seq.{get_or-set_same, get_or-set_other}
use Rattle.meaning.specs.State.{Room}
use Rattle.term.specs.Frames.{Only, zeroed}
use Rattle.term.specs.Layout.{values_region, queue_region}
use Rattle.term.specs.States.{PairsZero}

pub zeroed_only : (from n : ℕ) (s : List ℕ) → Only from (from + n) s (zeroed from n s)
unfolding zeroed
zeroed_only from zero s = record { size = refl; below = λ k h. refl; above = λ k h. refl }
zeroed_only from (suc n) s =
    let t = zeroed from n s in
    let before = zeroed_only from n s in
    record {
      size = length-set t (from + n) 0 ∙ before.size;
      below = λ k h. get_or-set_other t (from + n) k 0 0 (λ e. omega arith) ∙ before.below k h;
      above = λ k h. get_or-set_other t (from + n) k 0 0 (λ e. omega arith) ∙ before.above k (omega arith);
    }

pub zeroed_zero : (from n : ℕ) (s : List ℕ) (k : ℕ) → from + n ≤ length s → from ≤ k → k < from + n → get_or (zeroed from n s) k 0 ≡ 0
unfolding zeroed
zeroed_zero from zero s k inside low high = absurd (omega arith)
zeroed_zero from (suc n) s k inside low high =
    let t = zeroed from n s in
    let size = (zeroed_only from n s).size in
    let last : k ≤ from + n = omega arith in
    ⊎_elim
    (λ (e : k ≡ from + n). rw e (get_or-set_same t (from + n) 0 0 (omega arith)))
    (λ (l : k < from + n). get_or-set_other t (from + n) k 0 0 (λ e. omega arith) ∙ zeroed_zero from n s k (omega arith) low l)
    (eq-or-lt_of_le last)

-- No word yet, and one word more.
pub zeroed_none : (from : ℕ) (s : List ℕ) → zeroed from 0 s ≡ s
unfolding zeroed
zeroed_none from s = refl

pub zeroed_next : (from n : ℕ) (s : List ℕ) → set (zeroed from n s) (from + n) 0 ≡ zeroed from (n + 1) s
unfolding zeroed
zeroed_next from n s = rw (add-one n) refl

pub pairs_zero_kept : (s s' : List ℕ) (figures : Room) → ((k : ℕ) → values_region figures ≤ k → k < queue_region figures → get_or s' k 0 ≡ get_or s k 0)
    → PairsZero s figures → PairsZero s' figures
pairs_zero_kept s s' figures same z = record {
  values_waiters = λ k a b. same k a (omega arith) ∙ z.values_waiters k a b;
  marks = λ k a b. same k (omega arith) (omega arith) ∙ z.marks k a b;
  ends = λ k a b. same k (omega arith) b ∙ z.ends k a b;
}
