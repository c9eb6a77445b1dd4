-- What is stored one after the other: a clause linked before those behind it, a place kept behind those before it.
use Prim.Native.Nat.{ℕ, suc, ◌+◌, ◌*◌, ◌≤◌, ◌<◌}
use mathlib.Core.Path.{◌≡◌, refl}
use mathlib.Core.List.{List, ◌∷◌}
use native.Mathlib.Omega.{arith}
use native.Mathlib.Numerals.{add-one}
use lib.ListN.{length, get_or, take, drop, set, length-take, drop_of_length-le}
use lib.Seq.{drop-cons, get_or-take}
use Rattle.term.specs.Layout.{procedure_slot, clause_record}
use Rattle.load_image.specs.Image.{linked, link_one}
use Rattle.load_image.specs.Kept.{pairs_kept}

-- Nothing is linked yet.
pub linked_none : (n : ℕ) (heads s : List ℕ) → s ≡ linked n (drop n (take n heads)) s
unfolding linked
linked_none n heads s =
    let short : length (take n heads) ≤ n = omega (arith, length-take n heads) in
    rw (drop_of_length-le (take n heads) short)

linked_cons : (k w : ℕ) (ws s : List ℕ) → linked k (w ∷ ws) s ≡ link_one k w (linked (k + 1) ws s)
unfolding linked
linked_cons k w ws s = refl

-- One clause more, in front of those that are linked.
pub linked_again : (heads : List ℕ) (clauses j k first r : ℕ) (s s₀ : List ℕ) → j + 1 ≡ k → k ≤ clauses → clauses ≤ length heads
    → first ≡ procedure_slot (get_or heads j 0) → r ≡ j + 1 → s ≡ linked k (drop k (take clauses heads)) s₀
    → set (set s (clause_record j) (get_or s first 0)) first r ≡ linked j (drop j (take clauses heads)) s₀
unfolding link_one
linked_again heads clauses j k first r s s₀ e small inside f w h =
    let l = take clauses heads in
    let short : j < length l = omega (arith, length-take clauses heads) in
    let low : j < clauses = omega arith in
    rw (f, w, h, ← e, drop-cons l j 0 short, get_or-take clauses heads j 0 low, linked_cons j (get_or heads j 0) (drop (suc j) l) s₀, ← (add-one j))

-- One place more, behind those that are kept.
pub kept_again : (table : List ℕ) (from place n w : ℕ) (s s₀ : List ℕ) → w ≡ from → s ≡ pairs_kept table from place n s₀
    → set (set s (place + 2 * n) (w + get_or table (2 * n) 0)) (place + 2 * n + 1) (get_or table (2 * n + 1) 0)
    ≡ pairs_kept table from place (n + 1) s₀
unfolding pairs_kept
kept_again table from place n w s s₀ e h = rw (add-one n, e, h)

pub kept_none : (table : List ℕ) (from place : ℕ) (s : List ℕ) → s ≡ pairs_kept table from place 0 s
unfolding pairs_kept
kept_none table from place s = refl
