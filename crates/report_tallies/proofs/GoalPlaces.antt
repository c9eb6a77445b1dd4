-- The places of a list of goals, and the goals found there.
use Prim.Native.Nat.{ℕ, suc, ◌+◌, ◌*◌, ◌-◌, ◌≤◌, ◌<◌}
use mathlib.Core.Path.{◌≡◌, refl, sym, ap, ◌∙◌}
use mathlib.Core.Bool.{Bool, true, false}
use mathlib.Core.List.{List, [], ◌∷◌}
use native.Mathlib.Omega.{arith}
use lib.Dec.{eqb, ltb}
use lib.ListN.{length, get_or}
use borrow.Author.Tests.{le-leb, leb-true, eq-eqb, ne_eqb}
use Rattle.meaning.specs.Bytes.{when◌then◌else◌}
use Rattle.term.specs.States.{round}
use Rattle.term.specs.Words.{tag_in}
use Rattle.report_tallies.specs.Groups.{goal_in, GroupInside, own, own_from}
use Rattle.report_tallies.specs.declared.groups.Group.{Group}

pub round_below : (size at : ℕ) → at < size → round size at ≡ at
unfolding round when◌then◌else◌
round_below size at h = rw (le-leb (suc at) size h)

pub round_beyond : (size at : ℕ) → size ≤ at → round size at ≡ at - size
unfolding round when◌then◌else◌
round_beyond size at h = go (ltb at size) refl
  where
    go : (b : Bool) → ltb at size ≡ b → round size at ≡ at - size
    go true e = absurd (omega (arith, leb-true (suc at) size e))
    go false e = rw e

-- The place before the ring's end, and beyond it.
pub place_below : (s : List ℕ) (g : Group) (i : ℕ) → GroupInside s g → i < g.count → g.first + i < g.size
    → g.from + g.step * (g.first + i) < length s
place_below s g i inside h k = rw (round_below g.size (g.first + i) k) at (inside.inside i h)

pub place_beyond : (s : List ℕ) (g : Group) (i : ℕ) → GroupInside s g → i < g.count → g.size ≤ g.first + i
    → g.from + g.step * (g.first + i - g.size) < length s
place_beyond s g i inside h k = rw (round_beyond g.size (g.first + i) k) at (inside.inside i h)

pub goal_below : (s : List ℕ) (g : Group) (i : ℕ) → g.first + i < g.size → get_or s (g.from + g.step * (g.first + i)) 0 ≡ goal_in s g i
goal_below s g i k = ap (λ (n : ℕ). get_or s (g.from + g.step * n) 0) (sym (round_below g.size (g.first + i) k))

pub goal_beyond : (s : List ℕ) (g : Group) (i : ℕ) → g.size ≤ g.first + i
    → get_or s (g.from + g.step * (g.first + i - g.size)) 0 ≡ goal_in s g i
goal_beyond s g i k = ap (λ (n : ℕ). get_or s (g.from + g.step * n) 0) (sym (round_beyond g.size (g.first + i) k))

-- A word is a query's.
pub own_none : (q w : ℕ) → w ≡ 0 → own q w ≡ false
unfolding own when◌then◌else◌
own_none q w e = rw (eq-eqb w 0 e)

pub own_some : (q w : ℕ) → (w ≡ 0 → ⊥) → own q w ≡ eqb (tag_in w) q
unfolding own when◌then◌else◌
own_some q w d = rw (ne_eqb w 0 d)

-- One place more of a list, whose word is the query's or is not.
suc_less : (i n : ℕ) → i < n → n - i ≡ suc (n - (i + 1))
suc_less i n h = omega arith

own_in_one : (s : List ℕ) (g : Group) (q i m : ℕ) → own q (goal_in s g i) ≡ true → own_from s g q i (suc m) ≡ goal_in s g i ∷ own_from s g q (i + 1) m
unfolding own_from when◌then◌else◌
own_in_one s g q i m e = rw e

own_out_one : (s : List ℕ) (g : Group) (q i m : ℕ) → own q (goal_in s g i) ≡ false → own_from s g q i (suc m) ≡ own_from s g q (i + 1) m
unfolding own_from when◌then◌else◌
own_out_one s g q i m e = rw e

pub own_in : (s : List ℕ) (g : Group) (q i n : ℕ) → i < n → own q (goal_in s g i) ≡ true
    → own_from s g q i (n - i) ≡ goal_in s g i ∷ own_from s g q (i + 1) (n - (i + 1))
own_in s g q i n h e = ap (own_from s g q i) (suc_less i n h) ∙ own_in_one s g q i (n - (i + 1)) e

pub own_out : (s : List ℕ) (g : Group) (q i n : ℕ) → i < n → own q (goal_in s g i) ≡ false
    → own_from s g q i (n - i) ≡ own_from s g q (i + 1) (n - (i + 1))
own_out s g q i n h e = ap (own_from s g q i) (suc_less i n h) ∙ own_out_one s g q i (n - (i + 1)) e

pub own_end : (s : List ℕ) (g : Group) (q i n : ℕ) → n ≤ i → own_from s g q i (n - i) ≡ []
unfolding own_from
own_end s g q i n h = let none : n - i ≡ 0 = omega arith in ap (own_from s g q i) none
