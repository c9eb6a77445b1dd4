-- What holds a clause's guards reads only their own words: those of the record, and those of the guards' compounds.
-- A guard's compounds lie from its first number to its last; its own lies among them, but for `otherwise`, which has none and no argument.
use Prim.Native.Nat.{ℕ, ◌+◌, ◌≤◌, ◌<◌}
use mathlib.Core.Path.{◌≡◌, ◌∙◌}
use mathlib.Core.List.{List, [], ◌∷◌}
use native.Mathlib.Omega.{arith}
use lib.ListN.{length, get_or}
use Rattle.meaning.specs.Terms.{Test, an_integer, a_constant, a_compound, a_ground, known, equal, otherwise, Terms, end, more, Guard, count}
use Rattle.meaning.specs.Bytes.{Bytes}
use Rattle.term.specs.Cells.{Places, AllNumbered}
use Rattle.term.specs.Every.{EveryOf}
use Rattle.term.specs.Holds.{HoldsFrom}
use Rattle.term.specs.Guards.{TestNumbered, GuardsNumbered, GuardsKnown, HoldsGuards}
use Rattle.term.specs.Layout.{item_place}
use Rattle.term.proofs.Cells.{numbered_order, all_numbered_order}
use Rattle.term.proofs.Holds.{numbered_every, all_numbered_every, holds_from_alike}

-- Between two numbers.
abbrev pub Between : ℕ → ℕ → ℕ → Type 0
Between lo hi n = (lo ≤ n) × (n < hi)

named_order : (lo hi n : ℕ) (ts : Terms) → (n ≡ lo) × AllNumbered (lo + 1) hi ts → lo ≤ hi
named_order lo hi n ts k = omega (arith, all_numbered_order (lo + 1) hi ts k.1)

named_every : (lo hi n : ℕ) (ts : Terms) → (n ≡ lo) × AllNumbered (lo + 1) hi ts → EveryOf (Between lo hi) ts
named_every lo hi n ts k = all_numbered_every (lo + 1) hi ts (Between lo hi) (λ m l h. (omega arith, h)) k.1

pub test_order : (test : Test) (lo hi n : ℕ) (ts : Terms) → TestNumbered test lo hi n ts → lo ≤ hi
unfolding TestNumbered
test_order an_integer lo hi n ts k = named_order lo hi n ts k
test_order a_constant lo hi n ts k = named_order lo hi n ts k
test_order a_compound lo hi n ts k = named_order lo hi n ts k
test_order a_ground lo hi n ts k = named_order lo hi n ts k
test_order known lo hi n ts k = named_order lo hi n ts k
test_order equal lo hi n end k = absurd k
test_order equal lo hi n (more t end) k = absurd k
test_order equal lo hi n (more t (more u end)) k = omega (arith, numbered_order lo n t k.0, numbered_order (n + 1) hi u k.1)
test_order equal lo hi n (more t (more u (more v ts))) k = absurd k
test_order otherwise lo hi n end k = k.0
test_order otherwise lo hi n (more t ts) k = absurd k

-- The compounds of a guard's arguments.
pub test_every : (test : Test) (lo hi n : ℕ) (ts : Terms) → TestNumbered test lo hi n ts → EveryOf (Between lo hi) ts
unfolding TestNumbered EveryOf
test_every an_integer lo hi n ts k = named_every lo hi n ts k
test_every a_constant lo hi n ts k = named_every lo hi n ts k
test_every a_compound lo hi n ts k = named_every lo hi n ts k
test_every a_ground lo hi n ts k = named_every lo hi n ts k
test_every known lo hi n ts k = named_every lo hi n ts k
test_every equal lo hi n end k = absurd k
test_every equal lo hi n (more t end) k = absurd k
test_every equal lo hi n (more t (more u end)) k =
    let right : n + 1 ≤ hi = numbered_order (n + 1) hi u k.1 in
    let left : lo ≤ n = numbered_order lo n t k.0 in (
      numbered_every lo n t (Between lo hi) (λ m l h. (l, omega arith)) k.0,
      (numbered_every (n + 1) hi u (Between lo hi) (λ m l h. (omega arith, h)) k.1, tt),
    )
test_every equal lo hi n (more t (more u (more v ts))) k = absurd k
test_every otherwise lo hi n end k = tt
test_every otherwise lo hi n (more t ts) k = absurd k

-- Its own compound, where it has an argument.
pub test_own : (test : Test) (lo hi n : ℕ) (ts : Terms) → TestNumbered test lo hi n ts → 0 < count ts → Between lo hi n
unfolding TestNumbered count
test_own an_integer lo hi n ts k some_here = (omega (arith, k.0), omega (arith, k.0, all_numbered_order (lo + 1) hi ts k.1))
test_own a_constant lo hi n ts k some_here = (omega (arith, k.0), omega (arith, k.0, all_numbered_order (lo + 1) hi ts k.1))
test_own a_compound lo hi n ts k some_here = (omega (arith, k.0), omega (arith, k.0, all_numbered_order (lo + 1) hi ts k.1))
test_own a_ground lo hi n ts k some_here = (omega (arith, k.0), omega (arith, k.0, all_numbered_order (lo + 1) hi ts k.1))
test_own known lo hi n ts k some_here = (omega (arith, k.0), omega (arith, k.0, all_numbered_order (lo + 1) hi ts k.1))
test_own equal lo hi n end k some_here = absurd k
test_own equal lo hi n (more t end) k some_here = absurd k
test_own equal lo hi n (more t (more u end)) k some_here = (numbered_order lo n t k.0, omega (arith, numbered_order (n + 1) hi u k.1))
test_own equal lo hi n (more t (more u (more v ts))) k some_here = absurd k
test_own otherwise lo hi n end k some_here = absurd (omega arith)
test_own otherwise lo hi n (more t ts) k some_here = absurd k

-- The words of its own compound, or of the item's first, are among so many, if those of its last compound and of the item's first are.
pub test_inside : (base m : ℕ) (test : Test) (lo hi n : ℕ) (ts : Terms) → item_place base hi ≤ m → item_place base 1 ≤ m → TestNumbered test lo hi n ts
    → item_place base n + 8 ≤ m
unfolding TestNumbered
test_inside base m an_integer lo hi n ts inside one k = omega (arith, k.0, all_numbered_order (lo + 1) hi ts k.1)
test_inside base m a_constant lo hi n ts inside one k = omega (arith, k.0, all_numbered_order (lo + 1) hi ts k.1)
test_inside base m a_compound lo hi n ts inside one k = omega (arith, k.0, all_numbered_order (lo + 1) hi ts k.1)
test_inside base m a_ground lo hi n ts inside one k = omega (arith, k.0, all_numbered_order (lo + 1) hi ts k.1)
test_inside base m known lo hi n ts inside one k = omega (arith, k.0, all_numbered_order (lo + 1) hi ts k.1)
test_inside base m equal lo hi n end inside one k = absurd k
test_inside base m equal lo hi n (more t end) inside one k = absurd k
test_inside base m equal lo hi n (more t (more u end)) inside one k = omega (arith, numbered_order (n + 1) hi u k.1)
test_inside base m equal lo hi n (more t (more u (more v ts))) inside one k = absurd k
test_inside base m otherwise lo hi n end inside one k = omega (arith, k.1)
test_inside base m otherwise lo hi n (more t ts) inside one k = absurd k

pub guards_numbered_order : (lo hi : ℕ) (gs : List Guard) → GuardsNumbered lo hi gs → lo ≤ hi
unfolding GuardsNumbered
guards_numbered_order lo hi [] k = k
guards_numbered_order lo hi (g ∷ gs) k =
    omega (arith, test_order g.row.test lo k.0 g.number g.arguments k.1, guards_numbered_order k.0 hi gs k.2)

-- Guards stay held where their words and the words of their compounds stay.
module _ (places : Places) (base : ℕ) (at : (n : ℕ) → places.compound n ≡ item_place base n) (wide : (n : ℕ) → places.width n ≡ 8) (s s' : List ℕ) (size : length s ≤ length s') where
  pub arguments_kept : (test : Test) (lo hi n : ℕ) (ts : Terms) → ((k : ℕ) → item_place base lo ≤ k → k < item_place base hi → get_or s' k 0 ≡ get_or s k 0)
      → count ts ≤ 2 → TestNumbered test lo hi n ts → HoldsFrom s places n 0 ts → HoldsFrom s' places n 0 ts
  unfolding HoldsFrom count
  arguments_kept test lo hi n end cells few k h = tt
  arguments_kept test lo hi n (more t ts) cells few k h =
      let own : Between lo hi n = test_own test lo hi n (more t ts) k (omega arith) in
      holds_from_alike s s' places (Between lo hi) size
      (λ m b j l u. cells j (omega (arith, at m, b.0)) (omega (arith, at m, wide m, b.1)))
      n 0 (more t ts) (λ j l u. cells j (omega (arith, at n, own.0)) (omega (arith, at n, wide n, own.1))) (omega (arith, wide n))
      (test_every test lo hi n (more t ts) k) h

  pub holds_guards_kept : (place i lo hi : ℕ) (names : List Bytes) (gs : List Guard)
      → ((k : ℕ) → i ≤ k → k < i + length gs → get_or s' (place + k) 0 ≡ get_or s (place + k) 0)
      → ((k : ℕ) → item_place base lo ≤ k → k < item_place base hi → get_or s' k 0 ≡ get_or s k 0)
      → GuardsNumbered lo hi gs → GuardsKnown names gs → HoldsGuards s places place i gs → HoldsGuards s' places place i gs
  unfolding GuardsNumbered GuardsKnown HoldsGuards
  holds_guards_kept place i lo hi names [] own cells k spelled h = tt
  holds_guards_kept place i lo hi names (g ∷ gs) own cells k spelled h =
      let mid = k.0 in
      let low : lo ≤ mid = test_order g.row.test lo mid g.number g.arguments k.1 in
      let high : mid ≤ hi = guards_numbered_order mid hi gs k.2 in
      let few : count g.arguments ≤ 2 = omega (arith, spelled.0.1, spelled.0.2) in (
        own i (omega arith) (omega arith) ∙ h.0,
        omega (arith, h.1),
        arguments_kept g.row.test lo mid g.number g.arguments (λ j l m. cells j l (omega arith)) few k.1 h.2,
        holds_guards_kept place (i + 1) mid hi names gs (λ j l m. own j (omega arith) (omega arith)) (λ j l m. cells j (omega arith) m) k.2 spelled.1 h.3,
      )
