-- A circle that a trial would close passes through a pair of the goal that the trial assigned: the test may start at those pairs alone.
-- The clause's pairs are assigned terms of the goal, which hold pairs that were there before; from those a path leaves only through an assigned one.
use Prim.Native.Nat.{ℕ, ◌≤◌, ◌<◌}
use mathlib.Core.Path.{◌≡◌, refl, sym}
use mathlib.Core.Logic.{◌⊎◌, inl, inr, ⊎_elim}
use mathlib.Core.Bool.{Bool, true, false}
use mathlib.Core.List.{List, map}
use mathlib.Core.Option.{some}
use native.Mathlib.Decide.{dec_lt}
use native.Mathlib.Omega.{arith}
use lib.Dec.{eqb, ltb}
use lib.ListN.{length}
use borrow.Author.Tests.{eq-eqb, lt-ltb}
use Rattle.meaning.specs.Bytes.{any, those, up_to}
use Rattle.meaning.specs.Terms.{Half, Term, Named, Clause, all_renamed, occurrences, all_occurrences}
use Rattle.meaning.specs.State.{Values, value, QueryUnit}
use Rattle.meaning.specs.Compare.{Assignment, succeeds, followed}
use Rattle.meaning.specs.Circle.{circle_at, circle}
use Rattle.meaning.specs.Trial.{next_pair, compared, values_after}
use Rattle.laws.proofs.Lists.{In, any_in, below_in_up_to, in_any, in_map, in_same, in_those, same_answer, each_in}
use Rattle.laws.proofs.Terms.{Below, Beyond, below_by_occurrences, all_below_by_occurrences, all_renamed_beyond, Stands}
use Rattle.laws.proofs.Trial.{value_after_cases, assigned_below, each_pair, table_gives}
use Rattle.laws.proofs.Circle.Leaning.{Leans, Links, one, first, links_join}
use Rattle.laws.proofs.Circle.Search.{circle_at_says, circle_says, no_circle_says}
use Rattle.laws.proofs.Circle.Following.{followed_below}

-- With n pairs before the trial: an assignment gives a pair of the clause a term of pairs that were there before, or it is to a pair that was.
abbrev pub Backward : ℕ → Assignment → Type 0
Backward n a = ((n ≤ a.pair) × Below n a.value) ⊎ (a.pair < n)

-- A list of assignments assigns a pair; the same as a test.
abbrev pub Assigns : List Assignment → ℕ → Type 0
Assigns given z = (a : Assignment) × In a given × (a.pair ≡ z)

unfoldable pub assigns : List Assignment → ℕ → Bool
assigns given z = any (λ a. eqb a.pair z) given

pub assigns_tests : (given : List Assignment) (z : ℕ) → Assigns given z → assigns given z ≡ true
unfolding assigns
assigns_tests given z (a, q, e) = in_any (λ b. eqb b.pair z) q (eq-eqb a.pair z e)

-- A trial of a clause whose places all agree, where the values of the unit and the goal hold pairs of the unit only.
module _ (clause : Clause) (unit : QueryUnit) (goal : Named) (given : List Assignment)
    (values_range : (p : ℕ) (t : Term) → value unit.values p ≡ some t
    → (h : Half) (m : ℕ) → length unit.values ≤ m → occurrences h m t ≡ 0)
    (goal_range : (h : Half) (m : ℕ) → length unit.values ≤ m → all_occurrences h m goal.arguments ≡ 0)
    (agree : compared clause unit goal ≡ succeeds given) where
  abbrev before : Values
  before = unit.values

  abbrev after : Values
  after = values_after clause given unit

  value_below : (p : ℕ) (t : Term) → value before p ≡ some t → Below (length before) t
  value_below p t e = below_by_occurrences (length before) t (values_range p t e)

  -- Each assignment gives a pair of the clause a term of pairs of the unit, or it is to a pair of the unit.
  pub given_backward : (a : Assignment) → In a given → Backward (length unit.values) a
  unfolding Stands compared next_pair
  given_backward a =
      each_in (Backward n)
      (table_gives (Beyond n) (Below n) (Below n) (Backward n) (followed n before)
      (λ m f us new. each_pair (λ p. n ≤ p) us new)
      (λ m f ts old. each_pair (λ p. p < n) ts old)
      (followed_below n before value_below n)
      (λ x t new old. inl (new x refl, old))
      (λ z u old new. inr (old z refl))
      (all_renamed n unit.compounds clause.head.arguments) goal.arguments
      (each_pair (λ p. n ≤ p) (all_renamed n unit.compounds clause.head.arguments)
      (all_renamed_beyond clause.head.arguments n unit.compounds))
      (each_pair (λ p. p < n) goal.arguments (all_below_by_occurrences n goal.arguments goal_range))
      given agree)
    where
      n : ℕ
      n = length before

  -- A pair of the unit leans as it did before, on a pair of the unit, or it was assigned by the trial.
  old_leans : (i j : ℕ) → i < length before → Leans after i j → (Leans before i j × (j < length before)) ⊎ Assigns given i
  unfolding Leans
  old_leans i j h (t, e, s) =
      ⊎_elim (λ (a, q, f, g). inr (a, q, f)) (λ f. inl ((t, f, s), value_below i t f j s)) (value_after_cases clause given unit i t e)

  -- A pair of the clause leans on pairs of the unit only.
  new_leans : (i j : ℕ) → length before ≤ i → Leans after i j → j < length before
  unfolding Leans
  new_leans i j h (t, e, s) =
      ⊎_elim by_assignment had_value (value_after_cases clause given unit i t e)
    where
      had_value : value before i ≡ some t → j < length before
      had_value f = let b : i < length before = assigned_below before i t f in absurd (omega arith)

      by_assignment : (a : Assignment) × In a given × (a.pair ≡ i) × (a.value ≡ t) → j < length before
      by_assignment (a, q, f, g) = ⊎_elim (λ (_, b). b j (rw g s)) (λ b. absurd (omega arith)) (given_backward a q)

  -- A pair of the unit that the trial assigned, on the way from i to j or at its beginning.
  abbrev Through : ℕ → ℕ → Type 0
  Through i j = (z : ℕ) × (z < length before) × Assigns given z × ((z ≡ i) ⊎ Links after i z) × Links after z j

  -- A path from a pair of the unit was there before, or passes through such a pair.
  old_links : {i j : ℕ} → i < length before → Links after i j → Links before i j ⊎ Through i j
  old_links {i} {j} h (one l) = ⊎_elim (λ (m, b). inl (one m)) (λ a. inr (i, h, a, inl refl, one l)) (old_leans i j h l)
  old_links {i} {j} h (first {j = k} l c) =
      ⊎_elim (λ (m, b). further m (old_links b c)) (λ a. inr (i, h, a, inl refl, first l c)) (old_leans i k h l)
    where
      further : Leans before i k → Links before k j ⊎ Through k j → Links before i j ⊎ Through i j
      further m (inl d) = inl (first m d)
      further m (inr (z, b, a, from, to)) =
          inr (z, b, a, inr (⊎_elim (λ e. rw e (one l)) (λ d. first l d) from), to)

  -- A circle from a pair of the unit passes through a pair of the unit that the trial assigned, for there was none before.
  old_circle : circle before ≡ false → (i : ℕ) → i < length before → Links after i i
      → (z : ℕ) × (z < length before) × Assigns given z × Links after i z × Links after z i
  old_circle no_circle i h c = ⊎_elim (λ d. absurd ((no_circle_says before).0 no_circle i d)) found (old_links h c)
    where
      found : Through i i → (z : ℕ) × (z < length before) × Assigns given z × Links after i z × Links after z i
      found (z, b, a, from, to) = (z, b, a, ⊎_elim (λ e. rw e c) (λ d. d) from, to)

  -- Every circle after the trial passes through a pair of the unit that the trial assigned: a writer of the goal.
  pub circle_from : circle unit.values ≡ false → (i : ℕ) → Links (values_after clause given unit) i i
      → (z : ℕ) × (z < length unit.values) × Assigns given z
      × Links (values_after clause given unit) i z × Links (values_after clause given unit) z i
  circle_from no_circle i c = go (dec_lt i (length before)) c
    where
      turned : (k : ℕ) → Leans after i k → Links after k i → k < length before
          → (z : ℕ) × (z < length before) × Assigns given z × Links after i z × Links after z i
      turned k l d b =
          let (z, below, a, from, to) = old_circle no_circle k b (links_join d (one l)) in
          (z, below, a, first l from, links_join to d)

      go : Dec (i < length before) → Links after i i
          → (z : ℕ) × (z < length before) × Assigns given z × Links after i z × Links after z i
      go (yes h) d = old_circle no_circle i h d
      go (no h) (one l) = absurd (let b : i < length before = new_leans i i (omega arith) l in omega arith)
      go (no h) (first {j = k} l d) = turned k l d (new_leans i k (omega arith) l)

  -- So a test that starts at some pairs, these among them, gives the same answer.
  pub circle_by_starts : circle unit.values ≡ false → (starts : List ℕ)
      → ((z : ℕ) → z < length unit.values → Assigns given z → In z starts)
      → circle (values_after clause given unit) ≡ any (circle_at (values_after clause given unit)) starts
  circle_by_starts no_circle starts all = same_answer (circle after) (any (circle_at after) starts) found is_circle
    where
      found : circle after ≡ true → any (circle_at after) starts ≡ true
      found e =
          let (i, c) = (circle_says after).0 e in
          let (z, b, a, from, to) = circle_from no_circle i c in
          in_any (circle_at after) (all z b a) ((circle_at_says after z).1 (links_join to from))

      is_circle : any (circle_at after) starts ≡ true → circle after ≡ true
      is_circle e =
          let (z, p, q) = any_in (circle_at after) starts e in
          (circle_says after).1 (z, (circle_at_says after z).0 q)

  -- The pairs of the unit that the trial assigned, in the order of the pairs.
  pub circle_by_pairs : circle unit.values ≡ false
      → circle (values_after clause given unit)
      ≡ any (circle_at (values_after clause given unit)) (those (assigns given) (up_to (length unit.values)))
  circle_by_pairs no_circle =
      circle_by_starts no_circle (those (assigns given) (up_to (length before)))
      (λ z b a. in_those (assigns given) (below_in_up_to (length before) z b) (assigns_tests given z a))

  -- The same in the order of the assignments.
  pub circle_by_assignments : circle unit.values ≡ false
      → circle (values_after clause given unit)
      ≡ any (circle_at (values_after clause given unit)) (map (λ a. a.pair) (those (λ a. ltb a.pair (length unit.values)) given))
  circle_by_assignments no_circle = circle_by_starts no_circle (map (λ a. a.pair) (those old given)) has
    where
      old : Assignment → Bool
      old a = ltb a.pair (length before)

      has : (z : ℕ) → z < length before → Assigns given z → In z (map (λ a. a.pair) (those old given))
      has z b (a, q, e) =
          let p : In a (those old given) = in_those old q (lt-ltb a.pair (length before) (omega arith)) in
          in_same (sym e) (in_map (λ a. a.pair) p)
