-- A comparison that agreed agrees later; and if the circle test then failed the trial, it would fail it later: the circle is there again, over the head's
-- pairs where they are then. A pair that it passes is assigned, so it was none of those that the goal only reads.
use Prim.Native.Nat.{ℕ, ◌+◌, ◌-◌, ◌≤◌, ◌<◌}
use mathlib.Core.Path.{◌≡◌, refl}
use mathlib.Core.Logic.{◌⊎◌, inl, inr, ⊎_elim}
use mathlib.Core.Bool.{true}
use mathlib.Core.List.{List}
use mathlib.Core.Option.{none, some}
use native.Mathlib.Omega.{arith}
use lib.Dec.{ltb}
use lib.ListN.{length}
use borrow.Author.Tests.{lt-ltb, le-ltb}
use Rattle.meaning.specs.Bytes.{when◌then◌else◌}
use Rattle.meaning.specs.Terms.{
  Half,
  writer,
  reader,
  Functor,
  Term,
  Terms,
  variable,
  constant,
  compound,
  end,
  more,
  Named,
  Clause,
  occurrences,
  all_occurrences,
}
use Rattle.meaning.specs.State.{Values, value, QueryUnit}
use Rattle.meaning.specs.Compare.{Assignment, succeeds, followed}
use Rattle.meaning.specs.Circle.{circle}
use Rattle.meaning.specs.Trial.{next_pair, compared, values_after}
use Rattle.laws.proofs.Lists.{differ, In, Each, each_in, paired_in}
use Rattle.laws.proofs.Terms.{
  occurs_itself,
  Stands,
  StandsIn,
  Below,
  AllBelow,
  below_by_occurrences,
  all_below_by_occurrences,
  stands_renamed,
  renamed_stands,
}
use Rattle.laws.proofs.Trial.{
  EachArgument,
  FoundLater,
  Again,
  to_head,
  to_goal,
  places_agree_later,
  assigned_below,
  value_after_cases,
}
use Rattle.laws.proofs.Circle.Leaning.{Leans, Links, one, first}
use Rattle.laws.proofs.Circle.Search.{circle_says}
use Rattle.laws.proofs.Circle.Following.{followed_unassigned, followed_below}
use Rattle.laws.proofs.Circle.ValuesStay.{values_after_stay}
use Rattle.laws.proofs.Circle.FailsLater.{itself, holds_more, holds_kept, ValuesGrew, StillOpen, follows_on, unassigned_itself, own_found, found_again}
use Rattle.laws.proofs.Circle.Grown.{FoundNow, GivenLater}

-- A goal in a later state of its unit: values grew, no writer that the goal holds was assigned since; and what it and the values held was in range.
pub record GoalLater (unit later : QueryUnit) (goal : Named) : Type 0 where
  pub grew : ValuesGrew unit.values later.values
  pub longer : length unit.values ≤ length later.values
  pub still_open : StillOpen unit.values later.values goal.arguments
  pub goal_in_range : (h : Half) (n : ℕ) → length unit.values ≤ n → all_occurrences h n goal.arguments ≡ 0
  pub values_in_range : (p : ℕ) (t : Term) → value unit.values p ≡ some t
      → (h : Half) (n : ℕ) → length unit.values ≤ n → occurrences h n t ≡ 0

-- And later still.
pub goal_later_then : (unit later last : QueryUnit) (goal : Named) → GoalLater unit later goal → GoalLater later last goal → GoalLater unit last goal
goal_later_then unit later last goal l m =
    record {
      grew =
          record {
            no_circle = l.grew.no_circle;
            no_circle_after = m.grew.no_circle_after;
            stays = λ p t e. m.grew.stays p t (l.grew.stays p t e);
            no_writer = m.grew.no_writer;
          };
      longer = omega (arith, l.longer, m.longer);
      still_open = λ z held e. m.still_open z (holds_kept later.values l.grew.stays held) (l.still_open z held e);
      goal_in_range = l.goal_in_range;
      values_in_range = l.values_in_range;
    }

module _ (unit later : QueryUnit) (goal : Named) (l : GoalLater unit later goal) where
  abbrev values : Values
  values = unit.values

  abbrev after : Values
  after = later.values

  value_below : (p : ℕ) (t : Term) → value values p ≡ some t → Below (length values) t
  value_below p t e = below_by_occurrences (length values) t (l.values_in_range p t e)

  -- A term of the goal.
  abbrev OfGoal : Term → Type 0
  OfGoal t = StillOpen values after (more t end) × Below (length values) t

  each_of_goal : (ts : Terms) → StillOpen values after ts → AllBelow (length values) ts → EachArgument OfGoal ts
  unfolding EachArgument StandsIn all_occurrences
  each_of_goal end own below = tt
  each_of_goal (more t ts) own below = (
    (λ z held. own z (holds_more (more t ts) (λ h n. omega arith) held), λ p s. below p (inl s)),
    each_of_goal ts (λ z held. own z (holds_more (more t ts) (λ h n. omega arith) held)) (λ p s. below p (inr s)),
  )

  inside_found : (n : ℕ) (f : Functor) (ts : Terms) → FoundNow values after (compound n f ts) → EachArgument OfGoal ts
  unfolding occurrences all_occurrences Stands
  inside_found n f ts found =
      each_of_goal ts (λ z held. found.still_open z (holds_more (more (compound n f ts) end) (λ h n. omega arith) held)) found.below

  finds : (t : Term) → OfGoal t → FoundNow values after (followed (length values) values t)
  finds t (own, below) =
      record {
        still_open = own_found values after l.grew (length values) t own;
        below = followed_below (length values) values value_below (length values) t below;
        unassigned = followed_unassigned values l.grew.no_circle t;
      }

  abbrev look_later : Term → Term
  look_later = followed (length after) after

  found_later : (t : Term) → FoundNow values after t → FoundLater t (look_later t)
  found_later t found = found_again values after l.grew t found.unassigned found.still_open

  -- All places agree later too.
  pub compared_agrees_later : (clause : Clause) (given : List Assignment) → compared clause unit goal ≡ succeeds given
      → (given_later : List Assignment) × (compared clause later goal ≡ succeeds given_later)
      × GivenLater unit.values later.values l.grew l.longer unit.compounds later.compounds given given_later
  unfolding compared next_pair
  compared_agrees_later clause given e =
      let a =
      places_agree_later OfGoal (FoundNow values after) (followed (length values) values) look_later inside_found finds found_later
      (λ t own. follows_on values after l.grew (length values) t)
      (length values) unit.compounds (length after) later.compounds clause.head.arguments goal.arguments
      (each_of_goal goal.arguments l.still_open (all_below_by_occurrences (length values) goal.arguments l.goal_in_range)) given e in
      (a.given_later, a.agrees, a.paired)

  module _ (clause : Clause) (given given_later : List Assignment)
      (paired : GivenLater unit.values later.values l.grew l.longer unit.compounds later.compounds given given_later)
      (agrees : compared clause later goal ≡ succeeds given_later)
      (settles : Each (λ a. value (values_after clause given_later later) a.pair ≡ some a.value) given_later) where
    -- Where a pair is later: the clause's pairs come behind the others.
    moved : ℕ → ℕ
    moved n = when ltb n (length values) then n else length after + (n - length values)

    moved_old : (n : ℕ) → n < length values → moved n ≡ n
    unfolding moved when◌then◌else◌
    moved_old n below = rw (lt-ltb n (length values) below)

    moved_new : (x : ℕ) → moved (length values + x) ≡ length after + x
    unfolding moved when◌then◌else◌
    moved_new x = rw (le-ltb (length values + x) (length values) (omega arith)) (omega arith)

    -- A pair that the trial would leave with a value.
    abbrev Assigned : ℕ → Type 0
    Assigned j = (u : Term) × (value (values_after clause given unit) j ≡ some u)

    again_open : (z : ℕ) {a b : Assignment} → Again (FoundNow values after) look_later (length values) unit.compounds (length after) later.compounds a b
        → a.pair ≡ z → z < length values → value after z ≡ none
    unfolding all_occurrences
    again_open z (to_head x t found) e below = absurd (omega arith)
    again_open z (to_goal y u found) e below =
        rw (← e) (found.still_open y (itself {ts = more (variable writer y) end} (omega (arith, occurs_itself writer y))) (found.unassigned writer y refl))

    -- One that the goal reads and the trial assigns is unassigned later: its writer is the goal's.
    open_still : (z : ℕ) → z < length values → value values z ≡ none → Assigned z → value after z ≡ none
    open_still z below unassigned (u, e) = ⊎_elim by_assignment (λ f. absurd (differ (cc))) (value_after_cases clause given unit z u e)
      where
        by_assignment : (a : Assignment) × In a given × (a.pair ≡ z) × (a.value ≡ u) → value after z ≡ none
        by_assignment (a, m, f, g) = let (b, n, again) = paired_in paired m in again_open z again f below

    stands_later : (t : Term) → FoundNow values after t → (j : ℕ) → Stands j t → Assigned j → Stands (moved j) (look_later t)
    unfolding Stands FoundLater
    stands_later (variable writer z) found j s assigned =
        rw (found_later (variable writer z) found, s, moved_old z (found.below z refl)) refl
    stands_later (variable reader z) found j s assigned =
        let unassigned : value after z ≡ none = open_still z (found.below z refl) (found.unassigned reader z refl) (rw s at assigned) in
        rw (unassigned_itself values after l.grew (length after) reader z unassigned, s, moved_old z (found.below z refl)) refl
    stands_later (constant k) found j s assigned = absurd s
    stands_later (compound n f ts) found j s assigned =
        rw (found_later (compound n f ts) found, moved_old j (found.below j s)) s

    again_leans : (i j : ℕ) {a b : Assignment}
        → Again (FoundNow values after) look_later (length values) unit.compounds (length after) later.compounds a b
        → a.pair ≡ i → Stands j a.value → Assigned j
        → (moved i ≡ b.pair) × Stands (moved j) b.value
    unfolding Stands
    again_leans i j (to_head x t found) e s assigned = (rw (← e) (moved_new x), stands_later t found j s assigned)
    again_leans i j (to_goal z u found) e s assigned =
        let (x, f, inside) = stands_renamed u (length values) unit.compounds j s in
        (rw (← e) (moved_old z (found.below z refl)), rw (f, moved_new x) (renamed_stands u (length after) later.compounds x inside))

    leans_later : (i j : ℕ) → Leans (values_after clause given unit) i j → Assigned j → Leans (values_after clause given_later later) (moved i) (moved j)
    unfolding Leans
    leans_later i j (t, e, s) assigned = ⊎_elim by_assignment had_value (value_after_cases clause given unit i t e)
      where
        by_assignment : (a : Assignment) × In a given × (a.pair ≡ i) × (a.value ≡ t)
            → (u : Term) × (value (values_after clause given_later later) (moved i) ≡ some u) × Stands (moved j) u
        by_assignment (a, m, f, g) =
            let (b, n, again) = paired_in paired m in
            let (same, stands) = again_leans i j again f (rw g s) assigned in
            (b.value, rw same (each_in _ settles n), stands)

        had_value : value values i ≡ some t → (u : Term) × (value (values_after clause given_later later) (moved i) ≡ some u) × Stands (moved j) u
        had_value f = (
          t,
          rw (moved_old i (assigned_below values i t f))
              (values_after_stay clause later goal given_later l.grew.no_circle_after agrees i t (l.grew.stays i t f)),
          rw (moved_old j (value_below i t f j s)) s,
        )

    assigned_at : {j m : ℕ} → Links (values_after clause given unit) j m → Assigned j
    unfolding Leans
    assigned_at (one (t, e, s)) = (t, e)
    assigned_at (first (t, e, s) others) = (t, e)

    links_later : {i k : ℕ} → Links (values_after clause given unit) i k → Assigned k → Links (values_after clause given_later later) (moved i) (moved k)
    links_later {i} {k} (one leans) assigned = one (leans_later i k leans assigned)
    links_later {i} {k} (first {j = j} leans links) assigned = first (leans_later i j leans (assigned_at links)) (links_later links assigned)

    -- A circle that the trial would close it would close later.
    pub circle_later : circle (values_after clause given unit) ≡ true → circle (values_after clause given_later later) ≡ true
    circle_later e =
        let (i, round) = (circle_says (values_after clause given unit)).0 e in
        (circle_says (values_after clause given_later later)).1 (moved i, links_later round (assigned_at round))
