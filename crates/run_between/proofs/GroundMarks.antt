-- Marks between the steps: what they tell of one query's unit, and why it stays so.
use Prim.Native.Nat.{ℕ, ◌+◌, ◌≤◌, ◌<◌}
use mathlib.Core.Path.{◌≡◌, refl, ap, subst, ◌∙◌}
use mathlib.Core.Logic.{⊎_elim}
use mathlib.Core.List.{List}
use mathlib.Core.Option.{Option, none, some}
use native.Mathlib.Omega.{arith}
use lib.ListN.{length, get_or}
use Rattle.meaning.specs.Bytes.{Bytes}
use Rattle.meaning.specs.Terms.{Term}
use Rattle.meaning.specs.State.{Room, QueryUnit, value, unit_at}
use Rattle.term.specs.Layout.{marks_region}
use Rattle.term.specs.States.{Atlas, Lies}
use Rattle.run_circle.specs.Ground.{Tells, IsSo, Grounds}
use Rattle.run_circle.proofs.Grounds.{so_pair, so_grows}
use Rattle.run_trial.specs.Choosing.{NewMarks}
use Rattle.run_between.specs.Running.{GroundMarks}
use Rattle.run_between.proofs.Frames.{UnitsAlike}

-- Of one query.
pub grounds_of : (s : List ℕ) (names : List Bytes) (figures : Room) (atlas : Atlas) (units : List QueryUnit) (pairs compounds cells : ℕ)
    → Lies names figures atlas units pairs compounds cells → GroundMarks s figures atlas units
    → (q : ℕ) → q < length units → Grounds (atlas q) (unit_at q units).values (marks_region figures) s
grounds_of s names figures atlas units pairs compounds cells lies all q inside o n h e =
    let (k, there, so) = all o ((atlas q).pair n) (omega (arith, lies.pair_below q n inside h, lies.pairs_fit)) e in
    let (m, below, place) = so_pair (atlas k) (unit_at k units).values o ((atlas q).pair n) so in
    let (query, pair) = lies.pair_apart k q m n there inside below h place in
    subst (λ i. IsSo (atlas i) (unit_at i units).values o ((atlas q).pair n)) query so

-- Where all marks are 0 they tell nothing.
pub grounds_none : (s : List ℕ) (figures : Room) (atlas : Atlas) (units : List QueryUnit)
    → ((p : ℕ) → p < figures.pairs → get_or s (marks_region figures + p) 0 ≡ 0) → GroundMarks s figures atlas units
grounds_none s figures atlas units zeros o p l e = absurd (silent o (subst (Tells o) (zeros p l) e))
  where
    silent : (o : Option ℕ) → Tells o 0 → ⊥
    silent none e = omega arith
    silent (some q) e = omega arith

-- After a choice for a goal of query q.
pub grounds_tried : (s s' : List ℕ) (figures : Room) (atlas : Atlas) (units : List QueryUnit) (q : ℕ) → q < length units
    → NewMarks (atlas q) (unit_at q units).values (marks_region figures) figures.pairs s s' → GroundMarks s figures atlas units → GroundMarks s' figures atlas units
grounds_tried s s' figures atlas units q inside new all o p l e = ⊎_elim (all o p l) (λ g. (q, inside, g)) (new o p l e)

-- Where units have grown and values have stayed.
pub grounds_grow : (s s' : List ℕ) (figures : Room) (atlas atlas' : Atlas) (units units' : List QueryUnit)
    → ((k : ℕ) → marks_region figures ≤ k → k < marks_region figures + figures.pairs → get_or s' k 0 ≡ get_or s k 0)
    → length units ≤ length units'
    → ((k : ℕ) → k < length units → length (unit_at k units).values ≤ length (unit_at k units').values)
    → ((k n : ℕ) → k < length units → n < length (unit_at k units).values → (atlas' k).pair n ≡ (atlas k).pair n)
    → ((k : ℕ) → k < length units → (n : ℕ) (t : Term) → value (unit_at k units).values n ≡ some t → value (unit_at k units').values n ≡ some t)
    → GroundMarks s figures atlas units → GroundMarks s' figures atlas' units'
grounds_grow s s' figures atlas atlas' units units' same more longer places stays all o p l e =
    let (k, there, so) = all o p l (subst (Tells o) (same (marks_region figures + p) (omega arith) (omega arith)) e) in (
      k,
      omega arith,
      so_grows (atlas k) (atlas' k) (unit_at k units).values (unit_at k units').values (longer k there) (λ n h. places k n there h) (stays k there) o p so,
    )

pub grounds_alike : (s s' : List ℕ) (figures : Room) (atlas : Atlas) (units units' : List QueryUnit)
    → ((k : ℕ) → marks_region figures ≤ k → k < marks_region figures + figures.pairs → get_or s' k 0 ≡ get_or s k 0)
    → UnitsAlike units units' → GroundMarks s figures atlas units → GroundMarks s' figures atlas units'
grounds_alike s s' figures atlas units units' same alike =
    grounds_grow s s' figures atlas atlas units units' same (omega (arith, alike.number)) (λ k h. omega (arith, ap length (alike.values k)))
    (λ k n h l. refl) (λ k h n t e. ap (λ l. value l n) (alike.values k) ∙ e)
