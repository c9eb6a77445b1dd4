-- The two ways in which a goal's arguments stand, for the law of Arguments: as the compound has them, each followed when its turn comes; or
-- followed before the trials, one behind the other in the trial's region.
use Prim.Native.Nat.{ℕ, ◌+◌, ◌≤◌, ◌<◌}
use mathlib.Core.Path.{◌≡◌, ap, ◌∙◌}
use mathlib.Core.List.{List}
use native.Mathlib.Omega.{arith}
use lib.ListN.{length, get_or}
use Rattle.meaning.specs.Terms.{Functor, Terms}
use Rattle.meaning.specs.Compare.{followed}
use Rattle.term.specs.Cells.{AllKnown}
use Rattle.term.specs.Holds.{HoldsFrom}
use Rattle.term.specs.Frames.{Only}
use Rattle.term.specs.Setting.{Setting, AllWithin, AllRanged, UnitTerms}
use Rattle.term.specs.Layout.{trial_region, woken_part, followed_part, followed_from}
use Rattle.run_chains.specs.Follow.{Reads, FollowedAt}
use Rattle.run_compare.specs.Compare.{Template, AllAgainst, HeadAgainst}
use Rattle.run_compare.proofs.Kept.{unit_terms_kept, followed_kept}
use Rattle.run_compare.proofs.Arguments.{Facing, Partly, count_small, goals_here, goals_few}

-- As the compound l has them.
abbrev pub InCompound : Setting → ℕ → List ℕ → ℕ → Terms → Type 0
InCompound x l s j ts = UnitTerms s x l j ts

module _ (links : ℕ) {s₀ : List ℕ} {x : Setting} {y : Template} {from m : ℕ} {g : Functor} {us : Terms} {lo hi l : ℕ} {f : Functor} {ts : Terms} {p q n : ℕ}
    (a : AllAgainst s₀ x y from links m g us lo hi l f ts p q n)
    {s : List ℕ} {k given i : ℕ} (P : Partly (InCompound x l) s₀ s x y from links m us lo hi ts n k given i) where
  pub goal_argument_inside : i ≤ k → q + i < length s
  goal_argument_inside h = omega (arith, a.goal_cell.inside, a.goal_place, P.only.size, count_small links a.head P)

  module _ (F : Facing s x y m P.j P.low hi P.heads P.goals) where
    pub goal_read : {w : ℕ} → w ≡ get_or s (q + i) 0 → Reads s x from links F.u w
    unfolding HoldsFrom AllWithin AllKnown AllRanged
    goal_read e =
        let same : q + i ≡ x.places.compound l + 1 + P.j = omega (arith, a.goal_place, P.at) in
        let here = goals_here links a.head P F in
        record {
          chained = P.trial.unit;
          term = record { held = here.held.1; of = record { within = here.within.0; known = here.known.0; ranged = here.ranged.0 } };
          word = e ∙ ap (λ c. get_or s c 0) same ∙ here.held.0;
        }

    pub goals_left : {s' : List ℕ} → Only trial_region woken_part s s' → UnitTerms s' x l (P.j + 1) F.ts
    unfolding HoldsFrom AllWithin AllKnown AllRanged
    goals_left {s'} o =
        let here = goals_here links a.head P F in
        unit_terms_kept s s' o x P.trial.outside l (P.j + 1) F.ts a.goal_number
        (omega (arith, a.goal_cell.wide, a.counts, goals_few links a.head P F))
        (record { held = here.held.2; within = here.within.1; known = here.known.1; ranged = here.ranged.1 })

-- Followed.
abbrev pub Behind : Setting → ℕ → List ℕ → ℕ → Terms → Type 0
Behind x links s j ts = FollowedAt s x links j ts

module _ (links : ℕ) {s₀ : List ℕ} {x : Setting} {y : Template} {from m : ℕ} {g : Functor} {us : Terms} {lo hi : ℕ} {ts : Terms} {p : ℕ}
    (a : HeadAgainst s₀ x y from links m g us lo hi ts p)
    {s : List ℕ} {k given i : ℕ} (P : Partly (Behind x links) s₀ s x y from links m us lo hi ts 0 k given i) where
  pub followed_inside : i ≤ k → followed_part + i < length s
  followed_inside h = omega (arith, a.large, P.only.size, count_small links a.head P)

  module _ (F : Facing s x y m P.j P.low hi P.heads P.goals) where
    pub followed_read : {w : ℕ} → w ≡ get_or s (followed_part + i) 0 → Reads s x from links (followed links x.values F.u) w
    unfolding FollowedAt
    followed_read e =
        let same : followed_part + i ≡ followed_from + P.j = omega (arith, P.at) in
        let here = goals_here links a.head P F in
        record { chained = P.trial.unit; term = here.1; word = e ∙ ap (λ c. get_or s c 0) same ∙ here.0 }

    pub followed_left : {s' : List ℕ} → Only trial_region woken_part s s' → FollowedAt s' x links (P.j + 1) F.ts
    unfolding FollowedAt
    followed_left {s'} o = followed_kept s s' o x P.trial.outside links (P.j + 1) F.ts (goals_here links a.head P F).2
