-- The goals of a query in the three lists of a state that the scratch holds, as its section asks for them.
use Prim.Native.Nat.{ℕ, ◌≤◌, ◌<◌}
use mathlib.Core.Path.{◌≡◌, refl, ap, ap₂, subst, ◌∙◌}
use mathlib.Core.Bool.{Bool, true, false}
use mathlib.Core.List.{List, [], ◌∷◌, map}
use native.Mathlib.Omega.{arith}
use lib.ListN.{length}
use borrow.Author.Tests.{eqb-true}
use Rattle.meaning.specs.Bytes.{Bytes, when◌then◌else◌, those}
use Rattle.meaning.specs.Terms.{Query, as_term}
use Rattle.meaning.specs.State.{Room, QueryUnit, Goal, State, of}
use Rattle.laws.proofs.Lists.EachOf.{Each, each_those}
use Rattle.term.specs.Layout.{InRange, need_of, waiters_region}
use Rattle.term.specs.Setting.{UnitTerm}
use Rattle.term.specs.States.{Atlas, goal_word, setting_at, AllStand, HoldsState}
use Rattle.term.specs.declared.state.Standing.{Standing}
use Rattle.term.specs.Goals.{origin_word, packed_goal, OriginFits}
use Rattle.report_pairs.specs.Sound.{Sound}
use Rattle.report_tallies.specs.Groups.{active_group, waiting_group, failed_group}
use Rattle.report_sections.specs.Sections.{GoalsHeld, Listed}
use Rattle.report_tallies.proofs.OwnGoals.{own_active, own_waiting, own_failed, active_inside, waiting_inside, failed_inside}

-- A goal of the query has the query's place.
of_place : (q : ℕ) (g : Goal) → of q g ≡ true → g.query ≡ q
unfolding of
of_place q g e = eqb-true g.query q e

-- The word of a goal of the query.
abbrev own_word : Atlas → ℕ → Goal → ℕ
own_word atlas q h = packed_goal q ((atlas q).compound h.goal.number) (origin_word h.origin)

module _ (atlas : Atlas) (q : ℕ) where
  own_places : (gs : List Goal) → map (goal_word atlas) (those (of q) gs) ≡ map (own_word atlas q) (those (of q) gs)
  unfolding those when◌then◌else◌
  own_places [] = refl
  own_places (g ∷ gs) = go (of q g) refl (own_places gs)
    where
      go : (b : Bool) → of q g ≡ b
          → map (goal_word atlas) (those (of q) gs) ≡ map (own_word atlas q) (those (of q) gs)
          → map (goal_word atlas) (those (of q) (g ∷ gs)) ≡ map (own_word atlas q) (those (of q) (g ∷ gs))
      go true e further =
          rw e (ap₂ (λ (a : ℕ) (l : List ℕ). a ∷ l) (ap (λ (k : ℕ). own_word atlas k g) (of_place q g e)) further)
      go false e further = rw e further

  own_held : (s : List ℕ) (figures : Room) (units : List QueryUnit) (gs : List Goal) → AllStand s figures atlas units gs → Each (λ g. Sound (as_term g.goal)) gs
      → GoalsHeld s (setting_at figures atlas units q) (those (of q) gs)
  unfolding those when◌then◌else◌
  own_held s figures units [] all sound = tt
  own_held s figures units (g ∷ gs) all sound = go (of q g) refl (own_held s figures units gs all.1 sound.1)
    where
      go : (b : Bool) → of q g ≡ b → GoalsHeld s (setting_at figures atlas units q) (those (of q) gs)
          → GoalsHeld s (setting_at figures atlas units q) (those (of q) (g ∷ gs))
      go true e further =
          rw e (subst (λ (k : ℕ). UnitTerm s (setting_at figures atlas units k) (as_term g.goal)) (of_place q g e) all.0.term, sound.0, further)
      go false e further = rw e further

  origins_fit : (s : List ℕ) (figures : Room) (units : List QueryUnit) (gs : List Goal) → AllStand s figures atlas units gs
      → Each (λ h. of q h ≡ true → OriginFits h.origin) gs
  origins_fit s figures units [] all = tt
  origins_fit s figures units (g ∷ gs) all = ((λ e. all.0.origin), origins_fit s figures units gs all.1)

  own_origins : (s : List ℕ) (figures : Room) (units : List QueryUnit) (gs : List Goal) → AllStand s figures atlas units gs
      → Each (λ h. OriginFits h.origin) (those (of q) gs)
  own_origins s figures units gs all = each_those (λ h. OriginFits h.origin) (of q) gs (origins_fit s figures units gs all)

-- The three lists.
module _ (s : List ℕ) (names : List Bytes) (figures : Room) (queries : List Query) (atlas : Atlas) (state : State) (t : Standing)
    (held : HoldsState s names figures queries atlas state t) (few : length state.units ≤ 8) (in_range : InRange figures) (inside : need_of figures ≤ length s)
    (q : ℕ) (small : q < 8) where
  pub listed_active : Each (λ g. Sound (as_term g.goal)) state.goals.queue
      → Listed s (setting_at figures atlas state.units q) (waiters_region figures) (active_group figures t) q (those (of q) state.goals.queue)
  listed_active sound =
      record {
        small = small;
        inside = active_inside s names figures queries atlas state t held few in_range inside;
        behind = omega arith;
        low = omega (arith, in_range.compounds, in_range.pairs);
        words = own_active s names figures queries atlas state t held few q ∙ own_places atlas q state.goals.queue;
        origins = own_origins atlas q s figures state.units state.goals.queue held.queue_held;
        held = own_held atlas q s figures state.units state.goals.queue held.queue_held sound;
      }

  pub listed_waiting : Each (λ g. Sound (as_term g.goal)) (map (λ w. w.goal) state.goals.waiting)
      → Listed s (setting_at figures atlas state.units q) (waiters_region figures) (waiting_group figures t) q
      (those (of q) (map (λ w. w.goal) state.goals.waiting))
  listed_waiting sound =
      record {
        small = small;
        inside = waiting_inside s names figures queries atlas state t held few in_range inside;
        behind = omega arith;
        low = omega (arith, in_range.compounds, in_range.pairs);
        words = own_waiting s names figures queries atlas state t held few q ∙ own_places atlas q (map (λ w. w.goal) state.goals.waiting);
        origins = own_origins atlas q s figures state.units (map (λ w. w.goal) state.goals.waiting) held.waiting_held;
        held = own_held atlas q s figures state.units (map (λ w. w.goal) state.goals.waiting) held.waiting_held sound;
      }

  pub listed_failed : Each (λ g. Sound (as_term g.goal)) state.goals.failed
      → Listed s (setting_at figures atlas state.units q) (waiters_region figures) (failed_group figures t) q (those (of q) state.goals.failed)
  listed_failed sound =
      record {
        small = small;
        inside = failed_inside s names figures queries atlas state t held few in_range inside;
        behind = omega arith;
        low = omega (arith, in_range.compounds, in_range.pairs);
        words = own_failed s names figures queries atlas state t held few q ∙ own_places atlas q state.goals.failed;
        origins = own_origins atlas q s figures state.units state.goals.failed held.failed_held;
        held = own_held atlas q s figures state.units state.goals.failed held.failed_held sound;
      }
