-- In every state of a run each waiting goal waits on pairs of its own unit; so a unit that grows leaves the waiting goals' slots as they are.
use Prim.Native.Nat.{ℕ, ◌<◌}
use mathlib.Core.Path.{◌≡◌, refl, ap}
use mathlib.Core.List.{List, [], ◌∷◌, map}
use lib.ListN.{length}
use borrow.Author.Tests.{eq-eqb}
use Rattle.meaning.specs.Bytes.{Bytes}
use Rattle.meaning.specs.Terms.{Clause, Job}
use Rattle.meaning.specs.Items.{job, reading}
use Rattle.meaning.specs.State.{Room, QueryUnit, Waiting, unit_at, of, goals_of, part_of}
use Rattle.meaning.specs.Compare.{Assignment}
use Rattle.meaning.specs.Run.{run}
use Rattle.laws.proofs.Lists.Among.{in_those}
use Rattle.laws.proofs.Lists.EachOf.{Each, each_in, each_member}
use Rattle.laws.proofs.Runs.{run_placed}
use Rattle.laws.proofs.Reading.{accepted_keeps_the_occurrence_rules}
use Rattle.laws.proofs.Single.{single_occurrence}
use Rattle.term.specs.States.{Atlas, AllStand}
use Rattle.run_effects.specs.Build.{Copies}
use Rattle.run_queues.specs.Log.{gathered}
use Rattle.run_between.specs.Running.{slot_of}
use Rattle.run_between.proofs.NextUnits.{atlas_after, Enlarges, grown, goal_word_same}

abbrev pub OwnReaders : List QueryUnit → Waiting → Type 0
OwnReaders units w = Each (λ p. p < length (unit_at w.goal.query units).values) w.readers

pub waiting_readers : (text : Bytes) (j : Job) → reading text ≡ job j → (limit : ℕ) (figures : Room)
    → Each (OwnReaders (run j limit figures).state.units) (run j limit figures).state.goals.waiting
unfolding part_of goals_of of
waiting_readers text j reads limit figures =
    each_member (OwnReaders (run j limit figures).state.units) (run j limit figures).state.goals.waiting
    (λ w m.
    let k = w.goal.query in
    let inside : k < length j.queries = each_in _ (run_placed j limit figures).waiting m in
    each_in _ (single_occurrence j (accepted_keeps_the_occurrence_rules text j reads) limit figures k inside).readers_in_range
    (in_those (λ u. of k u.goal) m (eq-eqb k k refl)))

module _ (s s' : List ℕ) (names : List Bytes) (figures : Room) (atlas : Atlas) (units : List QueryUnit) (q P C cells cells' : ℕ) (y : Copies) (c : Clause) (given : List Assignment)
    (r : Enlarges s s' names figures atlas units q P C cells cells' y c) where
  abbrev atlas' : Atlas
  atlas' = atlas_after atlas units q P y

  pairs_same : (k : ℕ) → k < length units → (ps : List ℕ) → Each (λ p. p < length (unit_at k units).values) ps
      → map (λ p. (atlas' k).pair p) ps ≡ map (λ p. (atlas k).pair p) ps
  pairs_same k h [] b = refl
  pairs_same k h (p ∷ ps) b =
      let first = (grown s s' names figures atlas units q P C cells cells' y c given r k h).agree.pair p b.0 in
      let later = pairs_same k h ps b.1 in
      cc

  pub slots_same : (ws : List Waiting) → AllStand s figures atlas units (map (λ w. w.goal) ws) → Each (OwnReaders units) ws
      → map (slot_of atlas') ws ≡ map (slot_of atlas) ws
  slots_same [] h b = refl
  slots_same (w ∷ ws) h b =
      let goal = goal_word_same s s' names figures atlas units q P C cells cells' y c given r w.goal h.0 in
      let set = ap (gathered []) (pairs_same w.goal.query h.0.query w.readers b.0) in
      let later = slots_same ws h.1 b.1 in
      cc
