-- A free place at the log's end: there is one, or the log is closed up.
use Prim.Native.Nat.{ℕ, ◌*◌, ◌<◌}
use mathlib.Core.Path.{◌≡◌, refl}
use mathlib.Core.List.{List}
use native.Mathlib.Omega.{arith}
use lib.ListN.{length}
use Rattle.meaning.specs.State.{Room}
use Rattle.term.specs.Layout.{waiters_region, sets_region, waiting_region}
use Rattle.run_queues.specs.Log.{Slot, present, Closed}
use Rattle.run_between.specs.Taking.{LogHere, FreePlace}
use Rattle.run_queues.proofs.LogSteps.{log_only_same}
use Rattle.run_queues.proofs.Presents.{present_closed}

pub place_free : (s : List ℕ) (figures : Room) (slots : List Slot) (log : ℕ) → LogHere s figures slots → log ≡ length slots → log < 2 * figures.goals
    → FreePlace s s figures slots log
place_free s figures slots log ok e h = record {
  slots_now = slots;
  ok = ok;
  number = e;
  goals = refl;
  free = λ f. h;
  only = log_only_same (waiting_region figures) (waiters_region figures) (sets_region figures) figures.pairs (length slots) s;
}

pub place_closed : (s s' : List ℕ) (figures : Room) (slots : List Slot) (log place : ℕ) → log ≡ length slots
    → Closed s s' (waiting_region figures) (waiters_region figures) (sets_region figures) figures.pairs log slots place
    → FreePlace s s' figures slots place
place_closed s s' figures slots log place e c =
    let d : Closed s s' (waiting_region figures) (waiters_region figures) (sets_region figures) figures.pairs (length slots) slots place = rw e at c in
    record {
      slots_now = present slots (length slots);
      ok = d.now.ok;
      number = d.number;
      goals = present_closed slots;
      free = λ f. omega (arith, d.number);
      only = d.now.only;
    }
