-- What a reduction makes has an origin that a goal's word has room for: the clause is one of 128, and the query's tries are among the steps.
use Prim.Native.Nat.{ℕ, ◌+◌, ◌≤◌, ◌<◌}
use mathlib.Core.Path.{◌≡◌, ◌∙◌}
use mathlib.Core.List.{List}
use native.Mathlib.Omega.{arith}
use lib.ListN.{length, get_or}
use Rattle.meaning.specs.Bytes.{Bytes}
use Rattle.meaning.specs.Terms.{Clause, Job}
use Rattle.meaning.specs.State.{Room, Goal, unit_at}
use Rattle.meaning.specs.Compare.{Assignment}
use Rattle.meaning.specs.Step.{made_by}
use Rattle.meaning.specs.Run.{run}
use Rattle.term.specs.Layout.{items_region, query_tries_word}
use Rattle.term.specs.States.{Atlas}
use Rattle.term.specs.Goals.{goal_mark, OriginFits}
use Rattle.term.specs.declared.state.Standing.{Standing}
use Rattle.run_queues.specs.Log.{Slot}
use Rattle.run_between.specs.Taking.{Taken, Reducing}
use Rattle.run_between.proofs.FramesRunning.{few_units, tries_below, front_stands}

module _ {s : List ℕ} {text : Bytes} {names : List Bytes} {j : Job} {figures : Room} {limit : ℕ} {atlas : Atlas} {slots : List Slot} {g : Goal}
    {others : List Goal} {t : Standing} {query k n : ℕ} {c : Clause} {given : List Assignment}
    (taken : Taken s text names j figures limit atlas slots g others t)
    (red : Reducing s names j figures limit atlas g query k n c given) where
  here : g.query < length (run j limit figures).state.units
  here = (front_stands s names figures j.queries atlas (run j limit figures).state t taken.running.state g others taken.front).query

  pub tries_are : get_or s (query_tries_word g.query) 0 ≡ (unit_at g.query (run j limit figures).state.units).tries
  tries_are = taken.running.state.units.tries g.query here

  pub made_fits : OriginFits (made_by c (unit_at g.query (run j limit figures).state.units))
  unfolding made_by
  made_fits =
      record {
        clause = omega (arith, red.at.nth, red.at.number);
        tries = omega (arith, tries_are, tries_below s text names j figures limit atlas slots t _ taken.running g.query here, taken.more);
      }

  -- What the code asks to make the goals' mark, and that it is the one.
  pub made_asks : (query < 8) × (k < 128) × (items_region ≤ length s) × (get_or s (query_tries_word query) 0 < 1000000)
  made_asks =
      rw red.query_is (
        omega (arith, here, few_units s text names j figures limit atlas slots t _ taken.running),
        red.at.number,
        omega (arith, taken.running.inside),
        omega (arith, tries_below s text names j figures limit atlas slots t _ taken.running g.query here, taken.more),
      )

  pub made_is : {mark : ℕ} → mark ≡ goal_mark query (record { clause = k + 1; tries = get_or s (query_tries_word query) 0 + 1 })
      → mark ≡ goal_mark g.query (made_by c (unit_at g.query (run j limit figures).state.units))
  unfolding made_by
  made_is e = (rw red.query_is at e) ∙ omega (arith, tries_are, red.at.nth)
