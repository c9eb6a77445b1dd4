-- The goal in front, when the choice is made: what each way to go on asks.
use Rattle.std.specs.Prelude.{ℕ, ◌+◌, ◌*◌, ◌≤◌, ◌<◌, ◌≡◌, List, [], ◌∷◌, map, length}
use Rattle.meaning.specs.Bytes.{Bytes}
use Rattle.meaning.specs.Terms.{Clause, Job}
use Rattle.meaning.specs.State.{Room, Goal, unit_at}
use Rattle.meaning.specs.Compare.{Assignment}
use Rattle.meaning.specs.Trial.{reduces, joins_waiting, joins_failed}
use Rattle.meaning.specs.Run.{choice_for, run}
use Rattle.term.specs.Jobs.{ClauseAt}
use Rattle.term.specs.Layout.{waiters_region, sets_region, readers_region, waiting_region}
use Rattle.term.specs.States.{Atlas, setting_at, goal_word, listed}
use Rattle.term.specs.declared.state.Standing.{Standing}
use Rattle.run_readers.specs.Readers.{all_met}
use Rattle.run_asked.specs.Asking.{AllBelow}
use Rattle.run_trial.specs.Choosing.{Succeeded}
use Rattle.run_queues.specs.Log.{Slot, present, LogOk, LogOnly}
use Rattle.run_between.specs.Running.{Running}

-- The state is as it was; the choice has used this step's stamps.
pub record Taken (s : List ℕ) (text : Bytes) (names : List Bytes) (j : Job) (figures : Room) (limit : ℕ) (atlas : Atlas) (slots : List Slot)
    (g : Goal) (others : List Goal) (t : Standing) : Type 0 where
  pub running : Running s text names j figures limit atlas slots t (t.steps * 32768 + 32770)
  pub front : (run j limit figures).state.goals.queue ≡ g ∷ others
  pub more : t.steps < 1000000

-- It is reduced by clause k, and n of its pairs are given a term.
pub record Reducing (s : List ℕ) (names : List Bytes) (j : Job) (figures : Room) (limit : ℕ) (atlas : Atlas) (g : Goal) (query k n : ℕ)
    (c : Clause) (given : List Assignment) : Type 0 where
  pub query_is : query ≡ g.query
  pub chosen : choice_for j.clauses (run j limit figures).state g ≡ reduces c given
  pub at : ClauseAt s names k c
  pub gave : Succeeded s (setting_at figures atlas (run j limit figures).state.units g.query) k c given n

-- It waits on the readers whose pairs' places stand in the region of the readers, each once.
pub record JoiningWaiting (s : List ℕ) (j : Job) (figures : Room) (limit : ℕ) (atlas : Atlas) (g : Goal) (goal query n : ℕ) (readers : List ℕ) : Type 0 where
  pub goal_is : goal ≡ goal_word atlas g
  pub query_is : query ≡ g.query
  pub chosen : choice_for j.clauses (run j limit figures).state g ≡ joins_waiting readers
  pub few : n ≤ figures.pairs
  pub listed_are : listed s (readers_region figures) n ≡ all_met [] (map (λ p. (atlas g.query).pair p) readers)
  pub inside : AllBelow (length (unit_at g.query (run j limit figures).state.units).values) readers

-- It fails.
pub record JoiningFailed (j : Job) (figures : Room) (limit : ℕ) (atlas : Atlas) (g : Goal) (goal query : ℕ) : Type 0 where
  pub goal_is : goal ≡ goal_word atlas g
  pub query_is : query ≡ g.query
  pub chosen : choice_for j.clauses (run j limit figures).state g ≡ joins_failed

-- The log where the room has it.
abbrev pub LogHere : List ℕ → Room → List Slot → Type 0
LogHere s figures slots = LogOk s (waiting_region figures) (waiters_region figures) (sets_region figures) figures.pairs slots

-- The log with the same goals and, if they are fewer than its places, with a free place at its end.
pub record FreePlace (s s' : List ℕ) (figures : Room) (slots : List Slot) (place : ℕ) : Type 0 where
  pub slots_now : List Slot
  pub ok : LogHere s' figures slots_now
  pub number : place ≡ length slots_now
  pub goals : present slots_now (length slots_now) ≡ present slots (length slots)
  pub free : length (present slots (length slots)) < 2 * figures.goals → place < 2 * figures.goals
  pub only : LogOnly (waiting_region figures) (waiters_region figures) (sets_region figures) figures.pairs (length slots) s s'
