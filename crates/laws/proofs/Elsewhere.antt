-- Where a pair's reader stands elsewhere, or nowhere, no circle runs through the pair: the circle test need not start there.
-- A circle that a trial would close through a pair of the goal reads the pair in the goal itself, and an unassigned pair's reader stands in one goal only,
-- written out. A reader that a guard licenses may stand several times, but its pair's value is ground, and no chain to an unassigned pair passes it.
pub mod Open
pub mod Live
pub mod Before
pub mod NoCircle
pub mod Written
pub mod Staying
pub mod StaysUnread
pub mod Nowhere
pub mod Handed
pub mod Homes
pub mod Example
use Prim.Native.Nat.{ℕ, ◌+◌, ◌≤◌, ◌<◌}
use mathlib.Core.Path.{◌≡◌, refl}
use mathlib.Core.Logic.{◌↔◌, ◌⊎◌, inl, inr, ⊎_elim}
use mathlib.Core.Bool.{true}
use mathlib.Core.List.{List, ◌∷◌, map}
use mathlib.Core.Option.{none}
use native.Mathlib.Omega.{arith}
use lib.ListN.{length}
use borrow.Author.Tests.{eq-eqb}
use Rattle.meaning.specs.Bytes.{any}
use Rattle.meaning.specs.Terms.{Half, reader, Clause, Job, renamed_goal, occurrences, all_occurrences, goals_occurrences}
use Rattle.meaning.specs.State.{Room, Values, value, QueryUnit, Goal, Goals, State, unit_at, of, part_of}
use Rattle.meaning.specs.Compare.{Assignment, succeeds}
use Rattle.meaning.specs.Circle.{circle_at, circle}
use Rattle.meaning.specs.Trial.{next_pair, compared, values_after, reduces}
use Rattle.meaning.specs.Step.{goals_after, without_front, step}
use Rattle.meaning.specs.Run.{choice_for, run}
use Rattle.laws.proofs.Lists.{In, in_sum, Each, each_in, TakenOut, taken_front}
use Rattle.laws.proofs.Runs.{run_placed}
use Rattle.laws.proofs.Runs.AllGoals.{EachGoal, each_goal_taken}
use Rattle.laws.proofs.Runs.Charges.{run_units}
use Rattle.laws.proofs.Reading.{ClauseOk, JobOk}
use Rattle.laws.proofs.Circle.{Links, circle_says, circle_from}
use Rattle.laws.proofs.Circle.Leaning.{links_join}
use Rattle.laws.proofs.Circle.Starts.{Assigns}
use Rattle.laws.proofs.Single.Chains.{Reaches}
use Rattle.laws.proofs.Single.Balance.{Balanced}
use Rattle.laws.proofs.Single.Counting.{together, own, own_of, count_of, sum_together}
use Rattle.laws.proofs.Single.Step.{SoundAt, balanced_taken}
use Rattle.laws.proofs.Single.Run.{run_sound}
use Rattle.laws.proofs.Elsewhere.NoCircle.{assigns_unassigned, no_circle_through, no_circle_if_another_reads, circle_by_some_starts}
use Rattle.laws.proofs.Elsewhere.Homes.{sound_reads_alike, sound_reached_by_handed_on, sound_unread_handed_on, sound_new_unread}
-- A chain to an unassigned pair's reader is the same as the reader written out.
pub use Written.{reached_exactly_if_written}
-- A goal that has one stays and keeps it, until it is reduced. A query's goals and a body's have one to each reader that they hold.
pub use Staying.{ReachedBy, reached_at_start, reached_by_stays, reached_by_taken_stays, reached_by_body}
-- Where none has one, none ever has; written out, none holds the reader.
pub use StaysUnread.{Unread, UnreadAt, start_unread, step_unread, unread_stays}
pub use Nowhere.{ReadNowhere, nowhere_unread, unread_nowhere, nowhere_stays}

-- A pair is known not to be read by the goal that is taken: another goal of its query has a chain to the pair's reader, so that it holds the reader
-- written out; or, written out, none does.
abbrev pub NotHere : State → Goal → List Goal → ℕ → Type 0
NotHere state g others z =
    ((o : Goal) × ReachedBy g.query z (unit_at g.query state.units).values (without_front others state.goals) o)
    ⊎ ReadNowhere (part_of g.query state) z

-- A trial for a goal of the queue, wherever it stands there, of a state that is sound at its query: a clause whose places all agree with the goal.
module _ (state : State) (g : Goal) (others : List Goal) (taken : TakenOut g others state.goals.queue) (sound : SoundAt g.query state)
    (clause : Clause) (clause_ok : ClauseOk clause) (given : List Assignment)
    (agrees : compared clause (unit_at g.query state.units) g.goal ≡ succeeds given) where
  abbrev unit : QueryUnit
  unit = unit_at g.query state.units

  abbrev rest : Goals
  rest = without_front others state.goals

  abbrev after : Values
  after = values_after clause given unit

  balanced : Balanced unit.values (λ h n. all_occurrences h n g.goal.arguments + count_of g.query rest h n)
  balanced = balanced_taken unit.values g state.goals others taken sound

  -- Another goal of the query has a chain to the pair's reader.
  pub sound_no_circle_if_reached_elsewhere : let unit = unit_at g.query state.units in
      (z : ℕ) → z < length unit.values → Assigns given z
      → (o : Goal) → ReachedBy g.query z unit.values (without_front others state.goals) o
      → ¬ Links (values_after clause given unit) z z
  unfolding of
  sound_no_circle_if_reached_elsewhere z old assigns o r =
      no_circle_if_another_reads unit clause g.goal given (count_of g.query rest) clause_ok agrees sound.no_circle balanced z old assigns
      o.goal.arguments
      (λ h n.
      omega (
        arith,
        in_sum (own g.query h n) r.present,
        sum_together (own g.query h n) rest,
        own_of g.query h n o (eq-eqb o.query g.query r.its_own),
      ))
      r.reached

  -- No goal of the query has one.
  pub sound_no_circle_if_unread : let unit = unit_at g.query state.units in
      (z : ℕ) → z < length unit.values → Assigns given z
      → EachGoal (Unread g.query z unit.values) state.goals
      → ¬ Links (values_after clause given unit) z z
  sound_no_circle_if_unread z old assigns unread =
      no_circle_through unit clause g.goal given (count_of g.query rest) clause_ok agrees sound.no_circle balanced z old assigns
      ((each_goal_taken (Unread g.query z unit.values) state.goals g others taken unread).0 refl)

  -- Written out, none holds the reader.
  pub sound_no_circle_if_nowhere : let unit = unit_at g.query state.units in
      (z : ℕ) → z < length unit.values → Assigns given z
      → ReadNowhere (part_of g.query state) z
      → ¬ Links (values_after clause given unit) z z
  sound_no_circle_if_nowhere z old assigns nowhere =
      sound_no_circle_if_unread z old assigns
      (nowhere_unread g.query z state sound.no_circle
      (assigns_unassigned unit clause g.goal given (count_of g.query rest) clause_ok agrees sound.no_circle balanced z assigns) nowhere)

  none_there : (z : ℕ) → z < length unit.values → Assigns given z → NotHere state g others z → ¬ Links after z z
  none_there z old assigns (inl (o, r)) = sound_no_circle_if_reached_elsewhere z old assigns o r
  none_there z old assigns (inr nowhere) = sound_no_circle_if_nowhere z old assigns nowhere

  goal_range : (h : Half) (m : ℕ) → length unit.values ≤ m → all_occurrences h m g.goal.arguments ≡ 0
  goal_range h m e = omega (arith, balanced.below h m e)

  -- So a search that starts at the pairs of which that is not known, and perhaps at others, gives the test's answer.
  pub sound_circle_by_readers_here : let unit = unit_at g.query state.units in
      (starts : List ℕ) → ((z : ℕ) → z < length unit.values → Assigns given z → In z starts ⊎ NotHere state g others z)
      → circle (values_after clause given unit) ≡ any (circle_at (values_after clause given unit)) starts
  sound_circle_by_readers_here starts all =
      circle_by_some_starts clause unit g.goal given balanced.values_below goal_range agrees sound.no_circle starts
      (λ z old assigns. ⊎_elim inl (λ known. inr (none_there z old assigns known)) (all z old assigns))

  -- The test is true exactly if a pair leans on itself that the trial assigns and of which that is not known.
  pub sound_circle_exactly_here : let unit = unit_at g.query state.units in
      (circle (values_after clause given unit) ≡ true)
      ↔ ((z : ℕ) × (z < length unit.values) × Assigns given z × ¬ NotHere state g others z × Links (values_after clause given unit) z z)
  sound_circle_exactly_here = (
    λ e.
        let (i, c) = (circle_says after).0 e in
        let (z, old, assigns, from, to) =
        circle_from clause unit g.goal given balanced.values_below goal_range agrees sound.no_circle i c in
        (z, old, assigns, λ known. none_there z old assigns known (links_join to from), links_join to from),
    λ (z, old, assigns, unknown, c). (circle_says after).1 (z, c),
  )

-- In a state of a run, the goal in front.
module _ (job : Job) (ok : JobOk job) (limit : ℕ) (figures : Room) (g : Goal) (others : List Goal)
    (front : (run job limit figures).state.goals.queue ≡ g ∷ others) where
  abbrev run_state : State
  run_state = (run job limit figures).state

  its_place : g.query < length job.queries
  its_place = (rw front at (run_placed job limit figures).queue).0

  its_unit : g.query < length run_state.units
  its_unit = rw (run_units job limit figures) its_place

  sound_here : SoundAt g.query run_state
  sound_here = (run_sound job ok limit figures).sound g.query its_place

  -- A clause whose places all agree with it.
  module _ (clause : Clause) (member : In clause job.clauses) (given : List Assignment)
      (agrees : compared clause (unit_at g.query (run job limit figures).state.units) g.goal ≡ succeeds given) where
    clause_ok : ClauseOk clause
    clause_ok = each_in ClauseOk ok.clauses_ok member

    -- Another goal of the query has a chain to the reader of a pair that the trial assigns, so that it holds the reader written out:
    -- no circle runs through the pair.
    pub no_circle_if_reached_elsewhere : let state = (run job limit figures).state in
        let unit = unit_at g.query state.units in
        (z : ℕ) → z < length unit.values → Assigns given z
        → (o : Goal) → ReachedBy g.query z unit.values (without_front others state.goals) o
        → ¬ Links (values_after clause given unit) z z
    no_circle_if_reached_elsewhere =
        sound_no_circle_if_reached_elsewhere run_state g others (taken_front front) sound_here clause clause_ok given agrees

    -- No goal of the query has a chain to the pair's reader: no circle runs through the pair.
    pub no_circle_if_unread : let state = (run job limit figures).state in
        let unit = unit_at g.query state.units in
        (z : ℕ) → z < length unit.values → Assigns given z
        → EachGoal (Unread g.query z unit.values) state.goals
        → ¬ Links (values_after clause given unit) z z
    no_circle_if_unread = sound_no_circle_if_unread run_state g others (taken_front front) sound_here clause clause_ok given agrees

    -- The same where no goal of the query, written out, holds the reader.
    pub no_circle_if_nowhere : let state = (run job limit figures).state in
        let unit = unit_at g.query state.units in
        (z : ℕ) → z < length unit.values → Assigns given z
        → ReadNowhere (part_of g.query state) z
        → ¬ Links (values_after clause given unit) z z
    no_circle_if_nowhere = sound_no_circle_if_nowhere run_state g others (taken_front front) sound_here clause clause_ok given agrees

    -- So a search that starts at the pairs of which that is not known, and perhaps at others, gives the test's answer.
    pub circle_by_readers_here : let state = (run job limit figures).state in
        let unit = unit_at g.query state.units in
        (starts : List ℕ) → ((z : ℕ) → z < length unit.values → Assigns given z → In z starts ⊎ NotHere state g others z)
        → circle (values_after clause given unit) ≡ any (circle_at (values_after clause given unit)) starts
    circle_by_readers_here = sound_circle_by_readers_here run_state g others (taken_front front) sound_here clause clause_ok given agrees

  -- A reduction. Where an unassigned pair's reader stands is kept by every step, whichever goal it takes: by `reached_by_stays`, and by `step_unread` where
  -- it stands nowhere. What a reduction gives and brings is read so:
  module _ (clause : Clause) (given : List Assignment) (chosen : choice_for job.clauses (run job limit figures).state g ≡ reduces clause given) where
    -- The goals that read what a pair is given, of unassigned pairs, are those that read the pair.
    pub reads_alike : let state = (run job limit figures).state in
        let unit = unit_at g.query state.units in
        let after = values_after clause given unit in
        (a : Assignment) → In a given → (x : ℕ) → 1 ≤ occurrences reader x a.value → value after x ≡ none
        → (o : Goal) → In o (together (goals_after (reduces clause given) unit g (without_front others state.goals))) → o.query ≡ g.query
        → Reaches after x o.goal.arguments ↔ Reaches after a.pair o.goal.arguments
    reads_alike = sound_reads_alike job.clauses ok.clauses_ok run_state g others (taken_front front) its_unit sound_here clause given chosen

    -- A goal that reads the pair reads what it is given.
    pub reached_by_handed_on : let later = step (choice_for job.clauses (run job limit figures).state g) g others (run job limit figures).state in
        let values = (unit_at g.query later.units).values in
        (a : Assignment) → In a given → (x : ℕ) → 1 ≤ occurrences reader x a.value
        → (o : Goal) → ReachedBy g.query a.pair values later.goals o → ReachedBy g.query x values later.goals o
    reached_by_handed_on =
        sound_reached_by_handed_on job.clauses ok.clauses_ok run_state g others (taken_front front) its_unit sound_here clause given chosen

    -- Where no goal reads the pair, none reads an unassigned pair of what it is given.
    pub unread_handed_on : let later = step (choice_for job.clauses (run job limit figures).state g) g others (run job limit figures).state in
        (a : Assignment) → In a given → (x : ℕ) → 1 ≤ occurrences reader x a.value
        → value (unit_at g.query later.units).values x ≡ none
        → UnreadAt g.query a.pair later → UnreadAt g.query x later
    unread_handed_on =
        sound_unread_handed_on job.clauses ok.clauses_ok run_state g others (taken_front front) its_unit sound_here clause given chosen

    -- A new pair whose reader stands neither in what is given nor in the body: no goal reads it.
    pub new_unread : let state = (run job limit figures).state in
        let unit = unit_at g.query state.units in
        (x : ℕ) → length unit.values ≤ x → x < length (values_after clause given unit)
        → Each (λ a. occurrences reader x a.value ≡ 0) given
        → goals_occurrences reader x (map (renamed_goal (next_pair unit) unit.compounds) clause.body) ≡ 0
        → UnreadAt g.query x (step (choice_for job.clauses state g) g others state)
    new_unread = sound_new_unread job.clauses ok.clauses_ok run_state g others (taken_front front) its_unit sound_here clause given chosen
