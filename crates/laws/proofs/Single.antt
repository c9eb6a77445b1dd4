-- Single occurrence, of every state of every run: written out, the goals of a query hold no writer twice and no reader twice.
-- Writing out is a flow from goals and live values, which hold no half twice but of closed pairs; so is a chain from a waiting goal to a pair that it
-- waits on. Each pair is assigned once, and each failed goal would fail again.
pub mod Closed
pub mod LiveValues
pub mod Comparison
pub mod WrittenOut
pub mod Assigned
pub mod Chains
pub mod Balance
pub mod Counting
pub mod Step
pub mod Run
pub mod StillOpen
pub mod FailedGoals
pub mod Example
use Prim.Native.Nat.{ℕ, ◌+◌, ◌≤◌, ◌<◌}
use mathlib.Core.Path.{◌≡◌, refl, ap, ap₂, sym, ◌∙◌}
use mathlib.Core.Bool.{Bool, true, false}
use mathlib.Core.List.{List, [], ◌∷◌, ◌++◌, map}
use mathlib.Core.Option.{none, some}
use native.Mathlib.Omega.{arith}
use lib.ListN.{length}
use borrow.Author.Tests.{eq-eqb}
use Rattle.meaning.specs.Bytes.{among, those}
use Rattle.meaning.specs.Terms.{Half, writer, reader, Term, variable, Clause, Job, occurrences, all_occurrences, as_term}
use Rattle.meaning.specs.State.{Room, Values, value, Goal, Waiting, Goals, State, Part, unit_at, of, goals_of, part_of}
use Rattle.meaning.specs.Compare.{Assignment, succeeds}
use Rattle.meaning.specs.Trial.{compared, reduces}
use Rattle.meaning.specs.Step.{step}
use Rattle.meaning.specs.Run.{choice_for, run}
use Rattle.meaning.specs.Report.{applied}
use Rattle.laws.proofs.Lists.{
  differ,
  Each,
  each_among,
  each_implies,
  each_in,
  not_beyond,
  each_split,
  each_those,
  each_zero,
  sum,
  sum_append,
  sum_map,
  those_append,
  those_in,
  each_member,
  in_sum,
  In,
  TakenOut,
  taken_front,
}
use Rattle.laws.proofs.Terms.{occurs_itself, occurs_stands}
use Rattle.laws.proofs.Trial.{reduces_agrees}
use Rattle.laws.proofs.Runs.{run_placed}
use Rattle.laws.proofs.Circle.{NoCircle, run_no_circle, applied_unassigned, given_unassigned, step_values_stay}
use Rattle.laws.proofs.Reading.{ClauseOk, JobOk}
use Rattle.laws.proofs.Single.Closed.{closed, opens, unassigned_open}
use Rattle.laws.proofs.Single.LiveValues.{marks, flows_both}
use Rattle.laws.proofs.Single.WrittenOut.{all_applied_flow}
use Rattle.laws.proofs.Single.Chains.{Reaches, reaches_inside, chain_flows}
use Rattle.laws.proofs.Single.Balance.{Balanced, balanced_less, balanced_flow_once, given_once, given_inside, given_values_inside}
use Rattle.laws.proofs.Single.Counting.{together, count_of_own, sum_together}
use Rattle.laws.proofs.Single.Step.{arguments_of, Chained, SoundAt, balanced_taken, given_fresh}
use Rattle.laws.proofs.Single.Run.{run_sound}
-- A goal that a step does not reduce keeps its writers; so each failed goal would fail again, in every state of every run.
pub use FailedGoals.{Spared, step_goal_later, FailedFail, run_failed_goals_fail_again, reached_failed_goals_fail_again}

-- The goals of a query, active, waiting and failed, each as the term that it is.
abbrev pub goal_terms : Part → List Term
goal_terms part = map (λ g. as_term g.goal) (together part.goals)

-- A term "with every assignment applied", as the report writes it.
abbrev pub written_out : Part → Term → Term
written_out part t = applied (length part.unit.values) part.unit.values t

-- What holds of each query in each state of a run.
pub record SingleOccurrence (part : Part) : Type 0 where
  -- Pairs beyond the unit's occur in no value and in no goal, and no goal waits on one.
  pub values_in_range : (m : ℕ) (t : Term) → value part.unit.values m ≡ some t
      → (h : Half) (n : ℕ) → length part.unit.values ≤ n → occurrences h n t ≡ 0
  pub goals_in_range : (h : Half) (n : ℕ) → length part.unit.values ≤ n → Each (λ t. occurrences h n t ≡ 0) (goal_terms part)
  pub readers_in_range : Each (λ w. Each (λ p. p < length part.unit.values) w.readers) part.goals.waiting
  -- Written out, all goals together hold no writer twice and no reader twice.
  pub written_once : (h : Half) (n : ℕ) → sum (λ t. occurrences h n (written_out part t)) (goal_terms part) ≤ 1
  -- The writer of an assigned pair stands in no goal.
  pub assigned_writer_gone : (n : ℕ) (t : Term) → value part.unit.values n ≡ some t
      → Each (λ t. occurrences writer n t ≡ 0) (goal_terms part)
  -- No two goals wait on one pair.
  pub waited_on_once : (p : ℕ) (first between behind : List Waiting) (v w : Waiting)
      → part.goals.waiting ≡ first ++ v ∷ between ++ w ∷ behind
      → among p v.readers ≡ true → among p w.readers ≡ true
      → ⊥

-- To count over the terms is to count over the goals' arguments.
terms_count : (h : Half) (n : ℕ) (gs : List Goal)
    → sum (λ t. occurrences h n t) (map (λ g. as_term g.goal) gs) ≡ sum (λ g. all_occurrences h n g.goal.arguments) gs
unfolding as_term occurrences
terms_count h n gs = sum_map (λ t. occurrences h n t) (λ g. as_term g.goal) gs

module _ (k : ℕ) (state : State) (s : SoundAt k state) where
  abbrev values : Values
  values = (unit_at k state.units).values

  abbrev goals : Goals
  goals = goals_of k state.goals

  abbrev terms : List Term
  terms = map (λ g. as_term g.goal) (together goals)

  balanced : Balanced values (λ h n. sum (λ t. occurrences h n t) terms)
  balanced =
      balanced_less values _ _ (λ h n. omega (arith, terms_count h n (together goals), count_of_own k state.goals h n)) s.balanced

  -- The waiting goals are some of them.
  waiting_terms : (h : Half) (n : ℕ) → sum (λ w. all_occurrences h n (arguments_of w)) goals.waiting ≤ sum (λ t. occurrences h n t) terms
  waiting_terms h n =
      omega (arith, terms_count h n (together goals), sum_together (λ g. all_occurrences h n g.goal.arguments) goals)

  chained : Each (Chained values) goals.waiting
  unfolding goals_of
  chained = each_those _ _ state.goals.waiting s.chained

  -- Written out, no term holds a pair that is assigned.
  none_left : (h : Half) (n : ℕ) (u : Term) → value values n ≡ some u → (ts : List Term) → sum (λ t. occurrences h n (applied (length values) values t)) ts ≡ 0
  none_left h n u e [] = refl
  none_left h n u e (t ∷ ts) =
      let few = not_beyond (occurrences h n (applied (length values) values t)) 1 (λ m.
      let unassigned : value values n ≡ none =
      applied_unassigned values s.no_circle t n (occurs_stands (applied (length values) values t) h n m) in
      differ (cc)) in
      omega (arith, few, none_left h n u e ts)

  idle : Each (λ w. Each (λ p. value values p ≡ none) w.readers) goals.waiting
  unfolding goals_of
  idle = each_those _ _ state.goals.waiting s.idle

  written : (h : Half) (n : ℕ) → sum (λ t. occurrences h n (applied (length values) values t)) terms ≤ 1
  written h n = go (closed values n) refl
    where
      go : (b : Bool) → closed values n ≡ b → sum (λ t. occurrences h n (applied (length values) values t)) terms ≤ 1
      go false o = balanced_flow_once values _ _ balanced (all_applied_flow values (length values) terms) h n o
      go true e = let its = opens values n e in omega (arith, none_left h n its.value_held its.assigned terms)

  readers_inside : (waiting : List Waiting)
      → ((h : Half) (n : ℕ) → length values ≤ n → sum (λ w. all_occurrences h n (arguments_of w)) waiting ≡ 0)
      → Each (Chained values) waiting → Each (λ w. Each (λ p. p < length values) w.readers) waiting
  readers_inside [] inside chains = tt
  readers_inside (w ∷ waiting) inside chains = (
    each_implies _ _
        (λ p. reaches_inside (length values) (λ h n e. omega (arith, inside h n e)) balanced.values_below)
        w.readers chains.0,
    readers_inside waiting (λ h n e. omega (arith, inside h n e)) chains.1,
  )

  -- Two chains from different goals end at different pairs.
  chains_apart : (p : ℕ) (v w : Waiting) → value values p ≡ none
      → ((h : Half) (n : ℕ) → all_occurrences h n (arguments_of v) + all_occurrences h n (arguments_of w) ≤ sum (λ t. occurrences h n t) terms)
      → Reaches values p (arguments_of v) → Reaches values p (arguments_of w)
      → ⊥
  chains_apart p v w unassigned less to_v to_w =
      let both = balanced_less values _ (λ h n. all_occurrences h n (arguments_of v) + all_occurrences h n (arguments_of w)) less balanced in
      let at_most = balanced_flow_once values _ _ both (flows_both (chain_flows values to_v) (chain_flows values to_w)) reader p (unassigned_open values p unassigned) in
      omega (arith, at_most, occurs_itself reader p)

  waiting_apart : (p : ℕ) (first between behind : List Waiting) (v w : Waiting) → goals.waiting ≡ first ++ v ∷ between ++ w ∷ behind
      → among p v.readers ≡ true → among p w.readers ≡ true
      → ⊥
  waiting_apart p first between behind v w e at_v at_w =
      let chains = each_split (Chained values) (first ++ v ∷ between) (w ∷ behind) (rw e at chained) in
      let chains_v = (each_split (Chained values) first (v ∷ between) chains.0).1.0 in
      let idles = each_split _ (first ++ v ∷ between) (w ∷ behind) (rw e at idle) in
      chains_apart p v w (each_among _ p w.readers idles.1.0 at_w)
      (λ h n.
      let f : Waiting → ℕ = λ w. all_occurrences h n (arguments_of w) in
      omega (
        arith,
        waiting_terms h n,
        ap (sum f) e,
        sum_append f (first ++ v ∷ between) (w ∷ behind),
        sum_append f first (v ∷ between),
      ))
      (each_among _ p v.readers chains_v at_v) (each_among _ p w.readers chains.1.0 at_w)

  pub sound_single : SingleOccurrence (part_of k state)
  unfolding part_of
  sound_single =
      record {
        values_in_range = balanced.values_below;
        goals_in_range = λ h n e. each_zero (λ t. occurrences h n t) terms (omega (arith, balanced.below h n e));
        readers_in_range =
            readers_inside goals.waiting (λ h n e. omega (arith, waiting_terms h n, balanced.below h n e)) chained;
        written_once = written;
        assigned_writer_gone = λ n t e.
            each_zero (λ t. occurrences writer n t) terms
            (balanced.gone n t e);
        waited_on_once = waiting_apart;
      }

-- In every state of every run, of each query: single occurrence.
pub single_occurrence : (job : Job) → JobOk job → (limit : ℕ) (figures : Room) (k : ℕ) → k < length job.queries
    → SingleOccurrence (part_of k (run job limit figures).state)
single_occurrence job ok limit figures k inside =
    sound_single k (run job limit figures).state ((run_sound job ok limit figures).sound k inside)

-- Over the waiting goals of all queries: no two of one query wait on one pair.
pub no_two_wait_on_one_pair : (job : Job) → JobOk job → (limit : ℕ) (figures : Room)
    → (p : ℕ) (first between behind : List Waiting) (v w : Waiting)
    → (run job limit figures).state.goals.waiting ≡ first ++ v ∷ between ++ w ∷ behind
    → v.goal.query ≡ w.goal.query
    → among p v.readers ≡ true → among p w.readers ≡ true
    → ⊥
unfolding part_of goals_of of
no_two_wait_on_one_pair job ok limit figures p first between behind v w e same at_v at_w =
    let k = v.goal.query in
    let its : Waiting → Bool = λ u. of k u.goal in
    let places = each_split _ (first ++ v ∷ between) (w ∷ behind) (rw e at (run_placed job limit figures).waiting) in
    let inside = (each_split _ first (v ∷ between) places.0).1.0 in
    let from_v = those_in its v between (eq-eqb k k refl) in
    let from_w = those_in its w behind (eq-eqb w.goal.query k (sym same)) in
    let up_to_w = those_append its first (v ∷ between) ∙ ap (λ (l : List Waiting). those its first ++ l) from_v in
    let own = ap (those its) e ∙ those_append its (first ++ v ∷ between) (w ∷ behind) ∙ ap₂ ◌++◌ up_to_w from_w in
    (single_occurrence job ok limit figures k inside).waited_on_once p (those its first) (those its between) (those its behind) v w own at_v at_w

-- Assignments for pairs that had no value, no two for one pair, all within the unit's pairs and so many more.
pub record AssignedOnce (values : Values) (pairs : ℕ) (given : List Assignment) : Type 0 where
  pub unassigned_before : Each (λ a. value values a.pair ≡ none) given
  pub no_pair_twice : (first between behind : List Assignment) (a b : Assignment)
      → given ≡ first ++ a ∷ between ++ b ∷ behind → a.pair ≡ b.pair
      → ⊥
  pub pairs_in_range : Each (λ a. a.pair < length values + pairs) given
  pub values_in_range : (h : Half) (n : ℕ) → length values + pairs ≤ n → Each (λ a. occurrences h n a.value ≡ 0) given

distinct : (given : List Assignment) → ((n : ℕ) → marks writer writer n given ≤ 1) → (first between behind : List Assignment) (a b : Assignment)
    → given ≡ first ++ a ∷ between ++ b ∷ behind → a.pair ≡ b.pair → ⊥
distinct given once first between behind a b e same =
    let f : Assignment → ℕ = λ c. occurrences writer a.pair (variable writer c.pair) in
    let here : f b ≡ 1 = rw (← same) (occurs_itself writer a.pair) in
    omega (
      arith,
      once a.pair,
      occurs_itself writer a.pair,
      ap (sum f) e,
      sum_append f (first ++ a ∷ between) (b ∷ behind),
      sum_append f first (a ∷ between),
    )

inside_each : (room : ℕ) (given : List Assignment) → ((n : ℕ) → room ≤ n → marks writer writer n given ≡ 0) → Each (λ a. a.pair < room) given
inside_each room given inside =
    each_member (λ a. a.pair < room) given
    (λ a m. not_beyond a.pair room
    (λ e. omega (arith, inside a.pair e, occurs_itself writer a.pair, in_sum (λ b. occurrences writer a.pair (variable writer b.pair)) m)))

-- A trial for a goal of the queue, wherever it stands there, of a state that is sound and without a circle.
pub sound_assigns_once : (state : State) (g : Goal) (others : List Goal) → TakenOut g others state.goals.queue
    → SoundAt g.query state → NoCircle state
    → (clause : Clause) → ClauseOk clause
    → (given : List Assignment) → compared clause (unit_at g.query state.units) g.goal ≡ succeeds given
    → AssignedOnce (unit_at g.query state.units).values clause.pairs given
sound_assigns_once state g others taken s no_circle clause clause_ok given agrees =
    let unit = unit_at g.query state.units in
    let b = balanced_taken unit.values g state.goals others taken s in
    let fresh = given_fresh clause unit g.goal given (no_circle g.query) agrees in
    record {
      unassigned_before = each_member _ given (given_unassigned clause unit g.goal given (no_circle g.query) agrees);
      no_pair_twice = distinct given (given_once unit clause g.goal given _ clause_ok agrees fresh b);
      pairs_in_range = inside_each _ given (given_inside unit clause g.goal given _ clause_ok agrees fresh b);
      values_in_range = λ h n e.
          each_zero (λ a. occurrences h n a.value) given (given_values_inside unit clause g.goal given _ clause_ok agrees fresh b h n e);
    }

-- No trial assigns a pair that has a value, and none assigns a pair twice; whether the circle test then fails it or not.
pub trial_assigns_once : (job : Job) → JobOk job → (limit : ℕ) (figures : Room) (g : Goal) (others : List Goal)
    → (run job limit figures).state.goals.queue ≡ g ∷ others
    → (clause : Clause) → In clause job.clauses
    → (given : List Assignment) → compared clause (unit_at g.query (run job limit figures).state.units) g.goal ≡ succeeds given
    → AssignedOnce (unit_at g.query (run job limit figures).state.units).values clause.pairs given
trial_assigns_once job ok limit figures g others front clause member given agrees =
    sound_assigns_once (run job limit figures).state g others (taken_front front)
    ((run_sound job ok limit figures).sound g.query (rw front at (run_placed job limit figures).queue).0)
    (run_no_circle job limit figures) clause (each_in ClauseOk ok.clauses_ok member) given agrees

-- Each pair is assigned at most once: so are the assignments of every reduction, in every state of every run.
pub reduction_assigns_once : (job : Job) → JobOk job → (limit : ℕ) (figures : Room) (g : Goal) (others : List Goal)
    → (run job limit figures).state.goals.queue ≡ g ∷ others
    → (clause : Clause) (given : List Assignment) → choice_for job.clauses (run job limit figures).state g ≡ reduces clause given
    → AssignedOnce (unit_at g.query (run job limit figures).state.units).values clause.pairs given
unfolding choice_for
reduction_assigns_once job ok limit figures g others front clause given e =
    let unit = unit_at g.query (run job limit figures).state.units in
    let its = reduces_agrees unit g.goal clause given job.clauses e in
    trial_assigns_once job ok limit figures g others front clause its.0 given its.1

-- And a value once given stays: whatever step follows, of whichever goal.
pub value_stays : (job : Job) → JobOk job → (limit : ℕ) (figures : Room) (g : Goal) (others : List Goal)
    → (run job limit figures).state.goals.queue ≡ g ∷ others
    → (k : ℕ) → k < length job.queries
    → (n : ℕ) (t : Term) → value (unit_at k (run job limit figures).state.units).values n ≡ some t
    → value (unit_at k (step (choice_for job.clauses (run job limit figures).state g) g others (run job limit figures).state).units).values n
    ≡ some t
value_stays job ok limit figures g others front k inside n t e =
    step_values_stay job.clauses (run job limit figures).state g others (run_no_circle job limit figures) k n t e
