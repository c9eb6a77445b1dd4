-- What the trial of a clause and the choice of a clause ask and give. Both work for the goal in front, in a state of the run of the job that a
-- text was read as: what the laws say of such states is what they lean on.
use Rattle.std.specs.Prelude.{ℕ, ◌+◌, ◌*◌, ◌≤◌, ◌<◌, ◌≡◌, ◌⊎◌, List, [], ◌∷◌, ◌++◌, map, length, get_or, Result as Outcome, Ok, Err}
use Rattle.std.proofs.Math.Option.{Option}
use Rattle.meaning.specs.Bytes.{Bytes}
use Rattle.meaning.specs.Terms.{Clause, Job, as_term}
use Rattle.meaning.specs.Items.{job, reading}
use Rattle.meaning.specs.State.{Room, Values, QueryUnit, Goal, unit_at}
use Rattle.meaning.specs.Compare.{Assignment, Result, succeeds, waits, fails}
use Rattle.meaning.specs.Trial.{Choice, reduces, joins_waiting, joins_failed, procedure, trial, choice}
use Rattle.meaning.specs.Run.{run}
use Rattle.term.specs.Cells.{Places}
use Rattle.term.specs.Chains.{EndsStand}
use Rattle.term.specs.Jobs.{GoalsNumbered, HoldsJob, ClauseAt}
use Rattle.term.specs.Setting.{Setting, UnitTerm, UnitStands}
use Rattle.term.specs.States.{setting, listed}
use Rattle.term.specs.Layout.{trial_region, compounds_region, woken_part, ends_after}
use Rattle.run_chains.specs.Follow.{FollowedAt}
use Rattle.run_compare.specs.Compare.{Template, Gave}
use Rattle.run_circle.specs.Ground.{stamp_in, Tells, IsSo, Grounds}
use Rattle.run_readers.specs.Readers.{Readers, all_met}
use Rattle.run_asked.specs.Asking.{Joined, AllBelow}
use Rattle.run_index.specs.Index.{Indexed}
use Rattle.run_trial.specs.declared.choice.TrialResult.{TrialResult}
use Rattle.run_trial.specs.declared.choice.TrialResult.TheVariants as results
use Rattle.run_asked.specs.declared.asking.Hindered.{Hindered}
use Rattle.run_asked.specs.declared.asking.Hindered.TheVariants.{Waits, Fails}

-- The unit of a goal's query, in the state after so many steps.
abbrev pub unit_of : Job → ℕ → Room → Goal → QueryUnit
unit_of j limit figures g = unit_at g.query (run j limit figures).state.units

-- The scratch holds the job, the goal at a place, and its unit: values from a word on, marks, readers with their ranks and then ends behind them,
-- compounds before them.
pub record Trying (s : List ℕ) (text : Bytes) (names : List Bytes) (j : Job) (limit : ℕ) (figures : Room) (places : Places)
    (g : Goal) (others : List Goal) (values marks links goal : ℕ) : Type 0 where
  pub reads : reading text ≡ job j
  pub front : (run j limit figures).state.goals.queue ≡ g ∷ others
  pub held : HoldsJob s names j
  pub indexed : Indexed s (length j.clauses)
  pub names_are : places.names ≡ names
  pub unit : UnitStands s (setting figures places (unit_of j limit figures g)) values
  pub goal_held : UnitTerm s (setting figures places (unit_of j limit figures g)) (as_term g.goal)
  pub goal_place : goal ≡ places.compound g.goal.number
  pub apart : (n m : ℕ) → n < length (unit_of j limit figures g).values → m < length (unit_of j limit figures g).values
      → places.pair n ≡ places.pair m → n ≡ m
  pub compound_behind : (n : ℕ) → n < (unit_of j limit figures g).compounds → compounds_region ≤ places.compound n
  pub compound_before : (n : ℕ) → n < (unit_of j limit figures g).compounds → places.compound n + places.width n ≤ values
  pub values_behind : compounds_region ≤ values
  pub marks_behind : values + figures.pairs ≤ marks
  pub inside : marks + 3 * figures.pairs ≤ length s
  pub enough : length (unit_of j limit figures g).values ≤ links
  pub links_are : links ≡ figures.pairs
  pub few_links : links ≤ 65536
  pub near : values ≤ 268435456
  pub ends_behind : marks + 3 * figures.pairs ≤ values + ends_after * figures.pairs
  pub ends : EndsStand s (setting figures places (unit_of j limit figures g)) values
  pub grounds : Grounds places (unit_of j limit figures g).values marks s

-- The goal's arguments stand followed in the trial's region.
abbrev pub ArgumentsStand : List ℕ → Job → ℕ → Room → Places → Goal → ℕ → Type 0
ArgumentsStand s j limit figures places g links =
    FollowedAt s (setting figures places (unit_of j limit figures g)) links 0 g.goal.arguments

-- Stamps from this one on are unused.
abbrev pub MarksBelow : List ℕ → ℕ → ℕ → ℕ → Type 0
MarksBelow s marks pairs stamp = (k : ℕ) → marks ≤ k → k < marks + pairs → stamp_in (get_or s k 0) < stamp

-- What a mark newly tells, of so many pairs, is so of a pair of the unit.
abbrev pub NewMarks : Places → Values → ℕ → ℕ → List ℕ → List ℕ → Type 0
NewMarks places values marks pairs s s' =
    (o : Option ℕ) (p : ℕ) → p < pairs → Tells o (get_or s' (marks + p) 0) → Tells o (get_or s (marks + p) 0) ⊎ IsSo places values o p

-- Only words of the trial's region below a top, and so many words from the marks on, differ.
pub record TrialOnly (top marks wide : ℕ) (s s' : List ℕ) : Type 0 where
  pub size : length s' ≡ length s
  pub same : (k : ℕ) → (k < trial_region) ⊎ (top ≤ k) → (k < marks) ⊎ (marks + wide ≤ k) → get_or s' k 0 ≡ get_or s k 0

-- Clause k as comparing sees it.
abbrev pub template : ℕ → Clause → Template
template k c = record { number = k; pairs = c.pairs; compounds = c.compounds }

-- A clause of the goal's procedure, in the scratch as clause k.
pub record Candidate (s : List ℕ) (names : List Bytes) (j : Job) (g : Goal) (k : ℕ) (c : Clause) : Type 0 where
  pub at : ClauseAt s names k c
  pub before : List Clause
  pub after : List Clause
  pub in_procedure : procedure j.clauses g.goal ≡ before ++ c ∷ after

-- The readers that the clauses before wait on are in the step's set, which has n.
pub record Gathered (s : List ℕ) (places : Places) (list pairs n : ℕ) (readers : List ℕ) : Type 0 where
  pub ok : Readers s list pairs n
  pub words : listed s list n ≡ all_met [] (map (λ p. places.pair p) readers)

-- What a trial has given stands in the trial's region: the assignments of n of the goal's pairs, and of the head's writers; the compounds of the
-- body's goals are numbered behind those of what is given, and behind the guards'.
pub record Succeeded (s : List ℕ) (x : Setting) (k : ℕ) (c : Clause) (given : List Assignment) (n : ℕ) : Type 0 where
  pub few : n ≤ 192
  pub gave : Gave s s x (template k c) given n
  pub body_from : ℕ
  pub body_behind : gave.high ≤ body_from
  pub body : GoalsNumbered body_from c.compounds c.body

-- A trial in a step that has met so many readers, in a list from a word on: those that it waits on have joined them.
abbrev pub TrialTold : List ℕ → List ℕ → Setting → ℕ → Clause → ℕ → ℕ → Result → TrialResult → Type 0
TrialTold s s' x k c list met o (results.Succeeds n) = (given : List Assignment) × (o ≡ succeeds given) × Succeeded s' x k c given n
TrialTold s s' x k c list met o (results.Waits n) =
    (readers : List ℕ) × (o ≡ waits readers) × AllBelow (length x.values) readers × Joined s s' list x.pairs met (map (λ p. x.places.pair p) readers) n
TrialTold s s' x k c list met o results.Fails = (o ≡ fails) × Joined s s' list x.pairs met [] met

-- The answer of a trial, in a step that has met so many readers, those on which the earlier clauses wait.
pub record TrialIs (s s' : List ℕ) (j : Job) (limit : ℕ) (figures : Room) (places : Places) (g : Goal) (marks met stamp k : ℕ) (c : Clause) (earlier : List ℕ)
    (r : TrialResult) : Type 0 where
  pub only : TrialOnly woken_part marks (3 * figures.pairs) s s'
  pub marks_now : MarksBelow s' marks figures.pairs (stamp + 256)
  pub told : TrialTold s s' (setting figures places (unit_of j limit figures g)) k c (marks + figures.pairs) met
      (trial earlier c (unit_of j limit figures g) g.goal) r
  pub grounds : NewMarks places (unit_of j limit figures g).values marks figures.pairs s s'

-- The readers that a goal waits on have their pairs' places in a list from a word on, each once.
abbrev pub ChoiceTold : List ℕ → List Bytes → Setting → ℕ → Choice → Outcome (ℕ × ℕ) Hindered → Type 0
ChoiceTold s names x list o (Ok (k, n)) =
    (c : Clause) × (given : List Assignment) × (o ≡ reduces c given) × ClauseAt s names k c × Succeeded s x k c given n
ChoiceTold s names x list o (Err (Waits n)) =
    (readers : List ℕ) × (o ≡ joins_waiting readers) × (n ≤ x.pairs) × (listed s list n ≡ all_met [] (map (λ p. x.places.pair p) readers))
    × AllBelow (length x.values) readers
ChoiceTold s names x list o (Err Fails) = o ≡ joins_failed

-- The answer of the choice.
pub record ChoiceIs (s s' : List ℕ) (names : List Bytes) (j : Job) (limit : ℕ) (figures : Room) (places : Places) (g : Goal) (marks stamp : ℕ) (r : Outcome (ℕ × ℕ) Hindered)
    : Type 0 where
  pub only : TrialOnly compounds_region marks (3 * figures.pairs) s s'
  pub marks_now : MarksBelow s' marks figures.pairs (stamp + 32768)
  pub told : ChoiceTold s' names (setting figures places (unit_of j limit figures g)) (marks + figures.pairs) (choice j.clauses (unit_of j limit figures g) g.goal) r
  pub grounds : NewMarks places (unit_of j limit figures g).values marks figures.pairs s s'
