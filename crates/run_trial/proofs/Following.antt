-- Before the first clause the goal's arguments are followed. What the choice then tells is told of the scratch before it too.
use Prim.Native.Nat.{ℕ, ◌+◌, ◌*◌, ◌<◌}
use mathlib.Core.List.{List}
use native.Mathlib.Omega.{arith}
use Rattle.meaning.specs.Bytes.{Bytes}
use Rattle.meaning.specs.Terms.{Functor, Terms, Job, named, as_term}
use Rattle.meaning.specs.State.{Room, Goal}
use Rattle.term.specs.Cells.{Places}
use Rattle.term.specs.Frames.{Only}
use Rattle.term.specs.Setting.{Setting}
use Rattle.term.specs.States.{setting}
use Rattle.term.proofs.Frames.{only_wider}
use Rattle.term.specs.Layout.{trial_region, compounds_region, followed_from, followed_end}
use Rattle.run_chains.specs.Follow.{Follows, ArgumentsFollowed}
use Rattle.std.specs.Prelude.{Result as Outcome}
use Rattle.run_asked.specs.declared.asking.Hindered.{Hindered}
use Rattle.run_trial.specs.Choosing.{unit_of, Trying, ArgumentsStand, MarksBelow, NewMarks, TrialOnly, ChoiceIs}
use Rattle.run_trial.proofs.Staying.{trial_only_then, trial_only_region, new_marks_then, new_marks_of, trying_stays, grounds_stay, marks_stay}

-- What following tells.
abbrev pub Following : List ℕ → List ℕ → ℕ → ℕ → ℕ → Type 0
Following s s₀ values links goal =
    (x : Setting) (l : ℕ) (f : Functor) (ts : Terms) → Follows s x values links l f ts goal → ArgumentsFollowed s s₀ x links ts

module _ {s : List ℕ} {text : Bytes} {names : List Bytes} {j : Job} {limit : ℕ} {figures : Room} {at : Places} {g : Goal} {others : List Goal}
    {values marks links goal : ℕ} (t : Trying s text names j limit figures at g others values marks links goal) where
  pub goal_follows : Follows s (setting figures at (unit_of j limit figures g)) values links
      g.goal.number (named g.goal.name) g.goal.arguments goal
  unfolding as_term
  goal_follows = record {
    chained = record { stands = t.unit; links_are = t.links_are; ends = t.ends };
    term = t.goal_held;
    place = t.goal_place;
    compounds_behind = t.compound_behind;
    values_behind = t.values_behind;
  }

  module _ {s₀ : List ℕ} (told : Following s s₀ values links goal) where
    followed : ArgumentsFollowed s s₀ (setting figures at (unit_of j limit figures g)) links g.goal.arguments
    followed =
        told (setting figures at (unit_of j limit figures g)) g.goal.number (named g.goal.name) g.goal.arguments goal_follows

    pub arguments_stand : ArgumentsStand s₀ j limit figures at g links
    arguments_stand = followed.stand

    region : Only trial_region compounds_region s s₀
    region = only_wider followed_from followed_end trial_region compounds_region s s₀ (omega arith) (omega arith) followed.only

    frame : TrialOnly compounds_region marks (3 * figures.pairs) s s₀
    frame = trial_only_region compounds_region marks (3 * figures.pairs) (omega arith) region

    same_marks : NewMarks at (unit_of j limit figures g).values marks figures.pairs s s₀
    same_marks =
        new_marks_of at (unit_of j limit figures g).values marks figures.pairs s s₀
        (grounds_stay at (unit_of j limit figures g).values marks (omega (arith, t.values_behind, t.marks_behind)) region)

    pub trying_then : Trying s₀ text names j limit figures at g others values marks links goal
    trying_then = trying_stays frame same_marks t

    pub marks_then : (first : ℕ) → MarksBelow s marks figures.pairs first → MarksBelow s₀ marks figures.pairs first
    marks_then first = marks_stay marks figures.pairs first (omega (arith, t.values_behind, t.marks_behind)) region

    pub choice_then : {s' : List ℕ} {first : ℕ} {r : Outcome (ℕ × ℕ) Hindered} → ChoiceIs s₀ s' names j limit figures at g marks first r
        → ChoiceIs s s' names j limit figures at g marks first r
    choice_then {s'} c = record {
      only = trial_only_then frame c.only;
      marks_now = c.marks_now;
      told = c.told;
      grounds = new_marks_then at (unit_of j limit figures g).values marks figures.pairs s s₀ s' same_marks c.grounds;
    }

-- What the choice asks; and what the walk over the clauses asks.
abbrev pub Asked : List ℕ → ℕ → ℕ → ℕ → ℕ → ℕ → Type 0
Asked s values marks links goal first =
    (text : Bytes) × (names : List Bytes) × (j : Job) × (limit : ℕ) × (figures : Room) × (at : Places) × (g : Goal) × (others : List Goal)
    × Trying s text names j limit figures at g others values marks links goal
    × MarksBelow s marks figures.pairs first × ((1 < first) × (first + 32768 < 1099511627776))

abbrev pub Ready : List ℕ → ℕ → ℕ → ℕ → ℕ → ℕ → Type 0
Ready s values marks links goal first =
    (text : Bytes) × (names : List Bytes) × (j : Job) × (limit : ℕ) × (figures : Room) × (at : Places) × (g : Goal) × (others : List Goal)
    × Trying s text names j limit figures at g others values marks links goal × ArgumentsStand s j limit figures at g links
    × MarksBelow s marks figures.pairs first × ((1 < first) × (first + 32768 < 1099511627776))

pub ready : {s s₀ : List ℕ} {values marks links goal first : ℕ} → Asked s values marks links goal first → Following s s₀ values links goal
    → Ready s₀ values marks links goal first
ready {first = first} (text, names, j, limit, figures, at, g, others, t, new, fit) told =
    (text, names, j, limit, figures, at, g, others, trying_then t told, arguments_stand t told, marks_then t told first new, fit)
