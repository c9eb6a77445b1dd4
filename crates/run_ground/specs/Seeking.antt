-- What looking through a guard's arguments asks and tells: the definition's result over them written out, and the readers in the step's set.
use Rattle.std.specs.Prelude.{ℕ, ◌+◌, ◌*◌, ◌≤◌, ◌<◌, ◌≡◌, ◌≢◌, ◌⊎◌, Bool, true, false, List, [], map, length, get_or, Result as Outcome, Ok, Err}
use Rattle.std.proofs.Math.Option.{Option}
use Rattle.meaning.specs.Terms.{Terms, count}
use Rattle.meaning.specs.State.{Values}
use Rattle.meaning.specs.Compare.{Assignment, Result, succeeds, waits, fails, and_then}
use Rattle.meaning.specs.Guards.{first_of, all_variables}
use Rattle.laws.proofs.Lists.Among.{In}
use Rattle.term.specs.Cells.{Places}
use Rattle.term.specs.Frames.{Only}
use Rattle.term.specs.Setting.{Setting}
use Rattle.run_compare.specs.Compare.{Template}
use Rattle.run_circle.specs.Ground.{Tells, IsSo}
use Rattle.run_readers.specs.Readers.{Readers}
use Rattle.run_asked.specs.Asking.{Asking, Arguments, out, StampsFrom, Joined}
use Rattle.run_asked.specs.declared.asking.Hindered.{Hindered}
use Rattle.run_asked.specs.declared.asking.Hindered.TheVariants.{Waits, Fails}

-- How the results of arguments are taken together: the first unassigned variable decides, or all do.
abbrev pub together : Bool → Result → Result → Result
together true = first_of
together false = and_then

-- Among the marks of so many pairs, what one newly tells is so of a pair of the unit. Behind the marks stands the set of readers.
abbrev pub GroundsAdded : Places → Values → ℕ → ℕ → List ℕ → List ℕ → Type 0
GroundsAdded places values marks pairs s s' =
    (o : Option ℕ) (p : ℕ) → p < pairs → Tells o (get_or s' (marks + p) 0) → Tells o (get_or s (marks + p) 0) ⊎ IsSo places values o p

-- The scratch before: k arguments of the guard that is compound n, at a place; the set has `met` pairs; stamps from this one on are unused.
pub record Seeks (s : List ℕ) (x : Setting) (y : Template) (given : List Assignment) (n : ℕ) (ts : Terms)
    (values marks links met place k stamp : ℕ) : Type 0 where
  pub asking : Asking s x y given values marks links
  pub arguments : Arguments s x y n place ts
  pub number : n < y.compounds
  pub counted : k ≡ count ts
  pub few : k ≤ 6
  pub readers : Readers s (marks + links) links met
  pub stamps : StampsFrom s marks x.pairs stamp
  pub above : 1 < stamp
  pub fits : stamp + 1 < 1099511627776

-- The answer to a result: the readers that it waits on have joined the set, which has m pairs then; else the set is as it was.
abbrev pub Answered : List ℕ → List ℕ → Setting → ℕ → ℕ → ℕ → Result → Outcome Unit Hindered → Type 0
Answered s s' x at links met o (Ok none) = (o ≡ succeeds []) × Joined s s' at links met [] met
Answered s s' x at links met o (Err (Waits m)) =
    (readers : List ℕ) × (o ≡ waits readers) × (readers ≢ []) × ((p : ℕ) → In p readers → p < length x.values)
    × Joined s s' at links met (map (λ p. x.places.pair p) readers) m
Answered s s' x at links met o (Err Fails) = (o ≡ fails) × Joined s s' at links met [] met

-- Afterwards: only marks and the set have changed; the stamp is used, and later ones are not.
pub record Sees (s s' : List ℕ) (x : Setting) (given : List Assignment) (ts : Terms) (marks links met : ℕ) (first : Bool) (stamp : ℕ) (r : Outcome Unit Hindered)
    : Type 0 where
  pub only : Only marks (marks + 3 * x.pairs) s s'
  pub stamps : StampsFrom s' marks x.pairs (stamp + 1)
  pub grounds : GroundsAdded x.places x.values marks x.pairs s s'
  pub answer : Answered s s' x (marks + links) links met (all_variables (together first) (out x given ts)) r
