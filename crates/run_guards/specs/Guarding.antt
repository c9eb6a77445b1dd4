-- What asking the guards of a clause in order asks and gives.
use Rattle.std.specs.Prelude.{ℕ, ◌+◌, ◌*◌, ◌≤◌, ◌<◌, ◌≡◌, List, [], ◌∷◌, map, length, Result as Outcome, Ok, Err}
use Rattle.meaning.specs.Terms.{Guard, Clause}
use Rattle.meaning.specs.Compare.{Assignment, Result, succeeds, waits, fails}
use Rattle.meaning.specs.Table.{guard_table}
use Rattle.meaning.specs.Guards.{in_order}
use Rattle.laws.proofs.Lists.Among.{In}
use Rattle.term.specs.Frames.{Only}
use Rattle.term.specs.Jobs.{ClauseAt}
use Rattle.term.specs.Setting.{Setting, AllWithin, AllRanged}
use Rattle.run_compare.specs.Compare.{Template}
use Rattle.run_readers.specs.Readers.{Readers}
use Rattle.run_asked.specs.Asking.{Asking, StampsFrom, Joined, AllBelow}
use Rattle.run_asked.specs.declared.asking.Hindered.{Hindered}
use Rattle.run_asked.specs.declared.asking.Hindered.TheVariants.{Waits, Fails}
use Rattle.run_ground.specs.Seeking.{GroundsAdded}

-- The guards' arguments are terms of the clause, and their rows are the table's.
unfoldable pub GuardsFit : ℕ → ℕ → List Guard → Type 0
GuardsFit pairs compounds [] = Unit {0}
GuardsFit pairs compounds (g ∷ gs) =
    (AllWithin pairs compounds g.arguments × AllRanged g.arguments × In g.row guard_table) × GuardsFit pairs compounds gs

-- The clause's guards are asked: its places agree and there is no circle. Sixteen stamps are unused.
pub record Guarded (s : List ℕ) (x : Setting) (y : Template) (c : Clause) (given : List Assignment) (values marks links met stamp : ℕ) : Type 0 where
  pub asking : Asking s x y given values marks links
  pub at : ClauseAt s x.places.names y.number c
  pub pairs_are : y.pairs ≡ c.pairs
  pub compounds_are : y.compounds ≡ c.compounds
  pub fit : GuardsFit c.pairs c.compounds c.guards
  pub readers : Readers s (marks + links) links met
  pub few_links : links ≤ 65536
  pub near : values ≤ 268435456
  pub stamps : StampsFrom s marks x.pairs stamp
  pub above : 1 < stamp
  pub below : stamp + 16 < 1099511627776

-- What the earlier clauses of the procedure gave: some reader exactly if the step has met one.
pub record Earlier (earlier : List ℕ) (met : ℕ) : Type 0 where
  pub none_met : met ≡ 0 → earlier ≡ []
  pub none : earlier ≡ [] → met ≡ 0

abbrev pub GuardsTold : List ℕ → List ℕ → Setting → List Assignment → ℕ → ℕ → ℕ → Result → Outcome Unit Hindered → Type 0
GuardsTold s s' x given at links met o (Ok none) = (o ≡ succeeds given) × Joined s s' at links met [] met
GuardsTold s s' x given at links met o (Err (Waits m)) =
    (readers : List ℕ) × (o ≡ waits readers) × AllBelow (length x.values) readers × Joined s s' at links met (map (λ p. x.places.pair p) readers) m
GuardsTold s s' x given at links met o (Err Fails) = (o ≡ fails) × Joined s s' at links met [] met

-- The answer: only marks, readers and ranks have changed, and of the unit's marks those that newly tell a ground pair do so rightly.
pub record GuardsAre (s s' : List ℕ) (x : Setting) (c : Clause) (earlier : List ℕ) (given : List Assignment) (marks links met stamp : ℕ) (r : Outcome Unit Hindered) : Type 0 where
  pub only : Only marks (marks + 3 * links) s s'
  pub stamps : StampsFrom s' marks x.pairs (stamp + 16)
  pub grounds : GroundsAdded x.places x.values marks x.pairs s s'
  pub told : GuardsTold s s' x given (marks + links) links met (in_order earlier given x.values (length x.values) c.guards) r
