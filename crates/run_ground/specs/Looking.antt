-- The walk of `seek`: what stays during it, what it has found at each point, and what a walk through a term leaves behind.
-- A pair that was entered is looked through, or is one through which the walk came here: without a circle no walk comes back to it.
use Rattle.std.specs.Prelude.{ℕ, ◌+◌, ◌*◌, ◌≤◌, ◌<◌, ◌≡◌, ◌⊎◌, Bool, true, false, List, [], ◌∷◌, map, length, get_or, set}
use Rattle.meaning.specs.Terms.{Half, writer, reader, Term, Terms, variable, count, replaced, all_replaced}
use Rattle.meaning.specs.State.{applied}
use Rattle.meaning.specs.Compare.{Assignment, Result, succeeds, waits, fails}
use Rattle.meaning.specs.Circle.{circle}
use Rattle.meaning.specs.Guards.{given_to, variables, all_variables}
use Rattle.laws.proofs.Lists.Among.{In}
use Rattle.laws.proofs.Terms.Standing.{Stands}
use Rattle.laws.proofs.Circle.Leaning.{Links}
use Rattle.term.specs.Cells.{term_word}
use Rattle.term.specs.Holds.{HoldsFrom}
use Rattle.term.specs.Frames.{Only}
use Rattle.term.specs.Setting.{Setting, Within, AllWithin, UnitTerm, UnitStands}
use Rattle.term.specs.States.{listed}
use Rattle.term.specs.Layout.{compounds_region}
use Rattle.term.specs.Words.{tag_in}
use Rattle.run_compare.specs.Compare.{Template, item}
use Rattle.run_circle.specs.Ground.{Ground, Grounds}
use Rattle.run_readers.specs.Readers.{Readers}
use Rattle.run_asked.specs.Asking.{GaveAt, StampsFrom, Joined}
use Rattle.run_ground.specs.Seeking.{together, GroundsAdded}

-- The unit, the scratch when the walk began, whose words before the marks stay, and whether the first unassigned variable decides.
pub record Scene : Type 0 where
  pub unit : Setting
  pub base : List ℕ
  pub first : Bool

abbrev pub unit_pair : Scene → ℕ → ℕ
unit_pair x j = x.unit.places.pair j

abbrev pub pairs_in : Scene → ℕ
pairs_in x = length x.unit.values

-- The result of no failing variable: of those readers.
abbrev pub of_readers : List ℕ → Result
of_readers [] = succeeds []
of_readers (r ∷ rs) = waits (r ∷ rs)

-- What a term of the unit gives, written out.
abbrev pub result_of : Scene → Term → Result
result_of x t = variables (together x.first) (applied (length x.unit.values) x.unit.values t)

-- What a walk has found, as one number: four times one more than how many pairs the set has, 2 if the first unassigned variable decides, 1 if a reader
-- was met. 3 says that it fails.
abbrev pub bit : Bool → ℕ
bit true = 1
bit false = 0

abbrev pub kept_as : Bool → ℕ → Bool → ℕ
kept_as first m pending = 4 * (m + 1) + 2 * bit first + bit pending

abbrev pub or_some : Bool → List ℕ → Bool
or_some pending [] = pending
or_some pending (r ∷ rs) = true

-- What stays: the unit's values, its compounds before them; the marks, the set and its ranks behind them.
pub record Shown (x : Scene) (values marks : ℕ) : Type 0 where
  pub stands : UnitStands x.base x.unit values
  pub apart : (n m : ℕ) → n < pairs_in x → m < pairs_in x → unit_pair x n ≡ unit_pair x m → n ≡ m
  pub compound_before : (n : ℕ) → n < x.unit.compounds → x.unit.places.compound n + x.unit.places.width n ≤ values
  pub marks_behind : values + x.unit.pairs ≤ marks
  pub inside : marks + 3 * x.unit.pairs ≤ length x.base
  pub no_circle : circle x.unit.values ≡ false

pub record Placed (s : List ℕ) (x : Scene) (values marks stamp : ℕ) : Type 0 where
  pub shown : Shown x values marks
  pub only : Only marks (marks + 3 * x.unit.pairs) x.base s
  pub stamp_above : 1 < stamp
  pub stamp_below : stamp < 1099511627776
  pub stamps : StampsFrom s marks x.unit.pairs (stamp + 1)

-- On the way, while the walk goes on: the set has m pairs; whether it has met an unassigned reader.
pub record Looking (s : List ℕ) (x : Scene) (values marks links stamp state m : ℕ) (pending : Bool) : Type 0 where
  pub placed : Placed s x values marks stamp
  pub links_are : links ≡ x.unit.pairs
  pub state_is : state ≡ kept_as x.first m pending
  pub readers : Readers s (marks + links) links m
  pub grounds : Grounds x.unit.places x.unit.values marks s
  pub goes_on : x.first ≡ true → pending ≡ false

-- A word of a term of the unit.
pub record Told (x : Scene) (w : ℕ) (t : Term) : Type 0 where
  pub word : w ≡ term_word x.unit.places t
  pub term : UnitTerm x.base x.unit t

abbrev pub Firm : Scene → Term → Type 0
Firm x t = (j : ℕ) → Stands j t → Ground x.unit.values j

-- A pair was looked through: its readers are in the set.
pub record Looked (s : List ℕ) (x : Scene) (list m : ℕ) (pending : Bool) (j : ℕ) : Type 0 where
  pub readers : List ℕ
  pub result : (h : Half) → result_of x (variable h j) ≡ of_readers readers
  pub below : (p : ℕ) → In p readers → p < pairs_in x
  pub met : (p : ℕ) → In p readers → In (unit_pair x p) (listed s list m)
  pub opened : (readers ≡ []) ⊎ (pending ≡ true)

-- Each pair with the stamp was looked through, or leads to each of some pairs.
abbrev pub Behind : List ℕ → Scene → ℕ → ℕ → ℕ → ℕ → Bool → (ℕ → Type 0) → Type 0
Behind s x marks links stamp m pending Ahead = (j : ℕ) → j < pairs_in x → get_or s (marks + unit_pair x j) 0 ≡ stamp
    → Looked s x (marks + links) m pending j ⊎ ((i : ℕ) → Ahead i → Links x.unit.values j i)

-- Before a term of the unit.
pub record Before (s : List ℕ) (x : Scene) (values marks links stamp state m : ℕ) (pending : Bool) (w : ℕ) (t : Term) : Type 0 where
  pub looking : Looking s x values marks links stamp state m pending
  pub told : Told x w t
  pub behind : Behind s x marks links stamp m pending (λ i. Stands i t)

-- The walk did not fail: these readers were met.
pub record Goes (s s' : List ℕ) (x : Scene) (marks links stamp m : ℕ) (pending : Bool) (o : Result) (r m' : ℕ) (ps : List ℕ) : Type 0 where
  pub readers : List ℕ
  pub result : o ≡ of_readers readers
  pub below : (p : ℕ) → In p readers → p < pairs_in x
  pub added : ps ≡ map (λ p. unit_pair x p) readers
  pub state : r ≡ kept_as x.first m' (or_some pending readers)
  pub new : (j : ℕ) → j < pairs_in x → get_or s' (marks + unit_pair x j) 0 ≡ stamp
      → (get_or s (marks + unit_pair x j) 0 ≡ stamp) ⊎ Looked s' x (marks + links) m' (or_some pending readers) j

-- After a walk whose result was o.
pub record Found (s s' : List ℕ) (x : Scene) (marks links stamp m : ℕ) (pending : Bool) (o : Result) (r : ℕ) : Type 0 where
  pub only : Only marks (marks + 3 * x.unit.pairs) s s'
  pub stamps : StampsFrom s' marks x.unit.pairs (stamp + 1)
  pub grounds : GroundsAdded x.unit.places x.unit.values marks x.unit.pairs s s'
  pub entered : (p : ℕ) → p < x.unit.pairs → (get_or s (marks + p) 0 ≡ 1) ⊎ (get_or s (marks + p) 0 ≡ stamp)
      → (get_or s' (marks + p) 0 ≡ 1) ⊎ (get_or s' (marks + p) 0 ≡ stamp)
  pub size : ℕ
  pub pairs : List ℕ
  pub joined : Joined s s' (marks + links) links m pairs size
  pub answer : ((o ≡ fails) × (r ≡ 3)) ⊎ Goes s s' x marks links stamp m pending o r size pairs

-- Marks with the stamp were turned into those of ground pairs.
pub record Settled (x : Scene) (marks stamp : ℕ) (s s' : List ℕ) : Type 0 where
  pub only : Only marks (marks + x.unit.pairs) s s'
  pub turned : (k : ℕ) → (get_or s' k 0 ≡ get_or s k 0) ⊎ ((get_or s k 0 ≡ stamp) × (get_or s' k 0 ≡ 1))
  pub grounds : GroundsAdded x.unit.places x.unit.values marks x.unit.pairs s s'

-- A half of the unit's pair n at a place.
abbrev pub half_tag : Half → ℕ
half_tag writer = 1
half_tag reader = 2

pub record AtPair (x : Scene) (tag p : ℕ) (h : Half) (n : ℕ) : Type 0 where
  pub below : n < pairs_in x
  pub place : p ≡ unit_pair x n
  pub half : tag ≡ half_tag h

-- A pair has the stamp now; or it had a mark that keeps the walk out.
abbrev pub Entered : List ℕ → List ℕ → ℕ → ℕ → ℕ → Bool → Type 0
Entered s s' marks stamp p true = (s' ≡ set s (marks + p) stamp) × (get_or s (marks + p) 0 ≡ 1 → ⊥) × (get_or s (marks + p) 0 ≡ stamp → ⊥)
Entered s s' marks stamp p false = (s' ≡ s) × ((get_or s (marks + p) 0 ≡ 1) ⊎ (get_or s (marks + p) 0 ≡ stamp))

-- The clause, and what its head gave.
pub record Clause : Type 0 where
  pub template : Template
  pub given : List Assignment

abbrev pub gift : Scene → Clause → Half → ℕ → Term
gift x y h m = applied (length x.unit.values) x.unit.values (given_to y.given (length x.unit.values + m))

abbrev pub leaf_result : Scene → Clause → Term → Result
leaf_result x y t = variables (together x.first) (replaced (gift x y) t)

abbrev pub args_result : Scene → Clause → Terms → Result
args_result x y ts = all_variables (together x.first) (all_replaced (gift x y) ts)

pub record Asked (x : Scene) (y : Clause) (values : ℕ) : Type 0 where
  pub behind : compounds_region ≤ values
  pub number : y.template.number < 128
  pub few_pairs : y.template.pairs ≤ 16
  pub few_compounds : y.template.compounds ≤ 32
  pub gave : (m : ℕ) → m < y.template.pairs → GaveAt x.base x.unit y.given m

-- Between two of its terms each pair with the stamp was looked through.
abbrev pub AllLooked : List ℕ → Scene → ℕ → ℕ → ℕ → ℕ → Bool → Type 0
AllLooked s x marks links stamp m pending =
    (j : ℕ) → j < pairs_in x → get_or s (marks + unit_pair x j) 0 ≡ stamp → Looked s x (marks + links) m pending j

-- Before a term of the clause that is no compound.
pub record Leaf (s : List ℕ) (x : Scene) (y : Clause) (values marks links stamp state m : ℕ) (pending : Bool) (w : ℕ) (t : Term) : Type 0 where
  pub looking : Looking s x values marks links stamp state m pending
  pub asked : Asked x y values
  pub looked : AllLooked s x marks links stamp m pending
  pub word : w ≡ term_word (item x.unit y.template) t
  pub within : Within y.template.pairs y.template.compounds t
  pub leaf : tag_in w ≡ 6 → ⊥

-- Before the k arguments of its compound at place q.
pub record Args (s : List ℕ) (x : Scene) (y : Clause) (values marks links stamp state m : ℕ) (pending : Bool) (q k : ℕ) (ts : Terms) : Type 0 where
  pub looking : Looking s x values marks links stamp state m pending
  pub asked : Asked x y values
  pub looked : AllLooked s x marks links stamp m pending
  pub number : ℕ
  pub place : q ≡ (item x.unit y.template).compound number
  pub low : number < y.template.compounds
  pub held : HoldsFrom x.base (item x.unit y.template) number 0 ts
  pub within : AllWithin y.template.pairs y.template.compounds ts
  pub counted : k ≡ count ts
  pub few : k ≤ 6
