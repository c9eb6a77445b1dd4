-- What the machine reads of a unit: its values in the scratch, and terms whose pairs and compounds are the unit's, whose names are known
-- and whose integers are in range.
use Rattle.std.specs.Prelude.{ℕ, ◌≤◌, ◌<◌, ◌≡◌, List, length}
use Rattle.std.proofs.Math.Option.{some}
use Rattle.meaning.specs.Terms.{Integer, plus, minus, Constant, Term, Terms, end, more}
use Rattle.meaning.specs.State.{Values, value}
use Rattle.term.specs.Cells.{Places, Known, AllKnown}
use Rattle.term.specs.Holds.{Holds, HoldsFrom, HoldsValues}

-- The pairs of a term are below p, its compounds below c.
unfoldable mutual
  pub Within : ℕ → ℕ → Term → Type 0
  Within p c (Term.variable h n) = n < p
  Within p c (Term.constant k) = Unit {0}
  Within p c (Term.compound n f ts) = (n < c) × AllWithin p c ts

  pub AllWithin : ℕ → ℕ → Terms → Type 0
  AllWithin p c end = Unit {0}
  AllWithin p c (more t ts) = Within p c t × AllWithin p c ts

-- "-2147483648 to 2147483647"; there is no `-0`.
abbrev pub RangedInteger : Integer → Type 0
RangedInteger (plus n) = n ≤ 2147483647
RangedInteger (minus n) = (1 ≤ n) × (n ≤ 2147483648)

abbrev pub RangedConstant : Constant → Type 0
RangedConstant (Constant.integer i) = RangedInteger i
RangedConstant (Constant.name f) = Unit {0}
RangedConstant Constant.empty = Unit {0}

unfoldable mutual
  pub Ranged : Term → Type 0
  Ranged (Term.variable h n) = Unit {0}
  Ranged (Term.constant k) = RangedConstant k
  Ranged (Term.compound n f ts) = AllRanged ts

  pub AllRanged : Terms → Type 0
  AllRanged end = Unit {0}
  AllRanged (more t ts) = Ranged t × AllRanged ts

-- A unit: where its pairs and compounds lie, its values, how many words the pairs' values have in the scratch, how many compounds it has.
pub record Setting : Type 0 where
  pub places : Places
  pub values : Values
  pub pairs : ℕ
  pub compounds : ℕ

-- A term of the unit.
pub record OfUnit (x : Setting) (t : Term) : Type 0 where
  pub within : Within (length x.values) x.compounds t
  pub known : Known x.places.names t
  pub ranged : Ranged t

-- A term of the unit that the scratch holds; and the arguments of its compound n from the i-th on.
pub record UnitTerm (s : List ℕ) (x : Setting) (t : Term) : Type 0 where
  pub held : Holds s x.places t
  pub of : OfUnit x t

pub record UnitTerms (s : List ℕ) (x : Setting) (n i : ℕ) (ts : Terms) : Type 0 where
  pub held : HoldsFrom s x.places n i ts
  pub within : AllWithin (length x.values) x.compounds ts
  pub known : AllKnown x.places.names ts
  pub ranged : AllRanged ts

-- The unit's values stand in the scratch from a place on.
pub record UnitStands (s : List ℕ) (x : Setting) (from : ℕ) : Type 0 where
  pub held : HoldsValues s x.places from x.pairs x.values
  pub of : (n : ℕ) (t : Term) → n < length x.values → value x.values n ≡ some t → OfUnit x t
