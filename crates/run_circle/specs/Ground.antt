-- Pairs from which no unassigned pair is reached, and pairs from which each is reached through one and the same pair. Marks tell both: once it is
-- marked as ground, no search enters a pair again, and from one of the others a search goes on at that pair.
use Rattle.std.specs.Prelude.{ℕ, ◌+◌, ◌/◌, ◌%◌, ◌<◌, ◌≡◌, ◌⊎◌, List, length, get_or}
use Rattle.std.proofs.Math.Option.{Option, none, some}
use Rattle.meaning.specs.Terms.{Term}
use Rattle.meaning.specs.State.{Values, value}
use Rattle.laws.proofs.Terms.Standing.{Stands}
use Rattle.laws.proofs.Circle.Leaning.{Links}
use Rattle.term.specs.Cells.{Places}

-- A pair has a value, and so has each pair that stands in it, and so on to the end.
pub data Ground (values : Values) : ℕ → Type 0 where
  a_ground : {n : ℕ} (t : Term) → value values n ≡ some t → ((j : ℕ) → Stands j t → Ground values j) → Ground values n

-- The same, where only pair u may have no value: all ways from a pair to an unassigned one go through u.
pub data Via (values : Values) (u : ℕ) : ℕ → Type 0 where
  there : {n : ℕ} → n ≡ u → Via values u n
  through : {n : ℕ} (t : Term) → value values n ≡ some t → ((j : ℕ) → Stands j t → Via values u j) → Via values u n

-- A place is that of a ground pair.
pub record GroundAt (places : Places) (values : Values) (p : ℕ) : Type 0 where
  pub pair : ℕ
  pub below : pair < length values
  pub place : places.pair pair ≡ p
  pub a_ground : Ground values pair

-- A pair has a value, from which all ways go through u.
abbrev pub LeadsVia : Values → ℕ → ℕ → Type 0
LeadsVia values u n = (t : Term) × (value values n ≡ some t) × ((j : ℕ) → Stands j t → Via values u j)

-- A place is that of a pair from which the pair at place q is reached, and all ways go through that one.
pub record ViaAt (places : Places) (values : Values) (q p : ℕ) : Type 0 where
  pub pair : ℕ
  pub below : pair < length values
  pub place : places.pair pair ≡ p
  pub end : ℕ
  pub end_below : end < length values
  pub end_place : places.pair end ≡ q
  pub leads : LeadsVia values end pair
  pub path : Links values pair end

-- A mark is that of a ground pair, which is 1, or has a stamp and, above it, one more than the place of a pair, or 0.
abbrev pub stamp_in : ℕ → ℕ
stamp_in m = m % 1099511627776

abbrev pub end_in : ℕ → ℕ
end_in m = m / 1099511627776

-- A mark tells a ground pair, or one from which all ways go through the pair at place q.
abbrev pub Tells : Option ℕ → ℕ → Type 0
Tells none m = m ≡ 1
Tells (some q) m = end_in m ≡ q + 1

-- It is so of the pair at place p.
abbrev pub IsSo : Places → Values → Option ℕ → ℕ → Type 0
IsSo places values none p = GroundAt places values p
IsSo places values (some q) p = ViaAt places values q p

-- What the marks of the unit's pairs tell is so.
abbrev pub Grounds : Places → Values → ℕ → List ℕ → Type 0
Grounds places values marks s =
    (o : Option ℕ) (n : ℕ) → n < length values → Tells o (get_or s (marks + places.pair n) 0) → IsSo places values o (places.pair n)

-- What a mark newly tells is so of a pair of the unit.
abbrev pub NewGrounds : Places → Values → ℕ → List ℕ → List ℕ → Type 0
NewGrounds places values marks s s' =
    (o : Option ℕ) (p : ℕ) → Tells o (get_or s' (marks + p) 0) → Tells o (get_or s (marks + p) 0) ⊎ IsSo places values o p
