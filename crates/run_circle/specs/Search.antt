-- The search of the circle test: the pairs after a trial as the scratch has them, and what a search from a term finds and leaves marked.
-- Two sides: the unit's pairs, numbered below `old`, and the clause's, from there on; the false side and the true side.
use Rattle.std.specs.Prelude.{ℕ, ◌+◌, ◌*◌, ◌-◌, ◌/◌, ◌%◌, ◌≤◌, ◌<◌, ◌≡◌, ◌⊎◌, Bool, true, false, List, ◌++◌, eqb, ltb, length, get_or, take, replicate, Option as Perhaps, Some, None}
use Rattle.std.proofs.Math.Option.{Option, none, some}
use Rattle.meaning.specs.Bytes.{when◌then◌else◌}
use Rattle.meaning.specs.Terms.{Term}
use Rattle.meaning.specs.State.{Values, value}
use Rattle.laws.proofs.Terms.Standing.{Stands}
use Rattle.laws.proofs.Circle.Leaning.{Leans, Links}
use Rattle.term.specs.Cells.{Places}
use Rattle.term.specs.Holds.{value_word, HoldsValue}
use Rattle.term.specs.Layout.{trial_region, gift_term}
use Rattle.term.specs.Words.{probe_word, tag_in}
use Rattle.run_circle.specs.Ground.{Ground, Via, LeadsVia, GroundAt, ViaAt, stamp_in, Grounds, NewGrounds}

-- A pair stands in a value.
abbrev pub StandsAt : ℕ → Option Term → Type 0
StandsAt j none = ⊥
StandsAt j (some t) = Stands j t

-- From a word no pair is reached, or a pair may be: a compound's has the tag 6, a pair's 1 or 2.
abbrev pub LeadsIs : ℕ → Bool → Type 0
LeadsIs w true = (tag_in w ≡ 6) ⊎ ((tag_in w ≡ 0 → ⊥) × (tag_in w ≤ 2))
LeadsIs w false = (tag_in w ≡ 6 → ⊥) × ((tag_in w ≡ 0) ⊎ (2 < tag_in w))

-- The last argument of the compound at place q from which a pair may be reached is none behind the k-th.
pub record LastLeads (s : List ℕ) (q k : ℕ) : Type 0 where
  pub among : k ≤ tag_in (get_or s q 0)
  pub idle : (i : ℕ) → k < i → i ≤ tag_in (get_or s q 0) → LeadsIs (get_or s (q + i) 0) false

-- That argument itself, or none.
abbrev pub LastIs : List ℕ → ℕ → Perhaps ℕ → Type 0
LastIs s q (Some k) = (0 < k) × LastLeads s q k
LastIs s q None = LastLeads s q 0

-- The values before and after a trial, how many pairs the unit had before, how many pairs the scratch has room for, and each side's places.
-- `front` is the part of the scratch before the marks, which a search leaves as it is; `size` is how many words the scratch has.
pub record Scene : Type 0 where
  pub front : List ℕ
  pub size : ℕ
  pub values : ℕ
  pub pairs : ℕ
  pub before : Values
  pub after : Values
  pub old : ℕ
  pub unit : Places
  pub clause : Places

-- The front filled up to the size of the scratch, with words that no compound has: a compound that stands there stands in the front.
abbrev pub filled : List ℕ → ℕ → List ℕ
filled front size = front ++ replicate (size - length front) 7

abbrev pub whole : Scene → List ℕ
whole x = filled x.front x.size

abbrev pub side : Scene → Bool → Places
side x false = x.unit
side x true = x.clause

abbrev pub On : Scene → Bool → ℕ → Type 0
On x false j = j < x.old
On x true j = (x.old ≤ j) × (j < length x.after)

-- A value of one side: its word, its compounds, its pairs.
pub record Told (x : Scene) (b : Bool) (w : ℕ) (v : Option Term) : Type 0 where
  pub word : w ≡ value_word (side x b) v
  pub held : HoldsValue (whole x) (side x b) v
  pub pairs : (j : ℕ) → StandsAt j v → On x b j

-- A pair of the goal that the trial gives a term of the head: its word has 7 and eight times its number in the trial.
pub record Given (x : Scene) (w : ℕ) (v : Option Term) : Type 0 where
  pub number : ℕ
  pub word : w ≡ probe_word number
  pub inside : gift_term number < length x.front
  pub told : Told x true (get_or x.front (gift_term number) 0) v

-- Each pair of the scene has its value's word: the clause's in the trial's region, the unit's among the values.
pub record Shown (x : Scene) : Type 0 where
  pub room : x.values + x.pairs ≤ length x.front
  pub place : (j : ℕ) → j < x.old → x.unit.pair j < x.pairs
  pub apart : (i j : ℕ) → i < x.old → j < x.old → x.unit.pair i ≡ x.unit.pair j → i ≡ j
  pub clause_inside : (j : ℕ) → On x true j → trial_region + x.clause.pair j < length x.front
  pub clause_value : (j : ℕ) → On x true j → Told x false (get_or x.front (trial_region + x.clause.pair j) 0) (value x.after j)
  pub old_is : x.old ≡ length x.before
  pub stays : (j : ℕ) (t : Term) → value x.before j ≡ some t → value x.after j ≡ some t
  pub unit_value : (j : ℕ) → j < x.old
      → ((value x.after j ≡ value x.before j) × Told x false (get_or x.front (x.values + x.unit.pair j) 0) (value x.after j))
      ⊎ ((value x.before j ≡ none) × Given x (get_or x.front (x.values + x.unit.pair j) 0) (value x.after j))

-- The scratch of a search for pair z: the scene, the marks behind it, the goal pair's place.
pub record Searching (s : List ℕ) (x : Scene) (values marks place stamp z : ℕ) : Type 0 where
  pub shown : Shown x
  pub front : take marks s ≡ x.front
  pub size : length s ≡ x.size
  pub values_at : values ≡ x.values
  pub room : marks + x.pairs ≤ length s
  pub unit_pair : z < x.old
  pub place_at : place ≡ x.unit.pair z
  pub unassigned : value x.before z ≡ none
  pub stamp_above : 1 < stamp
  pub stamp_below : stamp < 1099511627776
  pub few : x.pairs ≤ 65536
  pub grounds : Grounds x.unit x.before marks s

-- A mark of a visited pair: the search's stamp, or that of a ground pair, which no search enters.
unfoldable pub visited : ℕ → ℕ → Bool
visited stamp m = when eqb m 1 then true else eqb (stamp_in m) stamp

abbrev pub Visited : ℕ → ℕ → Type 0
Visited stamp m = visited stamp m ≡ true

-- Only marks changed, each of those to one of a visited pair; what they tell is so.
pub record Stamped (x : Scene) (marks stamp : ℕ) (s s' : List ℕ) : Type 0 where
  pub size : length s' ≡ length s
  pub front : take marks s' ≡ take marks s
  pub above : (k : ℕ) → marks + x.pairs ≤ k → get_or s' k 0 ≡ get_or s k 0
  pub others : (k : ℕ) → (Visited stamp (get_or s' k 0) → ⊥) → get_or s' k 0 ≡ get_or s k 0
  pub grounds : NewGrounds x.unit x.before marks s s'

-- From a pair all ways go through a marked pair of the unit that is not the goal pair: it may be that pair itself.
pub record Marked (s : List ℕ) (x : Scene) (marks stamp z j : ℕ) : Type 0 where
  pub end : ℕ
  pub of_unit : end < x.old
  pub via : Via x.before end j
  pub stamped : Visited stamp (get_or s (marks + x.unit.pair end) 0)
  pub other : end ≡ z → ⊥

-- A pair was visited: a pair of the unit is marked, a pair of the clause leans on marked pairs.
pub record Seen (s : List ℕ) (x : Scene) (marks stamp z j : ℕ) : Type 0 where
  pub unit : j < x.old → Marked s x marks stamp z j
  pub clause : x.old ≤ j → (i : ℕ) → Leans x.after j i → Marked s x marks stamp z i

-- Each newly marked pair of the unit is not the goal pair, and leads to visited pairs only.
pub record Closed (s s' : List ℕ) (x : Scene) (marks stamp z : ℕ) : Type 0 where
  pub new : (j : ℕ) → j < x.old → (Visited stamp (get_or s (marks + x.unit.pair j) 0) → ⊥)
      → Visited stamp (get_or s' (marks + x.unit.pair j) 0)
      → (i : ℕ) → Leans x.after j i → Seen s' x marks stamp z i

-- Pair z is reached from pair j, through no link or more.
abbrev pub Reaches : Scene → ℕ → ℕ → Type 0
Reaches x z j = (j ≡ z) ⊎ Links x.after j z

-- What a search from some pairs leaves: a path, or all of them visited.
pub record Searched (s s' : List ℕ) (x : Scene) (marks stamp z : ℕ) (From : ℕ → Type 0) (r : Bool) : Type 0 where
  pub stamped : Stamped x marks stamp s s'
  pub found : r ≡ true → (j : ℕ) × From j × Reaches x z j
  pub visited : r ≡ false → (j : ℕ) → From j → Seen s' x marks stamp z j
  pub closed : r ≡ false → Closed s s' x marks stamp z

-- Each pair that stands in a value is such a pair.
abbrev pub AllStand : (ℕ → Type 0) → Option Term → Type 0
AllStand P none = ⊥
AllStand P (some t) = (j : ℕ) → Stands j t → P j

abbrev pub Firm : Scene → Option Term → Type 0
Firm x v = AllStand (Ground x.before) v

-- A search from a value: 2 (REACHED), the pair was found; 0 (FIRM), it was not, and the value has ground pairs only; else it was not found.
pub record SearchedFrom (s s' : List ℕ) (x : Scene) (marks stamp z : ℕ) (v : Option Term) (r : ℕ) : Type 0 where
  pub searched : Searched s s' x marks stamp z (λ j. StandsAt j v) (eqb r 2)
  pub firm : r ≡ 0 → Firm x v

-- From pair n a search has come to a value: its pairs are reached, and n is ground if they are, and leads via pair u if they do.
pub record Stems (x : Scene) (n : ℕ) (now : Option Term) : Type 0 where
  pub reaches : (j : ℕ) → StandsAt j now → Links x.before n j
  pub firm : Firm x now → Ground x.before n
  pub via : (u : ℕ) → AllStand (Via x.before u) now → LeadsVia x.before u n

-- The pair at place p is one from which a search has come to a value.
pub record First (x : Scene) (p : ℕ) (now : Option Term) : Type 0 where
  pub pair : ℕ
  pub below : pair < length x.before
  pub place : x.unit.pair pair ≡ p
  pub stems : Stems x pair now

-- What a search keeps besides, as one number: odd, if it has met a pair that may not be ground; and twice one more than the place of the first pair that
-- it visited since, if any. The value is firm if what is left to search is firm, and from that pair it has come to what is left.
pub record Keeps (x : Scene) (state : ℕ) (b : Bool) (v now : Option Term) : Type 0 where
  pub firm : state % 2 ≡ 0 → (b ≡ false) × (Firm x now → Firm x v)
  pub since : (p : ℕ) → state / 2 ≡ p + 1 → (b ≡ false) × First x p now

-- Of the head's terms a search never tells that they are firm.
abbrev pub begun_state : Bool → ℕ
begun_state true = 1
begun_state false = 0

-- A pair at place p is visited.
pub record SinceIs (state p r : ℕ) : Type 0 where
  pub kept : 1 < state → r ≡ state
  pub new : state ≤ 1 → r ≡ state + 2 * p + 2

-- Whether it is odd, and whether it names a pair.
abbrev pub met_open : ℕ → Bool
met_open state = eqb (state % 2) 1

abbrev pub visited_one : ℕ → Bool
visited_one state = ltb 1 state

-- An argument was searched that is firm, or may not be.
pub record JoinedIs (state r out : ℕ) : Type 0 where
  pub kept : r ≡ 0 → out ≡ state
  pub new : (r ≡ 0 → ⊥) → out ≡ 1

-- The pair that the state names is ground.
abbrev pub Names : Scene → ℕ → Type 0
Names x state = (p : ℕ) → state / 2 ≡ p + 1 → GroundAt x.unit x.before p

-- Marks of visited pairs were turned into those of ground pairs.
pub record Settled (x : Scene) (marks stamp : ℕ) (s s' : List ℕ) : Type 0 where
  pub stamped : Stamped x marks stamp s s'
  pub same : (k : ℕ) → visited stamp (get_or s' k 0) ≡ visited stamp (get_or s k 0)

-- From the pair that the state names all ways go through the pair at place p.
abbrev pub Leading : Scene → ℕ → ℕ → Type 0
Leading x state p = (q : ℕ) → state / 2 ≡ q + 1 → ViaAt x.unit x.before p q

-- Pair n, at place p, is to be visited: it has the mark m, and is not the goal pair.
pub record Visiting (s : List ℕ) (x : Scene) (values marks place stamp z state p m n : ℕ) : Type 0 where
  pub searching : Searching s x values marks place stamp z
  pub of_unit : n < x.old
  pub at : p ≡ x.unit.pair n
  pub other : p ≡ place → ⊥
  pub mark : m ≡ get_or s (marks + p) 0
  pub unfirm : m ≡ 1 → ⊥
  pub fresh : stamp_in m ≡ stamp → ⊥
  pub leading : Leading x state p

-- It was visited, and the search goes on from the word r: from the head's term that the trial gives the pair, or from a value of the unit.
pub record Visits (s s' : List ℕ) (x : Scene) (marks stamp z n r : ℕ) : Type 0 where
  pub stamped : Stamped x marks stamp s s'
  pub marked : Visited stamp (get_or s' (marks + x.unit.pair n) 0)
  pub now : Option Term
  pub given : tag_in r ≡ 7 → Given x r now
  pub told : (tag_in r ≡ 7 → ⊥) → Told x false r now
  pub stems : (tag_in r ≡ 7 → ⊥) → Stems x n now
  pub answer : (s'' : List ℕ) (f : Bool) → Searched s' s'' x marks stamp z (λ j. StandsAt j now) f → Searched s s'' x marks stamp z (λ i. i ≡ n) f
