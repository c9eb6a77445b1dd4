-- What it is for the scratch to hold a state of a run: of each query the values of its pairs, its compounds and its tries; the queue, the waiting
-- and the failed goals. Each part reads the words of its own region.
use Rattle.std.specs.Prelude.{ℕ, zero, suc, ◌+◌, ◌-◌, ◌*◌, ◌≤◌, ◌<◌, ◌≡◌, true, ◌⊎◌, List, [], ◌∷◌, ◌++◌, map, ltb, length, get_or}
use Rattle.meaning.specs.Bytes.{Bytes, when◌then◌else◌}
use Rattle.meaning.specs.Terms.{Query, Job, as_term}
use Rattle.meaning.specs.Items.{job, reading}
use Rattle.meaning.specs.State.{Room, QueryUnit, Goal, Waiting, State, unit_at, number_of}
use Rattle.meaning.specs.Run.{Verdict, rest, budget, room, run, queries_fit}
use Rattle.term.specs.Cells.{Places}
use Rattle.term.specs.Jobs.{EachFrom, HoldsJob}
use Rattle.term.specs.Spellings.{HoldsText}
use Rattle.term.specs.Setting.{Setting, UnitTerm, UnitStands}
use Rattle.term.specs.Layout.{
  values_region,
  sets_region,
  marks_region,
  readers_region,
  ends_region,
  queue_region,
  waiting_region,
  failed_region,
  need_of,
  InRange,
  compounds_region,
  compound_words,
  query_record,
  query_first_pair_word,
  query_tries_word,
}
use Rattle.term.specs.declared.state.Standing.{Standing}
use Rattle.term.specs.declared.state.Verdict.{Verdict as Told}
use Rattle.term.specs.declared.state.Verdict.TheVariants.{Rest, Budget, Room as NoRoom}
use Rattle.term.specs.Goals.{origin_word, packed_goal, OriginFits}

-- Where the pairs and compounds of each query's unit lie, by the query's place.
abbrev pub Atlas : Type 0
Atlas = ℕ → Places

-- A unit as the scratch has it.
abbrev pub setting : Room → Places → QueryUnit → Setting
setting figures places unit = record { places = places; values = unit.values; pairs = figures.pairs; compounds = unit.compounds }

abbrev pub setting_at : Room → Atlas → List QueryUnit → ℕ → Setting
setting_at figures atlas units k = setting figures (atlas k) (unit_at k units)

-- A goal is one word: its query, its compound's place and its origin.
abbrev pub goal_word : Atlas → Goal → ℕ
goal_word atlas g = packed_goal g.query ((atlas g.query).compound g.goal.number) (origin_word g.origin)

-- Where everything lies: the units' pairs at places of their own below the pairs charged, their compounds below the first free word, which is no
-- further on than eight words for each compound charged.
pub record Lies (names : List Bytes) (figures : Room) (atlas : Atlas) (units : List QueryUnit) (pairs compounds cells : ℕ) : Type 0 where
  pub names_are : (k : ℕ) → (atlas k).names ≡ names
  pub pairs_fit : pairs ≤ figures.pairs
  pub compounds_fit : compounds ≤ figures.compounds
  pub cells_fit : cells ≤ compounds_region + compound_words * compounds
  pub pair_below : (k n : ℕ) → k < length units → n < length (unit_at k units).values → (atlas k).pair n < pairs
  pub pair_apart : (k l n m : ℕ) → k < length units → l < length units → n < length (unit_at k units).values → m < length (unit_at l units).values
      → (atlas k).pair n ≡ (atlas l).pair m → (k ≡ l) × (n ≡ m)
  pub compound_behind : (k n : ℕ) → k < length units → n < (unit_at k units).compounds → compounds_region ≤ (atlas k).compound n
  pub compound_below : (k n : ℕ) → k < length units → n < (unit_at k units).compounds → (atlas k).compound n + (atlas k).width n ≤ cells

-- Of each query: its unit, its number of tries, and where its own pairs begin.
pub record UnitsStand (s : List ℕ) (figures : Room) (atlas : Atlas) (units : List QueryUnit) : Type 0 where
  pub unit : (k : ℕ) → k < length units → UnitStands s (setting_at figures atlas units k) (values_region figures)
  pub tries : (k : ℕ) → k < length units → get_or s (query_tries_word k) 0 ≡ (unit_at k units).tries

abbrev pub FirstPair : List ℕ → Atlas → ℕ → Query → Type 0
FirstPair s atlas k q = (n : ℕ) → n < length q.variables → (atlas k).pair n ≡ get_or s (query_first_pair_word k) 0 + n

-- A goal: a compound of its query's unit, and an origin that its word has room for.
pub record GoalStands (s : List ℕ) (figures : Room) (atlas : Atlas) (units : List QueryUnit) (g : Goal) : Type 0 where
  pub query : g.query < length units
  pub term : UnitTerm s (setting_at figures atlas units g.query) (as_term g.goal)
  pub origin : OriginFits g.origin

abbrev pub AllStand : List ℕ → Room → Atlas → List QueryUnit → List Goal → Type 0
AllStand s figures atlas units [] = Unit {0}
AllStand s figures atlas units (g ∷ gs) = GoalStands s figures atlas units g × AllStand s figures atlas units gs

-- A place of the ring, counted past its end.
unfoldable pub round : ℕ → ℕ → ℕ
round size at = when ltb at size then at else at - size

-- The queue in order: n words from a place of the ring on.
unfoldable pub ring : List ℕ → ℕ → ℕ → ℕ → ℕ → List ℕ
ring s queue size at zero = []
ring s queue size at (suc n) = get_or s (queue + round size at) 0 ∷ ring s queue size (at + 1) n

-- So many words from one on, as a list.
unfoldable pub listed : List ℕ → ℕ → ℕ → List ℕ
listed s from zero = []
listed s from (suc n) = listed s from n ++ (get_or s (from + n) 0 ∷ [])

-- The waiting goals' words in the log's first places, two words a place, in order; an emptied place has the word 0.
abbrev pub standing : ℕ → List ℕ
standing zero = []
standing (suc w) = suc w ∷ []

unfoldable pub logged : List ℕ → ℕ → ℕ → List ℕ
logged s log zero = []
logged s log (suc n) = logged s log n ++ standing (get_or s (log + 2 * n) 0)

-- The queue stands in the ring from its front on; the failed goals stand one behind the other.
pub record QueueStands (s : List ℕ) (figures : Room) (atlas : Atlas) (front active : ℕ) (goals : List Goal) : Type 0 where
  pub front_inside : front < figures.goals
  pub number : active ≡ length goals
  pub words : ring s (queue_region figures) figures.goals front active ≡ map (goal_word atlas) goals

pub record FailedStand (s : List ℕ) (figures : Room) (atlas : Atlas) (failed : ℕ) (goals : List Goal) : Type 0 where
  pub number : failed ≡ length goals
  pub words : listed s (failed_region figures) failed ≡ map (goal_word atlas) goals

-- The waiting goals in the log, of which so many places are used.
pub record WaitingStand (s : List ℕ) (figures : Room) (atlas : Atlas) (log waiting : ℕ) (goals : List Waiting) : Type 0 where
  pub fits : log ≤ 2 * figures.goals
  pub number : waiting ≡ length goals
  pub words : logged s (waiting_region figures) log ≡ map (λ w. goal_word atlas w.goal) goals

-- The whole state, which `t` describes by value.
pub record HoldsState (s : List ℕ) (names : List Bytes) (figures : Room) (queries : List Query) (atlas : Atlas) (state : State) (t : Standing) : Type 0 where
  pub pairs : t.pairs ≡ state.pairs
  pub compounds : t.compounds ≡ state.compounds
  pub steps : t.steps ≡ state.steps
  pub fits : number_of state.goals ≤ figures.goals
  pub lies : Lies names figures atlas state.units state.pairs state.compounds t.cells
  pub units : UnitsStand s figures atlas state.units
  pub first_pairs : EachFrom (FirstPair s atlas) 0 queries
  pub queue_held : AllStand s figures atlas state.units state.goals.queue
  pub waiting_held : AllStand s figures atlas state.units (map (λ w. w.goal) state.goals.waiting)
  pub failed_held : AllStand s figures atlas state.units state.goals.failed
  pub queue : QueueStands s figures atlas t.front t.active state.goals.queue
  pub waiting : WaitingStand s figures atlas t.log t.waiting state.goals.waiting
  pub failed : FailedStand s figures atlas t.failed state.goals.failed

-- The words of the pairs that a run asks about before it has written them are zero: no pair has a value, nobody waits on one, none is marked, and of
-- none is the end of its chain known.
pub record PairsZero (s : List ℕ) (figures : Room) : Type 0 where
  pub values_waiters : (k : ℕ) → values_region figures ≤ k → k < sets_region figures → get_or s k 0 ≡ 0
  pub marks : (k : ℕ) → marks_region figures ≤ k → k < readers_region figures → get_or s k 0 ≡ 0
  pub ends : (k : ℕ) → ends_region figures ≤ k → k < queue_region figures → get_or s k 0 ≡ 0

-- A job as it is loaded: the text was read as this job, the scratch holds it and the text's spellings, and the words that the run begins with are zero:
-- tries and first pairs of the queries, and of the pairs what it asks about. What else the room has, may be anything.
pub record Ready (s : List ℕ) (text : Bytes) (names : List Bytes) (figures : Room) (j : Job) : Type 0 where
  pub in_range : InRange figures
  pub inside : need_of figures ≤ length s
  pub reads : reading text ≡ job j
  pub held : HoldsJob s names j
  pub text_held : HoldsText s text names j
  pub records_zero : (q i : ℕ) → q < 8 → (i ≡ 3) ⊎ (i ≡ 4) → get_or s (query_record q + i) 0 ≡ 0
  pub zero : PairsZero s figures

abbrev pub verdict_of : Told → Verdict
verdict_of Rest = rest
verdict_of Budget = budget
verdict_of NoRoom = room

-- The job when it has run: how it ended, and its last state in the scratch.
pub record Finished (s : List ℕ) (text : Bytes) (names : List Bytes) (figures : Room) (j : Job) (limit : ℕ) (v : Told) (t : Standing) : Type 0 where
  pub in_range : InRange figures
  pub inside : need_of figures ≤ length s
  pub reads : reading text ≡ job j
  pub held : HoldsJob s names j
  pub text_held : HoldsText s text names j
  pub fit : queries_fit figures j.queries ≡ true
  pub limit_fits : limit ≤ 1000000
  pub verdict : verdict_of v ≡ (run j limit figures).verdict
  pub atlas : Atlas
  pub state : HoldsState s names figures j.queries atlas (run j limit figures).state t
