-- The waiting goals as a log: a place for each goal that began to wait, in that order, emptied when the goal is woken.
-- A place has two words: the goal, and the first pair of its set plus one. A pair's waiter is its goal's place plus one; the pairs of
-- one goal's set are a chain. So a pair leads to the goal that waits on it, and pairs of different goals are different.
use Rattle.std.specs.Prelude.{ℕ, zero, suc, ◌+◌, ◌*◌, ◌≤◌, ◌<◌, ◌≡◌, true, false, List, [], ◌∷◌, ◌++◌, length, get_or, set}
use Rattle.meaning.specs.Bytes.{among, when◌then◌else◌}
use Rattle.term.specs.Frames.{Only}
use Rattle.term.specs.States.{listed}

-- A place of the log: emptied, or a goal that waits on a set of pairs, each by its place.
pub data Slot : Type 0 where
  gone : Slot
  waits : ℕ → List ℕ → Slot

abbrev pub pairs_in : Slot → List ℕ
pairs_in gone = []
pairs_in (waits goal ps) = ps

abbrev pub slot : List Slot → ℕ → Slot
slot slots i = get_or slots i gone

-- The word that leads to the first pair of a set.
abbrev pub link : List ℕ → ℕ
link [] = 0
link (p ∷ ps) = p + 1

-- The pairs of the goal at place i, as a chain without repetition.
unfoldable pub Chain : List ℕ → ℕ → ℕ → ℕ → ℕ → List ℕ → Type 0
Chain s waiters sets pairs i [] = Unit {0}
Chain s waiters sets pairs i (p ∷ ps) =
    (p < pairs)
    × (get_or s (waiters + p) 0 ≡ i + 1)
    × (get_or s (sets + p) 0 ≡ link ps)
    × (among p ps ≡ false)
    × Chain s waiters sets pairs i ps

unfoldable pub SlotStands : List ℕ → ℕ → ℕ → ℕ → ℕ → ℕ → Slot → Type 0
SlotStands s log waiters sets pairs i gone = (get_or s (log + 2 * i) 0 ≡ 0) × (get_or s (log + 2 * i + 1) 0 ≡ 0)
SlotStands s log waiters sets pairs i (waits goal ps) =
    (0 < goal)
    × (get_or s (log + 2 * i) 0 ≡ goal)
    × (get_or s (log + 2 * i + 1) 0 ≡ link ps)
    × Chain s waiters sets pairs i ps

pub record LogOk (s : List ℕ) (log waiters sets pairs : ℕ) (slots : List Slot) : Type 0 where
  pub waiters_first : waiters + pairs ≤ sets
  pub sets_next : sets + pairs ≤ log
  pub inside : log + 2 * length slots ≤ length s
  pub stands : (i : ℕ) → i < length slots → SlotStands s log waiters sets pairs i (slot slots i)
  pub waiter : (p i : ℕ) → p < pairs → get_or s (waiters + p) 0 ≡ i + 1 → (i < length slots) × (among p (pairs_in (slot slots i)) ≡ true)

-- A frame: of all words only those of the pairs' waiters and sets and of the log's first places differ.
pub record LogOnly (log waiters sets pairs used : ℕ) (s s' : List ℕ) : Type 0 where
  pub size : length s' ≡ length s
  pub below : (x : ℕ) → x < waiters → get_or s' x 0 ≡ get_or s x 0
  pub between : (x : ℕ) → sets + pairs ≤ x → x < log → get_or s' x 0 ≡ get_or s x 0
  pub behind : (x : ℕ) → log + 2 * used ≤ x → get_or s' x 0 ≡ get_or s x 0

-- No goal but the one at a place waits on the pair.
abbrev pub Unclaimed : List Slot → ℕ → ℕ → Type 0
Unclaimed slots place p = (i : ℕ) → i < length slots → (i ≡ place → ⊥) → among p (pairs_in (slot slots i)) ≡ false

-- A set with a pair more.
unfoldable pub joined : ℕ → List ℕ → List ℕ
joined p ps = when among p ps then ps else p ∷ ps

-- A set with several pairs more.
unfoldable pub gathered : List ℕ → List ℕ → List ℕ
gathered ps [] = ps
gathered ps (r ∷ rs) = gathered (joined r ps) rs

-- The goal at a place, with its set.
pub record At (s : List ℕ) (log waiters sets pairs : ℕ) (slots : List Slot) (place goal : ℕ) (ps : List ℕ) : Type 0 where
  pub ok : LogOk s log waiters sets pairs slots
  pub here : place < length slots
  pub it : slot slots place ≡ waits goal ps

-- A pair that the goal at a place may wait on.
pub record Joins (s : List ℕ) (log waiters sets pairs : ℕ) (slots : List Slot) (place goal : ℕ) (ps : List ℕ) (p : ℕ) : Type 0 where
  pub at : At s log waiters sets pairs slots place goal ps
  pub small : p < pairs
  pub unclaimed : Unclaimed slots place p

-- Several pairs, which stand in a list between the sets and the log.
pub record JoinsAll (s : List ℕ) (log waiters sets pairs : ℕ) (slots : List Slot) (place goal : ℕ) (ps : List ℕ) (readers n : ℕ) : Type 0 where
  pub at : At s log waiters sets pairs slots place goal ps
  pub behind_sets : sets + pairs ≤ readers
  pub before_log : readers + n ≤ log
  pub small : (k : ℕ) → k < n → get_or s (readers + k) 0 < pairs
  pub unclaimed : (k : ℕ) → k < n → Unclaimed slots place (get_or s (readers + k) 0)

-- A goal that is to wait on pairs on which no other does.
pub record Waits (s : List ℕ) (log waiters sets pairs : ℕ) (slots : List Slot) (place goal readers n : ℕ) : Type 0 where
  pub ok : LogOk s log waiters sets pairs slots
  pub last : place ≡ length slots
  pub some : 0 < goal
  pub space : log + 2 * place + 2 ≤ length s
  pub behind_sets : sets + pairs ≤ readers
  pub before_log : readers + n ≤ log
  pub small : (k : ℕ) → k < n → get_or s (readers + k) 0 < pairs
  pub unclaimed : (k : ℕ) → k < n → (i : ℕ) → i < length slots → among (get_or s (readers + k) 0) (pairs_in (slot slots i)) ≡ false

-- The log as it is afterwards, and what has not changed.
pub record LogNow (s s' : List ℕ) (log waiters sets pairs used : ℕ) (slots : List Slot) : Type 0 where
  pub ok : LogOk s' log waiters sets pairs slots
  pub only : LogOnly log waiters sets pairs used s s'

-- A chain of pairs whose goal moves to a place before its own.
pub record Turns (s : List ℕ) (waiters sets pairs from waiter first : ℕ) (ps : List ℕ) : Type 0 where
  pub waiters_first : waiters + pairs ≤ sets
  pub inside : sets + pairs ≤ length s
  pub before : waiter ≤ from
  pub head : first ≡ link ps
  pub chain : Chain s waiters sets pairs from ps

-- The pairs know the new place, and no other word has changed.
pub record Turned (s s' : List ℕ) (waiters waiter : ℕ) (ps : List ℕ) : Type 0 where
  pub size : length s' ≡ length s
  pub turned : (q : ℕ) → among q ps ≡ true → get_or s' (waiters + q) 0 ≡ waiter
  pub other : (x : ℕ) → ((q : ℕ) → among q ps ≡ true → x ≡ waiters + q → ⊥) → get_or s' x 0 ≡ get_or s x 0

-- A goal that moves to an emptied place before its own.
pub record Shifts (s : List ℕ) (log waiters sets pairs : ℕ) (slots : List Slot) (from to goal : ℕ) (ps : List ℕ) : Type 0 where
  pub at : At s log waiters sets pairs slots from goal ps
  pub empty : slot slots to ≡ gone
  pub before : to < from

-- The goals among the first n places, in order.
abbrev pub goal_of : Slot → List Slot
goal_of gone = []
goal_of (waits goal ps) = waits goal ps ∷ []

unfoldable pub present : List Slot → ℕ → List Slot
present slots zero = []
present slots (suc n) = present slots n ++ goal_of (slot slots n)

-- All before a place have been closed up; the places from `to` up to it are empty.
pub record Settles (s : List ℕ) (log waiters sets pairs : ℕ) (slots : List Slot) (place to : ℕ) : Type 0 where
  pub ok : LogOk s log waiters sets pairs slots
  pub here : place < length slots
  pub before : to ≤ place
  pub empty : to < place → slot slots to ≡ gone

-- The goal at the place, if there is one, stands at `to`.
abbrev pub SettledAs : List ℕ → List ℕ → ℕ → ℕ → ℕ → ℕ → List Slot → ℕ → ℕ → ℕ → Slot → Type 0
SettledAs s s' log waiters sets pairs slots place to to' gone = (to' ≡ to) × LogNow s s' log waiters sets pairs (length slots) slots
SettledAs s s' log waiters sets pairs slots place to to' (waits goal ps) =
    (to' ≡ to + 1) × LogNow s s' log waiters sets pairs (length slots) (set (set slots place gone) to (waits goal ps))

-- The log closed up: its goals in order, each with its set, and no emptied place.
pub record Closed (s s' : List ℕ) (log waiters sets pairs used : ℕ) (slots : List Slot) (to : ℕ) : Type 0 where
  pub number : to ≡ length (present slots used)
  pub now : LogNow s s' log waiters sets pairs used (present slots used)

-- A goal has joined the failed goals, a list of words: the one word that is set, and what it makes of the list.
pub record Failed (s s' : List ℕ) (failed n goal : ℕ) : Type 0 where
  pub words : s' ≡ set s (failed + n) goal
  pub only : Only (failed + n) (failed + n + 1) s s'
  pub items : listed s' failed (n + 1) ≡ listed s failed n ++ (goal ∷ [])
