-- What the parts of a reduction ask and give: values assigned, goals copied into the queue, waiting goals woken.
use Rattle.std.specs.Prelude.{ℕ, zero, suc, ◌+◌, ◌*◌, ◌≤◌, ◌<◌, ◌≡◌, Bool, ◌⊎◌, List, [], ◌∷◌, ◌++◌, map, ltb, length, get_or}
use Rattle.meaning.specs.Bytes.{among, any, when◌then◌else◌}
use Rattle.meaning.specs.Terms.{Term, Named, renamed, as_term}
use Rattle.term.specs.Cells.{Places, term_word}
use Rattle.term.specs.Holds.{Holds}
use Rattle.term.specs.Jobs.{HoldsGoals}
use Rattle.term.specs.Setting.{Within}
use Rattle.term.specs.States.{ring, listed}
use Rattle.term.specs.Layout.{trial_region, compounds_region, gift_pair, woken_part, followed_part}
use Rattle.term.specs.Words.{packed}
use Rattle.run_compare.specs.Gifts.{Entry, EntriesAt}
use Rattle.run_effects.specs.Build.{Item, Copies, total, ListSpread, Goes, ItemTerm, Moved}
use Rattle.run_queues.specs.Ring.{RingOk}
use Rattle.run_queues.specs.Log.{Slot, gone, waits, pairs_in, LogOk}

-- A word is none of those from lo up to hi.
abbrev pub Apart : ℕ → ℕ → ℕ → Type 0
Apart lo hi k = (k < lo) ⊎ (hi ≤ k)

-- A frame: words for which P is so have not changed.
pub record KeptWhere (P : ℕ → Type 0) (s s' : List ℕ) : Type 0 where
  pub size : length s' ≡ length s
  pub same : (k : ℕ) → P k → get_or s' k 0 ≡ get_or s k 0

-- X := what the head's writers were given: the clause's pairs lie from a pair on.
pub record HeadAssigned (s s' : List ℕ) (values pair pairs : ℕ) : Type 0 where
  pub kept : KeptWhere (Apart (values + pair) (values + pair + pairs)) s s'
  pub given : (x : ℕ) → x < pairs → get_or s' (values + pair + x) 0 ≡ get_or s (trial_region + x) 0

-- The trial's entries, n of them, for pairs of a unit whose places are below a bound, with terms of the item that are copied.
unfoldable pub EntryTerms : List ℕ → Item → Places → ℕ → List Entry → Type 0
EntryTerms s x unit bound [] = Unit {0}
EntryTerms s x unit bound (e ∷ es) = ((unit.pair e.pair < bound) × ItemTerm s x e.term) × EntryTerms s x unit bound es

abbrev pub entry_terms : List Entry → List Term
entry_terms list = map (λ e. e.term) list

pub record Assigning (s : List ℕ) (x : Item) (unit : Places) (values bound pair to n : ℕ) (list : List Entry) : Type 0 where
  pub goes : Goes x pair
  pub behind : compounds_region ≤ to
  pub before : to + total (entry_terms list) ≤ values
  pub room : 1 ≤ total (entry_terms list) → to + total (entry_terms list) + 7 ≤ length s
  pub inside : values + bound ≤ length s
  pub few : n ≤ 192
  pub number : length list ≡ n
  pub stand : EntriesAt s x.places unit 0 list
  pub terms : EntryTerms s x unit bound list
  pub apart : (i k : ℕ) → i < n → k < n → get_or s (gift_pair i) 0 ≡ get_or s (gift_pair k) 0 → i ≡ k

-- Z := the head's term, renamed: each entry's pair holds the word of its copy, which is held.
unfoldable pub EntriesGiven : List ℕ → Places → Places → ℕ → ℕ → ℕ → List Entry → Type 0
EntriesGiven s unit places values p c [] = Unit {0}
EntriesGiven s unit places values p c (e ∷ es) =
    ((get_or s (values + unit.pair e.pair) 0 ≡ term_word places (renamed p c e.term)) × Holds s places (renamed p c e.term))
    × EntriesGiven s unit places values p c es

-- No entry is of the pair at this place.
unfoldable pub NoEntry : Places → ℕ → List Entry → Type 0
NoEntry unit z [] = Unit {0}
NoEntry unit z (e ∷ es) = (z ≡ unit.pair e.pair → ⊥) × NoEntry unit z es

pub record GoalAssigned (s s' : List ℕ) (x : Item) (unit : Places) (values bound pair to : ℕ) (list : List Entry) (r : ℕ) : Type 0 where
  pub behind : r ≡ to + total (entry_terms list)
  pub kept : KeptWhere (λ k. Apart to (to + total (entry_terms list)) k × Apart values (values + bound) k) s s'
  pub others : (z : ℕ) → NoEntry unit z list → get_or s' (values + z) 0 ≡ get_or s (values + z) 0
  pub given : (places : Places) (y : Copies) (p c : ℕ) → Moved x places pair y p c → ListSpread y to (entry_terms list)
      → EntriesGiven s' unit places values p c list

-- Goals of an item, whose words stand from a place on, for the queue's end; their mark is what their words have besides their compounds' places.
unfoldable pub GoalsWithin : ℕ → ℕ → List Named → Type 0
GoalsWithin pairs compounds [] = Unit {0}
GoalsWithin pairs compounds (g ∷ gs) = Within pairs compounds (as_term g) × GoalsWithin pairs compounds gs

abbrev pub goal_terms : List Named → List Term
goal_terms goals = map as_term goals

pub record Adding (s : List ℕ) (x : Item) (from n pair to mark queue size front active : ℕ) (goals : List Named) : Type 0 where
  pub goes : Goes x pair
  pub behind : compounds_region ≤ to
  pub number : n ≡ length goals
  pub words : HoldsGoals s x.places from 0 goals
  pub within : GoalsWithin x.pairs x.compounds goals
  pub from_before : from + n ≤ trial_region
  pub before : to + total (goal_terms goals) ≤ queue
  pub room : 1 ≤ total (goal_terms goals) → to + total (goal_terms goals) + 7 ≤ length s
  pub ring_ok : RingOk s queue size front
  pub space : active + n ≤ size
  pub few : mark ≤ 4503599627370496

unfoldable pub GoalsHeld : List ℕ → Places → ℕ → ℕ → List Named → Type 0
GoalsHeld s places p c [] = Unit {0}
GoalsHeld s places p c (g ∷ gs) = Holds s places (renamed p c (as_term g)) × GoalsHeld s places p c gs

pub record Added (s s' : List ℕ) (x : Item) (n pair to mark queue size front active : ℕ) (goals : List Named) (r : ℕ) : Type 0 where
  pub behind : r ≡ to + total (goal_terms goals)
  pub kept : KeptWhere (λ k. Apart to (to + total (goal_terms goals)) k × Apart queue (queue + size) k) s s'
  pub items : (places : Places) (y : Copies) (p c : ℕ) → Moved x places pair y p c → ListSpread y to (goal_terms goals)
      → ring s' queue size front (active + n) ≡ ring s queue size front active ++ map (λ g. packed mark (places.compound (c + g.number))) goals
  pub held : (places : Places) (y : Copies) (p c : ℕ) → Moved x places pair y p c → ListSpread y to (goal_terms goals) → GoalsHeld s' places p c goals

-- The places of the pairs that the trial's first n entries give a term.
unfoldable pub entry_places : List ℕ → ℕ → List ℕ
entry_places s zero = []
entry_places s (suc n) = entry_places s n ++ (get_or s (gift_pair n) 0 ∷ [])

-- A waiting goal is hit if it waits on one of these pairs.
unfoldable pub hit : List ℕ → Slot → Bool
hit zs slot = any (λ z. among z (pairs_in slot)) zs

-- Their places in the log, rising, the first of these slots being at place i; and their goals.
unfoldable pub hits : List ℕ → ℕ → List Slot → List ℕ
hits zs i [] = []
hits zs i (slot ∷ slots) = when hit zs slot then i ∷ hits zs (i + 1) slots else hits zs (i + 1) slots

abbrev pub goal_in : Slot → ℕ
goal_in gone = 0
goal_in (waits goal ps) = goal

unfoldable pub woken : List ℕ → List Slot → List ℕ
woken zs [] = []
woken zs (slot ∷ slots) = when hit zs slot then goal_in slot ∷ woken zs slots else woken zs slots

-- A goal that waits on no pair any more; the log with those that are hit so, and with their places emptied.
abbrev pub quiet : Slot → Slot
quiet gone = gone
quiet (waits goal ps) = waits goal []

unfoldable pub quieted : List ℕ → List Slot → List Slot
quieted zs [] = []
quieted zs (slot ∷ slots) = (when hit zs slot then quiet slot else slot) ∷ quieted zs slots

unfoldable pub emptied : List ℕ → List Slot → List Slot
emptied zs [] = []
emptied zs (slot ∷ slots) = (when hit zs slot then gone else slot) ∷ emptied zs slots

-- None of the pairs' waiters and sets, nor of the log's places.
abbrev pub NotLogged : ℕ → ℕ → ℕ → ℕ → ℕ → ℕ → Type 0
NotLogged log waiters sets pairs used k = Apart waiters (sets + pairs) k × Apart log (log + 2 * used) k

-- A place joins the list of the woken, before the first that is greater; the others keep their order.
unfoldable pub inserted : ℕ → List ℕ → List ℕ
inserted p [] = p ∷ []
inserted p (q ∷ qs) = when ltb q p then q ∷ inserted p qs else p ∷ q ∷ qs

-- So many words from one on rise.
abbrev pub Rises : List ℕ → ℕ → ℕ → Type 0
Rises s from n = (a b : ℕ) → a < b → b < n → get_or s (from + a) 0 < get_or s (from + b) 0

pub record Inserts (s : List ℕ) (place n : ℕ) : Type 0 where
  pub few : n < 192
  pub inside : followed_part ≤ length s
  pub rises : Rises s woken_part n

pub record Inserted (s s' : List ℕ) (place n : ℕ) : Type 0 where
  pub kept : KeptWhere (Apart woken_part (woken_part + n + 1)) s s'
  pub places : listed s' woken_part (n + 1) ≡ inserted place (listed s woken_part n)

-- The goals that wait on the entries' pairs are found: their places stand in order in the part of the woken.
pub record Wakes (s : List ℕ) (log waiters sets pairs : ℕ) (slots : List Slot) (n : ℕ) : Type 0 where
  pub ok : LogOk s log waiters sets pairs slots
  pub few : n ≤ 192
  pub behind : compounds_region ≤ waiters
  pub small : (i : ℕ) → i < n → get_or s (gift_pair i) 0 < pairs

pub record Waked (s s' : List ℕ) (log waiters sets pairs : ℕ) (slots : List Slot) (n r : ℕ) : Type 0 where
  pub ok : LogOk s' log waiters sets pairs (quieted (entry_places s n) slots)
  pub number : r ≡ length (hits (entry_places s n) 0 slots)
  pub places : listed s' woken_part r ≡ hits (entry_places s n) 0 slots
  pub few : r ≤ 192
  pub kept : KeptWhere (λ k. Apart woken_part followed_part k × NotLogged log waiters sets pairs (length slots) k) s s'

-- Then they join the queue, and their places are emptied.
pub record AddsWoken (s : List ℕ) (log waiters sets pairs : ℕ) (slots : List Slot) (zs : List ℕ) (n queue size front active : ℕ) : Type 0 where
  pub ok : LogOk s log waiters sets pairs (quieted zs slots)
  pub number : n ≡ length (hits zs 0 slots)
  pub places : listed s woken_part n ≡ hits zs 0 slots
  pub few : n ≤ 192
  pub behind : compounds_region ≤ waiters
  pub ring_ok : RingOk s queue size front
  pub space : active + n ≤ size
  pub queue_behind : sets + pairs ≤ queue
  pub queue_before : queue + size ≤ log

pub record WokenAdded (s s' : List ℕ) (log waiters sets pairs : ℕ) (slots : List Slot) (zs : List ℕ) (n queue size front active : ℕ) : Type 0 where
  pub ok : LogOk s' log waiters sets pairs (emptied zs slots)
  pub items : ring s' queue size front (active + n) ≡ ring s queue size front active ++ woken zs slots
  pub kept : KeptWhere (λ k. Apart queue (queue + size) k × NotLogged log waiters sets pairs (length slots) k) s s'
