-- The queries entered one by one: what the scratch holds when some of them are.
use Rattle.std.specs.Prelude.{ℕ, zero, suc, ◌+◌, ◌≤◌, ◌<◌, ◌≡◌, true, ◌≢◌, List, length, get_or}
use Rattle.meaning.specs.Bytes.{Bytes}
use Rattle.meaning.specs.Terms.{Query, Job}
use Rattle.meaning.specs.Items.{job, reading}
use Rattle.meaning.specs.State.{Room, start}
use Rattle.meaning.specs.Run.{queries_fit}
use Rattle.term.specs.Jobs.{HoldsJob}
use Rattle.term.specs.Layout.{values_region, queue_region, need_of, InRange, queries_region, items_region, compounds_region, query_record, query_tries_word, query_stride, first_pair_at}
use Rattle.term.specs.States.{Atlas, HoldsState, PairsZero}
use Rattle.term.specs.declared.state.Standing.{Standing}

-- A word of the first n queries' records, added up.
unfoldable pub record_sum : List ℕ → ℕ → ℕ → ℕ
record_sum s at zero = 0
record_sum s at (suc n) = record_sum s at n + get_or s (query_record n + at) 0

-- What entering may change: of the queries' records where their own pairs begin, and what the room has, but for waiters, sets, marks and ends.
pub record EnterOnly (figures : Room) (s s' : List ℕ) : Type 0 where
  pub size : length s' ≡ length s
  pub before : (k : ℕ) → k < queries_region → get_or s' k 0 ≡ get_or s k 0
  pub records : (q i : ℕ) → q < 8 → i < query_stride → i ≢ first_pair_at → get_or s' (query_record q + i) 0 ≡ get_or s (query_record q + i) 0
  pub items : (k : ℕ) → items_region ≤ k → k < compounds_region → get_or s' k 0 ≡ get_or s k 0
  pub pairs : (k : ℕ) → values_region figures ≤ k → k < queue_region figures → get_or s' k 0 ≡ get_or s k 0
  pub behind : (k : ℕ) → need_of figures ≤ k → get_or s' k 0 ≡ get_or s k 0

-- These queries are entered, and no step is taken.
pub record Entered (s : List ℕ) (text : Bytes) (names : List Bytes) (j : Job) (figures : Room) (done : List Query) (atlas : Atlas) (t : Standing) : Type 0 where
  pub in_range : InRange figures
  pub inside : need_of figures ≤ length s
  pub reads : reading text ≡ job j
  pub fit : queries_fit figures j.queries ≡ true
  pub held : HoldsJob s names j
  pub state : HoldsState s names figures done atlas (start done) t
  pub cells : compounds_region ≤ t.cells
  pub front : t.front ≡ 0
  pub log : t.log ≡ 0
  pub room_zero : PairsZero s figures
  pub tries_zero : (q : ℕ) → q < 8 → get_or s (query_tries_word q) 0 ≡ 0
