-- All sections of a report: what stands in the scratch for each, that their pairs are apart, and the report's bytes.
use Rattle.std.specs.Prelude.{ℕ, zero, suc, ◌+◌, ◌*◌, ◌≤◌, ◌<◌, ◌≡◌, List, [], ◌++◌, map, length, get_or}
use Rattle.meaning.specs.Bytes.{Bytes, those}
use Rattle.meaning.specs.Terms.{Query}
use Rattle.meaning.specs.State.{Room, Goal, State, of}
use Rattle.term.specs.Layout.{waiters_region, trial_region, pair_facts}
use Rattle.term.specs.Setting.{Setting}
use Rattle.term.specs.States.{Atlas, setting_at}
use Rattle.term.specs.declared.state.Standing.{Standing}
use Rattle.term.specs.declared.state.Verdict.{Verdict as Told}
use Rattle.report_pairs.specs.Threaded.{lines_seen}
use Rattle.report_pairs.specs.Laid.{capped}
use Rattle.report_leaves.specs.Fits.{Stored}
use Rattle.report_tallies.specs.Header.{run_line_of}
use Rattle.report_sections.specs.Whole.{section_bytes, SectionStands, Numbers}

-- What a section is made of: its query's unit, variables and goals.
pub record Made : Type 0 where
  pub unit : Setting
  pub variables : List Bytes
  pub actives : List Goal
  pub waits : List Goal
  pub fails : List Goal

abbrev pub Stands : List ℕ → Bytes → Room → Standing → ℕ → Made → Type 0
Stands s text figures t k m = SectionStands s text m.unit figures t k m.variables m.actives m.waits m.fails

abbrev pub bytes_of : List ℕ → Room → Standing → ℕ → Made → Bytes
bytes_of s figures t k m = section_bytes s figures t m.unit.values k m.variables m.actives m.waits m.fails

abbrev pub order_of : Made → List ℕ
order_of m = lines_seen m.unit.values m.variables m.actives m.waits m.fails

-- The first n sections stand; what is kept of one unit's pairs is apart from that of another's.
pub record Sections (s : List ℕ) (text : Bytes) (figures : Room) (t : Standing) (made : ℕ → Made) (n : ℕ) : Type 0 where
  pub few : n ≤ 8
  pub stands : (k : ℕ) → k < n → Stands s text figures t k (made k)
  pub apart : (k l a b : ℕ) → k < n → l < n → a < length (made k).unit.values → b < length (made l).unit.values
      → (made k).unit.places.pair a ≡ (made l).unit.places.pair b → k ≡ l
  pub pairs : (k : ℕ) → k < n → (made k).unit.pairs ≡ figures.pairs

-- The bytes of the first n sections, in order.
unfoldable pub sections_bytes : List ℕ → Room → Standing → (ℕ → Made) → ℕ → Bytes
sections_bytes s figures t made zero = []
sections_bytes s figures t made (suc n) = sections_bytes s figures t made n ++ bytes_of s figures t n (made n)

abbrev pub report_bytes : List ℕ → Room → Told → Standing → (ℕ → Made) → ℕ → Bytes
report_bytes s figures v t made n = run_line_of v t.steps ++ sections_bytes s figures t made n

-- Only what is kept of pairs has changed, and how many numbers were given.
pub record FactsOnly (figures : Room) (s s' : List ℕ) : Type 0 where
  pub size : length s' ≡ length s
  pub counter : (k : ℕ) → k < trial_region → get_or s' k 0 ≡ get_or s k 0
  pub before : (k : ℕ) → trial_region < k → k < waiters_region figures → get_or s' k 0 ≡ get_or s k 0
  pub behind : (k : ℕ) → waiters_region figures + pair_facts * figures.pairs ≤ k → get_or s' k 0 ≡ get_or s k 0

-- The report is counted up to r; below the ceiling every section's pairs have their numbers, and the report has the values kept at their places.
pub record AllCounted (s s' : List ℕ) (text : Bytes) (figures : Room) (v : Told) (t : Standing) (made : ℕ → Made) (n r : ℕ) : Type 0 where
  pub only : FactsOnly figures s s'
  pub sections : Sections s' text figures t made n
  pub same : sections_bytes s' figures t made n ≡ sections_bytes s figures t made n
  pub place : r ≡ capped (length (report_bytes s figures v t made n))
  pub numbers : r < 16777217 → (k : ℕ) → k < n → Numbers s' (made k).unit (waiters_region figures) (order_of (made k))
  pub stored : r < 16777217 → (k : ℕ) → k < n → Stored s' (made k).unit (waiters_region figures) (order_of (made k)) (report_bytes s figures v t made n)

-- The sections of a finished run: of each query its unit, its variables and its own goals.
unfoldable pub no_query : Query
no_query = record { goals = []; variables = []; compounds = 0 }

abbrev pub made_of : Room → Atlas → List Query → State → ℕ → Made
made_of figures atlas queries state k =
    record {
      unit = setting_at figures atlas state.units k;
      variables = (get_or queries k no_query).variables;
      actives = those (of k) state.goals.queue;
      waits = map (λ w. w.goal) (those (λ w. of k w.goal) state.goals.waiting);
      fails = those (of k) state.goals.failed;
    }
