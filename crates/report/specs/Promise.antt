-- What `report` tells: the definition's report, up to its ceiling, in the buffer if it fits.
use Rattle.std.specs.Prelude.{ℕ, ◌+◌, ◌*◌, ◌≤◌, ◌<◌, min, ◌≡◌, ◌&&◌, List, ◌++◌, leb, length, get_or, drop}
use Rattle.meaning.specs.Bytes.{Bytes, when◌then◌else◌}
use Rattle.meaning.specs.Terms.{Job}
use Rattle.meaning.specs.State.{Room}
use Rattle.meaning.specs.Run.{run}
use Rattle.meaning.specs.Report.{report}
use Rattle.term.specs.Layout.{trial_region, pairs_told, waiters_region, pair_facts}

-- The report stands at the front of the buffer if it fits the buffer and the ceiling; else the buffer is as it was.
unfoldable pub with_report : Bytes → Bytes → Bytes
with_report bs buffer = when leb (length bs) (length buffer) && leb (length bs) 16777216 then bs ++ drop (length bs) buffer else buffer

-- "The smaller of its length and 16,777,217". Of the scratch only the trial's first two words and what is kept of each pair, from the waiters on, have
-- changed.
pub record ReportIs (s s' : List ℕ) (buffer buffer' : Bytes) (figures : Room) (j : Job) (limit r : ℕ) : Type 0 where
  pub size : length s' ≡ length s
  pub front : (k : ℕ) → k < trial_region → get_or s' k 0 ≡ get_or s k 0
  pub before : (k : ℕ) → pairs_told < k → k < waiters_region figures → get_or s' k 0 ≡ get_or s k 0
  pub behind : (k : ℕ) → waiters_region figures + pair_facts * figures.pairs ≤ k → get_or s' k 0 ≡ get_or s k 0
  pub length_is : r ≡ min (length (report j.queries (run j limit figures))) 16777217
  pub buffer_is : buffer' ≡ with_report (report j.queries (run j limit figures)) buffer
