-- How a run ends: the verdict and the state, or the queries alone pass a room figure.
use Rattle.std.specs.Prelude.{ℕ, ◌+◌, ◌≤◌, ◌<◌, ◌≡◌, false, ◌≢◌, List, length, get_or, Option, Some, None}
use Rattle.meaning.specs.Bytes.{Bytes}
use Rattle.meaning.specs.Terms.{Job}
use Rattle.meaning.specs.State.{Room}
use Rattle.meaning.specs.Run.{queries_fit, run}
use Rattle.term.specs.Layout.{need_of, clauses_region, index_from, clause_record, items_region, trial_region, query_record, query_stride, first_pair_at, tries_at}
use Rattle.term.specs.declared.state.Standing.{Standing}
use Rattle.term.specs.declared.state.Verdict.{Verdict}
use Rattle.term.specs.States.{Atlas, HoldsState, Finished, verdict_of}

-- The run has ended: by which verdict, and in which state.
abbrev pub GoneOn : List ℕ → List Bytes → Job → Room → ℕ → Verdict × Standing → Type 0
GoneOn s names j figures limit (v, t) =
    (verdict_of v ≡ (run j limit figures).verdict)
    × (atlas : Atlas) × HoldsState s names figures j.queries atlas (run j limit figures).state t

-- What a run never writes: the names and procedures; of the clauses' records all but the index; of the queries' records all but the first pair and the
-- tries; the items; what lies behind the needed part.
pub record Untouched (figures : Room) (s s' : List ℕ) : Type 0 where
  pub size : length s' ≡ length s
  pub before : (k : ℕ) → k < clauses_region → get_or s' k 0 ≡ get_or s k 0
  pub clauses : (c i : ℕ) → c < 128 → i < index_from → get_or s' (clause_record c + i) 0 ≡ get_or s (clause_record c + i) 0
  pub records : (q i : ℕ) → q < 8 → i < query_stride → i ≢ first_pair_at → i ≢ tries_at → get_or s' (query_record q + i) 0 ≡ get_or s (query_record q + i) 0
  pub items : (k : ℕ) → items_region ≤ k → k < trial_region → get_or s' k 0 ≡ get_or s k 0
  pub behind : (k : ℕ) → need_of figures ≤ k → get_or s' k 0 ≡ get_or s k 0

-- The run's contract: number 7, and nothing has changed; or the run is finished.
abbrev pub RanIs : List ℕ → List ℕ → Bytes → List Bytes → Job → Room → ℕ → Option (Verdict × Standing) → Type 0
RanIs s s' text names j figures limit (Some (v, t)) = Untouched figures s s' × Finished s' text names figures j limit v t
RanIs s s' text names j figures limit None = (queries_fit figures j.queries ≡ false) × (s' ≡ s)
