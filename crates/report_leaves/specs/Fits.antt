-- What writing asks of the buffer: the bytes fit it, they stand in a whole with which it agrees so far, and the whole has each pair's value whose length is
-- kept from its place on. So a value that stands before the place where it is to be written can be copied.
use Rattle.std.specs.Prelude.{ℕ, ◌+◌, ◌≤◌, ◌<◌, ◌≡◌, ◌≢◌, List, length, get_or, Option as Told, Some, None}
use Rattle.std.proofs.Math.Option.{Option, none, some}
use Rattle.meaning.specs.Bytes.{Bytes}
use Rattle.meaning.specs.Terms.{Term}
use Rattle.meaning.specs.State.{value}
use Rattle.meaning.specs.Report.{alone, written}
use Rattle.term.specs.Setting.{Setting}
use Rattle.report_pairs.specs.Threaded.{full}
use Rattle.report_pairs.specs.Laid.{Puts, Has}
use Rattle.report_pairs.specs.Facts.{fact_place}

-- What is kept of a pair with this value: no length, or its length in the section's order, and its place in the whole.
abbrev pub StoredAt : List ℕ → Setting → ℕ → List ℕ → Bytes → ℕ → Option Term → Type 0
StoredAt s x facts order whole n none = get_or s (fact_place x facts n + 1) 0 ≡ 0
StoredAt s x facts order whole n (some u) = get_or s (fact_place x facts n + 1) 0 ≢ 0
    → (get_or s (fact_place x facts n + 1) 0 ≡ length (written order alone (full x.values u)))
    × Has whole (get_or s (fact_place x facts n + 3) 0) (written order alone (full x.values u))

abbrev pub Stored : List ℕ → Setting → ℕ → List ℕ → Bytes → Type 0
Stored s x facts order whole = (n : ℕ) → n < length x.values → StoredAt s x facts order whole n (value x.values n)

-- These bytes may be written from a place on.
pub record Fits (s : List ℕ) (x : Setting) (facts : ℕ) (order : List ℕ) (at : ℕ) (buffer : List ℕ) (bs : Bytes) : Type 0 where
  pub room : at + length bs ≤ length buffer
  pub whole : Bytes
  pub there : Has whole at bs
  pub agrees : (k : ℕ) → k < at → get_or buffer k 0 ≡ get_or whole k 0
  pub stored : Stored s x facts order whole

-- They were copied, or nothing was put.
abbrev pub Copied : List ℕ → List ℕ → ℕ → Told ℕ → Bytes → Type 0
Copied before after at None bs = after ≡ before
Copied before after at (Some to) bs = Puts before after at to bs
