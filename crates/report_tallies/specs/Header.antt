-- A section's first line and the report's, by the counts that they show.
use Rattle.std.specs.Prelude.{ℕ, ◌+◌, List, ◌++◌, length, get_or}
use Rattle.meaning.specs.Bytes.{Bytes, bytes, decimal}
use Rattle.meaning.specs.State.{Room}
use Rattle.meaning.specs.Report.{verdict_bytes}
use Rattle.term.specs.States.{verdict_of}
use Rattle.term.specs.declared.state.Standing.{Standing}
use Rattle.term.specs.declared.state.Verdict.{Verdict as Told}
use Rattle.term.specs.Layout.{query_tries_word}
use Rattle.report_tallies.specs.Groups.{GroupInside, own_from, active_group, waiting_group, failed_group}
use Rattle.report_tallies.specs.declared.header.Tallies.{Tallies}

-- The counts of the query q, as the scratch has them.
abbrev pub tallies_of : List ℕ → Room → ℕ → Standing → Tallies
tallies_of s room q t =
    record {
      tries = get_or s (query_tries_word q) 0;
      active = length (own_from s (active_group room t) q 0 t.active);
      waiting = length (own_from s (waiting_group room t) q 0 t.log);
      failed = length (own_from s (failed_group room t) q 0 t.failed);
    }

-- The three lists lie in the scratch.
pub record GroupsInside (s : List ℕ) (room : Room) (t : Standing) : Type 0 where
  pub active : GroupInside s (active_group room t)
  pub waiting : GroupInside s (waiting_group room t)
  pub failed : GroupInside s (failed_group room t)

-- "`query K tries T active A waiting W failed F`"
unfoldable pub header_of : ℕ → Tallies → Bytes
header_of q c =
    bytes "query " ++ decimal (q + 1)
    ++ bytes " tries " ++ decimal c.tries
    ++ bytes " active " ++ decimal c.active
    ++ bytes " waiting " ++ decimal c.waiting
    ++ bytes " failed " ++ decimal c.failed
    ++ bytes "\n"

-- "First `run VERDICT steps N`"
unfoldable pub run_words_of : Told → Bytes
run_words_of v = bytes "run " ++ verdict_bytes (verdict_of v) ++ bytes " steps "

unfoldable pub run_line_of : Told → ℕ → Bytes
run_line_of v steps = run_words_of v ++ decimal steps ++ bytes "\n"
