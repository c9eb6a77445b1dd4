-- What stands behind a goal, by the goal's word.
use Rattle.std.specs.Prelude.{ℕ}
use Rattle.meaning.specs.Bytes.{Bytes}
use Rattle.meaning.specs.Report.{origin_bytes}
use Rattle.term.specs.Goals.{clause_in, tries_in}

-- "Each active, waiting or failed line ends with ` from C at T`" (02, T-09).
abbrev pub origin_of : ℕ → Bytes
origin_of goal = origin_bytes (record { clause = clause_in goal; tries = tries_in goal })
