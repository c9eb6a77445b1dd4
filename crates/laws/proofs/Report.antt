-- The report by its bytes: where it can be cut into its sections, and that a section shows its query's tries.
-- Names and variables of a text hold no LF, and no line of a section but its first begins with `q`; a run makes no new name.
pub mod Spelled
pub mod SpelledReader
pub mod SpelledText
pub mod SpelledRun
pub mod Decimal
pub mod Cut
pub mod Lines
pub mod Sections
pub mod TokensPlain
use Prim.Native.Nat.{ℕ}
use mathlib.Core.Path.{◌≡◌, sym, ap, ◌∙◌}
use mathlib.Core.List.{◌∷◌}
use Rattle.meaning.specs.Bytes.{Bytes}
use Rattle.meaning.specs.Terms.{Query, Job}
use Rattle.meaning.specs.Items.{job, reading}
use Rattle.meaning.specs.State.{Room, Part}
use Rattle.meaning.specs.Run.{run}
use Rattle.meaning.specs.Report.{section, sections, run_line, report}
use Rattle.laws.proofs.Report.Sections.{report_cut}
use Rattle.laws.proofs.Report.TokensPlain.{read_job_lined}
-- The bytes cut before each line that begins with `q`; a number in decimal read back.
unfoldable pub use Cut.{begins_q, before_first, cut}
pub use Decimal.{tries_shown, section_shows_tries}

-- Cut before each line that begins with `q`, the report of an accepted text is its run line and its sections, in the queries' order.
pub report_cut_into_sections : (text : Bytes) (j : Job) → reading text ≡ job j → (limit : ℕ) (figures : Room)
    → cut (report j.queries (run j limit figures))
    ≡ run_line (run j limit figures) ∷ sections 0 j.queries (run j limit figures).state
report_cut_into_sections text j reads limit figures = report_cut j limit figures (read_job_lined text j reads)

-- Equal sections show equal tries.
pub equal_sections_equal_tries : (k : ℕ) (query₁ query₂ : Query) (part₁ part₂ : Part)
    → section k query₁ part₁ ≡ section k query₂ part₂ → part₁.unit.tries ≡ part₂.unit.tries
equal_sections_equal_tries k query₁ query₂ part₁ part₂ e =
    sym (section_shows_tries k query₁ part₁) ∙ ap (tries_shown k) e ∙ section_shows_tries k query₂ part₂
