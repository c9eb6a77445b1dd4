-- Behind the first line so many sections as were passed are written.
use Prim.Native.Nat.{ℕ, ◌<◌}
use Rattle.term.specs.Layout.{figures, waiters_region}
use Rattle.report_pairs.specs.Laid.{Puts}
use Rattle.report_sections.specs.Whole.{Numbers}
use Rattle.report.specs.All.{Made, Sections, order_of, sections_bytes}
use Rattle.report.proofs.Sectionwise.{Ahead}
use Rattle.report.proofs.report.write_report.Given as goal

abbrev pub invariant-loop-q : goal.invariant-loop-q
invariant-loop-q l =
    (made : ℕ → Made) → Sections l.s l.text (figures l.room) l.t made l.queries
    → ((k : ℕ) → k < l.queries → Numbers l.s (made k).unit (waiters_region (figures l.room)) (order_of (made k)))
    → Ahead l.s (figures l.room) l.t made l.queries l.initial.to l.initial.buffer
    → Puts l.initial.buffer l.buffer l.initial.to l.to (sections_bytes l.s (figures l.room) l.t made l.q)
