-- So many sections as were passed are counted, and nothing is kept of the others yet.
use Prim.Native.Nat.{ℕ, ◌≤◌, ◌<◌}
use Rattle.meaning.specs.Bytes.{Bytes}
use Rattle.term.specs.Layout.{figures, waiters_region}
use Rattle.report_sections.specs.Whole.{Uncounted}
use Rattle.report.specs.All.{Made, Sections}
use Rattle.report.proofs.Sectionwise.{Sofar}
use Rattle.report.proofs.report.count_report.Given as goal

abbrev pub invariant-loop-q : goal.invariant-loop-q
invariant-loop-q l =
    (text : Bytes) (made : ℕ → Made) → l.initial.to ≤ 16777217 → Sections l.initial.s text (figures l.room) l.t made l.queries
    → ((k : ℕ) → k < l.queries → Uncounted l.initial.s (made k).unit (waiters_region (figures l.room)))
    → Sofar l.initial.s l.s text (figures l.room) l.t made l.queries l.initial.to l.q l.to
