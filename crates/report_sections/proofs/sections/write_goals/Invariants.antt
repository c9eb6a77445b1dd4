-- The lines of the query's goals at the places passed are written.
use mathlib.Core.List.{List}
use Prim.Native.Nat.{ℕ}
use Rattle.meaning.specs.State.{Goal}
use Rattle.term.specs.Setting.{Setting}
use Rattle.report_pairs.specs.Threaded.{written_goals}
use Rattle.report_pairs.specs.Facts.{Readable}
use Rattle.report_leaves.specs.Fits.{Fits}
use Rattle.report_sections.specs.Sections.{Listed}
use Rattle.report_sections.specs.Whole.{Numbers, AllIn}
use Rattle.report_sections.proofs.WrittenGoals.{Wrote}
use Rattle.report_sections.proofs.sections.write_goals.Given as goal

abbrev pub invariant-loop-i : goal.invariant-loop-i
invariant-loop-i l =
    (x : Setting) (order : List ℕ) (gs : List Goal) → Readable l.source.s.now l.source.text.now x l.source.facts → Listed l.source.s.now x l.source.facts l.g l.q gs
    → Numbers l.source.s.now x l.source.facts order → AllIn x.values order gs → Fits l.source.s.now x l.source.facts order l.at l.initial.buffer (written_goals x.values order l.label gs)
    → Wrote l.source.s.now x order l.initial.buffer l.buffer l.at l.g l.q gs l.label l.to l.i
