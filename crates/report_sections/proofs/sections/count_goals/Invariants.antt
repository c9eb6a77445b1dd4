-- The lines of the query's goals at the places passed are counted.
use mathlib.Core.List.{List}
use Prim.Native.Nat.{ℕ}
use Rattle.meaning.specs.Bytes.{Bytes}
use Rattle.meaning.specs.State.{Goal}
use Rattle.term.specs.Setting.{Setting}
use Rattle.report_count.specs.Counts.{Counts}
use Rattle.report_sections.specs.Sections.{Listed}
use Rattle.report_sections.proofs.GoalLines.{Progress}
use Rattle.report_sections.proofs.sections.count_goals.Given as goal

abbrev pub invariant-loop-i : goal.invariant-loop-i
invariant-loop-i l =
    (text : Bytes) (x : Setting) (seen : List ℕ) (gs : List Goal) → Counts l.initial.s text x l.facts seen l.at
    → Listed l.initial.s x l.facts l.g l.q gs → Progress l.initial.s l.s text x l.facts l.at seen l.g l.q gs l.label l.to l.i
