-- The lines of so many variables as were passed are counted.
use mathlib.Core.Path.{◌≡◌}
use mathlib.Core.List.{List}
use Prim.Native.Nat.{ℕ}
use lib.ListN.{length, take}
use Rattle.meaning.specs.Bytes.{Bytes}
use Rattle.term.specs.Setting.{Setting}
use Rattle.report_pairs.specs.Threaded.{shown_values, seen_after_values}
use Rattle.report_count.specs.Counts.{Counts, Counted}
use Rattle.report_sections.specs.Sections.{Variables}
use Rattle.report_sections.proofs.sections.count_values.Given as goal

abbrev pub invariant-loop-v : goal.invariant-loop-v
invariant-loop-v l =
    (text : Bytes) (x : Setting) (seen : List ℕ) (xs : List Bytes) → Counts l.initial.s text x l.facts seen l.at → Variables l.initial.s text x l.q xs
    → (l.v-end ≡ length xs)
    × Counted l.initial.s l.s text x l.facts l.at seen (shown_values x.values seen 0 (take l.v xs)) (seen_after_values x.values seen 0 (take l.v xs)) l.to
