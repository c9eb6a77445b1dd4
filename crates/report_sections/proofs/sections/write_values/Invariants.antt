-- The lines of so many variables as were passed are written.
use mathlib.Core.Path.{◌≡◌}
use mathlib.Core.List.{List}
use Prim.Native.Nat.{ℕ, ◌<◌}
use lib.ListN.{length, take}
use Rattle.meaning.specs.Bytes.{Bytes}
use Rattle.meaning.specs.Terms.{writer, Term}
use Rattle.term.specs.Setting.{Setting}
use Rattle.report_pairs.specs.Threaded.{full, written_values}
use Rattle.report_pairs.specs.Laid.{Puts}
use Rattle.report_pairs.specs.Facts.{Readable}
use Rattle.report_leaves.specs.Fits.{Fits}
use Rattle.report_leaves.specs.Writes.{Numbered}
use Rattle.report_sections.specs.Sections.{Variables}
use Rattle.report_sections.proofs.sections.write_values.Given as goal

abbrev pub invariant-loop-v : goal.invariant-loop-v
invariant-loop-v l =
    (x : Setting) (order : List ℕ) (xs : List Bytes) → Readable l.source.s.now l.source.text.now x l.source.facts → Variables l.source.s.now l.source.text.now x l.q xs
    → ((n : ℕ) → n < length xs → Numbered l.source.s.now x l.source.facts order (full x.values (Term.variable writer n)))
    → Fits l.source.s.now x l.source.facts order l.at l.initial.buffer (written_values x.values order 0 xs)
    → (l.v-end ≡ length xs) × Puts l.initial.buffer l.buffer l.at l.to (written_values x.values order 0 (take l.v xs))
