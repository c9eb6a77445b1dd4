-- `report_sections::sections::count_line` meets its contract: bytes, a term, bytes.
use Prim.Native.Nat.{ℕ, ◌+◌}
use mathlib.Core.Path.{ap, ◌∙◌}
use native.Mathlib.Omega.{arith}
use Rattle.report_pairs.specs.Laid.{capped}
use Rattle.report_count.proofs.Lengths.{counts_further, counted_line}
use Rattle.report_sections.proofs.sections.count_line.Goals as goal

pub further-requires : goal.further-requires
further-requires c =
    let (text, x, seen, t, counts, shows) = c.requires in
    omega (arith, (c.count_term-to.ensures text x seen t (counts_further _ text x _ seen _ _ _ counts c.further-from.ensures) shows).place)

pub returns : goal.returns
returns c =
    let a = c.args in
    let first = c.further-from in
    let term = c.count_term-to in
    λ text x seen t front back counts shows e f.
    counted_line a.s.now term.new.s text x a.facts seen _ a.at first.result front _ back term.result c.further.result counts.low
    (first.ensures ∙ ap (λ (n : ℕ). capped (a.at + n)) e)
    (term.ensures text x seen t (counts_further _ text x _ seen _ _ _ counts first.ensures) shows)
    (c.further.ensures ∙ ap (λ (n : ℕ). capped (term.result + n)) f)
