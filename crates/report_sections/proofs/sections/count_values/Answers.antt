-- `report_sections::sections::count_values` meets its contract: the lines of so many variables as were passed are counted.
use mathlib.Core.Path.{◌≡◌, ap, ◌∙◌}
use native.Mathlib.Omega.{arith}
use lib.ListN.{take}
use lib.Seq.{take_all}
use Rattle.report_pairs.specs.Threaded.{shown_values, seen_after_values}
use Rattle.report_count.proofs.Lengths.{counts_on, counted_as}
use Rattle.report_sections.proofs.ValueLines.{variables_kept, value_counted, no_values}
use Rattle.report_sections.proofs.sections.count_values.Goals as goal

pub loop-v-init : goal.loop-v-init
loop-v-init c =
    let a = c.args in
    λ text x seen xs counts vs. (c.variables-v-end.ensures ∙ vs.number, no_values a.s.now text x a.facts seen a.at xs counts)

pub count_value-to-requires : goal.count_value-to-requires
count_value-to-requires c =
    let a = c.args in
    let l = c.loop-v in
    let (text, x, seen, xs, counts, vs) = c.requires in
    let (all, counted) = l.invariant text x seen xs counts vs in
    let ready = counts_on a.s.now l.s text x a.facts a.at seen _ _ l.to counted in
    (text, x, counted.after, xs, ready, variables_kept a.s.now l.s text x a.facts a.q xs counts.readable counted.changed vs, omega arith)

pub loop-v-preserved : goal.loop-v-preserved
loop-v-preserved c =
    let a = c.args in
    let l = c.loop-v in
    let r = c.count_value-to in
    λ text x seen xs counts vs.
    let (all, counted) = l.invariant text x seen xs counts vs in (
      all,
      value_counted a.s.now l.s r.new.s text x a.facts a.at seen xs l.v l.to r.result (omega arith) counted
          (r.ensures text x counted.after xs (counts_on a.s.now l.s text x a.facts a.at seen _ _ l.to counted)
          (variables_kept a.s.now l.s text x a.facts a.q xs counts.readable counted.changed vs) (omega arith)),
    )

pub returns : goal.returns
returns c =
    let l = c.loop-v in
    let a = c.args in
    λ text x seen xs counts vs.
    let (all, counted) = l.invariant text x seen xs counts vs in
    let whole : take l.v xs ≡ xs = take_all l.v xs (omega arith) in
    counted_as a.s.now l.s text x a.facts a.at seen _ _ _ _ l.to (ap (shown_values x.values seen 0) whole)
    (ap (seen_after_values x.values seen 0) whole) counted
