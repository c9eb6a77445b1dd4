-- `report_sections::sections::write_values` meets its contract: the lines of so many variables as were passed are written.
use Prim.Native.Nat.{◌+◌, ◌<◌}
use mathlib.Core.Path.{◌≡◌, ap, ◌∙◌}
use mathlib.Core.List.{[]}
use native.Mathlib.Omega.{arith}
use lib.ListN.{length, get_or, take}
use lib.Seq.{take_all}
use Rattle.meaning.specs.Terms.{writer, Term}
use Rattle.report_pairs.specs.Threaded.{written_values}
use Rattle.report_leaves.specs.Writes.{Writes}
use Rattle.report_pairs.proofs.Laid.{puts_none, puts_behind, puts_as}
use Rattle.report_sections.proofs.WrittenLines.{values_more, value_fits, value_line_size, no_values_written}
use Rattle.report_sections.proofs.sections.write_values.Goals as goal

pub variables-v-end-requires : goal.variables-v-end-requires
variables-v-end-requires c =
    let (x, order, xs, readable, vs, numbered, fits) = c.requires in
    omega (arith, vs.small, readable.inside, readable.behind)

pub loop-v-init : goal.loop-v-init
loop-v-init c =
    let a = c.args in
    λ x order xs readable vs numbered fits.
    (c.variables-v-end.ensures ∙ vs.number, puts_as _ _ a.buffer.now a.buffer.now a.at a.at (no_values_written x.values order xs) (puts_none a.buffer.now a.at))

pub write_value-to-requires : goal.write_value-to-requires
write_value-to-requires c =
    let a = c.args in
    let l = c.loop-v in
    let (x, order, xs, readable, vs, numbered, fits) = c.requires in
    let (all, puts) = l.invariant x order xs readable vs numbered fits in
    let h : l.v < length xs = omega arith in
    let fit = value_fits x.values order xs l.v h fits puts in
    let size = value_line_size x.values order xs l.v h in
    let writes : Writes a.source.now.s.now a.source.now.text.now x a.source.now.facts order (Term.variable writer l.v) (l.to + length (get_or xs l.v []) + 3) (length l.buffer) =
    record { readable = readable; numbered = numbered l.v h; fits = omega (arith, fit.room, size) } in
    (x, order, xs, vs, h, writes, fit)

pub loop-v-preserved : goal.loop-v-preserved
loop-v-preserved c =
    let a = c.args in
    let l = c.loop-v in
    let r = c.write_value-to in
    λ x order xs readable vs numbered fits.
    let (all, puts) = l.invariant x order xs readable vs numbered fits in
    let h : l.v < length xs = omega arith in
    let fit = value_fits x.values order xs l.v h fits puts in
    let size = value_line_size x.values order xs l.v h in
    let writes : Writes a.source.now.s.now a.source.now.text.now x a.source.now.facts order (Term.variable writer l.v) (l.to + length (get_or xs l.v []) + 3) (length l.buffer) =
    record { readable = readable; numbered = numbered l.v h; fits = omega (arith, fit.room, size) } in (
      all,
      puts_as _ _ a.buffer.now r.new.buffer a.at r.result (values_more x.values order xs l.v h)
          (puts_behind _ _ a.buffer.now l.buffer r.new.buffer a.at l.to r.result puts (r.ensures x order xs vs h writes fit)),
    )

pub returns : goal.returns
returns c =
    let a = c.args in
    let l = c.loop-v in
    λ x order xs readable vs numbered fits.
    let (all, puts) = l.invariant x order xs readable vs numbered fits in
    let whole : take l.v xs ≡ xs = take_all l.v xs (omega arith) in
    puts_as _ _ a.buffer.now l.buffer a.at l.to (ap (written_values x.values order 0) whole) puts
