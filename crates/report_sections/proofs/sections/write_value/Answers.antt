-- `report_sections::sections::write_value` meets its contract: the name, three bytes, the value, one byte.
use mathlib.Core.Path.{sym, ◌∙◌}
use mathlib.Core.List.{[], ◌++◌}
use native.Mathlib.Omega.{arith}
use lib.ListN.{get_or}
use Rattle.meaning.specs.Bytes.{bytes}
use Rattle.report_pairs.proofs.Laid.{puts_behind}
use Rattle.report_leaves.proofs.Copying.{fits_behind}
use Rattle.report_sections.proofs.ValueLines.{shows_variable, name_size, puts_name, writes_as}
use Rattle.report_sections.proofs.WrittenLines.{value_line_size}
use Rattle.report_sections.proofs.sections.write_value.Goals as goal

pub spelling-to-requires : goal.spelling-to-requires
spelling-to-requires c =
    let a = c.args in
    let (x, order, xs, vs, h, writes, fits) = c.requires in
    let spelled = name_size a.source.now.s.now a.source.now.text.now x a.q xs a.v vs h in
    let size = value_line_size x.values order xs a.v h in
    omega (arith, fits.room, size, spelled.sized, spelled.inside, c.spelled-from.ensures.1, c.spelled-from.ensures.0)

pub words-to-requires : goal.words-to-requires
words-to-requires c =
    let a = c.args in
    let (x, order, xs, vs, h, writes, fits) = c.requires in
    let spelled = name_size a.source.now.s.now a.source.now.text.now x a.q xs a.v vs h in
    let size = value_line_size x.values order xs a.v h in
    omega (arith, fits.room, size, spelled.sized, c.spelled-from.ensures.1, c.spelling-to.auto.buffer, (puts_name a.source.now.text.now _ _ _ _ _ _ _ _ _ c.spelled-from.ensures.0 c.spelled-from.ensures.1 spelled c.spelling-to.ensures).place)

pub write_line-requires : goal.write_line-requires
unfolding bytes
write_line-requires c =
    let a = c.args in
    let (x, order, xs, vs, h, writes, fits) = c.requires in
    let spelled = name_size a.source.now.s.now a.source.now.text.now x a.q xs a.v vs h in
    let name = puts_name a.source.now.text.now _ _ _ _ _ _ _ _ _ c.spelled-from.ensures.0 c.spelled-from.ensures.1 spelled c.spelling-to.ensures in
    let same = c.words-to.auto.buffer ∙ c.spelling-to.auto.buffer in (
      x,
      order,
      _,
      writes_as a.source.now.s.now a.source.now.text.now x a.source.now.facts order _ _ _ _ _ (omega (arith, name.place, c.words-to.ensures.place)) (sym same) writes,
      shows_variable a.source.now.s.now a.source.now.text.now x a.q xs a.v _ vs h c.variable-w.ensures,
      fits_behind (get_or xs a.v [] ++ bytes " = ") _ fits (puts_behind _ _ _ _ _ _ _ _ name c.words-to.ensures),
    )

pub returns : goal.returns
unfolding bytes
returns c =
    let a = c.args in
    λ x order xs vs h writes fits.
    let spelled = name_size a.source.now.s.now a.source.now.text.now x a.q xs a.v vs h in
    let name = puts_name a.source.now.text.now _ _ _ _ _ _ _ _ _ c.spelled-from.ensures.0 c.spelled-from.ensures.1 spelled c.spelling-to.ensures in
    let same = c.words-to.auto.buffer ∙ c.spelling-to.auto.buffer in
    let first = puts_behind _ _ _ _ _ _ _ _ name c.words-to.ensures in
    puts_behind _ _ _ _ _ _ _ _ first
    (c.write_line.ensures x order _ (writes_as a.source.now.s.now a.source.now.text.now x a.source.now.facts order _ _ _ _ _ (omega (arith, name.place, c.words-to.ensures.place)) (sym same) writes)
    (shows_variable a.source.now.s.now a.source.now.text.now x a.q xs a.v _ vs h c.variable-w.ensures)
    (fits_behind (get_or xs a.v [] ++ bytes " = ") _ fits first))
