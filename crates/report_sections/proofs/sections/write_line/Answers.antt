-- `report_sections::sections::write_line` meets its contract: a term, one byte.
use Rattle.meaning.specs.Bytes.{bytes}
use Rattle.report_leaves.proofs.Copying.{fits_front, fits_behind}
use Rattle.report_pairs.proofs.Laid.{puts_behind}
use Rattle.report_sections.proofs.WrittenLines.{line_room}
use Rattle.report_sections.proofs.sections.write_line.Goals as goal

pub put-requires : goal.put-requires
put-requires c =
    let (x, order, t, writes, shows, fits) = c.requires in
    let puts = c.write_term-to.ensures x order t writes shows (fits_front _ (bytes "\n") fits) in
    line_room (fits_behind _ (bytes "\n") fits puts)

pub returns : goal.returns
unfolding bytes
returns c =
    λ x order t writes shows fits.
    puts_behind _ _ _ _ _ _ _ _ (c.write_term-to.ensures x order t writes shows (fits_front _ (bytes "\n") fits))
    c.put.ensures
