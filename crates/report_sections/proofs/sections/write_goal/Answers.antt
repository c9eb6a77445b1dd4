-- `report_sections::sections::write_goal` meets its contract: the word, the goal, its origin, one byte.
use mathlib.Core.Path.{sym}
use Rattle.meaning.specs.Bytes.{bytes}
use Rattle.report_tallies.specs.Origins.{origin_of}
use Rattle.report_pairs.proofs.Laid.{puts_behind}
use Rattle.report_leaves.proofs.Copying.{fits_front, fits_behind}
use Rattle.report_sections.proofs.ValueLines.{writes_as}
use Rattle.report_sections.proofs.WrittenLines.{line_room}
use Rattle.report_sections.proofs.sections.write_goal.Goals as goal

pub words-to-requires : goal.words-to-requires
words-to-requires c =
    let (x, order, t, writes, shows, fits) = c.requires in
    (fits_front c.args.label.now _ fits).room

pub write_term-to-requires : goal.write_term-to-requires
write_term-to-requires c =
    let S = c in
    let a = S.args in
    let term = c.goal_term-w in
    let label = c.words-to in
    let (x, order, t, writes, shows, fits) = S.requires in
    let first = fits_behind a.label.now _ fits label.ensures in
    let ready = writes_as a.source.now.s.now a.source.now.text.now x a.source.now.facts order t _ _ _ _ (sym label.ensures.place) (sym label.auto.buffer) writes in
    (x, order, t, ready, rw term.ensures shows, fits_front _ _ first)

pub origin-to-requires : goal.origin-to-requires
origin-to-requires c =
    let S = c in
    let a = S.args in
    let term = c.goal_term-w in
    let label = c.words-to in
    let shown = c.write_term-to in
    let (x, order, t, writes, shows, fits) = S.requires in
    let first = fits_behind a.label.now _ fits label.ensures in
    let ready = writes_as a.source.now.s.now a.source.now.text.now x a.source.now.facts order t _ _ _ _ (sym label.ensures.place) (sym label.auto.buffer) writes in
    let puts = shown.ensures x order t ready (rw term.ensures shows) (fits_front _ _ first) in
    (fits_front (origin_of a.goal) (bytes "\n") (fits_behind _ _ first puts)).room

pub put-requires : goal.put-requires
put-requires c =
    let S = c in
    let a = S.args in
    let term = c.goal_term-w in
    let label = c.words-to in
    let shown = c.write_term-to in
    let (x, order, t, writes, shows, fits) = S.requires in
    let first = fits_behind a.label.now _ fits label.ensures in
    let ready = writes_as a.source.now.s.now a.source.now.text.now x a.source.now.facts order t _ _ _ _ (sym label.ensures.place) (sym label.auto.buffer) writes in
    let puts = shown.ensures x order t ready (rw term.ensures shows) (fits_front _ _ first) in
    line_room (fits_behind _ _ (fits_behind _ _ first puts) c.origin-to.ensures)

pub returns : goal.returns
unfolding bytes
returns c =
    let S = c in
    let a = S.args in
    let term = c.goal_term-w in
    let label = c.words-to in
    let shown = c.write_term-to in
    λ x order t writes shows fits.
    let first = fits_behind a.label.now _ fits label.ensures in
    let ready = writes_as a.source.now.s.now a.source.now.text.now x a.source.now.facts order t _ _ _ _ (sym label.ensures.place) (sym label.auto.buffer) writes in
    let puts = shown.ensures x order t ready (rw term.ensures shows) (fits_front _ _ first) in
    puts_behind _ _ _ _ _ _ _ _ label.ensures
    (puts_behind _ _ _ _ _ _ _ _ puts (puts_behind _ _ _ _ _ _ _ _ c.origin-to.ensures c.put.ensures))
