-- `report::report::write_report` meets its contract: the first line, and behind it so many sections as were passed are written.
use Prim.Native.Nat.{◌<◌}
use mathlib.Core.Path.{◌≡◌, ap}
use native.Mathlib.Omega.{arith}
use Rattle.term.specs.Layout.{figures}
use Rattle.report.specs.All.{sections_bytes}
use Rattle.report_pairs.proofs.Laid.{puts_behind, puts_as}
use Rattle.report.proofs.Sectionwise.{ahead_first, section_ahead, none_put, more_put}
use Rattle.report.proofs.report.write_report.Goals as goal

pub loop-q-init : goal.loop-q-init
loop-q-init c =
    let a = c.args in
    let first = c.run_line-to in
    λ made sections numbers ahead. none_put first.new.buffer first.result a.s.now (figures a.room) a.t made

pub write_section-to-requires : goal.write_section-to-requires
write_section-to-requires c =
    let start = c in
    let a = start.args in
    let l = c.loop-q in
    let first = c.run_line-to in
    let (made, sections, steps, numbers, stored, fits) = start.requires in
    let ahead = ahead_first a.s.now (figures a.room) a.verdict a.t made a.queries first.result a.buffer.now first.new.buffer stored fits first.ensures in
    let p = l.invariant made sections numbers ahead in
    let m = made l.q in
    let h : l.q < a.queries = omega arith in (
      m.unit,
      m.variables,
      m.actives,
      m.waits,
      m.fails,
      sections.stands l.q h,
      numbers l.q h,
      section_ahead ahead l.q h p,
    )

pub loop-q-preserved : goal.loop-q-preserved
loop-q-preserved c =
    let a = c.args in
    let first = c.run_line-to in
    let l = c.loop-q in
    let r = c.write_section-to in
    λ made sections numbers ahead.
    let p = l.invariant made sections numbers ahead in
    let m = made l.q in
    let h : l.q < a.queries = omega arith in
    more_put first.new.buffer l.buffer r.new.buffer first.result l.to r.result a.s.now (figures a.room) a.t made l.q p
    (r.ensures m.unit m.variables m.actives m.waits m.fails (sections.stands l.q h) (numbers l.q h)
    (section_ahead ahead l.q h p))

pub returns : goal.returns
returns c =
    let a = c.args in
    let first = c.run_line-to in
    let l = c.loop-q in
    λ made sections steps numbers stored fits.
    let ahead =
    ahead_first a.s.now (figures a.room) a.verdict a.t made a.queries first.result a.buffer.now first.new.buffer stored fits first.ensures in
    let p = l.invariant made sections numbers ahead in
    let all : l.q ≡ a.queries = omega arith in
    puts_behind _ _ a.buffer.now first.new.buffer l.buffer 0 first.result l.to first.ensures
    (puts_as _ _ first.new.buffer l.buffer first.result l.to (ap (sections_bytes a.s.now (figures a.room) a.t made) all) p)
