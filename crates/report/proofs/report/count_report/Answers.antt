-- `report::report::count_report` meets its contract: so many sections as were passed are counted, and nothing is kept of the others yet.
use Prim.Native.Nat.{◌<◌}
use native.Mathlib.Omega.{arith}
use Rattle.term.specs.Layout.{figures}
use Rattle.report.proofs.Sectionwise.{run_line_short, sofar_none, sofar_more, all_counted}
use Rattle.report.proofs.report.count_report.Goals as goal

pub loop-q-init : goal.loop-q-init
loop-q-init c =
    let a = c.args in
    λ text made low sections free. sofar_none a.s.now text _ a.t made a.queries _ low sections free

pub count_section-to-requires : goal.count_section-to-requires
count_section-to-requires c =
    let start = c in
    let l = c.loop-q in
    let (text, made, sections, steps, free) = start.requires in
    let short = run_line_short start.args.verdict start.args.t.steps steps in
    let p = l.invariant text made (omega (arith, c.run_length-to.ensures, short)) sections free in
    let m = made l.q in
    let h : l.q < start.args.queries = omega arith in
    (text, m.unit, m.variables, m.actives, m.waits, m.fails, p.sections.stands l.q h, p.uncounted l.q (omega arith) h, omega (arith, p.place))

pub loop-q-preserved : goal.loop-q-preserved
loop-q-preserved c =
    let a = c.args in
    let l = c.loop-q in
    let r = c.count_section-to in
    λ text made low sections free.
    let p = l.invariant text made low sections free in
    let m = made l.q in
    let h : l.q < a.queries = omega arith in
    sofar_more a.s.now l.s r.new.s text (figures a.room) a.t made a.queries _ l.q l.to r.result h p
    (r.ensures text m.unit m.variables m.actives m.waits m.fails (p.sections.stands l.q h) (p.uncounted l.q (omega arith) h)
    (omega (arith, p.place)))

pub returns : goal.returns
returns c =
    let a = c.args in
    let l = c.loop-q in
    let first = c.run_length-to in
    λ text made sections steps free.
    let short = run_line_short a.verdict a.t.steps steps in
    let p = l.invariant text made (omega (arith, first.ensures, short)) sections free in
    all_counted a.s.now l.s text (figures a.room) a.verdict a.t made a.queries first.result l.q l.to first.ensures (omega arith) p
