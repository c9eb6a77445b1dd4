-- `report::report::report` meets its contract: counted, and written where it fits.
use native.Mathlib.Omega.{arith}
use Rattle.term.specs.Layout.{figures}
use Rattle.report.proofs.Reported.{asked, too_long, no_place, asked_to_write, written_whole}
use Rattle.report.proofs.report.report.Goals as goal

pub count_report-n-requires : goal.count_report-n-requires
count_report-n-requires c =
    let st = c in
    let f = c.forget in
    let w = c.waiters in
    let p = c.note_pairs in
    let (names, j, limit, F, all, short) = st.requires in
    asked st.args.s.now f.new.s p.new.s st.args.text.now names (figures st.args.room) j limit st.args.verdict st.args.t w.result st.args.queries F all short w.ensures f.ensures p.ensures

pub returns-then-n-eq-CEILING : goal.returns-then-n-eq-CEILING
returns-then-n-eq-CEILING c =
    let st = c in
    let f = c.forget in
    let w = c.waiters in
    let p = c.note_pairs in
    let n = c.count_report-n in
    λ names j limit F all short.
    too_long st.args.s.now f.new.s p.new.s st.args.text.now names (figures st.args.room) j limit st.args.verdict st.args.t w.result st.args.queries F all short w.ensures f.ensures p.ensures n.new.s n.result n.ensures st.args.buffer.now (omega arith)

pub returns-then-buffer-n : goal.returns-then-buffer-n
returns-then-buffer-n c =
    let st = c in
    let f = c.forget in
    let w = c.waiters in
    let p = c.note_pairs in
    let n = c.count_report-n in
    λ names j limit F all short.
    no_place st.args.s.now f.new.s p.new.s st.args.text.now names (figures st.args.room) j limit st.args.verdict st.args.t w.result st.args.queries F all short w.ensures f.ensures p.ensures n.new.s n.result n.ensures st.args.buffer.now (omega arith)

pub write_report-requires : goal.write_report-requires
write_report-requires c =
    let st = c in
    let f = c.forget in
    let w = c.waiters in
    let p = c.note_pairs in
    let n = c.count_report-n in
    let (names, j, limit, F, all, short) = st.requires in
    asked_to_write st.args.s.now f.new.s p.new.s st.args.text.now names (figures st.args.room) j limit st.args.verdict st.args.t w.result st.args.queries F all short w.ensures f.ensures p.ensures n.new.s n.result n.ensures st.args.buffer.now (λ e. omega arith) (omega arith)

pub returns : goal.returns
returns c =
    let st = c in
    let f = c.forget in
    let w = c.waiters in
    let p = c.note_pairs in
    let n = c.count_report-n in
    let b = c.write_report in
    λ names j limit F all short.
    written_whole st.args.s.now f.new.s p.new.s st.args.text.now names (figures st.args.room) j limit st.args.verdict st.args.t w.result st.args.queries F all short w.ensures f.ensures p.ensures n.new.s n.result n.ensures st.args.buffer.now c.if-n-eq-CEILING.false (omega arith) b.new.buffer b.result b.ensures
