use native.Mathlib.Omega.{arith}
use lib.ListN.{length}
use Rattle.meaning.specs.Run.{run}
use Rattle.meaning.specs.Report.{report}
use Rattle.term.specs.Layout.{need_of, figures}
use Rattle.report.specs.Promise.{with_report}
use Rattle.job.proofs.Answers.{delivered_is, cleared_by}
use Rattle.job.proofs.call.ended.Goals as goal

pub returns : goal.returns
unfolding with_report
returns c names j limit f q short =
    let a = c.args in
    let room = figures a.room in
    let written = report j.queries (run j limit room) in
    let got = c.report-n.ensures names j limit f q short in
    delivered_is (need_of room) a.text.now limit room written a.s.now a.buffer.now
    (c.told.ensures (length written) got.length_is) got.buffer_is
    (cleared_by (need_of room) c.need.result a.s.now c.report-n.new.s
    c.need.ensures got.size (λ k h. got.behind k (omega arith)) c.clear.ensures)
