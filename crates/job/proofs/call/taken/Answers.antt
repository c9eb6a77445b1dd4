use Rattle.std.proofs.lemmas.Result.{err_from_is_err_and}
use Rattle.term.specs.Layout.{need_of, figures}
use Rattle.job.proofs.Answers.{taken_job, taken_refused, cleared_same}
use Rattle.job.proofs.call.taken.Goals as goal

pub returns-in_err-clauses : goal.returns-in_err-clauses
returns-in_err-clauses c =
    let a = c.args in
    let room = figures a.room in
    let p = err_from_is_err_and c.from_residual.result c.from_residual.ensures.1 in
    let got = rw c.in_err-clauses.was at c.load.ensures in
    rw (p.1, p.2) (taken_refused (need_of room) a.text.now a.budget room got.0 a.s.now c.load.new.s a.buffer.now got.1 got.2 got.3)

pub returns : goal.returns
returns c =
    let a = c.args in
    let room = figures a.room in
    let t = c.load.new.s in
    let got = rw c.in_ok-clauses.was at c.load.ensures in
    taken_job (need_of room) a.text.now a.budget room got.0 a.s.now t a.buffer.now got.1
    (cleared_same (need_of room) a.s.now t got.7.size got.7.above)
    (c.loaded.ensures got.5 got.0 got.6 got.2 got.3 c.requires.3)
