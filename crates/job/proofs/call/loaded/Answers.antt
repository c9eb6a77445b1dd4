use mathlib.Core.Path.{ap}
use lib.ListN.{length, get_or}
use native.Mathlib.Omega.{arith}
use Rattle.term.specs.Layout.{need_of, figures}
use Rattle.job.proofs.Answers.{ran_is, passed_is, cleared_same, cleared_by}
use Rattle.job.proofs.call.loaded.Goals as goal

pub returns-in_default : goal.returns-in_default
returns-in_default c names j ready clauses q short =
    let a = c.args in
    let room = figures a.room in
    let got = rw c.in_default.is at (c.run.ensures a.text.now names j ready (omega (arith, c.requires.3)) clauses q) in
    let t = c.run.new.s in
    passed_is (need_of room) a.text.now a.budget room j a.s.now a.buffer.now got.0
    (cleared_by (need_of room) c.need.result a.s.now t c.need.ensures (ap length got.1) (λ k l. ap (λ x. get_or x k 0) got.1) c.clear.ensures)

pub returns : goal.returns
returns c names j ready clauses q short =
    let a = c.args in
    let room = figures a.room in
    let got = rw c.in-Some.is at (c.run.ensures a.text.now names j ready (omega (arith, c.requires.3)) clauses q) in
    let t = c.run.new.s in
    ran_is (need_of room) a.text.now a.budget room j a.s.now t a.buffer.now got.1.fit
    (cleared_same (need_of room) a.s.now t got.0.size got.0.behind) (c.ended.ensures names j _ got.1 q short)
