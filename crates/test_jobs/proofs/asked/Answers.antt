use native.Mathlib.Omega.{arith}
use Rattle.job.specs.Calling.{room_of, given}
use Rattle.job.proofs.Promise.{ran_fits}
use Rattle.test_jobs.proofs.asked.Goals as goal

pub show-requires : goal.show-requires
show-requires c n e =
    let a = c.args in
    let called = c.call-answer in
    let g = given a.text.now a.h.budget (room_of a.h.pairs a.h.compounds a.h.goals) a.s.now a.buffer.now in
    omega (arith, ran_fits g called.result called.new.buffer called.new.s called.ensures n e, called.auto.buffer)
