use native.Mathlib.Omega.{arith}
use Rattle.job.specs.Calling.{room_of, given}
use Rattle.job.proofs.Promise.{ran_fits}
use Rattle.glp.proofs.answered.Goals as goal

pub show-requires : goal.show-requires
show-requires c n e =
    let a = c.args in
    let called = c.call-answer in
    let g = given a.text.now 10000 (room_of 1024 1024 128) a.s.now a.buffer.now in
    omega (arith, ran_fits g called.result called.new.buffer called.new.s called.ensures n e, called.auto.buffer)
