-- `run_chains::follow::follow` meets its contract.
use Rattle.std.proofs.Common.{◌-◌, ◌+◌, ◌≡◌, arith}
use Rattle.run_chains.proofs.Following.{pass_on, pass_end, passed_all}
use Rattle.run_chains.proofs.follow.follow.Goals as goal

pub returns-in_default : goal.returns-in_default
returns-in_default c x u r =
    let a = c.args in
    let P = c.loop.invariant x u r in
    passed_all a.s.now x a.values a.links (a.links - c.loop.counter) u c.loop.t P
    (rw c.in_default.is at (c.ahead.ensures x P.term P.reads))

pub loop-preserved : goal.loop-preserved
loop-preserved c x u r =
    let a = c.args in
    let P = c.loop.invariant x u r in
    let one : a.links - (c.loop.counter + 1) ≡ a.links - c.loop.counter - 1 = omega arith in
    rw one
    (pass_on a.s.now x a.values a.links (a.links - c.loop.counter) u c.loop.t c.in-Some.v P
    (rw c.in-Some.is at (c.ahead.ensures x P.term P.reads)))

pub returns : goal.returns
returns c x u r =
    let a = c.args in
    pass_end a.s.now x a.values a.links (a.links - c.loop.counter) u c.loop.t (c.loop.invariant x u r) (omega arith)
