-- `run_chains::arguments::follow_arguments` meets its contract.
use Rattle.std.proofs.Common.{arith}
use Rattle.run_chains.proofs.Compounds.{compound_inside}
use Rattle.run_chains.proofs.Followed.{first_midway, argument_inside, now_at, midway_more, all_followed}
use Rattle.run_chains.proofs.arguments.follow_arguments.Goals as goal

pub count-i-end-requires : goal.count-i-end-requires
count-i-end-requires c = omega (arith, compound_inside c.requires.4.term c.requires.4.place)

pub loop-i-init : goal.loop-i-init
loop-i-init c x l f ts a = first_midway a c.count-i-end.result c.count-i-end.ensures

pub argument-a-requires : goal.argument-a-requires
argument-a-requires c =
    let p = c.requires in
    argument_inside p.4 (c.loop-i.invariant p.0 p.1 p.2 p.3 p.4) c.loop-i-test.true

pub follow-w-requires : goal.follow-w-requires
follow-w-requires c =
    let p = c.requires in
    let N = now_at p.4 (c.loop-i.invariant p.0 p.1 p.2 p.3 p.4) c.loop-i-test.true c.argument-a.ensures in
    (p.0, N.u, N.reads)

pub loop-i-preserved : goal.loop-i-preserved
loop-i-preserved c x l f ts a =
    let P = c.loop-i.invariant x l f ts a in
    let N = now_at a P c.loop-i-test.true c.argument-a.ensures in
    rw c.set_at.ensures (midway_more a P N (c.follow-w.ensures x N.u N.reads) c.loop-i-test.true)

pub returns : goal.returns
returns c x l f ts a = all_followed a (c.loop-i.invariant x l f ts a) c.loop-i-test.false

pub returns-2 : goal.returns-2
returns-2 c x l f ts a =
    let P = c.loop-i.invariant x l f ts a in
    let N = now_at a P c.loop-i-test.true c.argument-a.ensures in
    rw c.set_at.ensures (all_followed a (midway_more a P N (c.follow-w.ensures x N.u N.reads) c.loop-i-test.true) (omega arith))
