-- `run_chains::ends::keep_ends` meets its contract.
use Rattle.std.proofs.Common.{arith}
use Rattle.run_chains.proofs.Compounds.{compound_inside}
use Rattle.run_chains.proofs.Keeping.{first_upto, argument_inside, now_at, keeps_of, upto_more}
use Rattle.run_chains.proofs.ends.keep_ends.Goals as goal

pub count-i-end-requires : goal.count-i-end-requires
count-i-end-requires c = omega (arith, compound_inside c.requires.4.term c.requires.4.place)

pub loop-i-init : goal.loop-i-init
loop-i-init c x l f ts a = first_upto a c.count-i-end.result c.count-i-end.ensures

pub argument-w-requires : goal.argument-w-requires
argument-w-requires c =
    let p = c.requires in
    argument_inside p.4 (c.loop-i.invariant p.0 p.1 p.2 p.3 p.4) c.loop-i-test.true

pub keep_end-requires : goal.keep_end-requires
keep_end-requires c =
    let p = c.requires in
    let P = c.loop-i.invariant p.0 p.1 p.2 p.3 p.4 in
    let N = now_at p.4 P c.loop-i-test.true c.argument-w.ensures in
    (p.0, N.u, keeps_of p.4 P N)

pub loop-i-preserved : goal.loop-i-preserved
loop-i-preserved c x l f ts a =
    let P = c.loop-i.invariant x l f ts a in
    let N = now_at a P c.loop-i-test.true c.argument-w.ensures in
    upto_more a P N (c.keep_end.ensures x N.u (keeps_of a P N))

pub returns-2 : goal.returns-2
returns-2 c x l f ts a =
    let P = c.loop-i.invariant x l f ts a in
    let N = now_at a P c.loop-i-test.true c.argument-w.ensures in
    (upto_more a P N (c.keep_end.ensures x N.u (keeps_of a P N))).kept
