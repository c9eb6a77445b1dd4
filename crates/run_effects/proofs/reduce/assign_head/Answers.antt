-- Pair by pair.
use native.Mathlib.Omega.{arith}
use Rattle.run_effects.proofs.Assigned.{none_given, one_given}
use Rattle.run_effects.proofs.reduce.assign_head.Goals as goal

pub loop-x-init : goal.loop-x-init
loop-x-init c = none_given c.args.s.now c.args.values c.args.pair c.args.pairs

pub loop-x-preserved : goal.loop-x-preserved
loop-x-preserved c =
    let a = c.args in
    let here = c.loop-x in
    rw c.set_at.ensures
    (one_given a.s.now here.s a.values a.pair a.pairs here.x _ c.requires.0 c.requires.1 c.requires.2 here.invariant
    c.loop-x-test.true c.word_at-w.ensures)

pub returns : goal.returns
returns c = record { kept = c.loop-x.invariant.kept; given = λ x h. c.loop-x.invariant.given x (omega (arith, c.loop-x-test.false)) }
