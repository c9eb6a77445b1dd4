-- Word by word from the end.
use Rattle.std.proofs.Common.{◌-◌}
use native.Mathlib.Omega.{arith}
use Rattle.run_effects.proofs.Inserting.{opened_begins, opened_on, opened_ends, lower, lower_than}
use Rattle.run_effects.proofs.reduce.insert.Goals.{else-loop-i-test, then-loop-i-test+then-index-place}
use Rattle.run_effects.proofs.reduce.insert.Goals as goal

pub loop-i-init : goal.loop-i-init
loop-i-init c = opened_begins _ _ _

pub loop-i-preserved : goal.loop-i-preserved
loop-i-preserved c =
    let here = c.loop-i in
    let read = c.word_at-before.ensures in
    rw (c.set_at.ensures, read)
    (opened_on c.args.s.now here.s c.args.place c.args.woken here.i c.requires here.invariant (here.i - 1) (omega (arith, c.loop-i-test.true))
    (omega (arith, c.if-index-place.false, c.index.ensures, read)))

pub returns : goal.returns
returns c =
    let a = c.args in
    let here = c.loop-i in
    rw (c.set_at-2.ensures, c.word.ensures)
    (opened_ends a.s.now here.s a.place a.woken here.i c.requires here.invariant
    (elim c.loop-i-test.branch [
      | else-loop-i-test w ↦ lower a.s.now here.s a.place a.woken here.i c.requires here.invariant (omega (arith, w.loop-i-test.false))
      | then-loop-i-test+then-index-place w ↦
          lower_than a.s.now here.s a.place a.woken here.i c.requires here.invariant (here.i - 1) (omega (arith, w.loop-i-test.true))
          (omega (arith, w.if-index-place.true, w.index.ensures, w.word_at-before.ensures))
    ]))
