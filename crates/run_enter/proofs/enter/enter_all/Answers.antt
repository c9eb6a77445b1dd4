-- Query by query they are entered.
use Rattle.std.proofs.Common.{refl}
use native.Mathlib.Omega.{arith}
use Rattle.term.specs.Layout.{figures}
use Rattle.run_enter.proofs.EnterCalls.{partly_none, partly_asks, partly_more, partly_all}
use Rattle.run_enter.proofs.enter.enter_all.Goals as goal

pub loop-q-init : goal.loop-q-init
loop-q-init c = λ text names j r fit number.
    partly_none c.args.s.now text names j (figures c.args.room) _ r fit (refl, refl, refl, refl, refl, refl, refl, refl, refl)

pub enter-t-requires : goal.enter-t-requires
enter-t-requires c =
    let (text, names, j, r, fit, number) = c.requires in
    let here = c.loop-q in
    partly_asks c.args.s.now here.s text names j (figures c.args.room) here.q here.t (here.invariant text names j r fit number)
    (omega (arith, c.loop-q-test.true, number))

pub loop-q-preserved : goal.loop-q-preserved
loop-q-preserved c = λ text names j r fit number.
    let here = c.loop-q in
    partly_more c.args.s.now here.s text names j (figures c.args.room) here.q here.t (here.invariant text names j r fit number) _ _
    (omega (arith, c.loop-q-test.true, number)) c.enter-t.ensures

pub returns : goal.returns
returns c = λ text names j r fit number.
    let here = c.loop-q in
    partly_all c.args.s.now here.s text names j (figures c.args.room) here.q here.t (here.invariant text names j r fit number)
    (omega (arith, c.loop-q-test.false, number))
