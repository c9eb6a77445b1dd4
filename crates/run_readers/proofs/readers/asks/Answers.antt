-- `run_readers::readers::asks` meets its contract: one with no term beside it settles the answer, whatever stands behind it.
use Rattle.std.proofs.Common.{◌≡◌, sym, ap, ◌∙◌, arith}
use Rattle.run_readers.specs.Readers.{is_some}
use Rattle.run_readers.proofs.Asking.{asked_none, asked_less, asked_here}
use Rattle.run_readers.proofs.readers.asks.Goals as goal

pub loop-i-init : goal.loop-i-init
loop-i-init c = asked_none c.args.s.now

pub returns-then-word_at-eq0 : goal.returns-then-word_at-eq0
returns-then-word_at-eq0 c =
    sym (asked_here c.args.s.now c.loop-i.i c.args.n c.loop-i-test.true (sym c.word_at.ensures ∙ c.if-word_at-eq0.true))

pub loop-i-preserved : goal.loop-i-preserved
loop-i-preserved c = asked_less c.args.s.now c.loop-i.i (λ e. c.if-word_at-eq0.false (c.word_at.ensures ∙ e)) ∙ c.loop-i.invariant

pub returns : goal.returns
unfolding is_some
returns c =
    let all : c.loop-i.i ≡ c.args.n = omega arith in
    sym (ap is_some (rw all at c.loop-i.invariant))
