-- `run_circle::circle::from_entries` meets its contract: through the entries passed there is no circle.
use native.Mathlib.Omega.{arith}
use Rattle.run_circle.proofs.Starts as starts
use Rattle.run_circle.proofs.circle.from_entries.Goals as goal

pub loop-i-init : goal.loop-i-init
loop-i-init c =
    let a = c.args in
    λ y s₀ tried held. starts.passed_none s₀ a.s.now y a.values a.marks a.n a.stamp tried held

pub from_term-requires : goal.from_term-requires
from_term-requires c =
    let a = c.args in
    starts.entry_call a.s.now a.values a.marks a.n a.stamp c.loop-i.s c.loop-i.i c.loop-i.invariant
    c.loop-i-test.true c.entry_pair-z.result c.word.result c.given_term-h.result
    c.entry_pair-z.ensures c.word.ensures c.given_term-h.ensures c.requires

pub returns-then-from_term-eq-REACHED : goal.returns-then-from_term-eq-REACHED
returns-then-from_term-eq-REACHED c =
    let a = c.args in
    starts.entry_tells a.s.now a.values a.marks a.n a.stamp c.loop-i.s c.loop-i.i c.loop-i.invariant
    c.loop-i-test.true c.entry_pair-z.result c.word.result c.given_term-h.result
    c.entry_pair-z.ensures c.word.ensures c.given_term-h.ensures
    c.from_term.new.s c.from_term.result c.from_term.ensures c.if-from_term-eq-REACHED.true

pub loop-i-preserved : goal.loop-i-preserved
loop-i-preserved c =
    let a = c.args in
    starts.passing_next a.s.now a.values a.marks a.n a.stamp c.loop-i.s c.loop-i.i c.loop-i.invariant
    c.loop-i-test.true c.entry_pair-z.result c.word.result c.given_term-h.result
    c.entry_pair-z.ensures c.word.ensures c.given_term-h.ensures
    c.from_term.new.s c.from_term.result c.from_term.ensures c.if-from_term-eq-REACHED.false

pub returns : goal.returns
returns c =
    let a = c.args in
    λ y s₀ tried held. starts.passed_all s₀ a.s.now y a.values a.marks a.n a.stamp tried held c.loop-i.s c.loop-i.i
    (c.loop-i.invariant y s₀ tried held) c.loop-i-test.false (omega arith)
