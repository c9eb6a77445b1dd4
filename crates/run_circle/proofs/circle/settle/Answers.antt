-- `run_circle::circle::settle` meets its contract: the term at hand has ground pairs only, and the weight of what is left falls.
use Prim.Native.Nat.{◌<◌}
use Rattle.run_circle.specs.Search.{LastLeads}
use mathlib.Core.Path.{sym, ap, ◌∙◌}
use native.Mathlib.Omega.{arith}
use Rattle.term.specs.Words.{writer_word}
use Rattle.run_circle.specs.Ground.{stamp_in}
use Rattle.run_circle.proofs.Settle.{settling_first, settling_last, settle_count, settling_argument, argument_lighter, settle_mark, value_lighter, settling_value}
use Rattle.run_circle.proofs.circle.settle.Goals as goal

pub loop-q-init : goal.loop-q-init
loop-q-init c =
    settling_first c.args.s.now c.args.values c.args.marks c.args.stamp c.args.pair (writer_word c.word.result) (omega (arith, c.word.ensures))

pub last-requires : goal.last-requires
last-requires c =
    settle_count c.args.s.now c.args.values c.args.marks c.args.stamp c.args.pair c.loop-q.s c.loop-q.t c.loop-q.invariant c.if-t-eq-COMPOUND.true
    c.index-q.result c.index-q.ensures c.requires

pub returns-in_default : goal.returns-in_default
returns-in_default c =
    settling_last c.args.s.now c.args.values c.args.marks c.args.stamp c.args.pair c.loop-q.s c.loop-q.t c.loop-q.invariant

pub argument-t-requires : goal.argument-t-requires
argument-t-requires c =
    let la : (0 < c.in-Some.k) × LastLeads c.loop-q.s c.index-q.result c.in-Some.k = rw c.in-Some.is at c.last.ensures in
    omega (
      arith,
      settle_count c.args.s.now c.args.values c.args.marks c.args.stamp c.args.pair c.loop-q.s c.loop-q.t c.loop-q.invariant c.if-t-eq-COMPOUND.true
          c.index-q.result c.index-q.ensures c.requires,
      la.1.among,
    )

pub loop-q-smaller-then-t-eq-COMPOUND : goal.loop-q-smaller-then-t-eq-COMPOUND
loop-q-smaller-then-t-eq-COMPOUND c =
    let la : (0 < c.in-Some.k) × LastLeads c.loop-q.s c.index-q.result c.in-Some.k = rw c.in-Some.is at c.last.ensures in
    argument_lighter c.args.s.now c.args.values c.args.marks c.args.stamp c.args.pair c.loop-q.s c.loop-q.t c.loop-q.invariant c.if-t-eq-COMPOUND.true
    c.index-q.result c.index-q.ensures c.in-Some.k la.1 (λ e. omega (arith, la.0)) c.argument-t.result c.argument-t.ensures c.requires

pub loop-q-preserved-then-t-eq-COMPOUND : goal.loop-q-preserved-then-t-eq-COMPOUND
loop-q-preserved-then-t-eq-COMPOUND c =
    let la : (0 < c.in-Some.k) × LastLeads c.loop-q.s c.index-q.result c.in-Some.k = rw c.in-Some.is at c.last.ensures in
    settling_argument c.args.s.now c.args.values c.args.marks c.args.stamp c.args.pair c.loop-q.s c.loop-q.t c.loop-q.invariant c.if-t-eq-COMPOUND.true
    c.index-q.result c.index-q.ensures c.in-Some.k la.1 (λ e. omega (arith, la.0)) c.argument-t.result c.argument-t.ensures

pub word_at-m-requires : goal.word_at-m-requires
word_at-m-requires c =
    settle_mark c.args.s.now c.args.values c.args.marks c.args.stamp c.args.pair c.loop-q.s c.loop-q.t c.loop-q.invariant c.if-t-eq-COMPOUND.false (rw
    c.loop-q-test.true at c.leads.ensures) c.index-q.result c.index-q.ensures c.requires

pub returns-then-m-stamp : goal.returns-then-m-stamp
returns-then-m-stamp c =
    settling_last c.args.s.now c.args.values c.args.marks c.args.stamp c.args.pair c.loop-q.s c.loop-q.t c.loop-q.invariant

pub loop-q-smaller : goal.loop-q-smaller
loop-q-smaller c =
    value_lighter c.args.s.now c.args.values c.args.marks c.args.stamp c.args.pair c.loop-q.s c.loop-q.t c.loop-q.invariant c.if-t-eq-COMPOUND.false (rw
    c.loop-q-test.true at c.leads.ensures) c.index-q.result c.index-q.ensures (ap (λ m. stamp_in m) (sym c.word_at-m.ensures) ∙ c.if-m-stamp.false)
    c.set_at.new.s c.set_at.ensures c.requires c.word_at-t.result

pub loop-q-preserved : goal.loop-q-preserved
loop-q-preserved c =
    settling_value c.args.s.now c.args.values c.args.marks c.args.stamp c.args.pair c.loop-q.s c.loop-q.t c.loop-q.invariant c.if-t-eq-COMPOUND.false
    (rw c.loop-q-test.true at c.leads.ensures) c.index-q.result c.index-q.ensures (ap (λ m. stamp_in m) (sym c.word_at-m.ensures) ∙ c.if-m-stamp.false)
    c.set_at.new.s c.set_at.ensures c.word_at-t.result c.word_at-t.ensures

pub returns : goal.returns
returns c =
    settling_last c.args.s.now c.args.values c.args.marks c.args.stamp c.args.pair c.loop-q.s c.loop-q.t c.loop-q.invariant
