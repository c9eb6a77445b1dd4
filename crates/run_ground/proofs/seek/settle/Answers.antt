-- `run_ground::seek::settle` meets its contract: the term at hand has ground pairs only, and the weight of what is left falls.
use mathlib.Core.Path.{sym, ◌∙◌}
use Rattle.run_ground.proofs.Settle.{settle_count, settle_argument, settling_argument, argument_lighter, settle_mark, value_lighter, settling_value}
use Rattle.run_ground.proofs.seek.settle.Goals as goal

pub count-k-requires : goal.count-k-requires
count-k-requires c =
    let a = c.args in
    settle_count a.s.now a.values a.marks a.stamp a.w a.state c.loop-s.s c.loop-s.t c.loop-s.invariant.0
    c.if-tag-eq-COMPOUND.true c.index-p.result c.index-p.ensures c.requires

pub argument-t-requires : goal.argument-t-requires
argument-t-requires c =
    let a = c.args in
    settle_argument a.s.now a.values a.marks a.stamp a.w a.state c.loop-s.s c.loop-s.t c.loop-s.invariant.0
    c.if-tag-eq-COMPOUND.true c.index-p.result c.index-p.ensures c.count-k.result c.count-k.ensures c.if-k-eq0.false c.requires

pub loop-s-smaller-then-tag-eq-COMPOUND : goal.loop-s-smaller-then-tag-eq-COMPOUND
loop-s-smaller-then-tag-eq-COMPOUND c =
    let a = c.args in
    argument_lighter a.s.now a.values a.marks a.stamp a.w a.state c.loop-s.s c.loop-s.t c.loop-s.invariant.0
    c.if-tag-eq-COMPOUND.true c.index-p.result c.index-p.ensures c.count-k.result c.count-k.ensures c.if-k-eq0.false
    c.argument-t.result c.argument-t.ensures c.requires

pub loop-s-preserved-then-tag-eq-COMPOUND : goal.loop-s-preserved-then-tag-eq-COMPOUND
loop-s-preserved-then-tag-eq-COMPOUND c =
    let a = c.args in (
      settling_argument a.s.now a.values a.marks a.stamp a.w a.state c.loop-s.s c.loop-s.t c.loop-s.invariant.0
          c.if-tag-eq-COMPOUND.true c.index-p.result c.index-p.ensures c.count-k.result c.count-k.ensures c.if-k-eq0.false
          c.argument-t.result c.argument-t.ensures,
      c.loop-s.invariant.1,
    )

pub word_at-requires : goal.word_at-requires
word_at-requires c =
    let a = c.args in
    settle_mark a.s.now a.values a.marks a.stamp a.w a.state c.loop-s.s c.loop-s.t c.loop-s.invariant.0
    c.if-tag-eq-COMPOUND.false c.if-tag-gt-READER.false c.index-p.result c.index-p.ensures c.requires

pub loop-s-smaller : goal.loop-s-smaller
loop-s-smaller c =
    let a = c.args in
    let m = sym c.word_at.ensures ∙ c.if-word_at-stamp.false in
    value_lighter a.s.now a.values a.marks a.stamp a.w a.state c.loop-s.s c.loop-s.t c.loop-s.invariant.0
    c.if-tag-eq-COMPOUND.false c.if-tag-gt-READER.false c.index-p.result c.index-p.ensures m c.set_at.new.s c.set_at.ensures c.requires
    c.word_at-t.result

pub loop-s-preserved : goal.loop-s-preserved
loop-s-preserved c =
    let a = c.args in
    let m = sym c.word_at.ensures ∙ c.if-word_at-stamp.false in (
      settling_value a.s.now a.values a.marks a.stamp a.w a.state c.loop-s.s c.loop-s.t c.loop-s.invariant.0
          c.if-tag-eq-COMPOUND.false c.if-tag-gt-READER.false c.index-p.result c.index-p.ensures m c.set_at.new.s c.set_at.ensures
          c.word_at-t.result c.word_at-t.ensures,
      c.set_at.auto.s ∙ c.loop-s.invariant.1,
    )
