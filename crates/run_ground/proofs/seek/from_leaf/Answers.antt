-- `run_ground::seek::from_leaf` meets its contract: a constant has nothing to look for, a variable is what the head gave it.
use Rattle.run_ground.proofs.Leaf.{constant_leaf, leaf_at, nothing_leaf, given_asks, settle_asks, given_leaf}
use Rattle.run_ground.proofs.seek.from_leaf.Goals as goal

pub returns-then-w-gt-READER : goal.returns-then-w-gt-READER
returns-then-w-gt-READER c =
    let a = c.args in
    constant_leaf a.values a.marks a.links a.stamp a.s.now a.w a.state c.if-w-gt-READER.true

pub word_at-t-requires : goal.word_at-t-requires
word_at-t-requires c =
    let a = c.args in
    leaf_at a.values a.marks a.links a.stamp a.s.now a.w a.state c.if-w-gt-READER.false c.index.result c.index.ensures c.requires

pub returns-then-t-eq0 : goal.returns-then-t-eq0
returns-then-t-eq0 c =
    let a = c.args in
    nothing_leaf a.values a.marks a.links a.stamp a.s.now a.w a.state
    c.if-w-gt-READER.false c.index.result c.index.ensures c.word_at-t.result c.word_at-t.ensures c.if-t-eq0.true

pub from_unit-r-requires : goal.from_unit-r-requires
from_unit-r-requires c =
    let a = c.args in
    given_asks a.values a.marks a.links a.stamp a.s.now a.w a.state
    c.if-w-gt-READER.false c.index.result c.index.ensures c.word_at-t.result c.word_at-t.ensures c.if-t-eq0.false c.requires

pub settle-requires : goal.settle-requires
settle-requires c =
    let a = c.args in
    settle_asks a.values a.marks a.links a.stamp a.s.now a.w a.state
    c.if-w-gt-READER.false c.index.result c.index.ensures c.word_at-t.result c.word_at-t.ensures c.if-t-eq0.false c.from_unit-r.new.s
    c.from_unit-r.result c.from_unit-r.ensures c.requires

pub returns : goal.returns
returns c =
    let a = c.args in
    given_leaf a.values a.marks a.links a.stamp a.s.now a.w a.state
    c.if-w-gt-READER.false c.index.result c.index.ensures c.word_at-t.result c.word_at-t.ensures c.if-t-eq0.false c.from_unit-r.new.s
    c.from_unit-r.result c.from_unit-r.ensures c.settle.new.s c.settle.ensures
