use Rattle.std.proofs.Common.{arith}
use Rattle.load_guards.proofs.Resolving.{at_first, only, resolved, first, alone, row_is, stops, goes_on}
use Rattle.load_guards.proofs.guards.resolve.Goals as goal

pub loop-i-init : goal.loop-i-init
loop-i-init c known es l = at_first _ _ _ _ _ _ _ known es l

pub row_for-requires : goal.row_for-requires
row_for-requires c =
    let (known, es, l) = c.requires.listed in
    let p = c.loop-i.invariant known es l in
    let within = c.loop-i.auto.i-end in
    let further = c.loop-i-test.true in
    (c.args.base, known, (first _ _ _ _ _ _ _ known es l _ _ p within further).0, alone _ _ _ _ _ _ _ known es l _ _ p within further)

pub returns-in_default : goal.returns-in_default
returns-in_default c known es l =
    let p = c.loop-i.invariant known es l in
    let within = c.loop-i.auto.i-end in
    let told = c.row_for.ensures in
    (stops _ _ _ _ _ _ _ known es l _ _ p within c.loop-i-test.true _ told c.in_default.is, only _ _ _ _ _ _ _ known es l _ _ p within)

pub test_word-requires : goal.test_word-requires
test_word-requires c =
    let (known, es, l) = c.requires.listed in
    let p = c.loop-i.invariant known es l in
    let within = c.loop-i.auto.i-end in
    let told = c.row_for.ensures in
    let row = row_is _ _ _ _ _ _ _ known es l _ _ p within c.loop-i-test.true _ told c.in-Some.row c.in-Some.is in
    (omega arith, omega (arith, l.inside))

pub loop-i-preserved : goal.loop-i-preserved
loop-i-preserved c known es l =
    let p = c.loop-i.invariant known es l in
    let within = c.loop-i.auto.i-end in
    let told = c.row_for.ensures in
    goes_on _ _ _ _ _ _ _ known es l _ _ p within c.loop-i-test.true _ told c.in-Some.row c.test_word.result c.in-Some.is c.test_word.ensures

pub returns : goal.returns
returns c known es l =
    let p = c.loop-i.invariant known es l in
    (p.done, resolved _ _ _ _ _ _ _ known es l _ _ p c.loop-i.auto.i-end c.loop-i-test.false)
