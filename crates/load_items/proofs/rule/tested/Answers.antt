-- The table has every element, and then the readers that they license are noted; or it has not.
use Rattle.std.proofs.Common.{◌+◌, arith}
use Rattle.load_guards.proofs.Held.{tests_only}
use Rattle.load_items.proofs.rule.tested.Goals as goal

pub returns-then-not-resolve : goal.returns-then-not-resolve
returns-then-not-resolve c = λ known es listed. rw c.if-not-resolve.true at (c.resolve.ensures known es listed)

pub licences-requires-clause-by_index : goal.licences-requires-clause-by_index
licences-requires-clause-by_index c =
    let (known, es, listed) = c.requires.listed in
    let found = rw c.if-not-resolve.false at (c.resolve.ensures known es listed) in
    (c.args.base, known, found.0, found.1.tests)

pub returns : goal.returns
returns c = λ known es listed.
    let a = c.args in
    let found = rw c.if-not-resolve.false at (c.resolve.ensures known es listed) in
    let got = found.1 in (
      found.0,
      got.guards_are,
      got.tests.count_is,
      got.set_is,
      c.licences.ensures a.base known found.0 got.tests,
      rw got.set_is (tests_only known a.base a.place (a.place + 8) a.place found.0 a.s.now (omega arith) (omega (arith, got.tests.few, got.tests.count_is))),
    )
