use Rattle.load_guards.proofs.Licensing.{first, none_yet, test_at, none_more, one_more}
use Rattle.load_guards.proofs.guards.licences.Goals as goal
use Rattle.load_guards.proofs.guards.licences.Goals.{in-Some, in_default}

pub loop-i-init : goal.loop-i-init
loop-i-init c base known gs t = rw c.requires.licensed_value.0 (none_yet _ _ _ base known gs t)

pub grounded-requires-clause-by_index : goal.grounded-requires-clause-by_index
grounded-requires-clause-by_index c =
    let (base, known, gs, t) = c.requires.by_index in
    let p = c.loop-i.invariant base known gs t in
    let further = c.loop-i-test.true in
    (base, known, (first _ _ _ base known gs t _ _ p further).0, test_at _ _ _ base known gs t _ _ p further)

pub loop-i-preserved : goal.loop-i-preserved
loop-i-preserved c base known gs t =
    let p = c.loop-i.invariant base known gs t in
    let further = c.loop-i-test.true in
    let told = c.grounded.ensures in
    elim c.match-grounded.branch [
      | in-Some w ↦ rw (w.licensed-is, w.mark.ensures) (one_more _ _ _ base known gs t _ _ p further _ told w.in-Some.m w.in-Some.is)
      | in_default w ↦ rw w.licensed-is (none_more _ _ _ base known gs t _ _ p further _ told w.in_default.is)
    ]
