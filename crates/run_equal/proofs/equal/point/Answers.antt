-- `run_equal::equal::point` meets its contract.
use mathlib.Core.Bool.{not}
use mathlib.Core.Path.{ap}
use native.Mathlib.Omega.{arith}
use Rattle.run_equal.proofs.Words.{is_variable}
use Rattle.run_equal.proofs.Links.{puts, put_linked}
use Rattle.run_equal.proofs.equal.point.Goals as goal
use Rattle.run_equal.proofs.equal.point.Goals.{else-not-is_variable-2-via-else-not-is_variable-2, else-not-is_variable-2-via-then-not-is_variable-2+else-d-ne-COMPOUND}

pub put-requires : goal.put-requires
put-requires c =
    let a = c.args in
    let (x, values, v, u, W, m, o) = c.requires in
    let is = is_variable a.c c.is_variable.result c.is_variable.ensures (ap not c.if-not-is_variable.false) in (
      x.met,
      W.readers,
      rw c.index.ensures (puts a.s.now x values a.lists a.links a.taken W a.c a.d v u m o is (λ no.
          elim c.else-not-is_variable-2.branch [
            | else-not-is_variable-2-via-then-not-is_variable-2+else-d-ne-COMPOUND q ↦ q.if-d-ne-COMPOUND.false
            | else-not-is_variable-2-via-else-not-is_variable-2 q ↦
                let it = is_variable a.d c.is_variable-2.result c.is_variable-2.ensures (ap not q.if-not-is_variable-2.false) in
                absurd (omega (arith, no it.0, it.1))
          ])),
    )

pub returns : goal.returns
returns c =
    let a = c.args in
    let is = is_variable a.c c.is_variable.result c.is_variable.ensures (ap not c.if-not-is_variable.false) in
    λ x values v u W m o.
    put_linked a.s.now x values a.lists a.links a.taken W a.c a.d v u m o is c.put.new.s c.put.result
    (rw c.index.ensures at (c.put.ensures x.met W.readers
    (rw c.index.ensures (puts a.s.now x values a.lists a.links a.taken W a.c a.d v u m o is (λ no.
    elim c.else-not-is_variable-2.branch [
      | else-not-is_variable-2-via-then-not-is_variable-2+else-d-ne-COMPOUND q ↦ q.if-d-ne-COMPOUND.false
      | else-not-is_variable-2-via-else-not-is_variable-2 q ↦
          let it = is_variable a.d c.is_variable-2.result c.is_variable-2.ensures (ap not q.if-not-is_variable-2.false) in
          absurd (omega (arith, no it.0, it.1))
    ])))))
