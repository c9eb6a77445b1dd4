use Rattle.std.proofs.Common.{◌+◌, get_or, arith}
use Rattle.std.proofs.Math.ListN.{set}
use Rattle.term.proofs.Frames.{only_same, only_set, only_then}
use Rattle.load_items.proofs.Wholes.{taken_none, taken_all, taken_not, taken_next}
use Rattle.load_items.proofs.rule.set_goals.Goals as goal

pub loop-i-init : goal.loop-i-init
loop-i-init c =
    let a = c.args in
    ((λ places es w. taken_none a.s.now a.place places es), only_same a.place (a.place + 8) a.s.now)

pub returns-then-w-ne-COMPOUND : goal.returns-then-w-ne-COMPOUND
returns-then-w-ne-COMPOUND c =
    let l = c.loop-i in
    let a = c.args in
    λ places es w.
    (taken_not a.s.now l.s a.words.now a.place places es l.i w (l.invariant.0 places es w) (omega arith) (λ q. omega (arith, c.if-w-ne-COMPOUND.true)), l.invariant.1)

pub loop-i-preserved : goal.loop-i-preserved
loop-i-preserved c =
    let l = c.loop-i in
    let a = c.args in
    let v = get_or a.words.now l.i 0 in (
      (λ places es w. taken_next a.s.now l.s a.words.now a.place places es l.i w (l.invariant.0 places es w) (omega arith) (omega (arith, c.if-w-ne-COMPOUND.false))),
      only_then a.place (a.place + 8) a.s.now l.s (set l.s (a.place + l.i) v) l.invariant.1
          (only_set a.place (a.place + 8) l.s (a.place + l.i) v (omega arith) (omega arith)),
    )

pub returns : goal.returns
returns c =
    let l = c.loop-i in
    let a = c.args in
    λ places es w.
    let t = l.invariant.0 places es w in
    (t.goals, taken_all a.s.now l.s a.words.now a.place places es l.i w t (omega arith), t.set_is, l.invariant.1)
