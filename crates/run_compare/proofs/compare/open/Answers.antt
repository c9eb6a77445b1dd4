-- `run_compare::compare::open` meets its contract.
use Rattle.std.proofs.Common.{sym, ◌∙◌, get_or, arith}
use Rattle.term.specs.Words.{tag_in}
use Rattle.run_compare.proofs.Same.{same_true, none_behind, one_more_same}
use Rattle.run_compare.proofs.compare.open.Goals as goal

pub loop-k-init : goal.loop-k-init
loop-k-init c =
    let a = c.args in
    none_behind a.s.now a.p a.q (tag_in (get_or a.s.now a.p 0)) c.count-k.result c.count-k.ensures

pub returns-then-not-same : goal.returns-then-not-same
returns-then-not-same c = record {
  behind = c.loop-k.invariant;
  differs = λ h. rw (c.argument.ensures, c.argument-in-loop-k.ensures) at (sym c.same.ensures ∙ c.if-not-same.true);
}

pub loop-k-preserved : goal.loop-k-preserved
loop-k-preserved c =
    let a = c.args in
    one_more_same a.s.now a.p a.q (tag_in (get_or a.s.now a.p 0)) c.loop-k.k (omega arith) c.loop-k.invariant
    (rw (c.argument.ensures, c.argument-in-loop-k.ensures) at (same_true _ _ (sym c.same.ensures ∙ c.if-not-same.false)))

pub returns : goal.returns
returns c =
    let b = c.loop-k.invariant in
    record { behind = record { few = omega arith; same = λ i l h. b.same i (omega arith) h }; differs = λ h. absurd (omega arith) }
