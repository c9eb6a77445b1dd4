use Rattle.std.proofs.Common.{◌≡◌, ◌∙◌, length, sym, refl, ap, arith}
use borrow.Author.Tests.{eq-eqb, ne_eqb}
use Rattle.meaning.specs.Bytes.{byte}
use Rattle.load_tokens.specs.Ends.{end_of_remark}
use Rattle.load_tokens.proofs.Ends.{remark_goes_on, remark_stops, remark_at_end}
use Rattle.load_tokens.proofs.token.remark_end.Goals as goal

pub loop-i-init : goal.loop-i-init
loop-i-init c = record { inside = omega arith; same_end = refl }

pub returns-then-rest-i-eq10 : goal.returns-then-rest-i-eq10
unfolding byte
returns-then-rest-i-eq10 c =
    let stops = remark_stops c.args.rest.now c.loop-i.i (omega arith) (eq-eqb _ _ c.if-rest-i-eq10.true) in
    (sym stops ∙ c.loop-i.invariant.same_end, omega arith)

pub loop-i-preserved : goal.loop-i-preserved
unfolding byte
loop-i-preserved c =
    let on = remark_goes_on c.args.rest.now c.loop-i.i (omega arith) (ne_eqb _ _ c.if-rest-i-eq10.false) in
    record { inside = omega arith; same_end = sym on ∙ c.loop-i.invariant.same_end }

pub returns : goal.returns
returns c =
    let rest = c.args.rest.now in
    let all : c.loop-i.i ≡ length rest = omega (arith, c.loop-i.invariant.inside) in
    (sym (remark_at_end rest) ∙ ap (end_of_remark rest) (sym all) ∙ c.loop-i.invariant.same_end, omega arith)
