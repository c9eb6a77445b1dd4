-- The sign in front is this one, and no other token is.
use Rattle.std.proofs.Common.{[], ◌∷◌, arith}
use Rattle.std.proofs.lemmas.Result.{err_from_is_err_and}
use borrow.Author.Tests.{ne_eqb}
use Rattle.load_tokens.proofs.InFront.{behind_past, next_sign, other_sign}
use Rattle.load_tokens.proofs.next.next_is.Goals as goal

pub returns-in_err-c : goal.returns-in_err-c
returns-in_err-c c =
    let p = err_from_is_err_and c.from_residual.result c.from_residual.ensures.1 in
    rw (p.1, p.2) (c.in_err-c.ensures (c.args.sign ∷ []))

pub behind_sign-requires : goal.behind_sign-requires
behind_sign-requires c = omega (arith, c.in_ok-c.ensures, behind_past c.in_ok-c.c c.in_ok-c.a)

pub returns-then-c-sign : goal.returns-then-c-sign
returns-then-c-sign c =
    next_sign c.args.rest.now c.args.at c.in_ok-c.c c.in_ok-c.a c.args.sign c.behind_sign.result c.in_ok-c.ensures c.if-c-sign.true c.behind_sign.ensures

pub returns-else-c-sign : goal.returns-else-c-sign
returns-else-c-sign c = other_sign c.args.rest.now c.args.at c.args.sign c.in_ok-c.c c.in_ok-c.a c.in_ok-c.ensures (ne_eqb c.in_ok-c.c c.args.sign c.if-c-sign.false)
