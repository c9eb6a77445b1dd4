-- The sign in front is the one that is told, and no other token is one of these.
use Rattle.std.proofs.Common.{refl, sym, ◌∙◌, arith}
use Rattle.std.proofs.lemmas.Result.{err_from_is_err_and}
use Rattle.load_tokens.proofs.InFront.{behind_past, next_sign, not_sign, contains_among}
use Rattle.load_tokens.proofs.next.next_of.Goals as goal

pub returns-in_err-c : goal.returns-in_err-c
returns-in_err-c c =
    let p = err_from_is_err_and c.from_residual.result c.from_residual.ensures.1 in
    rw (p.1, p.2) (c.in_err-c.ensures c.args.signs.now)

pub behind_sign-requires : goal.behind_sign-requires
behind_sign-requires c = omega (arith, c.in_ok-c.ensures, behind_past c.in_ok-c.c c.in_ok-c.a)

pub returns-then-contains : goal.returns-then-contains
returns-then-contains c =
    let s = c.in_ok-c in (
      sym (contains_among s.c c.args.signs.now) ∙ sym c.contains.ensures.value ∙ c.if-contains.true,
      next_sign c.args.rest.now c.args.at s.c s.a s.c c.behind_sign.result s.ensures refl c.behind_sign.ensures,
    )

pub returns-else-contains : goal.returns-else-contains
returns-else-contains c =
    let s = c.in_ok-c in
    not_sign c.args.rest.now c.args.at c.args.signs.now s.c s.a s.ensures (sym (contains_among s.c c.args.signs.now) ∙ sym c.contains.ensures.value ∙ c.if-contains.false)
