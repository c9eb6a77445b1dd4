-- Each arm is what `front` says of its token.
use borrow.Author.Tests.{eq-eqb, ne_eqb}
use Rattle.load_tokens.proofs.InFront.{term_starts, bracket_starts, sign_cannot, bad_cannot}
use Rattle.load_tokens.proofs.next.starts.Goals as goal

pub returns-in-Name : goal.returns-in-Name
returns-in-Name c = term_starts c.args.rest.now c.args.at c.front.result c.in-Name.is c.front.ensures

pub returns-in-Sign-eq91-default : goal.returns-in-Sign-eq91-default
returns-in-Sign-eq91-default c =
    let s = c.in-Sign-eq91-default in
    bracket_starts c.args.rest.now c.args.at s.field-0 s.field-1 (rw s.is at c.front.ensures) (eq-eqb s.field-0 91 s.field-0-test)

pub returns-in-Sign : goal.returns-in-Sign
returns-in-Sign c =
    let s = c.in-Sign in
    sign_cannot c.args.rest.now c.args.at s.field-0 s.a (rw s.is at c.front.ensures) (ne_eqb s.field-0 91 s.field-0-test.1)

pub returns-in-Bad : goal.returns-in-Bad
returns-in-Bad c = bad_cannot c.args.rest.now c.args.at c.in-Bad.a (rw c.in-Bad.is at c.front.ensures)
