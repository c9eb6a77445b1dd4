-- `report_pairs::cells::behind` meets its contract: arguments in parentheses, the element of a list, or its tail.
use native.Mathlib.Omega.{arith}
use Rattle.report_pairs.proofs.Behinds.{named_asks, named_tells, tail_asks, tail_tells}
use Rattle.report_pairs.proofs.Walking.{functor_inside}
use Rattle.report_pairs.proofs.cells.behind.Goals as goal

pub functor-requires : goal.functor-requires
functor-requires c =
    let (text, x, f, j, u, us, r, a) = c.requires in functor_inside c.args.s.now x c.args.p c.args.i j f u us a

pub behind_argument-requires : goal.behind_argument-requires
behind_argument-requires c =
    let (text, x, f, j, u, us, r, a) = c.requires in
    named_asks c.args.s.now x c.args.p c.args.i j f u us a (λ z. omega (arith, c.in-Some.ensures))

pub word_at-requires : goal.word_at-requires
word_at-requires c =
    let (text, x, f, j, u, us, r, a) = c.requires in
    (tail_asks c.args.s.now x c.args.p c.args.i j f u us a c.in-None.ensures c.if-i-eq1.true).inside

pub end-requires : goal.end-requires
end-requires c =
    let (text, x, f, j, u, us, r, a) = c.requires in
    let T = tail_asks c.args.s.now x c.args.p c.args.i j f u us a c.in-None.ensures c.if-i-eq1.true in
    (text, x, T.tail_term, r, rw c.word_at.ensures T.shows)

pub behind_element-requires : goal.behind_element-requires
behind_element-requires c =
    let (text, x, f, j, u, us, r, a) = c.requires in
    let T = tail_asks c.args.s.now x c.args.p c.args.i j f u us a c.in-None.ensures c.if-i-eq1.true in
    (x, u, T.tail_term, T.position, c.end.ensures text x T.tail_term r (rw c.word_at.ensures T.shows))

pub returns-in-Some : goal.returns-in-Some
returns-in-Some c text x f j u us r a =
    named_tells c.args.s.now x c.args.p c.args.i j f u us a (λ z. omega (arith, c.in-Some.ensures)) c.behind_argument.result c.behind_argument.ensures

pub returns-in-None : goal.returns-in-None
returns-in-None c text x f j u us r a =
    let T = tail_asks c.args.s.now x c.args.p c.args.i j f u us a c.in-None.ensures c.if-i-eq1.true in
    T.tells c.behind_element.result
    (c.behind_element.ensures x u T.tail_term T.position (c.end.ensures text x T.tail_term r (rw c.word_at.ensures T.shows)))

pub returns-in-None-2 : goal.returns-in-None-2
returns-in-None-2 c text x f j u us r a = tail_tells c.args.s.now x c.args.p c.args.i j f u us a c.in-None.ensures c.if-i-eq1.false
