-- Each arm is one lemma on a term's first token.
use Rattle.std.proofs.Common.{◌≡◌, ◌+◌, Some, None, Err, refl, arith}
use Rattle.load_openings.specs.declared.cursor.Unread.TheVariants.{Exceeded}
use Rattle.std.proofs.Math.Seq.{slice}
use borrow.Author.Tests.{ne_eqb}
use Rattle.load_names.specs.Places.{item_places}
use Rattle.meaning.specs.Terms.{writer, reader}
use Rattle.load_openings.specs.Reading.{half_place}
use Rattle.load_tokens.proofs.InFront.{behind_past}
use Rattle.load_openings.proofs.Opening.{begun_end, begun_bad, begun_sign, begun_integer, begun_variable, begun_name, begun_name_passed, begun_list}
use Rattle.load_openings.proofs.begin.begin.Goals as goal

pub overflow_add-a : goal.overflow_add-a
overflow_add-a c = omega (arith, c.in-Sign-eq91-default.ensures, behind_past c.in-Sign-eq91-default.field-0 c.in-Sign-eq91-default.a)

pub behind_bracket-requires : goal.behind_bracket-requires
behind_bracket-requires c = omega (arith, c.in-Sign-eq91-default.ensures, behind_past c.in-Sign-eq91-default.field-0 c.in-Sign-eq91-default.a)

pub returns-in_ok-n-in-Name : goal.returns-in_ok-n-in-Name
returns-in_ok-n-in-Name c = λ known vars stands.
    let a = c.args in
    let found : c.number-numbered.result ≡ Some (c.in_ok-n-in-Name.n, c.in_ok-n-in-Name.names) = grind arith in
    begun_name a.left a.src.text.now a.src.rest.now a.src.from known vars a.c a.names.now a.item.now stands c.in-Name.a c.in-Name.e c.in-Name.ensures c.in_ok-n-in-Name.n c.in_ok-n-in-Name.names _ (rw found at (c.number-numbered.ensures known stands.names_in stands.names_count)) c.behind_name.result c.behind_name.ensures

pub returns-in_err-n-in-Name : goal.returns-in_err-n-in-Name
returns-in_err-n-in-Name c = λ known vars stands.
    let a = c.args in
    let none : c.number-numbered.result ≡ None = grind arith in
    let e : c.from_residual.result ≡ Err Exceeded = grind arith in
    let full = rw none at (c.number-numbered.ensures known stands.names_in stands.names_count) in
    rw e (begun_name_passed a.left a.src.text.now a.src.rest.now a.src.from known vars a.c a.names.now a.item.now stands c.in-Name.a c.in-Name.e c.in-Name.ensures full.0 full.1 c.number-numbered.new.table)

pub returns-in-Writer : goal.returns-in-Writer
unfolding item_places half_place
returns-in-Writer c = λ known vars stands.
    let a = c.args in
    let f = c.in-Writer.ensures in
    begun_variable a.left a.src.text.now a.src.rest.now a.src.from known vars a.c a.names.now a.item.now stands writer 1 c.in-Writer.a c.in-Writer.e (slice c.in-Writer.a c.in-Writer.e a.src.rest.now) (λ n. refl) (λ n. refl) f.2 (f.4 a.src.from) _ c.variable.result (c.variable.ensures vars stands.variables_in stands.variables_count)

pub returns-in-Reader : goal.returns-in-Reader
unfolding item_places half_place
returns-in-Reader c = λ known vars stands.
    let a = c.args in
    let f = c.in-Reader.ensures in
    begun_variable a.left a.src.text.now a.src.rest.now a.src.from known vars a.c a.names.now a.item.now stands reader 2 c.in-Reader.a (c.in-Reader.e + 1) (slice c.in-Reader.a c.in-Reader.e a.src.rest.now) (λ n. refl) (λ n. refl) (omega (arith, f.2)) (f.4 a.src.from) _ c.variable-in-Reader.result (c.variable-in-Reader.ensures vars stands.variables_in stands.variables_count)

pub returns-in-Integer : goal.returns-in-Integer
returns-in-Integer c = λ known vars stands.
    let a = c.args in
    begun_integer a.left a.src.text.now a.src.rest.now a.src.from known vars a.c a.names.now a.item.now stands c.in-Integer.w c.in-Integer.field-1 c.in-Integer.e c.in-Integer.ensures

pub returns-in-Sign-eq91-default : goal.returns-in-Sign-eq91-default
returns-in-Sign-eq91-default c = λ known vars stands.
    let a = c.args in
    begun_list a.left a.src.text.now a.src.rest.now a.src.from known vars a.c a.names.now a.item.now stands c.in-Sign-eq91-default.field-0 c.in-Sign-eq91-default.a c.in-Sign-eq91-default.ensures c.in-Sign-eq91-default.field-0-test c.behind_bracket.result c.behind_bracket.ensures

pub returns-in-End : goal.returns-in-End
returns-in-End c = λ known vars stands.
    let a = c.args in
    begun_end a.left a.src.text.now a.src.rest.now a.src.from known vars a.c a.names.now a.item.now stands c.in-End.ensures

pub returns-in-Sign : goal.returns-in-Sign
returns-in-Sign c = λ known vars stands.
    let a = c.args in
    begun_sign a.left a.src.text.now a.src.rest.now a.src.from known vars a.c a.names.now a.item.now stands _ c.in-Sign.a c.in-Sign.ensures (ne_eqb _ 91 c.in-Sign.field-0-test.1)

pub returns-in-Sign-2 : goal.returns-in-Sign-2
returns-in-Sign-2 c = λ known vars stands.
    let a = c.args in
    begun_bad a.left a.src.text.now a.src.rest.now a.src.from known vars a.c a.names.now a.item.now stands c.in-Sign.a c.in-Sign.ensures
