-- What stands in front decides: a name is counted, and its parenthesis comes next or not.
use Rattle.std.proofs.Common.{◌≡◌, Some, None, Err, arith}
use Rattle.load_openings.specs.declared.cursor.Unread.TheVariants.{Exceeded}
use Rattle.std.proofs.lemmas.Result.{err_from_is_err_and}
use Rattle.load_openings.proofs.GoalNames.{opening_named, opening_lacks, opening_passed, opening_writer, opening_reader, opening_integer, opening_sign, opening_bad, opening_ends}
use Rattle.load_openings.proofs.goal.goal_name.Goals as goal

pub returns-in_ok-at-in-Name : goal.returns-in_ok-at-in-Name
returns-in_ok-at-in-Name c = λ known vars item st.
    let a = c.args in
    let found : c.number-numbered.result ≡ Some (c.in_ok-n-in-Name.n, c.in_ok-n-in-Name.names) = grind arith in
    opening_named a.src.text.now a.src.rest.now a.src.from a.names.now c.number-numbered.new.table item a.c known vars st c.in-Name.a c.in-Name.e c.in_ok-n-in-Name.n c.in_ok-n-in-Name.names c.in_ok-at-in-Name.at c.in-Name.ensures (rw found at (c.number-numbered.ensures known st.names_in st.names_count)) c.in_ok-at-in-Name.ensures

pub returns-in_err-at-in-Name : goal.returns-in_err-at-in-Name
returns-in_err-at-in-Name c = λ known vars item st.
    let a = c.args in
    let found : c.number-numbered.result ≡ Some (c.in_ok-n-in-Name.n, c.in_ok-n-in-Name.names) = grind arith in
    let e = err_from_is_err_and c.from_residual-in_err-at-in-Name.result c.from_residual-in_err-at-in-Name.ensures.1 in
    let stops = c.in_err-at-in-Name.ensures in
    rw (e.1, e.2) (opening_lacks a.src.text.now a.src.rest.now a.src.from a.names.now c.number-numbered.new.table item a.c known vars st c.in-Name.a c.in-Name.e c.in_ok-n-in-Name.n c.in_ok-n-in-Name.names _ c.in-Name.ensures (rw found at (c.number-numbered.ensures known st.names_in st.names_count)) stops.0 stops.1)

pub returns-in_err-n-in-Name : goal.returns-in_err-n-in-Name
returns-in_err-n-in-Name c = λ known vars item st.
    let a = c.args in
    let full : c.number-numbered.result ≡ None = grind arith in
    let e : c.from_residual.result ≡ Err Exceeded = grind arith in
    rw e (opening_passed a.src.text.now a.src.rest.now a.src.from a.names.now c.number-numbered.new.table item a.c known vars st c.in-Name.a c.in-Name.e c.in-Name.ensures (rw full at (c.number-numbered.ensures known st.names_in st.names_count)))

pub returns-in-Writer : goal.returns-in-Writer
returns-in-Writer c = λ known vars item st.
    let a = c.args in
    opening_writer a.src.text.now a.src.rest.now a.src.from a.names.now a.names.now item a.c known vars st c.in-Writer.a _ c.in-Writer.ensures

pub returns-in-Writer-2 : goal.returns-in-Writer-2
returns-in-Writer-2 c = λ known vars item st.
    let a = c.args in
    opening_reader a.src.text.now a.src.rest.now a.src.from a.names.now a.names.now item a.c known vars st c.in-Writer.a _ c.in-Writer.ensures

pub returns-in-Writer-3 : goal.returns-in-Writer-3
returns-in-Writer-3 c = λ known vars item st.
    let a = c.args in
    opening_integer a.src.text.now a.src.rest.now a.src.from a.names.now a.names.now item a.c known vars st _ c.in-Writer.a _ c.in-Writer.ensures

pub returns-in-Writer-4 : goal.returns-in-Writer-4
returns-in-Writer-4 c = λ known vars item st.
    let a = c.args in
    opening_sign a.src.text.now a.src.rest.now a.src.from a.names.now a.names.now item a.c known vars st _ c.in-Writer.a c.in-Writer.ensures

pub returns-in-Writer-5 : goal.returns-in-Writer-5
returns-in-Writer-5 c = λ known vars item st.
    let a = c.args in
    opening_bad a.src.text.now a.src.rest.now a.src.from a.names.now a.names.now item a.c known vars st c.in-Writer.a c.in-Writer.ensures

pub returns-in-End : goal.returns-in-End
returns-in-End c = λ known vars item st.
    let a = c.args in
    opening_ends a.src.text.now a.src.rest.now a.src.from a.names.now a.names.now item a.c known vars st c.in-End.ensures
