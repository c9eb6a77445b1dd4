-- `run_guards::guards::ask` meets its contract, by the guard's test.
use Rattle.std.proofs.Common.{sym, ◌∙◌, ◌≡◌, ap, arith}
use Rattle.meaning.specs.Terms.{an_integer, a_constant, a_compound, a_ground, known, equal, otherwise, count}
use Rattle.run_asked.specs.Asking.{out}
use Rattle.run_guards.proofs.Rows.{same_test, test_small, kind_one, looks_answer, arguments_of, test_of}
use Rattle.run_guards.proofs.Answers.{as_test, as_answer, at_place, otherwise_succeeds, otherwise_waits}
use Rattle.run_guards.proofs.guards.ask.Goals as goal
use Rattle.run_guards.proofs.guards.ask.Goals.{in-0, in-1, in-2, in_default}

pub returns-in-3 : goal.returns-in-3
returns-in-3 c x y given g earlier A e E =
    let is = same_test g.row.test a_ground (sym e ∙ c.in-3.is) in
    as_test earlier (out x given g.arguments) is (c.is_ground.ensures x y given g earlier (at_place c.index-place.ensures A) is)

pub returns-in-5 : goal.returns-in-5
returns-in-5 c x y given g earlier A e E =
    let is = same_test g.row.test equal (sym e ∙ c.in-5.is) in
    as_test earlier (out x given g.arguments) is (c.are_equal.ensures x y given g earlier (at_place c.index-place.ensures A) is)

pub returns-then-met-eq0 : goal.returns-then-met-eq0
returns-then-met-eq0 c x y given g earlier A e E =
    as_test earlier (out x given g.arguments) (same_test g.row.test otherwise (sym e ∙ c.in-6.is))
    (otherwise_succeeds A earlier (out x given g.arguments) (E.none_met c.if-met-eq0.true))

pub returns-in-6 : goal.returns-in-6
returns-in-6 c x y given g earlier A e E =
    as_test earlier (out x given g.arguments) (same_test g.row.test otherwise (sym e ∙ c.in-6.is))
    (otherwise_waits A earlier (out x given g.arguments) (λ z. c.if-met-eq0.false (E.none z)))

pub look_at-requires : goal.look_at-requires
look_at-requires c =
    let p = c.requires in
    let is : p.3.row.test ≡ test_of c.match-w-rem8.kind =
    elim c.match-w-rem8.branch [
      | in-0 w ↦ rw w.kind-is (same_test p.3.row.test an_integer (sym p.5 ∙ w.in-0.is))
      | in-1 w ↦ rw w.kind-is (same_test p.3.row.test a_constant (sym p.5 ∙ w.in-1.is))
      | in-2 w ↦ rw w.kind-is (same_test p.3.row.test a_compound (sym p.5 ∙ w.in-2.is))
      | in_default w ↦ rw w.kind-is (same_test p.3.row.test known (omega (arith, p.5, test_small p.3.row.test)))
    ]
    in
    let one : count p.3.arguments ≡ 1 = p.4.counted ∙ ap arguments_of is ∙ kind_one c.match-w-rem8.kind in
    (p.0, p.1, p.2, c.args.stamp, p.3, at_place c.index-place.ensures p.4, omega arith)

pub returns : goal.returns
returns c x y given g earlier A e E =
    let is : g.row.test ≡ test_of c.match-w-rem8.kind =
    elim c.match-w-rem8.branch [
      | in-0 w ↦ rw w.kind-is (same_test g.row.test an_integer (sym e ∙ w.in-0.is))
      | in-1 w ↦ rw w.kind-is (same_test g.row.test a_constant (sym e ∙ w.in-1.is))
      | in-2 w ↦ rw w.kind-is (same_test g.row.test a_compound (sym e ∙ w.in-2.is))
      | in_default w ↦ rw w.kind-is (same_test g.row.test known (omega (arith, e, test_small g.row.test)))
    ]
    in
    let one : count g.arguments ≡ 1 = A.counted ∙ ap arguments_of is ∙ kind_one c.match-w-rem8.kind in
    as_test earlier (out x given g.arguments) is
    (as_answer (looks_answer c.match-w-rem8.kind earlier (out x given g.arguments))
    (c.look_at.ensures x y given c.args.stamp g (at_place c.index-place.ensures A) (omega arith)))
