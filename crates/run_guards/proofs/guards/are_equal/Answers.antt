-- `run_guards::guards::are_equal` meets its contract: it compares where looking through both arguments found no variable.
use Rattle.std.proofs.Common.{ap, ◌∙◌, ℕ, arith}
use Rattle.std.proofs.lemmas.Result.{err_from_is_err_and}
use Rattle.meaning.specs.Terms.{equal}
use Rattle.meaning.specs.Table.{guard_table}
use Rattle.meaning.specs.Guards.{answer}
use Rattle.term.specs.Guards.{row_at}
use Rattle.run_guards.proofs.Rows.{equal_two}
use Rattle.run_guards.proofs.Answers.{seeks, first_hindered, left_side, right_side, equating, equal_succeeds, equal_fails}
use Rattle.run_guards.proofs.guards.are_equal.Goals as goal

pub seek-requires : goal.seek-requires
seek-requires c =
    let p = c.requires in (
      p.0,
      p.1,
      p.2,
      p.3.number,
      p.3.arguments,
      seeks p.4 equal p.5 (omega (arith, equal_two)) (omega (arith, equal_two)) c.arguments-n.result
          (c.arguments-n.ensures ∙ ap (λ (m : ℕ). (row_at guard_table m).count) c.index.ensures),
    )

pub returns-in_err-seek : goal.returns-in_err-seek
unfolding answer
returns-in_err-seek c x y given g earlier A e =
    let p = err_from_is_err_and c.from_residual.result c.from_residual.ensures.1 in
    rw (p.1, p.2)
    (first_hindered A (c.seek.ensures x y given g.number g.arguments
    (seeks A equal e (omega (arith, equal_two)) (omega (arith, equal_two)) c.arguments-n.result
    (c.arguments-n.ensures ∙ ap (λ (m : ℕ). (row_at guard_table m).count) c.index.ensures)))
    _ _ c.in_err-seek.was)

pub equal-requires : goal.equal-requires
equal-requires c =
    let p = c.requires in
    let sees = c.seek.ensures p.0 p.1 p.2 p.3.number p.3.arguments
    (seeks p.4 equal p.5 (omega (arith, equal_two)) (omega (arith, equal_two)) c.arguments-n.result
    (c.arguments-n.ensures ∙ ap (λ (m : ℕ). (row_at guard_table m).count) c.index.ensures)) in
    let told = c.in_ok-seek.was in
    (p.0, p.1, p.2, p.3.number, left_side p.4 p.5 sees told, right_side p.4 p.5 sees told, equating p.4 p.5 sees told)

pub returns-then-equal : goal.returns-then-equal
returns-then-equal c x y given g earlier A e =
    let sees = c.seek.ensures x y given g.number g.arguments
    (seeks A equal e (omega (arith, equal_two)) (omega (arith, equal_two)) c.arguments-n.result
    (c.arguments-n.ensures ∙ ap (λ (m : ℕ). (row_at guard_table m).count) c.index.ensures)) in
    let told = c.in_ok-seek.was in
    equal_succeeds A e sees told
    (c.equal.ensures x y given g.number (left_side A e sees told) (right_side A e sees told) (equating A e sees told)) earlier c.if-equal.true

pub returns-else-equal : goal.returns-else-equal
returns-else-equal c x y given g earlier A e =
    let sees = c.seek.ensures x y given g.number g.arguments
    (seeks A equal e (omega (arith, equal_two)) (omega (arith, equal_two)) c.arguments-n.result
    (c.arguments-n.ensures ∙ ap (λ (m : ℕ). (row_at guard_table m).count) c.index.ensures)) in
    let told = c.in_ok-seek.was in
    equal_fails A e sees told
    (c.equal.ensures x y given g.number (left_side A e sees told) (right_side A e sees told) (equating A e sees told)) earlier c.if-equal.false
