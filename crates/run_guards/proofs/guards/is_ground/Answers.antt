-- `run_guards::guards::is_ground` meets its contract: it answers what looking through its argument found.
use Rattle.std.proofs.Common.{ap, ◌∙◌, ℕ, arith, refl}
use Rattle.meaning.specs.Terms.{a_ground}
use Rattle.meaning.specs.Table.{guard_table}
use Rattle.meaning.specs.Guards.{answer}
use Rattle.term.specs.Guards.{row_at}
use Rattle.run_guards.proofs.Rows.{ground_one}
use Rattle.run_guards.proofs.Answers.{seeks, sought}
use Rattle.run_guards.proofs.guards.is_ground.Goals as goal

pub seek-requires : goal.seek-requires
seek-requires c =
    let p = c.requires in (
      p.0,
      p.1,
      p.2,
      p.3.number,
      p.3.arguments,
      seeks p.4 a_ground p.5 (omega (arith, ground_one)) (omega (arith, ground_one)) c.arguments-n.result
          (c.arguments-n.ensures ∙ ap (λ (m : ℕ). (row_at guard_table m).count) c.index.ensures),
    )

pub returns : goal.returns
unfolding answer
returns c x y given g earlier A e =
    sought A
    (c.seek.ensures x y given g.number g.arguments
    (seeks A a_ground e (omega (arith, ground_one)) (omega (arith, ground_one)) c.arguments-n.result
    (c.arguments-n.ensures ∙ ap (λ (m : ℕ). (row_at guard_table m).count) c.index.ensures))) _ refl
