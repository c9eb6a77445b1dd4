use Rattle.std.proofs.Common.{◌≡◌, sym, ◌∙◌, arith}
use Rattle.std.proofs.lemmas.Bool.{eq-eqb, ne_eqb}
use Rattle.meaning.specs.Bytes.{when◌then◌else◌}
use Rattle.load_guards.proofs.guards.test_word.Goals as goal

pub returns-then-row-index : goal.returns-then-row-index
unfolding when◌then◌else◌
returns-then-row-index c =
    let six : c.args.row ≡ 6 = c.if-row-index.true ∙ c.index.ensures in
    rw (eq-eqb c.args.row 6 six) (omega arith)

pub returns : goal.returns
unfolding when◌then◌else◌
returns c = rw (ne_eqb c.args.row 6 (λ q. c.if-row-index.false (q ∙ sym c.index.ensures))) (omega arith)
