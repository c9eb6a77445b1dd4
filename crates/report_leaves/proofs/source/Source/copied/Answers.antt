-- `report_leaves::source::Source::copied` meets its contract: what is kept of an assigned variable's pair says where its bytes stand.
use mathlib.Core.Path.{◌∙◌, sym}
use native.Mathlib.Omega.{arith}
use Rattle.report_pairs.proofs.Chains.{pair_inside}
use Rattle.report_leaves.proofs.Copying.{standing, copied_all}
use Rattle.report_leaves.proofs.source.Source.copied.Goals as goal

pub fact-requires : goal.fact-requires
fact-requires c =
    let (text, x, order, t, r, k, F) = c.requires in
    omega (arith, pair_inside c.args.self.now.s.now text x c.args.self.now.facts r t c.args.w c.in_ok-p.p k (sym c.in_ok-p.was ∙ c.pair.ensures))

pub fact-requires-2 : goal.fact-requires-2
fact-requires-2 c =
    let (text, x, order, t, r, k, F) = c.requires in
    omega (arith, pair_inside c.args.self.now.s.now text x c.args.self.now.facts r t c.args.w c.in_ok-p.p k (sym c.in_ok-p.was ∙ c.pair.ensures))

pub again-requires : goal.again-requires
again-requires c =
    let (text, x, order, t, r, k, F) = c.requires in
    let n = c.index-n.ensures ∙ c.fact.ensures in
    let D = standing c.args.self.now.s.now text x c.args.self.now.facts order t c.args.w c.in_ok-p.p c.args.at c.args.buffer.now r k F (sym c.in_ok-p.was ∙ c.pair.ensures)
    (λ z. c.if-n-eq0.false (n ∙ z)) in
    (omega (arith, F.room, n, D.size), omega arith)

pub returns : goal.returns
returns c = λ text x order t r k F.
    let n = c.index-n.ensures ∙ c.fact.ensures in
    let D = standing c.args.self.now.s.now text x c.args.self.now.facts order t c.args.w c.in_ok-p.p c.args.at c.args.buffer.now r k F (sym c.in_ok-p.was ∙ c.pair.ensures)
    (λ z. c.if-n-eq0.false (n ∙ z)) in
    copied_all c.args.self.now.s.now c.args.self.now.facts c.in_ok-p.p c.args.at c.args.buffer.now _ _ D _ _ _
    n (c.index-start.ensures ∙ c.fact-2.ensures) c.if-at-n.false c.if-at-n-2.false c.again.ensures
