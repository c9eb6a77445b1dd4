-- `report_count::counting::counted` meets its contract: the length that is kept of an assigned variable.
use mathlib.Core.Path.{◌∙◌, sym}
use mathlib.Core.Logic.{◌≢◌}
use native.Mathlib.Omega.{arith}
use borrow.Author.Rules.{rules}
use Rattle.std.specs.Prelude.{SomeIff}
use Rattle.report_pairs.proofs.Chains.{pair_inside}
use Rattle.report_count.proofs.KeptLengths.{length_told}
use Rattle.report_count.proofs.counting.counted.Goals as goal

pub fact-requires : goal.fact-requires
fact-requires c =
    let (text, x, t, r, k) = c.requires in
    omega (arith, pair_inside c.args.s.now text x c.args.facts r t c.args.w c.in_ok-p.p k (sym c.in_ok-p.was ∙ c.pair.ensures))

pub returns : goal.returns
returns c text x seen t r n k =
    let known : SomeIff c.then_some.result (c.index-n.result ≢ 0) c.index-n.result = search rules in
    length_told c.args.s.now text x c.args.facts seen t c.args.w c.in_ok-p.p c.index-n.result c.then_some.result r n k (sym c.in_ok-p.was ∙ c.pair.ensures)
    (c.index-n.ensures ∙ c.fact.ensures) known

pub returns-in_err-p : goal.returns-in_err-p
returns-in_err-p c text x seen t r n k = rw c.from_residual.ensures tt
