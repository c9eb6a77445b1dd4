-- `report_leaves::source::Source::name` meets its contract: the bytes of the text where it is spelled.
use Prim.Native.Nat.{ℕ, ◌+◌, ◌*◌}
use mathlib.Core.Path.{◌≡◌, ◌∙◌, ap}
use native.Mathlib.Omega.{arith}
use lib.ListN.{get_or}
use Rattle.report_put.proofs.Putting.{puts_is}
use Rattle.report_pairs.proofs.Leaves.{spelled_is}
use Rattle.report_leaves.proofs.source.Source.name.Goals as goal

pub spelling-requires : goal.spelling-requires
spelling-requires c =
    let k = c.args.k in let s = c.args.self.now.s.now in
    let front : 2 * k + 0 ≡ 2 * k = omega arith in
    let from : c.index-start.result ≡ get_or s (2 * k) 0 = c.index-start.ensures ∙ c.word_at.ensures ∙ ap (λ (m : ℕ). get_or s m 0) front in
    let size : c.index-n.result ≡ get_or s (2 * k + 1) 0 = c.index-n.ensures ∙ c.word_at-2.ensures in
    let at = c.requires.2 in
    (omega (arith, size, at.sized, c.requires.3), omega (arith, from, size, at.inside))

pub returns : goal.returns
returns c f at =
    let k = c.args.k in let s = c.args.self.now.s.now in
    let front : 2 * k + 0 ≡ 2 * k = omega arith in
    let from : c.index-start.result ≡ get_or s (2 * k) 0 = c.index-start.ensures ∙ c.word_at.ensures ∙ ap (λ (m : ℕ). get_or s m 0) front in
    let size : c.index-n.result ≡ get_or s (2 * k + 1) 0 = c.index-n.ensures ∙ c.word_at-2.ensures in
    puts_is (spelled_is c.args.self.now.text.now c.index-start.result c.index-n.result (get_or s (2 * k) 0) (get_or s (2 * k + 1) 0) f from size at) c.spelling.ensures
