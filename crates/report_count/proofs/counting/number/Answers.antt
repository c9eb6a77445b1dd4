-- `report_count::counting::number` meets its contract: the number that the pair has, or the next one.
use Prim.Native.Nat.{ℕ, ◌+◌}
use mathlib.Core.Path.{ap}
use Rattle.report_count.proofs.Numbering.{number_had, number_missing, number_given_at}
use Rattle.report_count.proofs.counting.number.Goals as goal

pub returns-then-k-ne0 : goal.returns-then-k-ne0
returns-then-k-ne0 c text x seen n r k b e q h =
    number_had c.args.s.now text x c.args.facts seen n c.args.p c.fact-k.result r k b q c.fact-k.ensures c.if-k-ne0.true h

pub returns : goal.returns
returns c text x seen n r k b e q h =
    let new = number_missing c.args.s.now x c.args.facts seen n c.args.p c.fact-k.result k b q c.fact-k.ensures c.if-k-ne0.false in
    rw c.set_fact.ensures (number_given_at c.args.s.now text x c.args.facts seen n c.args.p _ r k b new q (ap (λ (m : ℕ). m + 1) k.given) h)
