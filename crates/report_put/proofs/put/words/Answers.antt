-- `report_put::put::words` meets its contract.
use Prim.Native.Nat.{ℕ, suc, ◌+◌, ◌≤◌}
use mathlib.Core.Path.{◌≡◌, sym, ap, ◌∙◌}
use mathlib.Core.List.{List, [], ◌∷◌, ◌++◌}
use native.Mathlib.Numerals.{add-one}
use native.Mathlib.Omega.{arith}
use lib.ListN.{length, get_or, take}
use lib.Seq.{take-suc, take_all}
use Rattle.report_pairs.proofs.Laid.{puts_none, puts_behind, puts_as}
use Rattle.report_put.proofs.put.words.Goals as goal

one_more : (l : List ℕ) (i : ℕ) → suc i ≤ length l → take i l ++ (get_or l i 0 ∷ []) ≡ take (i + 1) l
one_more l i h = sym (take-suc l i 0 h) ∙ ap (λ (n : ℕ). take n l) (sym (add-one i))

pub loop-b-init : goal.loop-b-init
loop-b-init c = (omega arith, puts_none c.args.buffer.now c.args.at)

pub loop-b-preserved : goal.loop-b-preserved
loop-b-preserved c =
    let l = c.loop-b in (
      omega (arith, c.put-to.ensures.place),
      puts_as _ _ c.args.buffer.now c.put-to.new.buffer c.args.at c.put-to.result (one_more c.args.bytes.now l.b-index (omega arith))
          (puts_behind _ _ c.args.buffer.now l.buffer c.put-to.new.buffer c.args.at l.to c.put-to.result l.invariant.1 c.put-to.ensures),
    )

pub returns : goal.returns
returns c =
    let l = c.loop-b in
    puts_as _ c.args.bytes.now c.args.buffer.now l.buffer c.args.at l.to (take_all l.b-index c.args.bytes.now (omega arith)) l.invariant.1
