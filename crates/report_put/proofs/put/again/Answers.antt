-- `report_put::put::again` meets its contract: those from which the bytes come stand before them.
use Prim.Native.Nat.{ℕ, ◌+◌, ◌<◌}
use mathlib.Core.Path.{◌≡◌, sym, ap, ◌∙◌}
use mathlib.Core.List.{List, [], ◌∷◌, ◌++◌}
use native.Mathlib.Numerals.{add-one}
use native.Mathlib.Omega.{arith}
use lib.ListN.{length, get_or, set, take}
use lib.Seq.{take-suc, take_all}
use Rattle.meaning.specs.Bytes.{Bytes}
use Rattle.report_pairs.specs.Laid.{Puts, Has}
use Rattle.report_pairs.proofs.Laid.{puts_none, puts_one, puts_behind, puts_as}
use Rattle.report_pairs.proofs.Having.{laid_before}
use Rattle.report_put.proofs.put.again.Goals as goal

-- One byte more.
more : (bs : Bytes) (b₀ b : List ℕ) (at from i : ℕ) → i < length bs → from + i < at → Has b₀ from bs → Puts b₀ b at (at + i) (take i bs)
    → Puts b₀ (set b (at + i) (get_or b (from + i) 0)) at (at + (i + 1)) (take (i + 1) bs)
more bs b₀ b at from i h l has p =
    let here : get_or b (from + i) 0 ≡ get_or bs i 0 =
    ap (λ (m : List ℕ). get_or m (from + i) 0) p.laid_there ∙ laid_before (take i bs) b₀ at (from + i) l ∙ has i h in
    let next : at + i + 1 ≡ at + (i + 1) = omega arith in
    let one : take i bs ++ (get_or b (from + i) 0 ∷ []) ≡ take (i + 1) bs =
    ap (λ (c : ℕ). take i bs ++ (c ∷ [])) here ∙ sym (take-suc bs i 0 (omega arith)) ∙ ap (λ (m : ℕ). take m bs) (sym (add-one i)) in
    rw next at (puts_as _ _ b₀ (set b (at + i) (get_or b (from + i) 0)) at (at + i + 1) one
    (puts_behind (take i bs) (get_or b (from + i) 0 ∷ []) b₀ b _ at (at + i) (at + i + 1) p (puts_one b (at + i) (get_or b (from + i) 0))))

pub loop-i-init : goal.loop-i-init
loop-i-init c = λ bs e h. let none : c.args.at + 0 ≡ c.args.at = omega arith in rw none (puts_none c.args.buffer.now c.args.at)

pub loop-i-preserved : goal.loop-i-preserved
loop-i-preserved c = λ bs e h. more bs c.args.buffer.now c.loop-i.buffer c.args.at c.args.from c.loop-i.i (omega arith) (omega arith) h (c.loop-i.invariant bs e h)

pub returns : goal.returns
returns c = λ bs e h.
    let l = c.loop-i in
    let all : l.i ≡ c.args.n = omega arith in
    puts_as (take c.args.n bs) bs c.args.buffer.now l.buffer c.args.at (c.args.at + c.args.n) (take_all c.args.n bs (omega arith)) (rw all at (l.invariant bs e h))
