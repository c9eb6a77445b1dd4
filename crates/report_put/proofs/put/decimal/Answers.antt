-- `report_put::put::decimal` meets its contract: what is put over the digits that stand is the next digit.
use Prim.Native.Nat.{ℕ, ◌+◌, ◌-◌, ◌/◌, ◌%◌, ◌≤◌, ◌<◌}
use mathlib.Core.Path.{◌≡◌, refl, sym, ap, ◌∙◌}
use mathlib.Core.List.{List, [], ◌∷◌, ◌++◌}
use native.Mathlib.Omega.{arith}
use lib.ListN.{length, set}
use lib.Seq.{set_comm}
use Rattle.meaning.specs.Bytes.{Bytes, decimal as in_decimal}
use Rattle.report_pairs.specs.Laid.{laid}
use Rattle.report_pairs.proofs.Laid.{laid_append}
use Rattle.report_pairs.proofs.Nodes.{decimal_positive}
use Rattle.report_pairs.proofs.Decimals.{decimal_digit, decimal_step, decimal_length}
use Rattle.report_put.proofs.put.decimal.Goals as goal

-- A byte behind others may be put before them.
behind_first : (xs : Bytes) (b : List ℕ) (at i c : ℕ) → at + length xs ≤ i → laid (set b i c) at xs ≡ set (laid b at xs) i c
unfolding laid
behind_first [] b at i c h = refl
behind_first (x ∷ xs) b at i c h =
    ap (λ (l : List ℕ). laid l (at + 1) xs) (set_comm b i at c x (λ e. absurd (omega arith)))
    ∙ behind_first xs (set b at x) (at + 1) i c (omega arith)

-- So may the last digit, and a number below ten is one byte.
last_first : (b : List ℕ) (at i n d : ℕ) → d ≡ 48 + n % 10 → 10 ≤ n → i ≡ at + length (in_decimal (n / 10))
    → laid (set b i d) at (in_decimal (n / 10)) ≡ laid b at (in_decimal n)
unfolding laid
last_first b at i n d same h e =
    let xs : Bytes = in_decimal (n / 10) in
    behind_first xs b at i d (omega arith)
    ∙ ap (λ (j : ℕ). laid (laid b at xs) j (d ∷ [])) e
    ∙ laid_append xs (d ∷ []) b at
    ∙ ap (laid b at) (ap (λ (k : ℕ). xs ++ (k ∷ [])) same ∙ sym (decimal_step n h))

one_digit : (b : List ℕ) (at n d : ℕ) → d ≡ 48 + n % 10 → n < 10 → set b at d ≡ laid b at (in_decimal n)
unfolding laid
one_digit b at n d e h =
    let same : n % 10 ≡ n = omega arith in
    ap (laid b at) (ap (λ (k : ℕ). k ∷ []) (e ∙ ap (λ (k : ℕ). 48 + k) same) ∙ sym (decimal_digit n h))

pub overflow_sub-to : goal.overflow_sub-to
overflow_sub-to c = omega (arith, decimal_positive c.loop-left.left)

pub bounds-buffer-to : goal.bounds-buffer-to
bounds-buffer-to c = omega (arith, decimal_positive c.loop-left.left)

pub loop-left-preserved : goal.loop-left-preserved
loop-left-preserved c =
    let l = c.loop-left in
    let shorter = decimal_length l.left (omega arith) in
    let next : l.to - 1 ≡ c.args.at + length (in_decimal (l.left / 10)) = omega (arith, shorter) in
    (next, omega arith, last_first l.buffer c.args.at (l.to - 1) l.left c.digit.result c.digit.ensures (omega arith) next ∙ l.invariant.2)

pub bounds-buffer-at : goal.bounds-buffer-at
bounds-buffer-at c = omega (arith, decimal_positive c.args.n)

pub returns : goal.returns
returns c = record {
  place = omega arith;
  laid_there = one_digit c.loop-left.buffer c.args.at c.loop-left.left c.digit-2.result c.digit-2.ensures (omega arith) ∙ c.loop-left.invariant.2;
}
