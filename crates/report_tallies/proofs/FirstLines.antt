-- The first lines by their pieces: how long they are, and put piece by piece.
use Prim.Native.Nat.{ℕ, ◌+◌}
use mathlib.Core.Path.{◌≡◌}
use mathlib.Core.List.{List, ◌++◌, append_assoc}
use native.Mathlib.Omega.{arith}
use lib.ListN.{length, length-append}
use Rattle.meaning.specs.Bytes.{bytes, decimal}
use Rattle.meaning.specs.Report.{verdict_bytes}
use Rattle.term.specs.States.{verdict_of}
use Rattle.term.specs.declared.state.Verdict.{Verdict as Told}
use Rattle.report_pairs.specs.Laid.{Puts}
use Rattle.report_tallies.specs.Header.{header_of, run_words_of, run_line_of}
use Rattle.report_tallies.specs.declared.header.Tallies.{Tallies}
use Rattle.report_pairs.proofs.Laid.{puts_behind, puts_as}

pub header_size : (q : ℕ) (c : Tallies) → length (header_of q c)
    ≡ 39 + length (decimal (q + 1)) + length (decimal c.tries) + length (decimal c.active) + length (decimal c.waiting) + length (decimal c.failed)
unfolding header_of bytes
header_size q c = simp length-append (omega arith)

header_pieces : (q : ℕ) (c : Tallies)
    → bytes "query " ++ decimal (q + 1) ++ (bytes " tries " ++ decimal c.tries) ++ (bytes " active " ++ decimal c.active)
    ++ (bytes " waiting " ++ decimal c.waiting) ++ (bytes " failed " ++ decimal c.failed) ++ bytes "\n"
    ≡ header_of q c
unfolding header_of
header_pieces q c = simp append_assoc

pub puts_header : (q : ℕ) (c : Tallies) (b₀ b₁ b₂ b₃ b₄ b₅ b₆ : List ℕ) (at₀ at₁ at₂ at₃ at₄ at₅ at₆ : ℕ)
    → Puts b₀ b₁ at₀ at₁ (bytes "query " ++ decimal (q + 1)) → Puts b₁ b₂ at₁ at₂ (bytes " tries " ++ decimal c.tries)
    → Puts b₂ b₃ at₂ at₃ (bytes " active " ++ decimal c.active) → Puts b₃ b₄ at₃ at₄ (bytes " waiting " ++ decimal c.waiting)
    → Puts b₄ b₅ at₄ at₅ (bytes " failed " ++ decimal c.failed) → Puts b₅ b₆ at₅ at₆ (bytes "\n") → Puts b₀ b₆ at₀ at₆ (header_of q c)
puts_header q c b₀ b₁ b₂ b₃ b₄ b₅ b₆ at₀ at₁ at₂ at₃ at₄ at₅ at₆ p₁ p₂ p₃ p₄ p₅ p₆ =
    puts_as _ (header_of q c) b₀ b₆ at₀ at₆ (header_pieces q c)
    (puts_behind _ _ b₀ b₅ b₆ at₀ at₅ at₆
    (puts_behind _ _ b₀ b₄ b₅ at₀ at₄ at₅
    (puts_behind _ _ b₀ b₃ b₄ at₀ at₃ at₄
    (puts_behind _ _ b₀ b₂ b₃ at₀ at₂ at₃ (puts_behind _ _ b₀ b₁ b₂ at₀ at₁ at₂ p₁ p₂) p₃) p₄) p₅) p₆)

-- The run's line.
pub run_line_size : (v : Told) (steps : ℕ) → length (run_line_of v steps) ≡ 12 + length (verdict_bytes (verdict_of v)) + length (decimal steps)
unfolding run_line_of run_words_of bytes
run_line_size v steps = simp length-append (omega arith)

run_pieces : (v : Told) (steps : ℕ) → bytes "run " ++ verdict_bytes (verdict_of v) ++ (bytes " steps " ++ decimal steps) ++ bytes "\n" ≡ run_line_of v steps
unfolding run_line_of run_words_of
run_pieces v steps = simp append_assoc

pub puts_run : (v : Told) (steps : ℕ) (b₀ b₁ b₂ b₃ b₄ : List ℕ) (at₁ at₂ at₃ at₄ : ℕ)
    → Puts b₀ b₁ 0 at₁ (bytes "run ") → Puts b₁ b₂ at₁ at₂ (verdict_bytes (verdict_of v)) → Puts b₂ b₃ at₂ at₃ (bytes " steps " ++ decimal steps)
    → Puts b₃ b₄ at₃ at₄ (bytes "\n") → Puts b₀ b₄ 0 at₄ (run_line_of v steps)
puts_run v steps b₀ b₁ b₂ b₃ b₄ at₁ at₂ at₃ at₄ p₁ p₂ p₃ p₄ =
    puts_as _ (run_line_of v steps) b₀ b₄ 0 at₄ (run_pieces v steps)
    (puts_behind _ _ b₀ b₃ b₄ 0 at₃ at₄ (puts_behind _ _ b₀ b₂ b₃ 0 at₂ at₃ (puts_behind _ _ b₀ b₁ b₂ 0 at₁ at₂ p₁ p₂) p₃) p₄)
