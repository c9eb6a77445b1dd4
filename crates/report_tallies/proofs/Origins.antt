-- What stands behind a goal by its pieces, whose numbers are those in the goal's word: how long it is, and put piece by piece.
use Prim.Native.Nat.{ℕ, ◌+◌}
use mathlib.Core.Path.{◌≡◌, sym, ap₂, ◌∙◌}
use mathlib.Core.List.{List, ◌++◌, append_assoc}
use native.Mathlib.Omega.{arith}
use lib.ListN.{length, length-append}
use Rattle.meaning.specs.Bytes.{bytes, decimal}
use Rattle.meaning.specs.Report.{origin_bytes}
use Rattle.term.specs.Goals.{clause_in, tries_in}
use Rattle.report_pairs.specs.Laid.{Puts}
use Rattle.report_tallies.specs.Origins.{origin_of}
use Rattle.report_pairs.proofs.Laid.{puts_behind, puts_as}

module _ (goal clause tries : ℕ) (e : clause ≡ clause_in goal) (f : tries ≡ tries_in goal) where
  same : origin_bytes (record { clause = clause; tries = tries }) ≡ origin_of goal
  same = ap₂ (λ (c t : ℕ). origin_bytes (record { clause = c; tries = t })) e f

  size : length (origin_bytes (record { clause = clause; tries = tries })) ≡ 10 + length (decimal clause) + length (decimal tries)
  unfolding origin_bytes bytes
  size = simp length-append (omega arith)

  pub origin_size : length (origin_of goal) ≡ 10 + length (decimal clause) + length (decimal tries)
  origin_size = rw same at size

  pieces : (bytes " from " ++ decimal clause) ++ (bytes " at " ++ decimal tries) ≡ origin_bytes (record { clause = clause; tries = tries })
  unfolding origin_bytes
  pieces = sym (append_assoc (bytes " from " ++ decimal clause) (bytes " at ") (decimal tries))

  pub puts_origin : (b₀ b₁ b₂ : List ℕ) (at m to : ℕ) → Puts b₀ b₁ at m (bytes " from " ++ decimal clause) → Puts b₁ b₂ m to (bytes " at " ++ decimal tries)
      → Puts b₀ b₂ at to (origin_of goal)
  puts_origin b₀ b₁ b₂ at m to p q = puts_as _ (origin_of goal) b₀ b₂ at to (pieces ∙ same) (puts_behind _ _ b₀ b₁ b₂ at m to p q)
