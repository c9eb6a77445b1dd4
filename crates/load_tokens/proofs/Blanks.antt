-- The bytes between tokens: behind a separator, and behind a remark, the tokens are the same.
-- The LF that ends a remark is a separator of its own.
use Prim.Native.Nat.{ℕ, ◌+◌, ◌≤◌, ◌<◌}
use mathlib.Core.Path.{◌≡◌, refl}
use mathlib.Core.Bool.{true, false}
use native.Mathlib.Omega.{arith}
use lib.Dec.{eqb}
use lib.ListN.{length, drop, get_or}
use Rattle.meaning.specs.Bytes.{Bytes, byte, when◌then◌else◌}
use Rattle.meaning.specs.Tokens.{blank, separates, remark, front}
use Rattle.load_tokens.specs.Fronts.{tokens_in}
use Rattle.load_tokens.specs.Ends.{end_of_remark}
use Rattle.load_tokens.proofs.TokensIn.{blank_in_front}

separator_front : (c : ℕ) (cs : Bytes) → separates c ≡ true → front c cs ≡ blank 0
unfolding front when◌then◌else◌
separator_front c cs e = rw e

remark_front : (c : ℕ) (cs : Bytes) → separates c ≡ false → eqb c (byte "%") ≡ true → front c cs ≡ blank (remark cs)
unfolding front when◌then◌else◌
remark_front c cs e f = rw (e, f)

module _ (rest : Bytes) (i : ℕ) (h : i < length rest) where
  pub behind_separator : separates (get_or rest i 0) ≡ true → (from : ℕ) → tokens_in from rest i ≡ tokens_in from rest (i + 1)
  behind_separator e = blank_in_front rest i h 0 (i + 1) (separator_front _ _ e) (omega arith) (omega arith)

  pub behind_remark : separates (get_or rest i 0) ≡ false → eqb (get_or rest i 0) (byte "%") ≡ true → end_of_remark rest (i + 1) ≤ length rest
      → (from : ℕ) → tokens_in from rest i ≡ tokens_in from rest (end_of_remark rest (i + 1))
  behind_remark e f fits = blank_in_front rest i h (remark (drop (i + 1) rest)) (end_of_remark rest (i + 1)) (remark_front _ _ e f) refl fits
