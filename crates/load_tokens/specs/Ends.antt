-- Where a run or a remark that begins at an offset ends, and what is known behind the bytes between tokens.
use Rattle.std.specs.Prelude.{ℕ, ◌+◌, ◌≤◌, ◌<◌, ◌≡◌, false, eqb, length, drop, get_or}
use Rattle.meaning.specs.Bytes.{Bytes, byte}
use Rattle.meaning.specs.Tokens.{run, remark, separates}
use Rattle.load_tokens.specs.Fronts.{tokens_in}

abbrev pub end_of_run : Bytes → ℕ → ℕ
end_of_run rest at = at + length (run (drop at rest))

-- A remark ends at its LF, or at the end of the text.
abbrev pub end_of_remark : Bytes → ℕ → ℕ
end_of_remark rest at = at + remark (drop at rest)

-- Between the two places stand separators and remarks alone; at the second stands the end of the text, or a byte of a token.
pub record Skipped (rest : Bytes) (at a : ℕ) : Type 0 where
  pub onward : at ≤ a
  pub inside : a ≤ length rest
  pub same_tokens : (from : ℕ) → tokens_in from rest at ≡ tokens_in from rest a
  pub no_separator : a < length rest → separates (get_or rest a 0) ≡ false
  pub no_remark : a < length rest → eqb (get_or rest a 0) (byte "%") ≡ false
