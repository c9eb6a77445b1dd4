-- The tokens from i on are those from the first offset on.
-- What is left of the text falls: a separator has one byte, and a remark at least its `%`.
use Rattle.std.proofs.Common.{◌≡◌, ◌≤◌, ◌-◌, ℕ, length}
use Rattle.load_tokens.specs.Fronts.{tokens_in}
use Rattle.load_tokens.proofs.token.skip.Given as goal

abbrev pub invariant-loop-i : goal.invariant-loop-i
invariant-loop-i l = record {
  onward : l.at ≤ l.i;
  inside : l.i ≤ length l.rest;
  same_tokens : (from : ℕ) → tokens_in from l.rest l.at ≡ tokens_in from l.rest l.i;
}

abbrev pub decreases-loop-i : goal.decreases-loop-i
decreases-loop-i l = length l.rest - l.i
