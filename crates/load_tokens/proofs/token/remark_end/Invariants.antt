-- The remark from i on ends where the one from the first offset on does.
use Rattle.std.proofs.Common.{◌≡◌, ◌≤◌, length}
use Rattle.load_tokens.specs.Ends.{end_of_remark}
use Rattle.load_tokens.proofs.token.remark_end.Given as goal

abbrev pub invariant-loop-i : goal.invariant-loop-i
invariant-loop-i l = record { inside : l.i ≤ length l.rest; same_end : end_of_remark l.rest l.i ≡ end_of_remark l.rest l.at }
