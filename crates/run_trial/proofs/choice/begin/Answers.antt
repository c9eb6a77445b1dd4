-- The region's words are zero, and no others have changed.
use native.Mathlib.Omega.{arith}
use Rattle.std.proofs.Common.{◌+◌}
use Rattle.term.specs.Layout.{trial_region}
use Rattle.term.proofs.Zeroing.{zeroed_only, zeroed_zero}
use Rattle.run_trial.proofs.choice.begin.Goals as goal

pub returns-clause-only : goal.returns-clause-only
returns-clause-only c = rw c.clear_part.ensures (zeroed_only trial_region 16 c.args.s.now)

pub returns-clause-nothing : goal.returns-clause-nothing
returns-clause-nothing c = λ x h. rw c.clear_part.ensures (zeroed_zero trial_region 16 c.args.s.now (trial_region + x) (omega arith) (omega arith) (omega arith))
