use native.Mathlib.Omega.{arith}
use Rattle.job.proofs.Answers.{too_long_for_buffer, too_long, fits}
use Rattle.job.proofs.call.told.Goals.{then-size-n-via-then-size-n, then-size-n-via-else-size-n+then-n-gt16777216}
use Rattle.job.proofs.call.told.Goals as goal

pub returns-then-size-n : goal.returns-then-size-n
returns-then-size-n c long e =
    elim c.then-size-n.branch [
      | then-size-n-via-then-size-n w ↦ too_long_for_buffer c.args.n c.args.size long e w.if-size-n.true
      | then-size-n-via-else-size-n+then-n-gt16777216 w ↦ too_long c.args.n c.args.size long e w.if-n-gt16777216.true
    ]

pub returns : goal.returns
returns c long e = fits c.args.n c.args.size long e (omega arith) (omega arith)
