-- `report_pairs::cells::behind_argument` meets its contract: a comma and the next argument, or the parenthesis.
use native.Mathlib.Omega.{arith}
use Rattle.report_pairs.proofs.Walking.{behind_argument_goes, behind_argument_ends}
use Rattle.report_pairs.proofs.cells.behind_argument.Goals as goal

pub returns-then-i-count : goal.returns-then-i-count
returns-then-i-count c x f j u us a = behind_argument_goes c.args.s.now x c.args.p c.args.i j f u us a (omega (arith, c.count.ensures))

pub returns : goal.returns
returns c x f j u us a = behind_argument_ends c.args.s.now x c.args.p c.args.i j f u us a (omega (arith, c.count.ensures))
