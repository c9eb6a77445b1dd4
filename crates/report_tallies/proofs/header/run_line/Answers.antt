-- `report_tallies::header::run_line` meets its contract: four pieces, one behind the other.
use mathlib.Core.Path.{ap}
use native.Mathlib.Omega.{arith}
use lib.ListN.{length}
use Rattle.meaning.specs.Bytes.{bytes}
use Rattle.report_put.proofs.Putting.{puts_is}
use Rattle.report_tallies.proofs.FirstLines.{run_line_size, puts_run}
use Rattle.report_tallies.proofs.header.run_line.Goals as goal

pub words-to-requires : goal.words-to-requires
words-to-requires c = omega (arith, c.requires, run_line_size c.args.verdict c.args.steps)

pub words-to-requires-2 : goal.words-to-requires-2
words-to-requires-2 c =
    omega (arith, c.requires, run_line_size c.args.verdict c.args.steps, ap length c.verdict_word.ensures, c.words-to.auto.buffer, c.words-to.ensures.place)

pub count-to-requires : goal.count-to-requires
count-to-requires c =
    omega (arith, c.requires, run_line_size c.args.verdict c.args.steps, ap length c.verdict_word.ensures, c.words-to.auto.buffer, c.words-to.ensures.place, c.words-to-2.auto.buffer, c.words-to-2.ensures.place)

pub put-requires : goal.put-requires
put-requires c =
    omega (arith, c.requires, run_line_size c.args.verdict c.args.steps, ap length c.verdict_word.ensures, c.words-to.auto.buffer, c.words-to.ensures.place, c.words-to-2.auto.buffer, c.words-to-2.ensures.place, c.count-to.auto.buffer, c.count-to.ensures.place)

pub returns : goal.returns
unfolding bytes
returns c =
    puts_run c.args.verdict c.args.steps _ _ _ _ _ _ _ _ _ c.words-to.ensures (puts_is c.verdict_word.ensures c.words-to-2.ensures) c.count-to.ensures c.put.ensures
