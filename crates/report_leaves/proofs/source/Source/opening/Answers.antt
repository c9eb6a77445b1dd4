-- `report_leaves::source::Source::opening` meets its contract: a bracket, or the name and a parenthesis.
use mathlib.Core.Path.{sym, ap}
use Rattle.report_put.proofs.Putting.{puts_two, puts_is}
use Rattle.report_pairs.specs.Walk.{opening_bytes}
use Rattle.report_pairs.proofs.Leaves.{opens_named}
use Rattle.report_leaves.proofs.source.Source.opening.Goals as goal

pub returns-in-Some : goal.returns-in-Some
returns-in-Some c f o =
    let N = opens_named c.args.self.now.s.now c.args.self.now.text.now _ c.in-Some.k f c.in-Some.ensures o in
    puts_is (ap opening_bytes (sym N.1)) (puts_two (c.name-to.ensures N.0 N.3) c.put-in-Some.ensures)
