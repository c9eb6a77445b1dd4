use mathlib.Core.Path.{◌∙◌}
use Rattle.term.proofs.TableOfGuards.{found_first}
use Rattle.term.proofs.guards.row_of.Goals as goal

pub returns : goal.returns
returns c = c.find.ensures ∙ found_first c.args.name.now c.args.count c.table.result c.table.ensures
