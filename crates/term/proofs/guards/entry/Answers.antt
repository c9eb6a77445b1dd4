use native.Mathlib.Omega.{arith}
use Rattle.meaning.specs.Table.{guard_table}
use Rattle.term.proofs.TableOfGuards.{seven, coded_at}
use Rattle.term.proofs.guards.entry.Goals as goal

pub returns : goal.returns
returns c = coded_at c.table.result guard_table _ c.args.n c.table.ensures (omega (arith, seven, c.requires))
