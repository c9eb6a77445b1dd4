-- `report_tallies::origin::origin` meets its contract: the clause behind a word, the tries behind another.
use mathlib.Core.Path.{refl}
use native.Mathlib.Omega.{arith}
use Rattle.meaning.specs.Bytes.{bytes}
use Rattle.term.specs.Goals.{tries_in}
use Rattle.report_tallies.proofs.Origins.{origin_size, puts_origin}
use Rattle.report_tallies.proofs.origin.origin.Goals as goal

pub count-to-requires : goal.count-to-requires
count-to-requires c = omega (arith, origin_size c.args.goal c.clause_of.result (tries_in c.args.goal) c.clause_of.ensures refl, c.requires)

pub count-requires : goal.count-requires
count-requires c =
    omega (arith, origin_size c.args.goal c.clause_of.result c.tries_of.result c.clause_of.ensures c.tries_of.ensures, c.requires, c.count-to.auto.buffer, c.count-to.ensures.place)

pub returns : goal.returns
unfolding bytes
returns c =
    puts_origin c.args.goal c.clause_of.result c.tries_of.result c.clause_of.ensures c.tries_of.ensures _ _ _ _ _ _ c.count-to.ensures c.count.ensures
