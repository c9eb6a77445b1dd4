-- `report_tallies::header::Tallies::header` meets its contract: six pieces, one behind the other.
use native.Mathlib.Omega.{arith}
use Rattle.meaning.specs.Bytes.{bytes}
use Rattle.report_tallies.proofs.FirstLines.{header_size, puts_header}
use Rattle.report_tallies.proofs.header.Tallies.header.Goals as goal

pub count-to-requires : goal.count-to-requires
count-to-requires c = omega (arith, header_size c.args.q c.args.self, c.requires.1)

pub count-to-requires-2 : goal.count-to-requires-2
count-to-requires-2 c = omega (arith, header_size c.args.q c.args.self, c.requires.1, c.count-to.auto.buffer, c.count-to.ensures.place)

pub count-to-requires-3 : goal.count-to-requires-3
count-to-requires-3 c = omega (arith, header_size c.args.q c.args.self, c.requires.1, c.count-to.auto.buffer, c.count-to.ensures.place, c.count-to-2.auto.buffer, c.count-to-2.ensures.place)

pub count-to-requires-4 : goal.count-to-requires-4
count-to-requires-4 c = omega (arith, header_size c.args.q c.args.self, c.requires.1, c.count-to.auto.buffer, c.count-to.ensures.place, c.count-to-2.auto.buffer, c.count-to-2.ensures.place, c.count-to-3.auto.buffer, c.count-to-3.ensures.place)

pub count-to-requires-5 : goal.count-to-requires-5
count-to-requires-5 c = omega (arith, header_size c.args.q c.args.self, c.requires.1, c.count-to.auto.buffer, c.count-to.ensures.place, c.count-to-2.auto.buffer, c.count-to-2.ensures.place, c.count-to-3.auto.buffer, c.count-to-3.ensures.place, c.count-to-4.auto.buffer, c.count-to-4.ensures.place)

pub put-requires : goal.put-requires
put-requires c = omega (arith, header_size c.args.q c.args.self, c.requires.1, c.count-to.auto.buffer, c.count-to.ensures.place, c.count-to-2.auto.buffer, c.count-to-2.ensures.place, c.count-to-3.auto.buffer, c.count-to-3.ensures.place, c.count-to-4.auto.buffer, c.count-to-4.ensures.place, c.count-to-5.auto.buffer, c.count-to-5.ensures.place)

pub returns : goal.returns
unfolding bytes
returns c =
    puts_header c.args.q c.args.self _ _ _ _ _ _ _ _ _ _ _ _ _ _ c.count-to.ensures c.count-to-2.ensures c.count-to-3.ensures c.count-to-4.ensures c.count-to-5.ensures c.put.ensures
