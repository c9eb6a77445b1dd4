-- `run_ground::seek::at_unassigned` meets its contract: a writer fails, and a reader joins the set.
use Rattle.run_ground.proofs.Unassigned.{at_writer, at_reader}
use Rattle.run_ground.proofs.seek.at_unassigned.Goals as goal

pub returns-then-tag-eq-WRITER : goal.returns-then-tag-eq-WRITER
returns-then-tag-eq-WRITER c x values stamp m o h n looking at =
    let a = c.args in
    at_writer a.s.now x values a.marks a.links stamp a.state m o looking a.tag a.p h n at c.if-tag-eq-WRITER.true

pub returns : goal.returns
returns c x values stamp m o h n looking at =
    let a = c.args in
    at_reader a.s.now x values a.marks a.links stamp a.state m o looking a.tag a.p h n at c.met_in.result c.met_in.ensures
    c.if-tag-eq-WRITER.false c.meet-m.new.s c.meet-m.result c.joined.result c.meet-m.ensures c.joined.ensures
