-- The four parts that a text and its run ask to be zero are zeroed one behind the other.
use Rattle.term.specs.Layout.{figures}
use Rattle.loader.proofs.Preparing.{prepared_by}
use Rattle.loader.proofs.prepare.prepare.Goals as goal

pub returns : goal.returns
returns c =
    let a = c.args in
    prepared_by (figures a.room) a.s.now c.clear_part.new.s c.clear_part-2.new.s c.clear_part-3.new.s c.clear_part-4.new.s c.values.result c.marks.result c.ends.result
    c.values.ensures c.marks.ensures c.ends.ensures c.clear_part.ensures c.clear_part-2.ensures c.clear_part-3.ensures c.clear_part-4.ensures
