use Rattle.load_image.proofs.Links.{kept_none, kept_again}
use Rattle.load_image.proofs.keep.keep_places.Goals as goal

pub loop-n-init : goal.loop-n-init
loop-n-init c = kept_none c.args.table.now c.args.from c.args.place c.args.s.now

pub loop-n-preserved : goal.loop-n-preserved
loop-n-preserved c = kept_again c.args.table.now c.args.from c.args.place c.loop-n.n c.word.result c.loop-n.s c.args.s.now c.word.ensures c.loop-n.invariant
