use Rattle.std.proofs.Common.{refl, ◌+◌, get_or, arith}
use Rattle.load_items.proofs.Halfway.{halfway_none, halfway_next}
use Rattle.load_items.proofs.counts.copy_counts.Goals as goal

pub loop-i-init : goal.loop-i-init
loop-i-init c = halfway_none (λ j. get_or c.args.source.now j 0) c.args.table.now c.requires.1

pub loop-i-preserved : goal.loop-i-preserved
loop-i-preserved c =
    let l = c.loop-i in
    halfway_next (λ j. get_or c.args.source.now j 0) c.args.table.now l.table l.i (get_or c.args.source.now l.i 0) l.invariant (omega arith) refl

pub returns : goal.returns
returns c =
    let h = c.loop-i.invariant in
    record { counts = λ i l. h.done (32 + i) (omega arith) (omega arith); places = h.first }
