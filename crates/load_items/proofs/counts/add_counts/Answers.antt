use Rattle.std.proofs.Common.{◌+◌, ◌≤◌, min, get_or, arith}
use Rattle.load_items.proofs.Halfway.{halfway_none, halfway_next, by_place}
use Rattle.load_items.proofs.counts.add_counts.Goals as goal

pub loop-i-init : goal.loop-i-init
loop-i-init c =
    halfway_none (λ j. min 2 (get_or c.args.table.now j 0 + get_or c.args.source.now j 0)) c.args.table.now c.requires.source_len.1

pub overflow_add-table : goal.overflow_add-table
overflow_add-table c =
    let l = c.loop-i in
    let both = by_place (λ j. (get_or c.args.source.now j 0 ≤ 2) × (get_or c.args.table.now j 0 ≤ 2)) c.requires.by_index l.i l.invariant.low (omega arith) in
    omega (arith, both.0, both.1, l.invariant.left l.i (omega arith))

pub loop-i-preserved : goal.loop-i-preserved
loop-i-preserved c =
    let l = c.loop-i in
    halfway_next (λ j. min 2 (get_or c.args.table.now j 0 + get_or c.args.source.now j 0)) c.args.table.now l.table l.i c.min.result l.invariant (omega arith)
    (omega (arith, c.min.ensures, l.invariant.left l.i (omega arith)))

pub returns : goal.returns
returns c =
    let h = c.loop-i.invariant in
    record { counts = λ i l. h.done (32 + i) (omega arith) (omega arith); places = h.first }
