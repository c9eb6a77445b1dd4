use Rattle.std.proofs.Common.{◌≡◌, ◌<◌, ◌+◌, ◌-◌, get_or, arith}
use Rattle.term.specs.Layout.{procedure_slot}
use Rattle.load_image.proofs.Links.{linked_none, linked_again}
use Rattle.load_image.proofs.keep.link.Goals as goal

pub loop-k-init : goal.loop-k-init
loop-k-init c = linked_none c.args.clauses c.args.heads.now c.args.s.now

pub loop-k-preserved : goal.loop-k-preserved
loop-k-preserved c =
    let k = c.loop-k.k in
    let w = c.index.result in
    let low : k - 1 < c.args.clauses = omega arith in
    let first : 512 + w - 8 ≡ procedure_slot (get_or c.args.heads.now (k - 1) 0) = omega (arith, c.requires.by_index (k - 1) low) in
    linked_again c.args.heads.now c.args.clauses (k - 1) k (512 + w - 8) c.word.result c.loop-k.s c.args.s.now
    (omega arith) (omega arith) (omega arith) first c.word.ensures c.loop-k.invariant

pub returns : goal.returns
returns c =
    let all : c.loop-k.k ≡ 0 = omega arith in
    rw all at c.loop-k.invariant
