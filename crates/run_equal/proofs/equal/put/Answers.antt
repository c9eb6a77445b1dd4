-- `run_equal::equal::put` meets its contract: the link is stored over the pair's own or behind all, or there is none.
use Prim.Native.Nat.{◌+◌, ◌%◌}
use mathlib.Core.Path.{ap, ◌∙◌}
use native.Mathlib.Omega.{arith}
use lib.ListN.{get_or}
use Rattle.run_equal.proofs.Puts.{put_none, put_over, put_new}
use Rattle.run_equal.proofs.equal.put.Goals as goal
use Rattle.run_equal.proofs.equal.put.Goals.{else-rank-taken, then-rank-taken+else-index-p}

pub returns-then-old-ge-PLACES : goal.returns-then-old-ge-PLACES
returns-then-old-ge-PLACES c =
    let a = c.args in
    λ met r k.
    rw (c.set_at.ensures, c.word.ensures)
    (put_over a.s.now a.lists a.links a.taken met a.p a.w r k c.index-rank.result c.if-rank-taken.true
    (omega (arith, c.if-old-ge-PLACES.true, c.word_at-old.ensures)))

pub returns-else-old-ge-PLACES : goal.returns-else-old-ge-PLACES
returns-else-old-ge-PLACES c =
    let a = c.args in
    λ met r k. put_none a.s.now a.lists a.links a.taken met a.p a.w r k

pub returns-then-taken-links : goal.returns-then-taken-links
returns-then-taken-links c =
    let a = c.args in
    λ met r k. put_none a.s.now a.lists a.links a.taken met a.p a.w r k

pub returns : goal.returns
returns c =
    let a = c.args in
    let rank = c.index-rank.ensures ∙ c.word_at.ensures in
    λ met r k.
    rw (c.set_at-3.ensures, c.word-2.ensures, c.set_at-2.ensures, c.word.ensures)
    (put_new a.s.now a.lists a.links a.taken met a.p a.w r k c.if-taken-links.false (λ h e.
    elim c.if-rank-taken.branch [
      | then-rank-taken+else-index-p q ↦ q.if-index-p.false
          (q.index.ensures ∙ ap (λ k. k % 65536) q.word_at-old.ensures ∙ ap (λ k. get_or a.s.now (a.lists + k) 0 % 65536) rank ∙ e)
      | else-rank-taken q ↦ omega (arith, rank, q.if-rank-taken.false)
    ]))
