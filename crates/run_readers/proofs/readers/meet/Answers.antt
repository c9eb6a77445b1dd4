-- `run_readers::readers::meet` meets its contract: at the pair's rank stands the pair, and it is in the list; or it is new, and is stored with its rank.
-- The two ways to the store are one lemma on what stands at the rank.
use mathlib.Core.Path.{sym, ap, ◌∙◌}
use Prim.Native.Nat.{◌+◌}
use lib.ListN.{get_or}
use native.Mathlib.Omega.{arith}
use borrow.Author.Rules.{rules}
use Rattle.run_readers.proofs.Ranks.{met_already, met_stored, not_at_rank}
use Rattle.run_readers.proofs.readers.meet.Goals as goal
use Rattle.run_readers.proofs.readers.meet.Goals.{else-rank-n, then-rank-n+else-index-p}

pub returns-then-index-p : goal.returns-then-index-p
returns-then-index-p c =
    met_already c.args.s.now c.args.readers c.args.pairs c.args.n c.requires.0 c.args.p
    c.index-rank.result c.if-rank-n.true
    (sym c.word_at-then-rank-n.ensures ∙ sym c.index.ensures ∙ c.if-index-p.true)

pub returns : goal.returns
returns c =
    let rank = c.index-rank.ensures ∙ c.word_at.ensures in
    let new =
    not_at_rank c.args.s.now c.args.readers c.args.pairs c.args.n c.args.p c.requires.0 (λ h e.
    elim c.if-rank-n.branch [
      | then-rank-n+else-index-p w ↦
          w.if-index-p.false (w.index.ensures ∙ w.word_at-then-rank-n.ensures ∙ ap (λ k. get_or c.args.s.now (c.args.readers + k) 0) rank ∙ e)
      | else-rank-n w ↦ omega (arith, rank, w.if-rank-n.false)
    ])
    in
    rw (c.set_at-2.ensures, c.word-2.ensures, c.set_at.ensures, c.word.ensures)
    (met_stored c.args.s.now c.args.readers c.args.pairs c.args.n c.requires.0 c.args.p c.requires.1 new)
