-- `run_readers::readers::meet_all` meets its contract. The words of the pairs noted stand below the list, so that they are what they were.
use Rattle.std.proofs.Common.{◌≡◌, ◌<◌, sym, ◌∙◌, arith}
use Rattle.run_readers.proofs.Asking.{asked_none}
use Rattle.run_readers.proofs.Ranks.{met_none, noted_term, noted_pair, met_more, met_less}
use Rattle.run_readers.proofs.readers.meet_all.Goals as goal
use Rattle.run_readers.proofs.readers.meet_all.Goals.{then-word_at-eq0, else-word_at-eq0}

pub loop-i-init : goal.loop-i-init
loop-i-init c = rw (asked_none c.args.s.now) (met_none c.args.s.now c.args.readers c.args.pairs c.args.first c.requires.0)

pub loop-i-preserved : goal.loop-i-preserved
loop-i-preserved c =
    let a = c.args in
    let L = c.loop-i in
    let few : L.i < 192 = omega arith in
    elim c.if-word_at-eq0.branch [
      | then-word_at-eq0 w ↦
          rw (w.s-is, w.met-is)
          (met_more a.s.now L.s a.readers a.pairs a.first L.i L.met c.requires.1 few L.invariant _ _
          (sym c.word_at.ensures ∙ w.if-word_at-eq0.true) (rw (w.index.ensures, w.word_at-then-word_at-eq0.ensures) at w.meet-met.ensures))
      | else-word_at-eq0 w ↦
          rw (w.s-is, w.met-is)
          (met_less a.s.now L.s a.readers a.pairs a.first L.i L.met c.requires.1 few L.invariant
          (λ e. w.if-word_at-eq0.false (c.word_at.ensures ∙ e)))
    ]
