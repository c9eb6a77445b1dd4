-- `run_circle::circle::note` meets its contract: the pair that the state names, if any, gets a mark that tells the pair at hand.
use mathlib.Core.Path.{◌≡◌, sym, ap, ◌∙◌}
use Rattle.run_circle.specs.Ground.{stamp_in}
use Rattle.run_circle.proofs.Visiting.{first_inside, note_settled}
use Rattle.run_circle.proofs.circle.note.Goals as goal

pub word_at-m-requires : goal.word_at-m-requires
word_at-m-requires c =
    let a = c.args in
    let (x, place, goal, h, leading, below) = c.requires in
    first_inside a.s.now x a.values a.marks place a.stamp goal a.state a.p h leading c.first_visited-q.result c.first_visited-q.ensures

pub returns-then-m-stamp : goal.returns-then-m-stamp
returns-then-m-stamp c =
    let a = c.args in λ x place goal h leading below.
    let m : stamp_in c.word_at-m.result ≡ a.stamp = c.if-m-stamp.true in
    rw (c.set_at.ensures, c.word.ensures)
    (note_settled a.s.now x a.values a.marks place a.stamp goal a.state a.p h leading c.first_visited-q.result c.first_visited-q.ensures
    (ap (λ n. stamp_in n) (sym c.word_at-m.ensures) ∙ m))
