-- There is a free place, or the log is closed up.
use Rattle.run_unreduced.proofs.FreePlaces.{place_free, place_closed}
use Rattle.term.specs.Layout.{figures}
use Rattle.run_unreduced.proofs.join.free_place.Goals as goal

pub returns-then-log-room : goal.returns-then-log-room
returns-then-log-room c = λ slots ok e. place_free c.args.s.now (figures c.args.room) slots c.args.log ok e c.if-log-room.true

pub close_up-requires : goal.close_up-requires
close_up-requires c =
    let (slots, ok, e) = c.requires.1 in
    (c.args.room.pairs, slots, rw (c.of.ensures.sets, c.of.ensures.waiters, c.of.ensures.places) ok, e)

pub returns : goal.returns
returns c = λ slots ok e.
    place_closed c.args.s.now _ (figures c.args.room) slots c.args.log _ e
    ((rw (c.of.ensures.sets, c.of.ensures.waiters, c.of.ensures.places) at c.close_up.ensures) c.args.room.pairs slots ok e)
