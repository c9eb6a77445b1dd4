-- `run_circle::circle::circle` meets its contract: the entries' pairs are held, searched from, and set back.
use Rattle.run_circle.proofs.SetBack.{entries_of, entries_still, tested}
use Rattle.run_circle.proofs.circle.circle.Goals as goal

pub hold-requires : goal.hold-requires
hold-requires c =
    let a = c.args in
    entries_of a.s.now c.requires.0 a.values a.marks a.n a.stamp c.requires.1

pub hold-requires-2 : goal.hold-requires-2
hold-requires-2 c =
    let a = c.args in
    entries_still a.s.now c.requires.0 a.values a.marks a.n a.stamp c.requires.1 c.hold.new.s c.from_entries-found.new.s
    c.from_entries-found.result c.hold.ensures (c.from_entries-found.ensures c.requires.0 a.s.now c.requires.1 c.hold.ensures)

pub returns : goal.returns
returns c =
    let a = c.args in
    λ y tried. tested a.s.now y a.values a.marks a.n a.stamp tried c.hold.new.s c.from_entries-found.new.s
    c.from_entries-found.result c.hold.ensures (c.from_entries-found.ensures y a.s.now tried c.hold.ensures)
    c.hold-2.new.s c.hold-2.ensures
