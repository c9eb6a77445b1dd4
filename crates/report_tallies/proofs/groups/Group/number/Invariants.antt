-- Those counted and those from the place on are all.
use Prim.Native.Nat.{◌+◌, ◌-◌, ◌≤◌}
use mathlib.Core.Path.{◌≡◌}
use lib.ListN.{length}
use Rattle.report_tallies.specs.Groups.{own_from}
use Rattle.report_tallies.proofs.groups.Group.number.Given as goal

abbrev pub invariant-loop-i : goal.invariant-loop-i
invariant-loop-i l =
    (l.n ≤ l.i) × (l.n + length (own_from l.s l.self l.q l.i (l.self.count - l.i)) ≡ length (own_from l.s l.self l.q 0 l.self.count))
