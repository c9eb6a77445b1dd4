-- The need stays under document 01's ceiling: 4,194,304 bytes and 256 for each unit of the room figures. A word has 8 bytes.
use Prim.Native.Nat.{◌+◌, ◌*◌, ◌≤◌}
use native.Mathlib.Omega.{arith}
use Rattle.meaning.specs.State.{Room}
use Rattle.term.specs.Layout.{need_of}

pub need_under_ceiling : (room : Room) → 8 * need_of room ≤ 4194304 + 256 * (room.pairs + room.compounds + room.goals)
need_under_ceiling room = omega arith
