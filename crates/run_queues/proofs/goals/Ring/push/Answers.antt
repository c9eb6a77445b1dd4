-- The word is stored at the place behind the last goal.
use Rattle.std.proofs.Common.{◌+◌}
use native.Mathlib.Omega.{arith}
use Rattle.run_queues.proofs.Ring.{round_inside, ring_pushed}
use Rattle.run_queues.proofs.goals.Ring.push.Goals as goal

pub overflow_add-s : goal.overflow_add-s
overflow_add-s c = omega (arith, c.spot.ensures, round_inside c.args.self.size (c.args.self.front + c.args.self.active) (omega arith))

pub offset_bounds-s-self : goal.offset_bounds-s-self
offset_bounds-s-self c = omega (arith, c.spot.ensures, round_inside c.args.self.size (c.args.self.front + c.args.self.active) (omega arith))

pub bounds-s-self : goal.bounds-s-self
bounds-s-self c = omega (arith, c.spot.ensures, round_inside c.args.self.size (c.args.self.front + c.args.self.active) (omega arith))

pub returns : goal.returns
returns c = rw c.spot.ensures (ring_pushed _ _ c.args.s.now _ _ c.args.goal c.requires.0 c.requires.1)
