-- `report_tallies::groups::Group::goal_at` meets its contract: before the ring's end, and beyond it.
use mathlib.Core.Path.{◌∙◌}
use native.Mathlib.Omega.{arith}
use Rattle.report_tallies.proofs.GoalPlaces.{place_below, place_beyond, goal_below, goal_beyond}
use Rattle.report_tallies.proofs.groups.Group.goal_at.Goals as goal

pub overflow_mul-self : goal.overflow_mul-self
overflow_mul-self c = omega (arith, place_below c.args.s.now c.args.self c.args.i c.requires.0 c.requires.1 (omega arith))

pub word_at-requires : goal.word_at-requires
word_at-requires c = place_below c.args.s.now c.args.self c.args.i c.requires.0 c.requires.1 (omega arith)

pub returns-then-at-self : goal.returns-then-at-self
returns-then-at-self c = c.word_at.ensures ∙ goal_below c.args.s.now c.args.self c.args.i (omega arith)

pub overflow_mul-self-2 : goal.overflow_mul-self-2
overflow_mul-self-2 c = omega (arith, place_beyond c.args.s.now c.args.self c.args.i c.requires.0 c.requires.1 (omega arith))

pub word_at-requires-2 : goal.word_at-requires-2
word_at-requires-2 c = place_beyond c.args.s.now c.args.self c.args.i c.requires.0 c.requires.1 (omega arith)

pub returns : goal.returns
returns c = c.word_at-2.ensures ∙ goal_beyond c.args.s.now c.args.self c.args.i (omega arith)
