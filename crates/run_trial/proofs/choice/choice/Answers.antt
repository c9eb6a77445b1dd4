-- The clauses that are left to try are tried in order, and the readers that they wait on are gathered.
use mathlib.Core.Logic.{inl, inr}
use native.Mathlib.Omega.{arith}
use Rattle.meaning.specs.Terms.{named}
use Rattle.term.specs.States.{setting}
use Rattle.run_trial.specs.Choosing.{unit_of}
use Rattle.run_trial.proofs.Following.{ready, goal_follows, trying_then, arguments_stand, marks_then, choice_then}
use Rattle.run_trial.proofs.Idle.{goal_inside, procedure_inside, goal_sought}
use Rattle.run_trial.proofs.Clauses.{Passed, else_fails, walk_first, turn_clause, walk_trying, walk_stand, turn_candidate, turn_stamp, turning, turn_passed, turn_succeeds, all_fail, some_wait}
use Rattle.run_trial.proofs.choice.choice.Goals.{in-Waits, in_default-t-2}
use Rattle.run_trial.proofs.choice.choice.Goals as goal

pub follow_arguments-requires : goal.follow_arguments-requires
follow_arguments-requires c =
    let (text, names, j, limit, figures, at, g, others, trying, new, fit) = c.requires in
    (setting figures at (unit_of j limit figures g), g.goal.number, named g.goal.name, g.goal.arguments, goal_follows trying)

pub word_at-requires : goal.word_at-requires
word_at-requires c =
    let (text, names, j, limit, figures, at, g, others, trying, stand, new, fit) = ready c.requires c.follow_arguments.ensures in
    omega (arith, goal_inside trying)

pub first_clause-requires : goal.first_clause-requires
first_clause-requires c =
    let (text, names, j, limit, figures, at, g, others, trying, stand, new, fit) = ready c.requires c.follow_arguments.ensures in
    (goal_inside trying, procedure_inside trying)

pub to_try-left-requires : goal.to_try-left-requires
to_try-left-requires c =
    let (text, names, j, limit, figures, at, g, others, trying, stand, new, fit) = ready c.requires c.follow_arguments.ensures in
    (names, j, g.goal, goal_sought trying stand c.word_at.ensures c.first_clause.ensures)

pub clauses-init : goal.clauses-init
clauses-init c = λ text names j limit figures at g others trying stand new.
    walk_first trying c.args.first c.to_try-left.result new c.word_at.ensures
    (c.to_try-left.ensures names j g.goal (goal_sought trying stand c.word_at.ensures c.first_clause.ensures))

pub trial-t-requires : goal.trial-t-requires
trial-t-requires c =
    let (text, names, j, limit, figures, at, g, others, trying, stand, new, fit) = ready c.requires c.follow_arguments.ensures in
    let w = c.clauses.invariant text names j limit figures at g others trying stand new in
    let left = c.in-Some.is in (
      text,
      names,
      j,
      limit,
      figures,
      at,
      g,
      others,
      c.args.goal,
      turn_clause trying stand w left,
      walk_trying trying stand w,
      walk_stand trying stand w,
      turn_candidate trying stand w left,
      w.marks_now,
      w.gathered.ok,
      (omega (arith, w.stamp_from, fit.0), omega (arith, turn_stamp trying stand w left, fit.1)),
    )

pub overflow_add-stamp : goal.overflow_add-stamp
overflow_add-stamp c =
    let n = turning c.clauses.invariant (ready c.requires c.follow_arguments.ensures) c.in-Some.is in
    omega (arith, n.stamps, n.stamps_fit)

pub further-left-requires : goal.further-left-requires
further-left-requires c =
    let n = turning c.clauses.invariant (ready c.requires c.follow_arguments.ensures) c.in-Some.is in
    (c.in-Some.is, omega (arith, n.large, n.number, n.link, c.trial-t.auto.s))

pub clauses-smaller : goal.clauses-smaller
clauses-smaller c =
    let n = turning c.clauses.invariant (ready c.requires c.follow_arguments.ensures) c.in-Some.is in
    omega (arith, n.stamps)

pub clauses-preserved : goal.clauses-preserved
clauses-preserved c =
    let passed : Passed c.clauses.readers c.trial-t.result c.match-t-2.readers =
    elim c.match-t-2.branch [
      | in-Waits w ↦ inl (w.in-Waits.m, w.in-Waits.is, w.readers-is)
      | in_default-t-2 w ↦ inr (else_fails c.trial-t.result c.in_default-t.not-Succeeds w.in_default-t-2.not-Waits, w.readers-is)
    ] in
    λ text names j limit figures at g others trying stand new.
    let w = c.clauses.invariant text names j limit figures at g others trying stand new in
    let left = c.in-Some.is in
    turn_passed trying stand w left
    (c.trial-t.ensures text names j limit figures at g others c.args.goal (turn_clause trying stand w left) w.waiting
    (walk_trying trying stand w) (walk_stand trying stand w) (turn_candidate trying stand w left) w.marks_now w.gathered)
    c.further-left.ensures c.match-t-2.readers passed

pub returns-in-Some : goal.returns-in-Some
returns-in-Some c = λ text names j limit figures at g others before new_before.
    let following = c.follow_arguments.ensures in
    let trying = trying_then before following in
    let stand = arguments_stand before following in
    let new = marks_then before following c.args.first new_before in
    let w = c.clauses.invariant text names j limit figures at g others trying stand new in
    let left = c.in-Some.is in
    choice_then before following
    (turn_succeeds trying stand w left
    (c.trial-t.ensures text names j limit figures at g others c.args.goal (turn_clause trying stand w left) w.waiting
    (walk_trying trying stand w) (walk_stand trying stand w) (turn_candidate trying stand w left) w.marks_now w.gathered)
    c.in-Succeeds.n c.in-Succeeds.is)

pub returns-then-readers-eq0 : goal.returns-then-readers-eq0
returns-then-readers-eq0 c = λ text names j limit figures at g others before new_before.
    let following = c.follow_arguments.ensures in
    let trying = trying_then before following in
    let stand = arguments_stand before following in
    let new = marks_then before following c.args.first new_before in
    let w = c.clauses.invariant text names j limit figures at g others trying stand new in
    choice_then before following (all_fail trying stand w c.in_default.is c.if-readers-eq0.true)

pub returns : goal.returns
returns c = λ text names j limit figures at g others before new_before.
    let following = c.follow_arguments.ensures in
    let trying = trying_then before following in
    let stand = arguments_stand before following in
    let new = marks_then before following c.args.first new_before in
    let w = c.clauses.invariant text names j limit figures at g others trying stand new in
    choice_then before following (some_wait trying stand w c.in_default.is c.if-readers-eq0.false)
