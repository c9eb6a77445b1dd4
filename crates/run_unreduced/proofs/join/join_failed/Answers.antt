-- The goal stands behind the failed goals, and the try is counted.
use native.Mathlib.Omega.{arith}
use Rattle.term.specs.Layout.{figures}
use Rattle.run_unreduced.proofs.Failing.{failed_space, fails_tries, some_active, goals_fit, step_failed}
use Rattle.run_unreduced.proofs.join.join_failed.Goals as goal

pub fail-requires : goal.fail-requires
fail-requires c =
    let (text, names, j, limit, atlas, slots, g, others, k, joins) = c.requires in
    rw c.failed.ensures (failed_space _ text names j (figures c.args.room) limit atlas slots g others c.args.t k)

pub count_try-requires : goal.count_try-requires
count_try-requires c =
    let (text, names, j, limit, atlas, slots, g, others, k, joins) = c.requires in
    fails_tries c.args.s.now _ text names j (figures c.args.room) limit atlas slots g others c.args.t c.args.goal c.args.query k joins
    (rw c.failed.ensures at c.fail.ensures)

pub overflow_sub-result : goal.overflow_sub-result
overflow_sub-result c =
    let (text, names, j, limit, atlas, slots, g, others, k, joins) = c.requires in
    omega (arith, some_active c.args.s.now text names j (figures c.args.room) limit atlas slots g others c.args.t k)

pub overflow_add-result : goal.overflow_add-result
overflow_add-result c =
    let (text, names, j, limit, atlas, slots, g, others, k, joins) = c.requires in
    omega (arith, goals_fit c.args.s.now text names j (figures c.args.room) limit atlas slots g others c.args.t k, k.running.in_range.goals)

pub overflow_add-result-2 : goal.overflow_add-result-2
overflow_add-result-2 c = omega (arith, c.requires.8.more)

pub returns : goal.returns
returns c = λ text names j limit atlas slots g others k joins.
    step_failed c.args.s.now _ _ text names j (figures c.args.room) limit atlas slots g others c.args.t c.args.goal c.args.query _ k joins
    (rw c.failed.ensures at c.fail.ensures) c.count_try.ensures c.behind.ensures
