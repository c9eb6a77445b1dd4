-- The goal stands behind the waiting goals with its readers' pairs, and the try is counted.
use native.Mathlib.Omega.{arith}
use Rattle.term.specs.Layout.{figures}
use Rattle.run_unreduced.proofs.Failing.{some_active, goals_fit}
use Rattle.run_unreduced.proofs.WaitingStep.{place_inside, wait_asks, waits_tries, step_waiting}
use Rattle.run_unreduced.proofs.join.add_waiting.Goals as goal

pub free_place-log-requires : goal.free_place-log-requires
free_place-log-requires c =
    let (text, names, j, limit, atlas, slots, g, others, readers, k, joins) = c.requires in
    (k.running.in_range, (slots, k.running.log, k.running.log_number))

pub wait-requires : goal.wait-requires
wait-requires c =
    let (text, names, j, limit, atlas, slots, g, others, readers, k, joins) = c.requires in
    let free = c.free_place-log.ensures slots k.running.log k.running.log_number in (
      c.args.room.pairs,
      free.slots_now,
      rw (c.readers.ensures, c.of.ensures.sets, c.of.ensures.waiters, c.of.ensures.places)
          (wait_asks c.args.s.now _ text names j (figures c.args.room) limit atlas slots g others c.args.t c.args.goal c.args.query c.args.readers readers c.free_place-log.result k joins free),
    )

pub count_try-requires : goal.count_try-requires
count_try-requires c =
    let (text, names, j, limit, atlas, slots, g, others, readers, k, joins) = c.requires in
    let free = c.free_place-log.ensures slots k.running.log k.running.log_number in
    let waited =
    (rw (c.readers.ensures, c.of.ensures.sets, c.of.ensures.waiters, c.of.ensures.places) at c.wait.ensures)
    c.args.room.pairs free.slots_now (wait_asks c.args.s.now _ text names j (figures c.args.room) limit atlas slots g others c.args.t c.args.goal c.args.query c.args.readers readers c.free_place-log.result k joins free) in
    waits_tries c.args.s.now _ text names j (figures c.args.room) limit atlas slots g others c.args.t c.args.goal c.args.query c.args.readers readers c.free_place-log.result k joins free _ waited

pub overflow_sub-result : goal.overflow_sub-result
overflow_sub-result c =
    let (text, names, j, limit, atlas, slots, g, others, readers, k, joins) = c.requires in
    omega (arith, some_active c.args.s.now text names j (figures c.args.room) limit atlas slots g others c.args.t k)

pub overflow_add-result : goal.overflow_add-result
overflow_add-result c =
    let (text, names, j, limit, atlas, slots, g, others, readers, k, joins) = c.requires in
    let free = c.free_place-log.ensures slots k.running.log k.running.log_number in
    omega (arith, place_inside c.args.s.now _ text names j (figures c.args.room) limit atlas slots g others c.args.t c.args.goal c.args.query c.args.readers readers c.free_place-log.result k joins free, k.running.in_range.goals)

pub overflow_add-result-2 : goal.overflow_add-result-2
overflow_add-result-2 c =
    let (text, names, j, limit, atlas, slots, g, others, readers, k, joins) = c.requires in
    omega (arith, goals_fit c.args.s.now text names j (figures c.args.room) limit atlas slots g others c.args.t k, k.running.in_range.goals)

pub overflow_add-result-3 : goal.overflow_add-result-3
overflow_add-result-3 c = omega (arith, c.requires.9.more)

pub returns : goal.returns
returns c = λ text names j limit atlas slots g others readers k joins.
    let free = c.free_place-log.ensures slots k.running.log k.running.log_number in
    let waited =
    (rw (c.readers.ensures, c.of.ensures.sets, c.of.ensures.waiters, c.of.ensures.places) at c.wait.ensures)
    c.args.room.pairs free.slots_now (wait_asks c.args.s.now _ text names j (figures c.args.room) limit atlas slots g others c.args.t c.args.goal c.args.query c.args.readers readers c.free_place-log.result k joins free) in
    step_waiting c.args.s.now _ text names j (figures c.args.room) limit atlas slots g others c.args.t c.args.goal c.args.query c.args.readers readers c.free_place-log.result k joins free _ waited _ _
    c.count_try.ensures c.behind.ensures
