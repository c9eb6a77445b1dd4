-- If the reduction fits, its parts follow one another; else nothing has changed.
use Rattle.std.proofs.Common.{◌+◌, ◌-◌, true, false, refl, ap, ◌∙◌}
use native.Mathlib.Omega.{arith}
use Rattle.run_between.proofs.Origins as origins
use Rattle.run_reduce.proofs.Reduction as calls
use Rattle.run_reduce.proofs.reduce.reduce.Goals as goal

pub made-mark-requires : goal.made-mark-requires
made-mark-requires c = origins.made_asks c.requires.10 c.requires.11

pub fits-requires : goal.fits-requires
fits-requires c =
    let (text, names, j, limit, atlas, slots, g, others, clause, given, taken, red) = c.requires in
    let e_pairs = c.index-pairs.ensures ∙ c.word_at.ensures ∙ red.at.held.pairs in
    let e_compounds = c.index-compounds.ensures ∙ c.word_at-2.ensures ∙ red.at.held.compounds in
    let e_body = c.index-body.ensures ∙ c.word_at-3.ensures ∙ red.at.held.goals in (
      calls.counted taken,
      omega (arith, e_pairs, red.at.held.laid.few_pairs),
      omega (arith, e_compounds, red.at.held.laid.few_compounds),
      omega (arith, e_body, red.at.held.laid.few_goals),
    )

pub returns-then-not-fits : goal.returns-then-not-fits
returns-then-not-fits c = λ text names j limit atlas slots g others clause given taken red.
    let e_pairs = c.index-pairs.ensures ∙ c.word_at.ensures ∙ red.at.held.pairs in
    let e_compounds = c.index-compounds.ensures ∙ c.word_at-2.ensures ∙ red.at.held.compounds in
    let e_body = c.index-body.ensures ∙ c.word_at-3.ensures ∙ red.at.held.goals in
    calls.reduction_stops taken red (calls.fit_told taken clause given _ _ _ e_pairs e_compounds e_body _ false c.fits.ensures c.if-not-fits.true)

pub assign_head-requires : goal.assign_head-requires
assign_head-requires c =
    let (text, names, j, limit, atlas, slots, g, others, clause, given, taken, red) = c.requires in
    let e_pairs = c.index-pairs.ensures ∙ c.word_at.ensures ∙ red.at.held.pairs in
    let e_compounds = c.index-compounds.ensures ∙ c.word_at-2.ensures ∙ red.at.held.compounds in
    let e_body = c.index-body.ensures ∙ c.word_at-3.ensures ∙ red.at.held.goals in
    let fit = calls.fit_told taken clause given _ _ _ e_pairs e_compounds e_body _ true c.fits.ensures c.if-not-fits.false in
    calls.asks_1 taken red fit c.values.ensures e_pairs

pub assign_goal-free-requires : goal.assign_goal-free-requires
assign_goal-free-requires c =
    let (text, names, j, limit, atlas, slots, g, others, clause, given, taken, red) = c.requires in
    let e_pairs = c.index-pairs.ensures ∙ c.word_at.ensures ∙ red.at.held.pairs in
    let e_compounds = c.index-compounds.ensures ∙ c.word_at-2.ensures ∙ red.at.held.compounds in
    let e_body = c.index-body.ensures ∙ c.word_at-3.ensures ∙ red.at.held.goals in
    let fit = calls.fit_told taken clause given _ _ _ e_pairs e_compounds e_body _ true c.fits.ensures c.if-not-fits.false in
    calls.asks_2 taken red fit c.values.ensures e_pairs c.assign_head.ensures c.values-2.ensures

pub wake-woken-requires : goal.wake-woken-requires
wake-woken-requires c =
    let (text, names, j, limit, atlas, slots, g, others, clause, given, taken, red) = c.requires in
    let e_pairs = c.index-pairs.ensures ∙ c.word_at.ensures ∙ red.at.held.pairs in
    let e_compounds = c.index-compounds.ensures ∙ c.word_at-2.ensures ∙ red.at.held.compounds in
    let e_body = c.index-body.ensures ∙ c.word_at-3.ensures ∙ red.at.held.goals in
    let fit = calls.fit_told taken clause given _ _ _ e_pairs e_compounds e_body _ true c.fits.ensures c.if-not-fits.false in
    calls.asks_3 taken red fit
    c.values.ensures e_pairs c.assign_head.ensures c.values-2.ensures c.assign_goal-free.ensures
    c.of-log.ensures.places c.of-log.ensures.waiters c.of-log.ensures.sets

pub add_goals-cells-requires : goal.add_goals-cells-requires
add_goals-cells-requires c =
    let (text, names, j, limit, atlas, slots, g, others, clause, given, taken, red) = c.requires in
    let e_pairs = c.index-pairs.ensures ∙ c.word_at.ensures ∙ red.at.held.pairs in
    let e_compounds = c.index-compounds.ensures ∙ c.word_at-2.ensures ∙ red.at.held.compounds in
    let e_body = c.index-body.ensures ∙ c.word_at-3.ensures ∙ red.at.held.goals in
    let fit = calls.fit_told taken clause given _ _ _ e_pairs e_compounds e_body _ true c.fits.ensures c.if-not-fits.false in
    calls.asks_4 taken red fit
    c.values.ensures e_pairs c.assign_head.ensures c.values-2.ensures c.assign_goal-free.ensures
    c.of-log.ensures.places c.of-log.ensures.waiters c.of-log.ensures.sets c.wake-woken.ensures
    c.behind.ensures refl e_body c.queue.ensures (origins.made_is taken red c.made-mark.ensures)

pub overflow_add-longer : goal.overflow_add-longer
overflow_add-longer c =
    let (text, names, j, limit, atlas, slots, g, others, clause, given, taken, red) = c.requires in
    let e_body = c.index-body.ensures ∙ c.word_at-3.ensures ∙ red.at.held.goals in
    let few = calls.small_active c.args.t c.index-body.result _ (calls.counted taken) e_body red.at.held.laid.few_goals in
    omega arith

pub add_woken-requires : goal.add_woken-requires
add_woken-requires c =
    let (text, names, j, limit, atlas, slots, g, others, clause, given, taken, red) = c.requires in
    let e_pairs = c.index-pairs.ensures ∙ c.word_at.ensures ∙ red.at.held.pairs in
    let e_compounds = c.index-compounds.ensures ∙ c.word_at-2.ensures ∙ red.at.held.compounds in
    let e_body = c.index-body.ensures ∙ c.word_at-3.ensures ∙ red.at.held.goals in
    let fit = calls.fit_told taken clause given _ _ _ e_pairs e_compounds e_body _ true c.fits.ensures c.if-not-fits.false in
    calls.asks_5 taken red fit
    c.values.ensures e_pairs c.assign_head.ensures c.values-2.ensures c.assign_goal-free.ensures
    c.of-log.ensures.places c.of-log.ensures.waiters c.of-log.ensures.sets c.wake-woken.ensures
    c.behind.ensures refl e_body c.queue.ensures (origins.made_is taken red c.made-mark.ensures) c.add_goals-cells.ensures
    c.of-log.ensures.places c.queue.ensures

pub count_try-requires : goal.count_try-requires
count_try-requires c =
    let (text, names, j, limit, atlas, slots, g, others, clause, given, taken, red) = c.requires in
    let e_pairs = c.index-pairs.ensures ∙ c.word_at.ensures ∙ red.at.held.pairs in
    let e_compounds = c.index-compounds.ensures ∙ c.word_at-2.ensures ∙ red.at.held.compounds in
    let e_body = c.index-body.ensures ∙ c.word_at-3.ensures ∙ red.at.held.goals in
    let fit = calls.fit_told taken clause given _ _ _ e_pairs e_compounds e_body _ true c.fits.ensures c.if-not-fits.false in
    calls.asks_6 taken red fit
    c.values.ensures e_pairs c.assign_head.ensures c.values-2.ensures c.assign_goal-free.ensures
    c.of-log.ensures.places c.of-log.ensures.waiters c.of-log.ensures.sets c.wake-woken.ensures
    c.behind.ensures refl e_body c.queue.ensures (origins.made_is taken red c.made-mark.ensures) c.add_goals-cells.ensures
    c.of-log.ensures.places c.queue.ensures c.add_woken.ensures

pub overflow_add-result-3 : goal.overflow_add-result-3
overflow_add-result-3 c =
    let (text, names, j, limit, atlas, slots, g, others, clause, given, taken, red) = c.requires in
    let e_pairs = c.index-pairs.ensures ∙ c.word_at.ensures ∙ red.at.held.pairs in
    let e_compounds = c.index-compounds.ensures ∙ c.word_at-2.ensures ∙ red.at.held.compounds in
    let e_body = c.index-body.ensures ∙ c.word_at-3.ensures ∙ red.at.held.goals in
    let fit = calls.fit_told taken clause given _ _ _ e_pairs e_compounds e_body _ true c.fits.ensures c.if-not-fits.false in
    let few =
    calls.woken_few taken red fit
    c.values.ensures e_pairs c.assign_head.ensures c.values-2.ensures c.assign_goal-free.ensures
    c.of-log.ensures.places c.of-log.ensures.waiters c.of-log.ensures.sets c.wake-woken.ensures
    c.behind.ensures refl e_body c.queue.ensures (origins.made_is taken red c.made-mark.ensures) c.add_goals-cells.ensures
    c.of-log.ensures.places c.queue.ensures c.add_woken.ensures in
    omega (arith, few.0, taken.running.in_range.goals)

pub overflow_sub-result : goal.overflow_sub-result
overflow_sub-result c =
    let (text, names, j, limit, atlas, slots, g, others, clause, given, taken, red) = c.requires in
    let e_pairs = c.index-pairs.ensures ∙ c.word_at.ensures ∙ red.at.held.pairs in
    let e_compounds = c.index-compounds.ensures ∙ c.word_at-2.ensures ∙ red.at.held.compounds in
    let e_body = c.index-body.ensures ∙ c.word_at-3.ensures ∙ red.at.held.goals in
    let fit = calls.fit_told taken clause given _ _ _ e_pairs e_compounds e_body _ true c.fits.ensures c.if-not-fits.false in
    (calls.woken_few taken red fit
    c.values.ensures e_pairs c.assign_head.ensures c.values-2.ensures c.assign_goal-free.ensures
    c.of-log.ensures.places c.of-log.ensures.waiters c.of-log.ensures.sets c.wake-woken.ensures
    c.behind.ensures refl e_body c.queue.ensures (origins.made_is taken red c.made-mark.ensures) c.add_goals-cells.ensures
    c.of-log.ensures.places c.queue.ensures c.add_woken.ensures).1

pub returns : goal.returns
returns c = λ text names j limit atlas slots g others clause given taken red.
    let e_pairs = c.index-pairs.ensures ∙ c.word_at.ensures ∙ red.at.held.pairs in
    let e_compounds = c.index-compounds.ensures ∙ c.word_at-2.ensures ∙ red.at.held.compounds in
    let e_body = c.index-body.ensures ∙ c.word_at-3.ensures ∙ red.at.held.goals in
    let fit = calls.fit_told taken clause given _ _ _ e_pairs e_compounds e_body _ true c.fits.ensures c.if-not-fits.false in
    calls.ends taken red fit
    c.values.ensures e_pairs c.assign_head.ensures c.values-2.ensures c.assign_goal-free.ensures
    c.of-log.ensures.places c.of-log.ensures.waiters c.of-log.ensures.sets c.wake-woken.ensures
    c.behind.ensures refl e_body c.queue.ensures (origins.made_is taken red c.made-mark.ensures) c.add_goals-cells.ensures
    c.of-log.ensures.places c.queue.ensures c.add_woken.ensures _ c.count_try.ensures _
    (record {
      pairs = ap (λ m. c.args.t.pairs + m) e_pairs;
      compounds = ap (λ m. c.args.t.compounds + m) e_compounds;
      cells_are = refl;
      front_is = refl;
      active = ap (λ m. c.args.t.active - 1 + m + c.wake-woken.result) e_body;
      log = refl;
      waiting = refl;
      failed = refl;
      steps = refl;
    })
