-- The choice is made for the goal in front, and its answer is carried out.
use Rattle.std.proofs.Common.{◌≡◌, Ok, Err}
use Rattle.term.specs.Layout.{figures}
use Rattle.run_asked.specs.declared.asking.Hindered.TheVariants.{Waits, Fails}
use Rattle.machine.proofs.FrontGoal.{Fetched, front_inside, choice_tries, choice_marks, choice_stamps, choice_taken, choice_reduces, choice_waits, choice_fails, step_from}
use Rattle.machine.proofs.step.step.Goals as goal

pub word_at-goal-requires : goal.word_at-goal-requires
word_at-goal-requires c =
    let (text, names, j, limit, atlas, slots, g, others, r, more, front) = c.requires in
    rw c.queue.ensures (front_inside _ text names j (figures c.args.room) limit atlas slots c.args.t _ r)

pub choice-requires : goal.choice-requires
choice-requires c =
    let (text, names, j, limit, atlas, slots, g, others, r, more, front) = c.requires in
    let f : Fetched c.args.s.now (figures c.args.room) c.args.t c.word_at-goal.result c.index-query.result c.place_of.result
    c.values.result c.marks.result c.word.result =
    record {
      goal_is = rw c.queue.ensures at c.word_at-goal.ensures;
      query_is = c.index-query.ensures;
      place_is = c.place_of.ensures;
      values_is = c.values.ensures;
      marks_is = c.marks.ensures;
      steps_are = c.word.ensures;
    } in (
      text,
      names,
      j,
      limit,
      figures c.args.room,
      atlas g.query,
      g,
      others,
      choice_tries _ text names j (figures c.args.room) limit atlas slots g others c.args.t _ _ _ _ _ _ r more front f,
      choice_marks _ text names j (figures c.args.room) limit atlas slots g others c.args.t _ _ _ _ _ _ r more front f,
      choice_stamps _ text names j (figures c.args.room) limit atlas slots g others c.args.t _ _ _ _ _ _ r more front f,
    )

pub reduce-requires : goal.reduce-requires
reduce-requires c =
    let (text, names, j, limit, atlas, slots, g, others, r, more, front) = c.requires in
    let f : Fetched c.args.s.now (figures c.args.room) c.args.t c.word_at-goal.result c.index-query.result c.place_of.result
    c.values.result c.marks.result c.word.result =
    record {
      goal_is = rw c.queue.ensures at c.word_at-goal.ensures;
      query_is = c.index-query.ensures;
      place_is = c.place_of.ensures;
      values_is = c.values.ensures;
      marks_is = c.marks.ensures;
      steps_are = c.word.ensures;
    } in
    let told =
    c.choice.ensures text names j limit (figures c.args.room) (atlas g.query) g others (choice_tries _ text names j (figures c.args.room) limit atlas slots g others c.args.t _ _ _ _ _ _ r more front f) (choice_marks _ text names j (figures c.args.room) limit atlas slots g others c.args.t _ _ _ _ _ _ r more front f) in
    let taken = choice_taken _ text names j (figures c.args.room) limit atlas slots g others c.args.t _ _ _ _ _ _ r more front f _ _ told in
    let e : c.choice.result ≡ Ok (c.in-Ok.k, c.in-Ok.n) = cc in
    let (clause, given, its) = choice_reduces _ text names j (figures c.args.room) limit atlas slots g others c.args.t _ _ _ _ _ _ r more front f _ _ told _ _ e in
    (text, names, j, limit, atlas, slots, g, others, clause, given, taken, its)

pub join_waiting-requires : goal.join_waiting-requires
join_waiting-requires c =
    let (text, names, j, limit, atlas, slots, g, others, r, more, front) = c.requires in
    let f : Fetched c.args.s.now (figures c.args.room) c.args.t c.word_at-goal.result c.index-query.result c.place_of.result
    c.values.result c.marks.result c.word.result =
    record {
      goal_is = rw c.queue.ensures at c.word_at-goal.ensures;
      query_is = c.index-query.ensures;
      place_is = c.place_of.ensures;
      values_is = c.values.ensures;
      marks_is = c.marks.ensures;
      steps_are = c.word.ensures;
    } in
    let told =
    c.choice.ensures text names j limit (figures c.args.room) (atlas g.query) g others (choice_tries _ text names j (figures c.args.room) limit atlas slots g others c.args.t _ _ _ _ _ _ r more front f) (choice_marks _ text names j (figures c.args.room) limit atlas slots g others c.args.t _ _ _ _ _ _ r more front f) in
    let taken = choice_taken _ text names j (figures c.args.room) limit atlas slots g others c.args.t _ _ _ _ _ _ r more front f _ _ told in
    let e : c.choice.result ≡ Err (Waits c.in-Err-Waits.readers) = cc in
    let (readers, its) = choice_waits _ text names j (figures c.args.room) limit atlas slots g others c.args.t _ _ _ _ _ _ r more front f _ _ told _ e in
    (text, names, j, limit, atlas, slots, g, others, readers, taken, its)

pub join_failed-requires : goal.join_failed-requires
join_failed-requires c =
    let (text, names, j, limit, atlas, slots, g, others, r, more, front) = c.requires in
    let f : Fetched c.args.s.now (figures c.args.room) c.args.t c.word_at-goal.result c.index-query.result c.place_of.result
    c.values.result c.marks.result c.word.result =
    record {
      goal_is = rw c.queue.ensures at c.word_at-goal.ensures;
      query_is = c.index-query.ensures;
      place_is = c.place_of.ensures;
      values_is = c.values.ensures;
      marks_is = c.marks.ensures;
      steps_are = c.word.ensures;
    } in
    let told =
    c.choice.ensures text names j limit (figures c.args.room) (atlas g.query) g others (choice_tries _ text names j (figures c.args.room) limit atlas slots g others c.args.t _ _ _ _ _ _ r more front f) (choice_marks _ text names j (figures c.args.room) limit atlas slots g others c.args.t _ _ _ _ _ _ r more front f) in
    let taken = choice_taken _ text names j (figures c.args.room) limit atlas slots g others c.args.t _ _ _ _ _ _ r more front f _ _ told in
    let e : c.choice.result ≡ Err Fails = cc in
    let its = choice_fails _ text names j (figures c.args.room) limit atlas slots g others c.args.t _ _ _ _ _ _ r more front f _ _ told e in
    (text, names, j, limit, atlas, slots, g, others, taken, its)

pub returns-in-Ok : goal.returns-in-Ok
returns-in-Ok c = λ text names j limit atlas slots g others r more front.
    let f : Fetched c.args.s.now (figures c.args.room) c.args.t c.word_at-goal.result c.index-query.result c.place_of.result
    c.values.result c.marks.result c.word.result =
    record {
      goal_is = rw c.queue.ensures at c.word_at-goal.ensures;
      query_is = c.index-query.ensures;
      place_is = c.place_of.ensures;
      values_is = c.values.ensures;
      marks_is = c.marks.ensures;
      steps_are = c.word.ensures;
    } in
    let told =
    c.choice.ensures text names j limit (figures c.args.room) (atlas g.query) g others (choice_tries _ text names j (figures c.args.room) limit atlas slots g others c.args.t _ _ _ _ _ _ r more front f) (choice_marks _ text names j (figures c.args.room) limit atlas slots g others c.args.t _ _ _ _ _ _ r more front f) in
    let taken = choice_taken _ text names j (figures c.args.room) limit atlas slots g others c.args.t _ _ _ _ _ _ r more front f _ _ told in
    let e : c.choice.result ≡ Ok (c.in-Ok.k, c.in-Ok.n) = cc in
    let (clause, given, its) = choice_reduces _ text names j (figures c.args.room) limit atlas slots g others c.args.t _ _ _ _ _ _ r more front f _ _ told _ _ e in
    step_from _ text names j (figures c.args.room) limit atlas slots g others c.args.t _ _ _ _ _ _ r more front f _ _ told _ _
    (c.reduce.ensures text names j limit atlas slots g others clause given taken its)

pub returns-in-Err-Waits : goal.returns-in-Err-Waits
returns-in-Err-Waits c = λ text names j limit atlas slots g others r more front.
    let f : Fetched c.args.s.now (figures c.args.room) c.args.t c.word_at-goal.result c.index-query.result c.place_of.result
    c.values.result c.marks.result c.word.result =
    record {
      goal_is = rw c.queue.ensures at c.word_at-goal.ensures;
      query_is = c.index-query.ensures;
      place_is = c.place_of.ensures;
      values_is = c.values.ensures;
      marks_is = c.marks.ensures;
      steps_are = c.word.ensures;
    } in
    let told =
    c.choice.ensures text names j limit (figures c.args.room) (atlas g.query) g others (choice_tries _ text names j (figures c.args.room) limit atlas slots g others c.args.t _ _ _ _ _ _ r more front f) (choice_marks _ text names j (figures c.args.room) limit atlas slots g others c.args.t _ _ _ _ _ _ r more front f) in
    let taken = choice_taken _ text names j (figures c.args.room) limit atlas slots g others c.args.t _ _ _ _ _ _ r more front f _ _ told in
    let e : c.choice.result ≡ Err (Waits c.in-Err-Waits.readers) = cc in
    let (readers, its) = choice_waits _ text names j (figures c.args.room) limit atlas slots g others c.args.t _ _ _ _ _ _ r more front f _ _ told _ e in
    step_from _ text names j (figures c.args.room) limit atlas slots g others c.args.t _ _ _ _ _ _ r more front f _ _ told _ _
    (c.join_waiting.ensures text names j limit atlas slots g others readers taken its)

pub returns-in-Err-Fails : goal.returns-in-Err-Fails
returns-in-Err-Fails c = λ text names j limit atlas slots g others r more front.
    let f : Fetched c.args.s.now (figures c.args.room) c.args.t c.word_at-goal.result c.index-query.result c.place_of.result
    c.values.result c.marks.result c.word.result =
    record {
      goal_is = rw c.queue.ensures at c.word_at-goal.ensures;
      query_is = c.index-query.ensures;
      place_is = c.place_of.ensures;
      values_is = c.values.ensures;
      marks_is = c.marks.ensures;
      steps_are = c.word.ensures;
    } in
    let told =
    c.choice.ensures text names j limit (figures c.args.room) (atlas g.query) g others (choice_tries _ text names j (figures c.args.room) limit atlas slots g others c.args.t _ _ _ _ _ _ r more front f) (choice_marks _ text names j (figures c.args.room) limit atlas slots g others c.args.t _ _ _ _ _ _ r more front f) in
    let taken = choice_taken _ text names j (figures c.args.room) limit atlas slots g others c.args.t _ _ _ _ _ _ r more front f _ _ told in
    let e : c.choice.result ≡ Err Fails = cc in
    let its = choice_fails _ text names j (figures c.args.room) limit atlas slots g others c.args.t _ _ _ _ _ _ r more front f _ _ told e in
    step_from _ text names j (figures c.args.room) limit atlas slots g others c.args.t _ _ _ _ _ _ r more front f _ _ told _ _
    (c.join_failed.ensures text names j limit atlas slots g others taken its)
