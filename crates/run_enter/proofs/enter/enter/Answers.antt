-- The query's goals are copied to the queue's end, and its unit stands.
use Rattle.std.proofs.Common.{refl, ◌∙◌}
use native.Mathlib.Omega.{arith}
use Rattle.term.specs.Layout.{figures}
use Rattle.run_enter.proofs.EnterCalls.{Numbers, bounded, sums, adds, enters, nothing_yet}
use Rattle.run_enter.proofs.enter.enter.Goals as goal

pub overflow_mul-q : goal.overflow_mul-q
overflow_mul-q c =
    let b = bounded c.args.s.now (figures c.args.room) c.args.q c.args.t c.requires in
    omega arith

pub overflow_add-q : goal.overflow_add-q
overflow_add-q c =
    let b = bounded c.args.s.now (figures c.args.room) c.args.q c.args.t c.requires in
    omega arith

pub word_at-requires : goal.word_at-requires
word_at-requires c =
    let b = bounded c.args.s.now (figures c.args.room) c.args.q c.args.t c.requires in
    omega arith

pub add_goals-cells-requires : goal.add_goals-cells-requires
add_goals-cells-requires c =
    let numbers : Numbers c.args.s.now c.args.q c.index-goals.result c.index-pairs.result c.index-compounds.result =
    record {
      goals_are = c.index-goals.ensures ∙ c.word_at.ensures;
      pairs_are = c.index-pairs.ensures ∙ c.word_at-2.ensures;
      compounds_are = c.index-compounds.ensures ∙ c.word_at-3.ensures;
    } in
    rw c.word.ensures (adds c.args.s.now (figures c.args.room) c.args.q c.args.t c.queue.result c.requires numbers c.queue.ensures)

pub set_at-requires : goal.set_at-requires
set_at-requires c =
    let b = bounded c.args.s.now (figures c.args.room) c.args.q c.args.t c.requires in
    omega (arith, c.add_goals-cells.auto.s)

pub overflow_add-result : goal.overflow_add-result
overflow_add-result c =
    let numbers : Numbers c.args.s.now c.args.q c.index-goals.result c.index-pairs.result c.index-compounds.result =
    record {
      goals_are = c.index-goals.ensures ∙ c.word_at.ensures;
      pairs_are = c.index-pairs.ensures ∙ c.word_at-2.ensures;
      compounds_are = c.index-compounds.ensures ∙ c.word_at-3.ensures;
    } in
    let fit = sums c.args.s.now (figures c.args.room) c.args.q c.args.t c.requires numbers in
    omega arith

pub overflow_add-result-2 : goal.overflow_add-result-2
overflow_add-result-2 c =
    let numbers : Numbers c.args.s.now c.args.q c.index-goals.result c.index-pairs.result c.index-compounds.result =
    record {
      goals_are = c.index-goals.ensures ∙ c.word_at.ensures;
      pairs_are = c.index-pairs.ensures ∙ c.word_at-2.ensures;
      compounds_are = c.index-compounds.ensures ∙ c.word_at-3.ensures;
    } in
    let fit = sums c.args.s.now (figures c.args.room) c.args.q c.args.t c.requires numbers in
    omega arith

pub overflow_add-result-3 : goal.overflow_add-result-3
overflow_add-result-3 c =
    let numbers : Numbers c.args.s.now c.args.q c.index-goals.result c.index-pairs.result c.index-compounds.result =
    record {
      goals_are = c.index-goals.ensures ∙ c.word_at.ensures;
      pairs_are = c.index-pairs.ensures ∙ c.word_at-2.ensures;
      compounds_are = c.index-compounds.ensures ∙ c.word_at-3.ensures;
    } in
    let fit = sums c.args.s.now (figures c.args.room) c.args.q c.args.t c.requires numbers in
    omega arith

pub returns : goal.returns
returns c = λ text names j done query rest atlas e is at.
    let numbers : Numbers c.args.s.now c.args.q c.index-goals.result c.index-pairs.result c.index-compounds.result =
    record {
      goals_are = c.index-goals.ensures ∙ c.word_at.ensures;
      pairs_are = c.index-pairs.ensures ∙ c.word_at-2.ensures;
      compounds_are = c.index-compounds.ensures ∙ c.word_at-3.ensures;
    } in
    let none = nothing_yet e in
    enters c.args.s.now text names j (figures c.args.room) done query rest atlas c.args.t e is c.args.q
    c.index-goals.result c.index-pairs.result c.index-compounds.result at numbers c.queue.result c.queue.ensures
    _ _ c.word-2.result _ _ (rw c.word.ensures at c.add_goals-cells.ensures) c.word-2.ensures c.set_at.ensures
    (record {
      pairs_are = refl;
      compounds_are = refl;
      cells_are = refl;
      active_is = refl;
      front = e.front;
      log = e.log;
      waiting = none.0;
      failed = none.1;
      steps = none.2;
    })
