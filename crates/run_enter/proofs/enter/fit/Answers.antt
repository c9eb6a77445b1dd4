-- Figure by figure.
use Rattle.std.proofs.Common.{◌≡◌, ◌+◌, ap, ◌∙◌}
use native.Mathlib.Omega.{arith}
use lib.Dec.{leb}
use Rattle.term.specs.Layout.{figures, query_record}
use Rattle.run_enter.proofs.Summing.{sum_pairs, sum_compounds, sum_goals, small_counts, fit_no_pairs, fit_no_compounds, fit_goals}
use Rattle.run_enter.proofs.enter.fit.Goals as goal

pub sum-requires : goal.sum-requires
sum-requires c =
    let (names, j, held, count) = c.requires in (
      omega (arith, held.few_queries, count),
      omega arith,
      omega (arith, held.inside),
      λ q l. (small_counts c.args.s.now names j held q (omega (arith, count))).1,
    )

pub sum-requires-2 : goal.sum-requires-2
sum-requires-2 c =
    let (names, j, held, count) = c.requires in (
      omega (arith, held.few_queries, count),
      omega arith,
      omega (arith, held.inside),
      λ q l. (small_counts c.args.s.now names j held q (omega (arith, count))).2,
    )

pub sum-requires-3 : goal.sum-requires-3
sum-requires-3 c =
    let (names, j, held, count) = c.requires in (
      omega (arith, held.few_queries, count),
      omega arith,
      omega (arith, held.inside),
      λ q l.
          let plain : query_record q + 0 ≡ query_record q = omega arith in
          rw plain (small_counts c.args.s.now names j held q (omega (arith, count))).0,
    )

pub returns-then-room-sum : goal.returns-then-room-sum
returns-then-room-sum c = λ names j held count.
    let total = rw count at c.sum.ensures ∙ sum_pairs c.args.s.now names j held in
    fit_no_pairs (figures c.args.room) j.queries (omega (arith, total, c.if-room-sum.true))

pub returns-then-room-sum-2 : goal.returns-then-room-sum-2
returns-then-room-sum-2 c = λ names j held count.
    let total = rw count at c.sum-2.ensures ∙ sum_compounds c.args.s.now names j held in
    fit_no_compounds (figures c.args.room) j.queries (omega (arith, total, c.if-room-sum-2.true))

pub returns : goal.returns
returns c = λ names j held count.
    let pairs = rw count at c.sum.ensures ∙ sum_pairs c.args.s.now names j held in
    let compounds = rw count at c.sum-2.ensures ∙ sum_compounds c.args.s.now names j held in
    let goals = rw count at c.sum-3.ensures ∙ sum_goals c.args.s.now names j held in
    ap (λ n. leb n c.args.room.goals) goals
    ∙ fit_goals (figures c.args.room) j.queries (omega (arith, pairs, c.if-room-sum.false)) (omega (arith, compounds, c.if-room-sum-2.false))
