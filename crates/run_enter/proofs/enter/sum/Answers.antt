-- Record by record.
use Rattle.std.proofs.Common.{◌≡◌, ◌+◌, get_or, refl, sym, add-one}
use native.Mathlib.Omega.{arith}
use Rattle.term.specs.Layout.{query_record}
use Rattle.run_enter.specs.Entering.{record_sum}
use Rattle.run_enter.proofs.Summing.{sum_small}
use Rattle.run_enter.proofs.enter.sum.Goals as goal

pub loop-q-init : goal.loop-q-init
unfolding record_sum
loop-q-init c = refl

pub overflow_add-all : goal.overflow_add-all
overflow_add-all c =
    let few = c.requires.3 in
    omega (
      arith,
      c.loop-q.invariant,
      c.word_at.ensures,
      c.index-all.ensures,
      few c.loop-q.q c.loop-q-test.true,
      sum_small c.args.s.now c.args.at c.loop-q.q (λ q l. few q (omega (arith, c.loop-q-test.true))),
    )

pub loop-q-preserved : goal.loop-q-preserved
unfolding record_sum
loop-q-preserved c =
    let next : record_sum c.args.s.now c.args.at (c.loop-q.q + 1)
    ≡ record_sum c.args.s.now c.args.at c.loop-q.q + get_or c.args.s.now (query_record c.loop-q.q + c.args.at) 0 = rw add-one refl in
    omega (arith, next, c.loop-q.invariant, c.word_at.ensures, c.index-all.ensures)

pub returns : goal.returns
returns c =
    let all : c.loop-q.q ≡ c.args.queries = omega arith in
    rw (sym all) c.loop-q.invariant
