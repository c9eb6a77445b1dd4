-- Reader by reader.
use Rattle.std.proofs.Common.{◌≡◌, ◌∙◌}
use native.Mathlib.Omega.{arith}
use Rattle.run_queues.proofs.LogSteps.{slots_after, set_after, joining_begins, reader_inside, joining, joining_on}
use Rattle.run_queues.proofs.goals.Log.join_all.Goals as goal

pub loop-i-init : goal.loop-i-init
loop-i-init c = λ pairs slots goal ps a. joining_begins _ _ _ _ pairs slots _ goal ps _ _ a

pub word_at-requires : goal.word_at-requires
word_at-requires c =
    let (pairs, slots, goal, ps, a) = c.requires in
    reader_inside _ _ _ _ pairs slots _ goal ps _ _ a c.loop-i.s c.loop-i.i (c.loop-i.invariant pairs slots goal ps a) c.loop-i-test.true

pub join-requires : goal.join-requires
join-requires c =
    let (pairs, slots, goal, ps, a) = c.requires in
    let here = c.loop-i in (
      pairs,
      slots_after c.args.s.now c.args.self.places c.args.self.waiters c.args.self.sets pairs slots c.args.place goal ps c.args.readers c.args.n a here.i,
      goal,
      set_after c.args.s.now c.args.self.places c.args.self.waiters c.args.self.sets pairs slots c.args.place goal ps c.args.readers c.args.n a here.i,
      rw (c.index.ensures ∙ c.word_at.ensures)
          (joining _ _ _ _ pairs slots _ goal ps _ _ a here.s here.i (here.invariant pairs slots goal ps a) c.loop-i-test.true),
    )

pub loop-i-preserved : goal.loop-i-preserved
loop-i-preserved c = λ pairs slots goal ps a.
    let here = c.loop-i in
    let now = here.invariant pairs slots goal ps a in
    joining_on _ _ _ _ pairs slots _ goal ps _ _ a here.s here.i now c.loop-i-test.true _
    ((rw (c.index.ensures ∙ c.word_at.ensures) at c.join.ensures) pairs _ goal _
    (joining _ _ _ _ pairs slots _ goal ps _ _ a here.s here.i now c.loop-i-test.true))

pub returns : goal.returns
returns c = λ pairs slots goal ps a.
    let all : c.loop-i.i ≡ c.args.n = omega arith in
    rw all at (c.loop-i.invariant pairs slots goal ps a)
