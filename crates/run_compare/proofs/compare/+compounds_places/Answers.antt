-- `run_compare::compare::compounds` and `places` meet their contracts.
use Rattle.std.proofs.Common.{◌+◌, refl, arith}
use Rattle.meaning.specs.Compare.{followed}
use Rattle.run_compare.proofs.Table.{table_asks}
use Rattle.run_compare.proofs.Place.{compounds_cells, compounds_differ, compounds_deeper}
use Rattle.run_compare.proofs.Going.{
  both_inside,
  begins,
  few_left,
  head_word_inside,
  goal_word_inside,
  ends,
  facing,
  turn_reads,
  turn_against,
  turn_noted,
  turn_fails,
  turn_cells,
  turn_later,
  turn_compounds,
  both_noted,
  both_fail,
  turn_differs,
  turn_inside,
  turn_on,
}
use Rattle.run_compare.proofs.compare.+compounds_places.Goals as goal
use Rattle.run_compare.proofs.compare.+compounds_places.Goals.{places-in-Noted, places-in-Below+else-i-k+in_ok-noted-in-Below}

pub compounds-differ-requires : goal.compounds-differ-requires
compounds-differ-requires t c = compounds_cells c.args.links c.args.p c.args.q c.requires.10

pub compounds-returns-then-differ : goal.compounds-returns-then-differ
compounds-returns-then-differ t c x y lo hi m g us l f ts k =
    compounds_differ c.args.links c.args.p c.args.q k c.differ.result c.differ.ensures c.if-differ.true

pub compounds-places-requires : goal.compounds-places-requires
compounds-places-requires t c =
    let a = c.args in
    let pre = c.requires in
    let D = compounds_deeper a.links a.p a.q pre.10 c.differ.result c.differ.ensures c.if-differ.false in (
      omega (arith, c.decreases),
      (pre.0, pre.1, D.m, D.g, D.us, pre.2 + 1, pre.3, D.l, D.f, D.ts, D.against),
    )

pub compounds-returns : goal.compounds-returns
compounds-returns t c x y lo hi m g us l f ts k =
    let a = c.args in
    let told = c.places in
    let D = compounds_deeper a.links a.p a.q k c.differ.result c.differ.ensures c.if-differ.false in
    D.back told.new.s told.result (told.ensures x y D.m D.g D.us (lo + 1) hi D.l D.f D.ts D.against)

pub places-open-k-requires : goal.places-open-k-requires
places-open-k-requires t c = both_inside c.args.links c.requires.10

pub places-arguments-init : goal.places-arguments-init
places-arguments-init t c x y m g us lo hi l f ts A = begins c.args.links A c.open-k.ensures.behind refl (omega arith) (λ s' r answers. answers)

pub places-argument-h-requires : goal.places-argument-h-requires
places-argument-h-requires t c =
    let a = c.args in
    let pre = c.requires in
    let G = c.arguments.invariant pre.0 pre.1 pre.2 pre.3 pre.4 pre.5 pre.6 pre.7 pre.8 pre.9 pre.10 in
    head_word_inside a.links G c.arguments-test.true

pub places-argument-a-requires : goal.places-argument-a-requires
places-argument-a-requires t c =
    let a = c.args in
    let pre = c.requires in
    let G = c.arguments.invariant pre.0 pre.1 pre.2 pre.3 pre.4 pre.5 pre.6 pre.7 pre.8 pre.9 pre.10 in
    goal_word_inside a.links G c.arguments-test.true

pub places-follow-w-requires : goal.places-follow-w-requires
places-follow-w-requires t c =
    let a = c.args in
    let pre = c.requires in
    let G = c.arguments.invariant pre.0 pre.1 pre.2 pre.3 pre.4 pre.5 pre.6 pre.7 pre.8 pre.9 pre.10 in
    (pre.0, (facing a.links G c.arguments-test.true).u, turn_reads a.links G c.arguments-test.true c.argument-a.ensures)

pub places-table-requires : goal.places-table-requires
places-table-requires t c =
    let a = c.args in
    let pre = c.requires in
    let G = c.arguments.invariant pre.0 pre.1 pre.2 pre.3 pre.4 pre.5 pre.6 pre.7 pre.8 pre.9 pre.10 in
    let F = facing a.links G c.arguments-test.true in
    table_asks c.arguments.s pre.0 pre.1 a.values a.links G.partly.low F.mid c.arguments.noted c.argument-h.result c.follow-w.result
    F.t (followed a.links pre.0.values F.u) (turn_against a.links G c.arguments-test.true c.argument-h.ensures c.argument-a.ensures c.follow-w.ensures)

pub places-returns-in-Fails : goal.places-returns-in-Fails
places-returns-in-Fails t c x y m g us lo hi l f ts A =
    let a = c.args in
    let G = c.arguments.invariant x y m g us lo hi l f ts A in
    turn_fails a.links G c.arguments-test.true c.argument-h.ensures c.argument-a.ensures c.follow-w.ensures c.table.ensures c.in-Fails.is

pub places-differ-requires : goal.places-differ-requires
places-differ-requires t c =
    let a = c.args in
    let pre = c.requires in
    let G = c.arguments.invariant pre.0 pre.1 pre.2 pre.3 pre.4 pre.5 pre.6 pre.7 pre.8 pre.9 pre.10 in
    turn_cells a.links G c.arguments-test.true c.argument-h.ensures c.argument-a.ensures c.follow-w.ensures c.table.ensures c.in-Below.is

pub places-returns-then-differ : goal.places-returns-then-differ
places-returns-then-differ t c x y m g us lo hi l f ts A =
    let a = c.args in
    let G = c.arguments.invariant x y m g us lo hi l f ts A in
    turn_differs a.links G c.arguments-test.true c.argument-h.ensures c.argument-a.ensures c.follow-w.ensures c.table.ensures c.in-Below.is c.differ.ensures c.if-differ.true

pub places-open-k-requires-then-i-k : goal.places-open-k-requires-then-i-k
places-open-k-requires-then-i-k t c =
    let a = c.args in
    let pre = c.requires in
    let G = c.arguments.invariant pre.0 pre.1 pre.2 pre.3 pre.4 pre.5 pre.6 pre.7 pre.8 pre.9 pre.10 in
    turn_inside a.links G c.arguments-test.true c.argument-h.ensures c.argument-a.ensures c.follow-w.ensures c.table.ensures c.in-Below.is c.differ.ensures c.if-differ.false

pub places-arguments-smaller-then-i-k : goal.places-arguments-smaller-then-i-k
places-arguments-smaller-then-i-k t c =
    let a = c.args in
    let pre = c.requires in
    let G = c.arguments.invariant pre.0 pre.1 pre.2 pre.3 pre.4 pre.5 pre.6 pre.7 pre.8 pre.9 pre.10 in
    let on = turn_on a.links G c.arguments-test.true c.argument-h.ensures c.argument-a.ensures c.follow-w.ensures c.table.ensures c.in-Below.is c.differ.ensures c.if-differ.false c.if-i-k.true
    c.open-k-then-i-k.ensures.behind in
    let later = turn_later a.links G c.arguments-test.true c.argument-h.ensures c.argument-a.ensures c.follow-w.ensures c.table.ensures c.in-Below.is in
    omega (arith, few_left a.links on, later.0, later.1, c.if-i-k.true)

pub places-arguments-preserved-then-i-k : goal.places-arguments-preserved-then-i-k
places-arguments-preserved-then-i-k t c x y m g us lo hi l f ts A =
    let a = c.args in
    let G = c.arguments.invariant x y m g us lo hi l f ts A in
    turn_on a.links G c.arguments-test.true c.argument-h.ensures c.argument-a.ensures c.follow-w.ensures c.table.ensures c.in-Below.is c.differ.ensures c.if-differ.false c.if-i-k.true
    c.open-k-then-i-k.ensures.behind

pub places-compounds-requires : goal.places-compounds-requires
places-compounds-requires t c =
    let a = c.args in
    let pre = c.requires in
    let G = c.arguments.invariant pre.0 pre.1 pre.2 pre.3 pre.4 pre.5 pre.6 pre.7 pre.8 pre.9 pre.10 in
    let later = turn_later a.links G c.arguments-test.true c.argument-h.ensures c.argument-a.ensures c.follow-w.ensures c.table.ensures c.in-Below.is in
    let D = turn_compounds a.links G c.arguments-test.true c.argument-h.ensures c.argument-a.ensures c.follow-w.ensures c.table.ensures c.in-Below.is in (
      omega (arith, later.0, later.1, G.later, c.decreases),
      (pre.0, pre.1, G.partly.low, (facing a.links G c.arguments-test.true).mid, D.m, D.g, D.us, D.l, D.f, D.ts, D.against),
    )

pub places-returns-in_err-noted-in-Below : goal.places-returns-in_err-noted-in-Below
places-returns-in_err-noted-in-Below t c x y m g us lo hi l f ts A =
    let a = c.args in
    let G = c.arguments.invariant x y m g us lo hi l f ts A in
    let D = turn_compounds a.links G c.arguments-test.true c.argument-h.ensures c.argument-a.ensures c.follow-w.ensures c.table.ensures c.in-Below.is in
    let told = c.compounds.ensures x y G.partly.low (facing a.links G c.arguments-test.true).mid D.m D.g D.us D.l D.f D.ts D.against in
    rw c.from_residual.ensures (both_fail a.links G c.arguments-test.true c.argument-h.ensures c.argument-a.ensures c.follow-w.ensures c.table.ensures
    c.in-Below.is told c.in_err-noted-in-Below.was)

pub places-overflow_add-i : goal.places-overflow_add-i
places-overflow_add-i t c =
    let a = c.args in
    let pre = c.requires in
    let G = c.arguments.invariant pre.0 pre.1 pre.2 pre.3 pre.4 pre.5 pre.6 pre.7 pre.8 pre.9 pre.10 in
    omega (arith, few_left a.links G)

pub places-arguments-preserved : goal.places-arguments-preserved
places-arguments-preserved t c x y m g us lo hi l f ts A =
    let a = c.args in
    let G = c.arguments.invariant x y m g us lo hi l f ts A in
    elim c.match-table.branch [
      | places-in-Noted w ↦ rw (w.s-is, w.noted-is) (turn_noted a.links G c.arguments-test.true c.argument-h.ensures c.argument-a.ensures c.follow-w.ensures c.table.ensures w.in-Noted.is)
      | places-in-Below+else-i-k+in_ok-noted-in-Below w ↦
          let D = turn_compounds a.links G c.arguments-test.true c.argument-h.ensures c.argument-a.ensures c.follow-w.ensures c.table.ensures w.in-Below.is in
          let told = w.compounds.ensures x y G.partly.low (facing a.links G c.arguments-test.true).mid D.m D.g D.us D.l D.f D.ts D.against in
          rw (w.s-is, w.noted-is) (both_noted a.links G c.arguments-test.true c.argument-h.ensures c.argument-a.ensures c.follow-w.ensures c.table.ensures w.in-Below.is told w.in_ok-noted-in-Below.was)
    ]

pub places-returns : goal.places-returns
places-returns t c x y m g us lo hi l f ts A =
    let a = c.args in
    let G = c.arguments.invariant x y m g us lo hi l f ts A in
    ends a.links G c.arguments-test.false
