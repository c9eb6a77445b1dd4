-- `run_compare::heads::head` meets its contract.
use Rattle.std.proofs.Common.{◌+◌, arith}
use Rattle.meaning.specs.Compare.{followed}
use Rattle.run_compare.proofs.Table.{table_asks}
use Rattle.run_compare.proofs.Place.{place_noted, place_fails, place_cells, place_differs, place_deeper}
use Rattle.run_compare.proofs.Arguments.{head_inside, first_partly, head_argument_inside, next, next_against, one_more, fails_here, all_agree}
use Rattle.run_compare.proofs.Goals.{Behind, followed_inside, followed_read, followed_left}
use Rattle.run_compare.proofs.heads.head.Goals as goal

pub count-i-end-requires : goal.count-i-end-requires
count-i-end-requires c = omega (arith, head_inside c.args.links c.requires.8.head)

pub arguments-init : goal.arguments-init
arguments-init c x y m g us lo hi ts A = first_partly c.args.links A.head (Behind x c.args.links) ts A.goal A.counts c.count-i-end.result c.count-i-end.ensures

pub argument-h-requires : goal.argument-h-requires
argument-h-requires c =
    let pre = c.requires in
    let links = c.args.links in
    let P = c.arguments.invariant pre.0 pre.1 pre.2 pre.3 pre.4 pre.5 pre.6 pre.7 pre.8 in
    head_argument_inside links pre.8.head P c.arguments-test.true

pub word_at-w-requires : goal.word_at-w-requires
word_at-w-requires c =
    let pre = c.requires in
    let links = c.args.links in
    let P = c.arguments.invariant pre.0 pre.1 pre.2 pre.3 pre.4 pre.5 pre.6 pre.7 pre.8 in
    followed_inside links pre.8 P c.arguments-test.true

pub table-requires : goal.table-requires
table-requires c =
    let pre = c.requires in
    let links = c.args.links in
    let P = c.arguments.invariant pre.0 pre.1 pre.2 pre.3 pre.4 pre.5 pre.6 pre.7 pre.8 in
    let F = next links pre.8.head P c.arguments-test.true in
    let K = next_against links pre.8.head P F c.argument-h.ensures (followed_read links pre.8 P F c.word_at-w.ensures) in
    table_asks c.arguments.s pre.0 pre.1 c.args.values links P.low F.mid c.arguments.noted c.argument-h.result c.word_at-w.result F.t
    (followed links pre.0.values F.u) K

pub returns-in-Fails : goal.returns-in-Fails
returns-in-Fails c x y m g us lo hi ts A =
    let links = c.args.links in
    let P = c.arguments.invariant x y m g us lo hi ts A in
    let F = next links A.head P c.arguments-test.true in
    let K = next_against links A.head P F c.argument-h.ensures (followed_read links A P F c.word_at-w.ensures) in
    fails_here links A.head P F (place_fails links K c.table.ensures c.in-Fails.is)

pub differ-requires : goal.differ-requires
differ-requires c =
    let pre = c.requires in
    let links = c.args.links in
    let P = c.arguments.invariant pre.0 pre.1 pre.2 pre.3 pre.4 pre.5 pre.6 pre.7 pre.8 in
    let F = next links pre.8.head P c.arguments-test.true in
    let K = next_against links pre.8.head P F c.argument-h.ensures (followed_read links pre.8 P F c.word_at-w.ensures) in
    place_cells links K c.table.ensures c.in-Below.is

pub returns-then-differ : goal.returns-then-differ
returns-then-differ c x y m g us lo hi ts A =
    let links = c.args.links in
    let P = c.arguments.invariant x y m g us lo hi ts A in
    let F = next links A.head P c.arguments-test.true in
    let K = next_against links A.head P F c.argument-h.ensures (followed_read links A P F c.word_at-w.ensures) in
    fails_here links A.head P F (place_differs links K c.table.ensures c.in-Below.is c.differ.result c.differ.ensures c.if-differ.true)

pub places-requires : goal.places-requires
places-requires c =
    let pre = c.requires in
    let links = c.args.links in
    let P = c.arguments.invariant pre.0 pre.1 pre.2 pre.3 pre.4 pre.5 pre.6 pre.7 pre.8 in
    let F = next links pre.8.head P c.arguments-test.true in
    let K = next_against links pre.8.head P F c.argument-h.ensures (followed_read links pre.8 P F c.word_at-w.ensures) in
    let D = place_deeper links K c.table.ensures c.in-Below.is c.differ.result c.differ.ensures c.if-differ.false in
    (pre.0, pre.1, D.m, D.g, D.us, P.low + 1, F.mid, D.l, D.f, D.ts, D.against)

pub returns-in_err-noted : goal.returns-in_err-noted
returns-in_err-noted c x y m g us lo hi ts A =
    let links = c.args.links in
    let P = c.arguments.invariant x y m g us lo hi ts A in
    let F = next links A.head P c.arguments-test.true in
    let K = next_against links A.head P F c.argument-h.ensures (followed_read links A P F c.word_at-w.ensures) in
    let D = place_deeper links K c.table.ensures c.in-Below.is c.differ.result c.differ.ensures c.if-differ.false in
    let told = c.places in
    let below = D.back told.new.s told.result (told.ensures x y D.m D.g D.us (P.low + 1) F.mid D.l D.f D.ts D.against) in
    rw c.from_residual.ensures (fails_here links A.head P F (rw c.in_err-noted.was at below))

pub arguments-preserved-in-Noted : goal.arguments-preserved-in-Noted
arguments-preserved-in-Noted c x y m g us lo hi ts A =
    let links = c.args.links in
    let P = c.arguments.invariant x y m g us lo hi ts A in
    let F = next links A.head P c.arguments-test.true in
    let K = next_against links A.head P F c.argument-h.ensures (followed_read links A P F c.word_at-w.ensures) in
    let told = place_noted links K c.table.ensures c.in-Noted.is in
    one_more links A.head P F told (followed_left links A P F told.only)

pub arguments-preserved : goal.arguments-preserved
arguments-preserved c x y m g us lo hi ts A =
    let links = c.args.links in
    let P = c.arguments.invariant x y m g us lo hi ts A in
    let F = next links A.head P c.arguments-test.true in
    let K = next_against links A.head P F c.argument-h.ensures (followed_read links A P F c.word_at-w.ensures) in
    let D = place_deeper links K c.table.ensures c.in-Below.is c.differ.result c.differ.ensures c.if-differ.false in
    let below = D.back c.places.new.s c.places.result (c.places.ensures x y D.m D.g D.us (P.low + 1) F.mid D.l D.f D.ts D.against) in
    let told = rw c.in_ok-noted.was at below in
    one_more links A.head P F told (followed_left links A P F told.only)

pub returns : goal.returns
returns c x y m g us lo hi ts A =
    let links = c.args.links in
    let P = c.arguments.invariant x y m g us lo hi ts A in
    all_agree links A.head P c.arguments-test.false

pub returns-in-Noted : goal.returns-in-Noted
returns-in-Noted c x y m g us lo hi ts A =
    let links = c.args.links in
    let P = c.arguments.invariant x y m g us lo hi ts A in
    let F = next links A.head P c.arguments-test.true in
    let K = next_against links A.head P F c.argument-h.ensures (followed_read links A P F c.word_at-w.ensures) in
    let told = place_noted links K c.table.ensures c.in-Noted.is in
    all_agree links A.head (one_more links A.head P F told (followed_left links A P F told.only)) (omega arith)

pub returns-in_ok-noted : goal.returns-in_ok-noted
returns-in_ok-noted c x y m g us lo hi ts A =
    let links = c.args.links in
    let P = c.arguments.invariant x y m g us lo hi ts A in
    let F = next links A.head P c.arguments-test.true in
    let K = next_against links A.head P F c.argument-h.ensures (followed_read links A P F c.word_at-w.ensures) in
    let D = place_deeper links K c.table.ensures c.in-Below.is c.differ.result c.differ.ensures c.if-differ.false in
    let below = D.back c.places.new.s c.places.result (c.places.ensures x y D.m D.g D.us (P.low + 1) F.mid D.l D.f D.ts D.against) in
    let told = rw c.in_ok-noted.was at below in
    all_agree links A.head (one_more links A.head P F told (followed_left links A P F told.only)) (omega arith)
