-- `report_write::rising::rise` meets its contract: each byte that is put ends a compound, or stands before the next argument.
use native.Mathlib.Omega.{arith}
use Rattle.std.specs.Prelude.{None}
use Rattle.report_pairs.proofs.Walking.{found_as}
use Rattle.report_write.proofs.Upward.{rising_first, rising_room, rising_goes, rising_ends, rising_on}
use Rattle.report_write.proofs.rising.rise.Goals as goal

pub loop-q-init : goal.loop-q-init
loop-q-init c text x order bs r B =
    rising_first c.args.frames.now c.args.source.now.s.now x c.args.source.now.facts order c.args.buffer.now c.args.at c.args.place c.args.number c.args.deep bs B

pub behind-b-requires : goal.behind-b-requires
behind-b-requires c =
    let (text, x, order, bs, r, B₀, fit, few) = c.requires in let B = (c.loop-q.invariant text x order bs r B₀).behind in
    (text, x, B.f, B.j, B.u, B.us, r, B.position)

pub put-to-requires : goal.put-to-requires
put-to-requires c =
    let S = c.args in let l = c.loop-q in let (text, x, order, bs, r, B₀, fit, few) = c.requires in
    let R = l.invariant text x order bs r B₀ in let B = R.behind in
    rising_room S.frames.now S.source.now.s.now x S.source.now.facts order S.buffer.now l.buffer S.at l.to l.p l.i l.depth S.deep bs R _
    (c.behind-b.ensures text x B.f B.j B.u B.us r B.position) fit

pub returns-in-Some : goal.returns-in-Some
returns-in-Some c text x order bs r B₀ =
    let S = c.args in let l = c.loop-q in
    let R = l.invariant text x order bs r B₀ in let B = R.behind in
    rising_goes S.frames.now S.source.now.s.now x S.source.now.facts order S.buffer.now l.buffer S.at l.to l.p l.i l.depth S.deep bs R _ _ _ c.put-to.ensures _ _
    (found_as _ x B.f B.j B.us c.behind-b.result _ c.in-Some.is (c.behind-b.ensures text x B.f B.j B.u B.us r B.position))

pub returns-then-depth-eq0 : goal.returns-then-depth-eq0
returns-then-depth-eq0 c text x order bs r B₀ =
    let S = c.args in let l = c.loop-q in
    let R = l.invariant text x order bs r B₀ in let B = R.behind in
    rising_ends S.frames.now S.source.now.s.now x S.source.now.facts order S.buffer.now l.buffer S.at l.to l.p l.i l.depth S.deep bs R _ _ _ c.put-to.ensures
    (found_as _ x B.f B.j B.us c.behind-b.result None c.in_default.is (c.behind-b.ensures text x B.f B.j B.u B.us r B.position)) c.if-depth-eq0.true

pub offset_bounds-frames-depth : goal.offset_bounds-frames-depth
offset_bounds-frames-depth c =
    let (text, x, order, bs, r, B₀, fit, few) = c.requires in
    let R = c.loop-q.invariant text x order bs r B₀ in omega (arith, R.low, few)

pub bounds-frames-depth : goal.bounds-frames-depth
bounds-frames-depth c =
    let (text, x, order, bs, r, B₀, fit, few) = c.requires in
    let R = c.loop-q.invariant text x order bs r B₀ in omega (arith, R.low, few)

pub loop-q-preserved : goal.loop-q-preserved
loop-q-preserved c text x order bs r B₀ =
    let S = c.args in let l = c.loop-q in
    let R = l.invariant text x order bs r B₀ in let B = R.behind in
    rising_on S.frames.now S.source.now.s.now x S.source.now.facts order S.buffer.now l.buffer S.at l.to l.p l.i l.depth S.deep bs R _ _ _ c.put-to.ensures
    (found_as _ x B.f B.j B.us c.behind-b.result None c.in_default.is (c.behind-b.ensures text x B.f B.j B.u B.us r B.position)) c.if-depth-eq0.false
