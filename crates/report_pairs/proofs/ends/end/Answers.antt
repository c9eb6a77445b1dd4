-- `report_pairs::ends::end` meets its contract, by the ways of Chains.
use Prim.Native.Nat.{◌+◌, ◌-◌}
use mathlib.Core.Path.{◌≡◌}
use native.Mathlib.Omega.{arith}
use Rattle.report_pairs.proofs.Chains.{way_begins, way_stops, way_goes, way_ends}
use Rattle.report_pairs.proofs.ends.end.Goals as goal

pub pairs-end-requires : goal.pairs-end-requires
pairs-end-requires c = let r = c.requires.3 in omega (arith, r.behind, r.inside)

pub loop-init : goal.loop-init
loop-init c text x u r k = way_begins c.args.s.now text x c.args.facts r u c.args.w _ k (omega (arith, c.pairs-end.ensures))

pub next-requires : goal.next-requires
next-requires c =
    let (text, x, u, r, k) = c.requires in
    let way = c.loop.invariant text x u r k in
    (text, x, way.here, r, way.shows)

pub returns-in_default : goal.returns-in_default
returns-in_default c text x u r k =
    let way = c.loop.invariant text x u r k in
    way_stops c.args.s.now text x c.args.facts r u c.loop.t _ way (c.in_default.ensures text x way.here r way.shows)

pub loop-preserved : goal.loop-preserved
loop-preserved c text x u r k =
    let way = c.loop.invariant text x u r k in
    let e : c.pairs-end.result - (c.loop.counter + 1) ≡ c.pairs-end.result - c.loop.counter - 1 = omega arith in
    rw e (way_goes c.args.s.now text x c.args.facts r u c.loop.t c.in-Some.v _ way (c.in-Some.ensures text x way.here r way.shows))

pub returns : goal.returns
returns c text x u r k = way_ends c.args.s.now text x c.args.facts r u c.loop.t _ (c.loop.invariant text x u r k) (omega arith)
