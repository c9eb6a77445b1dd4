-- `run_equal::equal::root` meets its contract: each link on the way means the same as far as the links agree.
use mathlib.Core.Bool.{not}
use mathlib.Core.Path.{ap}
use native.Mathlib.Omega.{arith}
use Rattle.run_equal.proofs.Words.{is_variable}
use Rattle.run_equal.proofs.Links.{alike_self, alike_then, pair_inside, link_alike}
use Rattle.run_equal.proofs.equal.root.Goals as goal

pub loop-init : goal.loop-init
loop-init c =
    let a = c.args in
    λ x values v W m. alike_self a.s.now x values a.lists a.links a.taken W a.w v m

pub returns-then-not-is_variable : goal.returns-then-not-is_variable
returns-then-not-is_variable c = c.loop.invariant

pub link-requires : goal.link-requires
link-requires c =
    let a = c.args in
    let (x, values, v, W, m) = c.requires in
    let L = c.loop.invariant x values v W m in
    let t = c.loop.t in
    let is = is_variable t c.is_variable.result c.is_variable.ensures (ap not c.if-not-is_variable.false) in
    let pair = pair_inside a.s.now x values a.lists a.links a.taken W t L.meaning L.means is in
    (W.readers.inside, omega (arith, c.index.ensures), W.high)

pub returns-then-not-is_variable-2 : goal.returns-then-not-is_variable-2
returns-then-not-is_variable-2 c = c.loop.invariant

pub loop-preserved : goal.loop-preserved
loop-preserved c =
    let a = c.args in
    let t = c.loop.t in
    let r = c.in-Some.v in
    let is = is_variable t c.is_variable.result c.is_variable.ensures (ap not c.if-not-is_variable.false) in
    let it = is_variable r c.is_variable-in-loop.result c.is_variable-in-loop.ensures (ap not c.if-not-is_variable-2.false) in
    λ x values v W m.
    let L = c.loop.invariant x values v W m in
    alike_then a.s.now x values a.lists a.links a.taken W v t r L
    (link_alike a.s.now x values a.lists a.links a.taken W t L.meaning r L.means is
    (rw (c.index.ensures, c.in-Some.is) at c.link.ensures))

pub returns : goal.returns
returns c = c.loop.invariant
