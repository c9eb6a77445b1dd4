-- The walk through the arguments of a compound of the clause meets its contract: those before the i-th were walked, and what is left is less deep.
use Prim.Native.Nat.{◌+◌, ◌%◌, ◌≤◌}
use mathlib.Core.Path.{sym, ◌∙◌}
use native.Mathlib.Omega.{arith}
use borrow.Author.Tests.{eqb-true}
use Rattle.run_circle.proofs.Measure.{lighter}
use Rattle.run_ground.proofs.Found.{not_three}
use Rattle.run_ground.proofs.Through as calls
use Rattle.run_ground.proofs.seek.+through.Goals as goal
use Rattle.run_ground.proofs.seek.+through.Goals.{else-a-eq-COMPOUND, then-a-eq-COMPOUND}

pub count-n-requires : goal.count-n-requires
count-n-requires t c =
    let a = c.args in let s₀ = a.s.now in let vs = a.values in let ms = a.marks in
    let ls = a.links in let st = a.stamp in let q = a.q in let k = a.k in let s = c.loop-i.s in let i = c.loop-i.i in
    let f = c.loop-i.found in let passing = c.loop-i.invariant in let low : i ≤ k = omega (arith, c.loop-i-test.true) in
    let b = c.argument-a.result in let reads = c.argument-a.ensures in let p = c.index-p.result in let at = c.index-p.ensures in
    calls.inner_at vs ms ls st s₀ q k a.state s i f passing low b reads c.if-a-eq-COMPOUND.true p at c.requires

pub through-found-requires : goal.through-found-requires
through-found-requires t c =
    let a = c.args in let s₀ = a.s.now in
    let vs = a.values in let ms = a.marks in let ls = a.links in let st = a.stamp in let q = a.q in let k = a.k in let s = c.loop-i.s in
    let i = c.loop-i.i in let f = c.loop-i.found in let passing = c.loop-i.invariant in
    let low : i ≤ k = omega (arith, c.loop-i-test.true) in let b = c.argument-a.result in let reads = c.argument-a.ensures in
    let p = c.index-p.result in let at = c.index-p.ensures in let n = c.count-n.result in (
      lighter (calls.args_weight s p n) (calls.args_weight s₀ q k) (calls.args_weight s₀ q k) t c.decreases (omega arith)
          (calls.inner_lighter vs ms ls st s₀ q k a.state s i f passing low b reads c.if-a-eq-COMPOUND.true p at n c.count-n.ensures c.requires),
      calls.inner_asks vs ms ls st s₀ q k a.state s i f passing low b reads c.if-a-eq-COMPOUND.true p at n c.count-n.ensures c.requires,
    )

pub from_leaf-found-requires : goal.from_leaf-found-requires
from_leaf-found-requires t c =
    let a = c.args in let s₀ = a.s.now in let vs = a.values in let ms = a.marks in let ls = a.links in
    let st = a.stamp in let q = a.q in let k = a.k in let s = c.loop-i.s in let i = c.loop-i.i in let f = c.loop-i.found in
    let passing = c.loop-i.invariant in let low : i ≤ k = omega (arith, c.loop-i-test.true) in let b = c.argument-a.result in
    let reads = c.argument-a.ensures in
    calls.leaf_asks vs ms ls st s₀ q k a.state s i f passing low b reads c.if-a-eq-COMPOUND.false c.requires

pub returns-then-ended : goal.returns-then-ended
returns-then-ended t c =
    let a = c.args in let s₀ = a.s.now in let vs = a.values in let ms = a.marks in
    let ls = a.links in let st = a.stamp in let q = a.q in let k = a.k in let s = c.loop-i.s in let i = c.loop-i.i in
    let f = c.loop-i.found in let passing = c.loop-i.invariant in let low : i ≤ k = omega (arith, c.loop-i-test.true) in
    let b = c.argument-a.result in let reads = c.argument-a.ensures in let s₂ = c.if-a-eq-COMPOUND.s in let r = c.if-a-eq-COMPOUND.found in
    let done : calls.NextTells vs ms ls st s₀ q k a.state s i f passing low b reads s₂ r =
    elim c.if-a-eq-COMPOUND.branch [
      | then-a-eq-COMPOUND w ↦ rw (w.s-is, w.found-is) (
          calls.inner_tells vs ms ls st s₀ q k a.state s i f passing low b reads w.if-a-eq-COMPOUND.true w.index-p.result w.index-p.ensures
          w.count-n.result w.count-n.ensures w.through-found.new.s w.through-found.result w.through-found.ensures)
      | else-a-eq-COMPOUND w ↦ rw (w.s-is, w.found-is) (
          calls.leaf_tells vs ms ls st s₀ q k a.state s i f passing low b reads w.if-a-eq-COMPOUND.false w.from_leaf-found.new.s
          w.from_leaf-found.result w.from_leaf-found.ensures)
    ] in
    calls.passing_ended vs ms ls st s₀ q k a.state s i f passing low b reads s₂ r done (eqb-true (r % 4) 3 (sym c.ended.ensures ∙ c.if-ended.true))

pub loop-i-preserved : goal.loop-i-preserved
loop-i-preserved t c =
    let a = c.args in let s₀ = a.s.now in let vs = a.values in let ms = a.marks in
    let ls = a.links in let st = a.stamp in let q = a.q in let k = a.k in let s = c.loop-i.s in let i = c.loop-i.i in
    let f = c.loop-i.found in let passing = c.loop-i.invariant in let low : i ≤ k = omega (arith, c.loop-i-test.true) in
    let b = c.argument-a.result in let reads = c.argument-a.ensures in let s₂ = c.if-a-eq-COMPOUND.s in let r = c.if-a-eq-COMPOUND.found in
    let done : calls.NextTells vs ms ls st s₀ q k a.state s i f passing low b reads s₂ r =
    elim c.if-a-eq-COMPOUND.branch [
      | then-a-eq-COMPOUND w ↦ rw (w.s-is, w.found-is) (
          calls.inner_tells vs ms ls st s₀ q k a.state s i f passing low b reads w.if-a-eq-COMPOUND.true w.index-p.result w.index-p.ensures
          w.count-n.result w.count-n.ensures w.through-found.new.s w.through-found.result w.through-found.ensures)
      | else-a-eq-COMPOUND w ↦ rw (w.s-is, w.found-is) (
          calls.leaf_tells vs ms ls st s₀ q k a.state s i f passing low b reads w.if-a-eq-COMPOUND.false w.from_leaf-found.new.s
          w.from_leaf-found.result w.from_leaf-found.ensures)
    ] in
    calls.passing_next vs ms ls st s₀ q k a.state s i f passing low b reads s₂ r done (not_three r (sym c.ended.ensures ∙ c.if-ended.false))

pub returns : goal.returns
returns t c =
    let a = c.args in let s₀ = a.s.now in let vs = a.values in let ms = a.marks in
    let ls = a.links in let st = a.stamp in let q = a.q in let k = a.k in let s = c.loop-i.s in let i = c.loop-i.i in
    let f = c.loop-i.found in let passing = c.loop-i.invariant in
    calls.passing_last vs ms ls st s₀ q k a.state s i f passing (omega (arith, c.loop-i-test.false))

pub returns-else-ended : goal.returns-else-ended
returns-else-ended t c =
    let a = c.args in let s₀ = a.s.now in let vs = a.values in let ms = a.marks in
    let ls = a.links in let st = a.stamp in let q = a.q in let k = a.k in let s = c.loop-i.s in let i = c.loop-i.i in
    let f = c.loop-i.found in let passing = c.loop-i.invariant in let low : i ≤ k = omega (arith, c.loop-i-test.true) in
    let b = c.argument-a.result in let reads = c.argument-a.ensures in let s₂ = c.if-a-eq-COMPOUND.s in let r = c.if-a-eq-COMPOUND.found in
    let done : calls.NextTells vs ms ls st s₀ q k a.state s i f passing low b reads s₂ r =
    elim c.if-a-eq-COMPOUND.branch [
      | then-a-eq-COMPOUND w ↦ rw (w.s-is, w.found-is) (
          calls.inner_tells vs ms ls st s₀ q k a.state s i f passing low b reads w.if-a-eq-COMPOUND.true w.index-p.result w.index-p.ensures
          w.count-n.result w.count-n.ensures w.through-found.new.s w.through-found.result w.through-found.ensures)
      | else-a-eq-COMPOUND w ↦ rw (w.s-is, w.found-is) (
          calls.leaf_tells vs ms ls st s₀ q k a.state s i f passing low b reads w.if-a-eq-COMPOUND.false w.from_leaf-found.new.s
          w.from_leaf-found.result w.from_leaf-found.ensures)
    ] in
    calls.passing_last vs ms ls st s₀ q k a.state s₂ (i + 1) r
    (calls.passing_next vs ms ls st s₀ q k a.state s i f passing low b reads s₂ r done (not_three r (sym c.ended.ensures ∙ c.if-ended.false))) (omega arith)
