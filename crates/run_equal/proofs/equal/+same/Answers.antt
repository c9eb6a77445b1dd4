-- The comparison meets its contract: turn by turn it goes on from two terms to others, as Calls has it, and no deeper than it was told.
use mathlib.Core.Bool.{not}
use mathlib.Core.Path.{◌≡◌, ap}
use Prim.Native.Nat.{◌+◌, ◌-◌, ◌≤◌}
use native.Mathlib.Omega.{arith}
use Rattle.run_equal.proofs.Calls as calls
use Prim.Native.Nat.{ℕ, ◌<◌}
use Rattle.run_equal.proofs.equal.+same.Goals as goal

-- Numbers on the way: plain ones, so that omega reads nothing else.
above : (k : ℕ) → (k ≡ 0 → ⊥) → 0 < k
above k d = omega arith

less : (depth deep t : ℕ) → depth ≡ t → 0 < deep → deep ≤ depth → deep - 1 < t
less depth deep t e some h = omega arith

one_more : (k : ℕ) → 0 < k → k - 1 + 1 ≡ k
one_more k h = omega arith

left_over : (k : ℕ) → 1 < k → 0 < k - 1
left_over k h = omega arith

same_sum : (p k : ℕ) → 0 < k → p + k < 4294967296 → p + 1 + (k - 1) < 4294967296
same_sum p k some h = omega arith

last_one : (k : ℕ) → 0 < k → k ≤ 1 → k ≡ 1
last_one k some h = omega arith

none : (k : ℕ) → k ≤ 0 → k ≡ 0
none k h = omega arith

pub root-c-requires : goal.root-c-requires
root-c-requires t c =
    let A = c.args in let s₀ = A.s.now in let vs = A.values in let ls = A.lists in
    let ks = A.links in let n₀ = A.first in let dp = A.depth in let x = A.left in let y = A.right in let s = c.loop-deep.s in
    let n = c.loop-deep.taken in let a = c.loop-deep.a in let b = c.loop-deep.b in let h = c.loop-deep.deep in let goes = c.loop-deep.invariant in
    let (z, v, u, w, m, o) = calls.at_hand s₀ vs ls ks n₀ dp x y s n a b h goes c.requires in
    (z, vs, v, w, m)

pub root-d-requires : goal.root-d-requires
root-d-requires t c =
    let A = c.args in let s₀ = A.s.now in let vs = A.values in
    let ls = A.lists in let ks = A.links in let n₀ = A.first in let dp = A.depth in let x = A.left in let y = A.right in let s = c.loop-deep.s in
    let n = c.loop-deep.taken in let a = c.loop-deep.a in let b = c.loop-deep.b in let h = c.loop-deep.deep in let goes = c.loop-deep.invariant in
    let (z, v, u, w, m, o) = calls.at_hand s₀ vs ls ks n₀ dp x y s n a b h goes c.requires in
    (z, vs, u, w, o)

pub returns-then-alike : goal.returns-then-alike
returns-then-alike t c =
    let A = c.args in let s₀ = A.s.now in let vs = A.values in let ls = A.lists in let ks = A.links in
    let n₀ = A.first in let dp = A.depth in let x = A.left in let y = A.right in let s = c.loop-deep.s in let n = c.loop-deep.taken in
    let a = c.loop-deep.a in let b = c.loop-deep.b in let h = c.loop-deep.deep in let goes = c.loop-deep.invariant in
    calls.ends_root s₀ vs ls ks n₀ dp x y s n a b h goes c.root-c.result c.root-d.result c.alike.result c.root-c.ensures
    c.root-d.ensures c.alike.ensures c.if-alike.true

pub opened-e-requires : goal.opened-e-requires
opened-e-requires t c =
    let A = c.args in
    let s₀ = A.s.now in let vs = A.values in let ls = A.lists in let ks = A.links in let n₀ = A.first in let dp = A.depth in let x = A.left in
    let y = A.right in let s = c.loop-deep.s in let n = c.loop-deep.taken in let a = c.loop-deep.a in let b = c.loop-deep.b in
    let h = c.loop-deep.deep in let goes = c.loop-deep.invariant in
    let (z, v, u, w, m, o) = calls.at_hand s₀ vs ls ks n₀ dp x y s n a b h goes c.requires in let L = c.root-c.ensures z vs v w m in
    (z, L.meaning, w, L.means)

pub opened-f-requires : goal.opened-f-requires
opened-f-requires t c =
    let A = c.args in let s₀ = A.s.now in let vs = A.values in let ls = A.lists in let ks = A.links in let n₀ = A.first in let dp = A.depth in
    let x = A.left in let y = A.right in let s = c.loop-deep.s in let n = c.loop-deep.taken in let a = c.loop-deep.a in let b = c.loop-deep.b in
    let h = c.loop-deep.deep in let goes = c.loop-deep.invariant in
    let (z, v, u, w, m, o) = calls.at_hand s₀ vs ls ks n₀ dp x y s n a b h goes c.requires in let R = c.root-d.ensures z vs u w o in
    (z, R.meaning, w, R.means)

pub join-taken-requires : goal.join-taken-requires
join-taken-requires t c =
    let A = c.args in let s₀ = A.s.now in let vs = A.values in
    let ls = A.lists in let ks = A.links in let n₀ = A.first in let dp = A.depth in let x = A.left in let y = A.right in let s = c.loop-deep.s in
    let n = c.loop-deep.taken in let a = c.loop-deep.a in let b = c.loop-deep.b in let h = c.loop-deep.deep in let goes = c.loop-deep.invariant in
    let (z, v, u, w, m, o) = calls.at_hand s₀ vs ls ks n₀ dp x y s n a b h goes c.requires in let L = c.root-c.ensures z vs v w m in
    let R = c.root-d.ensures z vs u w o in
    (z, vs, L.meaning, R.meaning, w, L.means, R.means)

pub returns-then-e-f : goal.returns-then-e-f
returns-then-e-f t c =
    let A = c.args in let s₀ = A.s.now in let vs = A.values in let ls = A.lists in let ks = A.links in
    let n₀ = A.first in let dp = A.depth in let x = A.left in let y = A.right in let s = c.loop-deep.s in let n = c.loop-deep.taken in
    let a = c.loop-deep.a in let b = c.loop-deep.b in let h = c.loop-deep.deep in let goes = c.loop-deep.invariant in let s₁ = c.join-taken.new.s in
    let n₁ = c.join-taken.result in let e = c.opened-e.result in let f = c.opened-f.result in
    let opens = calls.opens_of s s₁ vs ls ks n n₁ a b c.root-c.result c.root-d.result e f c.root-c.ensures c.root-d.ensures
    c.opened-e.ensures c.opened-f.ensures c.join-taken.ensures in
    calls.ends_same s₀ vs ls ks n₀ dp x y s n a b h goes s₁ n₁ e f opens c.if-e-f.true

pub matches-requires : goal.matches-requires
matches-requires t c =
    let A = c.args in let s₀ = A.s.now in let vs = A.values in let ls = A.lists in let ks = A.links in
    let n₀ = A.first in let dp = A.depth in let x = A.left in let y = A.right in let s = c.loop-deep.s in let n = c.loop-deep.taken in
    let a = c.loop-deep.a in let b = c.loop-deep.b in let h = c.loop-deep.deep in let goes = c.loop-deep.invariant in let s₁ = c.join-taken.new.s in
    let n₁ = c.join-taken.result in let e = c.opened-e.result in let f = c.opened-f.result in
    let opens = calls.opens_of s s₁ vs ls ks n n₁ a b c.root-c.result c.root-d.result e f c.root-c.ensures c.root-d.ensures
    c.opened-e.ensures c.opened-f.ensures c.join-taken.ensures in
    calls.matches_asks s₀ vs ls ks n₀ dp x y s n a b h goes s₁ n₁ e f opens c.requires

pub returns-then-not-matches : goal.returns-then-not-matches
returns-then-not-matches t c =
    let A = c.args in
    let s₀ = A.s.now in let vs = A.values in let ls = A.lists in let ks = A.links in let n₀ = A.first in let dp = A.depth in let x = A.left in
    let y = A.right in let s = c.loop-deep.s in let n = c.loop-deep.taken in let a = c.loop-deep.a in let b = c.loop-deep.b in
    let h = c.loop-deep.deep in let goes = c.loop-deep.invariant in let s₁ = c.join-taken.new.s in let n₁ = c.join-taken.result in
    let e = c.opened-e.result in let f = c.opened-f.result in
    let opens = calls.opens_of s s₁ vs ls ks n n₁ a b c.root-c.result c.root-d.result e f c.root-c.ensures c.root-d.ensures
    c.opened-e.ensures c.opened-f.ensures c.join-taken.ensures in
    calls.ends_differ s₀ vs ls ks n₀ dp x y s n a b h goes s₁ n₁ e f opens c.matches.result c.matches.ensures (ap not c.if-not-matches.true) c.if-e-f.false

pub count-k-requires : goal.count-k-requires
count-k-requires t c =
    let A = c.args in
    let s₀ = A.s.now in let vs = A.values in let ls = A.lists in let ks = A.links in let n₀ = A.first in let dp = A.depth in let x = A.left in
    let y = A.right in let s = c.loop-deep.s in let n = c.loop-deep.taken in let a = c.loop-deep.a in let b = c.loop-deep.b in
    let h = c.loop-deep.deep in let goes = c.loop-deep.invariant in let s₁ = c.join-taken.new.s in let n₁ = c.join-taken.result in
    let e = c.opened-e.result in let f = c.opened-f.result in
    let opens = calls.opens_of s s₁ vs ls ks n n₁ a b c.root-c.result c.root-d.result e f c.root-c.ensures c.root-d.ensures
    c.opened-e.ensures c.opened-f.ensures c.join-taken.ensures in
    let is = c.matches.result in let match = c.matches.ensures in let yes = ap not c.if-not-matches.false in
    calls.count_asks s₀ vs ls ks n₀ dp x y s n a b h goes s₁ n₁ e f opens is match yes c.requires c.index-p.result c.index-p.ensures

pub returns-then-k-eq0 : goal.returns-then-k-eq0
returns-then-k-eq0 t c =
    let A = c.args in let s₀ = A.s.now in let vs = A.values in let ls = A.lists in let ks = A.links in
    let n₀ = A.first in let dp = A.depth in let x = A.left in let y = A.right in let s = c.loop-deep.s in let n = c.loop-deep.taken in
    let a = c.loop-deep.a in let b = c.loop-deep.b in let h = c.loop-deep.deep in let goes = c.loop-deep.invariant in let s₁ = c.join-taken.new.s in
    let n₁ = c.join-taken.result in let e = c.opened-e.result in let f = c.opened-f.result in
    let opens = calls.opens_of s s₁ vs ls ks n n₁ a b c.root-c.result c.root-d.result e f c.root-c.ensures c.root-d.ensures
    c.opened-e.ensures c.opened-f.ensures c.join-taken.ensures in
    let is = c.matches.result in let match = c.matches.ensures in let yes = ap not c.if-not-matches.false in
    calls.ends_none s₀ vs ls ks n₀ dp x y s n a b h goes s₁ n₁ e f opens is match yes c.index-p.result c.count-k.result c.index-p.ensures c.count-k.ensures c.if-k-eq0.true

pub loop-k-init : goal.loop-k-init
loop-k-init t c =
    let A = c.args in let s₀ = A.s.now in let vs = A.values in
    let ls = A.lists in let ks = A.links in let n₀ = A.first in let dp = A.depth in let x = A.left in let y = A.right in let s = c.loop-deep.s in
    let n = c.loop-deep.taken in let a = c.loop-deep.a in let b = c.loop-deep.b in let h = c.loop-deep.deep in let goes = c.loop-deep.invariant in
    let s₁ = c.join-taken.new.s in let n₁ = c.join-taken.result in let e = c.opened-e.result in let f = c.opened-f.result in
    let opens = calls.opens_of s s₁ vs ls ks n n₁ a b c.root-c.result c.root-d.result e f c.root-c.ensures c.root-d.ensures
    c.opened-e.ensures c.opened-f.ensures c.join-taken.ensures in
    let is = c.matches.result in let match = c.matches.ensures in let yes = ap not c.if-not-matches.false in (
      calls.walks_first s₁ vs ls ks n₁ e f c.index-p.result c.index-q.result c.count-k.result c.index-p.ensures
          c.index-q.ensures c.count-k.ensures,
      above c.count-k.result c.if-k-eq0.false,
      calls.place_fits s₀ vs ls ks n₀ dp x y s n a b h goes s₁
          n₁ e f opens is match yes c.requires c.index-p.result c.index-q.result c.count-k.result c.index-p.ensures
          c.index-q.ensures c.count-k.ensures,
    )

pub part-t-requires : goal.part-t-requires
part-t-requires t c =
    let A = c.args in let s₀ = A.s.now in let vs = A.values in let ls = A.lists in let ks = A.links in
    let n₀ = A.first in let dp = A.depth in let x = A.left in let y = A.right in let s = c.loop-deep.s in let n = c.loop-deep.taken in
    let a = c.loop-deep.a in let b = c.loop-deep.b in let h = c.loop-deep.deep in let goes = c.loop-deep.invariant in let s₁ = c.join-taken.new.s in
    let n₁ = c.join-taken.result in let e = c.opened-e.result in let f = c.opened-f.result in
    let opens = calls.opens_of s s₁ vs ls ks n n₁ a b c.root-c.result c.root-d.result e f c.root-c.ensures c.root-d.ensures
    c.opened-e.ensures c.opened-f.ensures c.join-taken.ensures in
    let is = c.matches.result in let match = c.matches.ensures in let yes = ap not c.if-not-matches.false in let s₂ = c.loop-k.s in
    let n₂ = c.loop-k.taken in let p = c.loop-k.p in let q = c.loop-k.q in let k = c.loop-k.k in let walks = c.loop-k.invariant.0 in
    let some = c.loop-k.invariant.1 in
    (calls.part_asks s₀ vs ls ks n₀ dp x y s n a b h goes s₁ n₁ e f opens is match yes s₂ n₂ p q k walks some c.requires).0

pub part-u-requires : goal.part-u-requires
part-u-requires t c =
    let A = c.args in let s₀ = A.s.now in let vs = A.values in let ls = A.lists in let ks = A.links in
    let n₀ = A.first in let dp = A.depth in let x = A.left in let y = A.right in let s = c.loop-deep.s in let n = c.loop-deep.taken in
    let a = c.loop-deep.a in let b = c.loop-deep.b in let h = c.loop-deep.deep in let goes = c.loop-deep.invariant in let s₁ = c.join-taken.new.s in
    let n₁ = c.join-taken.result in let e = c.opened-e.result in let f = c.opened-f.result in
    let opens = calls.opens_of s s₁ vs ls ks n n₁ a b c.root-c.result c.root-d.result e f c.root-c.ensures c.root-d.ensures
    c.opened-e.ensures c.opened-f.ensures c.join-taken.ensures in
    let is = c.matches.result in let match = c.matches.ensures in let yes = ap not c.if-not-matches.false in let s₂ = c.loop-k.s in
    let n₂ = c.loop-k.taken in let p = c.loop-k.p in let q = c.loop-k.q in let k = c.loop-k.k in let walks = c.loop-k.invariant.0 in
    let some = c.loop-k.invariant.1 in
    (calls.part_asks s₀ vs ls ks n₀ dp x y s n a b h goes s₁ n₁ e f opens is match yes s₂ n₂ p q k walks some c.requires).1

pub same-r-requires : goal.same-r-requires
same-r-requires t c =
    let A = c.args in let s₀ = A.s.now in let vs = A.values in let ls = A.lists in
    let ks = A.links in let n₀ = A.first in let dp = A.depth in let x = A.left in let y = A.right in let s = c.loop-deep.s in
    let n = c.loop-deep.taken in let a = c.loop-deep.a in let b = c.loop-deep.b in let h = c.loop-deep.deep in let goes = c.loop-deep.invariant in
    let s₁ = c.join-taken.new.s in let n₁ = c.join-taken.result in let e = c.opened-e.result in let f = c.opened-f.result in
    let opens = calls.opens_of s s₁ vs ls ks n n₁ a b c.root-c.result c.root-d.result e f c.root-c.ensures c.root-d.ensures
    c.opened-e.ensures c.opened-f.ensures c.join-taken.ensures in
    let is = c.matches.result in let match = c.matches.ensures in let yes = ap not c.if-not-matches.false in let s₂ = c.loop-k.s in
    let n₂ = c.loop-k.taken in let p = c.loop-k.p in let q = c.loop-k.q in let k = c.loop-k.k in let walks = c.loop-k.invariant.0 in
    let some = c.loop-k.invariant.1 in (
      less dp h t c.decreases c.loop-deep-test.true (omega arith),
      calls.same_asks s₀ vs ls ks n₀ dp x y s n a b h goes s₁ n₁ e f opens is match
          yes s₂ n₂ p q k walks some c.part-t.result c.part-u.result c.part-t.ensures c.part-u.ensures c.requires,
    )

pub returns-then-r-eq-UNEQUAL : goal.returns-then-r-eq-UNEQUAL
returns-then-r-eq-UNEQUAL t c =
    let A = c.args in let s₀ = A.s.now in let vs = A.values in let ls = A.lists in
    let ks = A.links in let n₀ = A.first in let dp = A.depth in let x = A.left in let y = A.right in let s = c.loop-deep.s in
    let n = c.loop-deep.taken in let a = c.loop-deep.a in let b = c.loop-deep.b in let h = c.loop-deep.deep in let goes = c.loop-deep.invariant in
    let s₁ = c.join-taken.new.s in let n₁ = c.join-taken.result in let e = c.opened-e.result in let f = c.opened-f.result in
    let opens = calls.opens_of s s₁ vs ls ks n n₁ a b c.root-c.result c.root-d.result e f c.root-c.ensures c.root-d.ensures
    c.opened-e.ensures c.opened-f.ensures c.join-taken.ensures in
    let is = c.matches.result in let match = c.matches.ensures in let yes = ap not c.if-not-matches.false in let s₂ = c.loop-k.s in
    let n₂ = c.loop-k.taken in let p = c.loop-k.p in let q = c.loop-k.q in let k = c.loop-k.k in let walks = c.loop-k.invariant.0 in
    let some = c.loop-k.invariant.1 in
    calls.ends_within s₀ vs ls ks n₀ dp x y s n a b h goes s₁ n₁ e f opens is match yes s₂ n₂ p q k walks some c.part-t.result c.part-u.result
    c.part-t.ensures c.part-u.ensures c.same-r.new.s (h - 1) c.same-r.result c.same-r.ensures c.if-r-eq-UNEQUAL.true
    (one_more h c.loop-deep-test.true)

pub loop-k-preserved : goal.loop-k-preserved
loop-k-preserved t c =
    let A = c.args in let s₀ = A.s.now in
    let vs = A.values in let ls = A.lists in let ks = A.links in let n₀ = A.first in let dp = A.depth in let x = A.left in let y = A.right in
    let s = c.loop-deep.s in let n = c.loop-deep.taken in let a = c.loop-deep.a in let b = c.loop-deep.b in let h = c.loop-deep.deep in
    let goes = c.loop-deep.invariant in let s₁ = c.join-taken.new.s in let n₁ = c.join-taken.result in let e = c.opened-e.result in
    let f = c.opened-f.result in
    let opens = calls.opens_of s s₁ vs ls ks n n₁ a b c.root-c.result c.root-d.result e f c.root-c.ensures c.root-d.ensures
    c.opened-e.ensures c.opened-f.ensures c.join-taken.ensures in
    let is = c.matches.result in let match = c.matches.ensures in let yes = ap not c.if-not-matches.false in let s₂ = c.loop-k.s in
    let n₂ = c.loop-k.taken in let p = c.loop-k.p in let q = c.loop-k.q in let k = c.loop-k.k in let walks = c.loop-k.invariant.0 in
    let some = c.loop-k.invariant.1 in (
      calls.walks_on s₀ vs ls ks n₀ dp x y s n a b h goes s₁ n₁ e f opens is match yes s₂ n₂ p q k walks some
          c.part-t.result c.part-u.result c.part-t.ensures c.part-u.ensures c.same-r.new.s (h - 1) c.same-r.result
          c.same-r.ensures c.if-r-eq-UNEQUAL.false (k - 1) (one_more k some),
      left_over k c.loop-k-test.true,
      (same_sum p k some c.loop-k.invariant.2.0, same_sum q k some c.loop-k.invariant.2.1),
    )

pub part-a-requires : goal.part-a-requires
part-a-requires t c =
    let A = c.args in let s₀ = A.s.now in let vs = A.values in let ls = A.lists in let ks = A.links in
    let n₀ = A.first in let dp = A.depth in let x = A.left in let y = A.right in let s = c.loop-deep.s in let n = c.loop-deep.taken in
    let a = c.loop-deep.a in let b = c.loop-deep.b in let h = c.loop-deep.deep in let goes = c.loop-deep.invariant in let s₁ = c.join-taken.new.s in
    let n₁ = c.join-taken.result in let e = c.opened-e.result in let f = c.opened-f.result in
    let opens = calls.opens_of s s₁ vs ls ks n n₁ a b c.root-c.result c.root-d.result e f c.root-c.ensures c.root-d.ensures
    c.opened-e.ensures c.opened-f.ensures c.join-taken.ensures in
    let is = c.matches.result in let match = c.matches.ensures in let yes = ap not c.if-not-matches.false in let s₂ = c.loop-k.s in
    let n₂ = c.loop-k.taken in let p = c.loop-k.p in let q = c.loop-k.q in let k = c.loop-k.k in let walks = c.loop-k.invariant.0 in
    let some = c.loop-k.invariant.1 in
    (calls.part_asks s₀ vs ls ks n₀ dp x y s n a b h goes s₁ n₁ e f opens is match yes s₂ n₂ p q k walks some c.requires).0

pub part-b-requires : goal.part-b-requires
part-b-requires t c =
    let A = c.args in let s₀ = A.s.now in let vs = A.values in let ls = A.lists in let ks = A.links in
    let n₀ = A.first in let dp = A.depth in let x = A.left in let y = A.right in let s = c.loop-deep.s in let n = c.loop-deep.taken in
    let a = c.loop-deep.a in let b = c.loop-deep.b in let h = c.loop-deep.deep in let goes = c.loop-deep.invariant in let s₁ = c.join-taken.new.s in
    let n₁ = c.join-taken.result in let e = c.opened-e.result in let f = c.opened-f.result in
    let opens = calls.opens_of s s₁ vs ls ks n n₁ a b c.root-c.result c.root-d.result e f c.root-c.ensures c.root-d.ensures
    c.opened-e.ensures c.opened-f.ensures c.join-taken.ensures in
    let is = c.matches.result in let match = c.matches.ensures in let yes = ap not c.if-not-matches.false in let s₂ = c.loop-k.s in
    let n₂ = c.loop-k.taken in let p = c.loop-k.p in let q = c.loop-k.q in let k = c.loop-k.k in let walks = c.loop-k.invariant.0 in
    let some = c.loop-k.invariant.1 in
    (calls.part_asks s₀ vs ls ks n₀ dp x y s n a b h goes s₁ n₁ e f opens is match yes s₂ n₂ p q k walks some c.requires).1

pub loop-deep-preserved : goal.loop-deep-preserved
loop-deep-preserved t c =
    let A = c.args in let s₀ = A.s.now in let vs = A.values in let ls = A.lists in
    let ks = A.links in let n₀ = A.first in let dp = A.depth in let x = A.left in let y = A.right in let s = c.loop-deep.s in
    let n = c.loop-deep.taken in let a = c.loop-deep.a in let b = c.loop-deep.b in let h = c.loop-deep.deep in let goes = c.loop-deep.invariant in
    let s₁ = c.join-taken.new.s in let n₁ = c.join-taken.result in let e = c.opened-e.result in let f = c.opened-f.result in
    let opens = calls.opens_of s s₁ vs ls ks n n₁ a b c.root-c.result c.root-d.result e f c.root-c.ensures c.root-d.ensures
    c.opened-e.ensures c.opened-f.ensures c.join-taken.ensures in
    let is = c.matches.result in let match = c.matches.ensures in let yes = ap not c.if-not-matches.false in let s₂ = c.loop-k.s in
    let n₂ = c.loop-k.taken in let p = c.loop-k.p in let q = c.loop-k.q in let k = c.loop-k.k in let walks = c.loop-k.invariant.0 in
    let some = c.loop-k.invariant.1 in
    calls.goes_on s₀ vs ls ks n₀ dp x y s n a b h goes s₁ n₁ e f opens is match yes s₂ n₂ p q
    k walks some c.part-a.result c.part-b.result c.part-a.ensures c.part-b.ensures (last_one k some c.loop-k-test.false)
    (h - 1) (one_more h c.loop-deep-test.true)

pub returns : goal.returns
returns t c =
    let A = c.args in let s₀ = A.s.now in let vs = A.values in
    let ls = A.lists in let ks = A.links in let n₀ = A.first in let dp = A.depth in let x = A.left in let y = A.right in let s = c.loop-deep.s in
    let n = c.loop-deep.taken in let a = c.loop-deep.a in let b = c.loop-deep.b in let h = c.loop-deep.deep in let goes = c.loop-deep.invariant in
    calls.ends_deep s₀ vs ls ks n₀ dp x y s n a b h goes (none h c.loop-deep-test.false)
