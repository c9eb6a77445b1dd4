-- `report_count::counting::count_arguments` and `count_compound` meet their contracts: `turn` says that the walk's invariant holds behind an argument.
use Prim.Native.Nat.{ℕ, ◌+◌, ◌-◌, ◌*◌, ◌<◌}
use mathlib.Core.Path.{◌≡◌, ◌∙◌, sym}
use mathlib.Core.List.{List}
use lib.ListN.{get_or}
use native.Mathlib.Omega.{arith}
use Rattle.meaning.specs.Bytes.{Bytes}
use Rattle.meaning.specs.Terms.{Functor, Term, Terms}
use Rattle.term.specs.Setting.{Setting}
use Rattle.report_count.specs.Counts.{Counts, CountedTerm}
use Rattle.report_pairs.specs.Facts.{Shows}
use Rattle.report_pairs.specs.Walk.{StandsAt}
use Rattle.report_pairs.proofs.Told.{seen as look}
use Rattle.report_pairs.specs.Pairs.{NoCompound}
use Rattle.std.specs.Prelude.{None}
use Rattle.report_pairs.proofs.Walking.{position_inside, position_shows, found_as}
use Rattle.report_pairs.proofs.Wholes.{stands_opens}
use Rattle.report_count.proofs.CountingWalk as walk
use Rattle.report_count.proofs.counting.+count_arguments_count_compound.Goals.{count_arguments-in-Compound, count_arguments-in_default, count_arguments-Joined-look}
use Rattle.report_count.proofs.counting.+count_arguments_count_compound.Goals as goal

fall : (a b t : ℕ) → b ≡ t → a < b → a < t
fall a b t e h = omega arith

counted_as : (s : List ℕ) (text : Bytes) (x : Setting) (facts : ℕ) (seen : List ℕ) (u : Term) (at : ℕ) (a b : List ℕ) (r q : ℕ) → a ≡ b → r ≡ q
    → CountedTerm s b text x facts seen u at q → CountedTerm s a text x facts seen u at r
counted_as s text x facts seen u at a b r q e d told = rw (e, d) told

-- The compound that is counted, as the function's entry has it.
record CountedThere (t : ℕ) (c : goal.count_arguments-At-loop-q t) : Type 0 where
  pub text : Bytes
  pub x : Setting
  pub seen : List ℕ
  pub n : ℕ
  pub f : Functor
  pub ts : Terms
  pub counts : Counts c.args.s.now text x c.args.facts seen c.args.at
  pub low : c.args.at < 16777217
  pub stands : StandsAt c.args.s.now x n f ts c.args.first

asked : (t : ℕ) (c : goal.count_arguments-At-loop-q t) → CountedThere t c
asked t c =
    let (text, x, seen, n, f, ts, counts, low, stands) = c.requires in
    record { text = text; x = x; seen = seen; n = n; f = f; ts = ts; counts = counts; low = low; stands = stands }

-- What the walk knows at the loop's head, and of the argument there.
walked : (t : ℕ) (c : goal.count_arguments-At-loop-q t) (o : CountedThere t c)
    → walk.Walked c.args.s.now c.loop-q.s o.text o.x c.args.facts o.seen (walk.order_of o.x o.seen (Term.compound o.n o.f o.ts))
    (walk.whole_of o.x o.seen (Term.compound o.n o.f o.ts)) c.args.at c.loop-q.p c.loop-q.i c.loop-q.to
walked t c o = c.loop-q.invariant o.text o.x o.seen o.n o.f o.ts o.counts o.low o.stands

shows : (t : ℕ) (c : goal.count_arguments-At-loop-q t) (o : CountedThere t c) (w : ℕ) → w ≡ get_or c.loop-q.s (c.loop-q.p + c.loop-q.i) 0
    → Shows c.loop-q.s o.x (walked t c o).u w
shows t c o w e =
    let l = c.loop-q in let W = walked t c o in
    rw e (position_shows l.s o.x l.p l.i W.j W.g W.u W.us W.position)

-- The loop's head, from behind the argument that is read.
abbrev head : (t : ℕ) → count_arguments-Joined-look t → goal.count_arguments-At-loop-q t
head t c = c.before.before.before.before.before.before.before

-- The argument is counted, as a compound or as a leaf.
turn : (t : ℕ) (c : count_arguments-Joined-look t) (o : CountedThere t (head t c))
    → walk.Turned c.args.s.now c.match-look.s o.text o.x c.args.facts
    o.seen (walk.order_of o.x o.seen (Term.compound o.n o.f o.ts)) (walk.whole_of o.x o.seen (Term.compound o.n o.f o.ts))
    c.args.at c.loop-q.p c.loop-q.i c.loop-q.to c.match-look.to
turn t c o =
    let h = head t c in let l = c.loop-q in let S = c.args in let M = c.match-look in let led = c.lead-e in let w = c.word_at-a.result in
    let W = walked t h o in let k = shows t h o w c.word_at-a.ensures in let L = led.ensures o.text o.x W.u W.counts.readable k in
    walk.walk_turn S.s.now l.s o.text o.x S.facts o.seen (walk.order_of o.x o.seen (Term.compound o.n o.f o.ts))
    (walk.whole_of o.x o.seen (Term.compound o.n o.f o.ts)) S.at l.p l.i l.to W M.s M.to
    (elim M.branch [
      | count_arguments-in-Compound v ↦
          let said = sym c.look.ensures ∙ v.in-Compound.is in
          counted_as l.s o.text o.x S.facts W.now W.u l.to _ _ _ _ v.s-is v.to-is (walk.compound_tells l.s led.new.s o.text o.x S.facts W.now W.u l.to w led.result W.counts W.low k L _ said v.count_compound-to.new.s v.count_compound-to.result (v.count_compound-to.ensures o.text o.x W.now W.u))
      | count_arguments-in_default v ↦
          let other : NoCompound (look led.result) = λ q e. v.in_default.not-Compound q (c.look.ensures ∙ e) in
          counted_as l.s o.text o.x S.facts W.now W.u l.to _ _ _ _ v.s-is v.to-is (walk.leaf_tells l.s led.new.s o.text o.x S.facts W.now W.u l.to w led.result W.counts W.low k L other v.leaf.new.s v.leaf.result v.further-to.result (v.leaf.ensures o.text o.x W.now W.u) v.further-to.ensures)
    ])

-- What stands before the first argument.
pub count_arguments-opening-to-requires : goal.count_arguments-opening-to-requires
count_arguments-opening-to-requires t c =
    let (text, x, seen, n, f, ts, counts, low, stands) = c.requires in
    let O = stands_opens c.args.s.now text x c.args.facts counts.readable n f ts c.args.first stands in
    (text, f, counts.low, O.0, O.1)

-- It reaches the ceiling.
pub count_arguments-returns-then-to-eq-CEILING : goal.count_arguments-returns-then-to-eq-CEILING
count_arguments-returns-then-to-eq-CEILING t c text x seen n f ts C low a =
    let S = c.args in let O = stands_opens S.s.now text x S.facts C.readable n f ts S.first a in
    walk.walk_none S.s.now text x S.facts seen n f ts S.at S.first c.opening-to.result C low a (c.opening-to.ensures text f O.1) c.if-to-eq-CEILING.true

pub count_arguments-loop-q-init : goal.count_arguments-loop-q-init
count_arguments-loop-q-init t c text x seen n f ts C low a =
    let S = c.args in let O = stands_opens S.s.now text x S.facts C.readable n f ts S.first a in
    walk.walk_first S.s.now text x S.facts seen n f ts S.at S.first c.opening-to.result C low a (c.opening-to.ensures text f O.1) c.if-to-eq-CEILING.false

pub count_arguments-word_at-a-requires : goal.count_arguments-word_at-a-requires
count_arguments-word_at-a-requires t c =
    let l = c.loop-q in let o = asked t c in let W = walked t c o in
    position_inside l.s o.x l.p l.i W.j W.g W.u W.us W.position

pub count_arguments-lead-e-requires : goal.count_arguments-lead-e-requires
count_arguments-lead-e-requires t c =
    let h = c.before.before in let o = asked t h in let W = walked t h o in
    (o.text, o.x, W.u, W.counts.readable, shows t h o c.word_at-a.result c.word_at-a.ensures)

-- An argument that leads to a compound.
pub count_arguments-count_compound-to-requires : goal.count_arguments-count_compound-to-requires
count_arguments-count_compound-to-requires t c =
    let h = c.before.before.before.before.before.before.before.before in let l = c.loop-q in let S = c.args in let led = c.lead-e in let w = c.word_at-a.result in
    let o = asked t h in let W = walked t h o in let k = shows t h o w c.word_at-a.ensures in let L = led.ensures o.text o.x W.u W.counts.readable k in
    let said = sym c.look.ensures ∙ c.in-Compound.is in (
      fall (2 * (16777217 - l.to) + 1) (2 * (16777217 - S.at)) t c.decreases (omega (arith, W.above, W.low)),
      walk.compound_asks l.s led.new.s o.text o.x S.facts W.now W.u l.to w led.result W.counts W.low k L _ said,
    )

-- One that leads to none.
pub count_arguments-leaf-requires : goal.count_arguments-leaf-requires
count_arguments-leaf-requires t c =
    let h = c.before.before.before.before.before.before.before.before in let l = c.loop-q in let S = c.args in let led = c.lead-e in let w = c.word_at-a.result in
    let o = asked t h in let W = walked t h o in let k = shows t h o w c.word_at-a.ensures in let L = led.ensures o.text o.x W.u W.counts.readable k in
    walk.leaf_asks l.s led.new.s o.text o.x S.facts W.now W.u l.to w led.result W.counts W.low k L

pub count_arguments-further-to-requires : goal.count_arguments-further-to-requires
count_arguments-further-to-requires t c =
    let h = c.before.before.before.before.before.before.before.before.before.before.before.before in (walked t h (asked t h)).counts.low

pub count_arguments-behind-next-requires : goal.count_arguments-behind-next-requires
count_arguments-behind-next-requires t c =
    let o = asked t (head t c) in let T = turn t c o in
    (o.text, o.x, T.g, T.j, T.u, T.us, T.counts.readable, T.position)

-- The last one.
pub count_arguments-further-requires : goal.count_arguments-further-requires
count_arguments-further-requires t c = let j = c.before.before in (turn t j (asked t (head t j))).counts.low

pub count_arguments-returns-in_default-next : goal.count_arguments-returns-in_default-next
count_arguments-returns-in_default-next t c text x seen n f ts C low a =
    let j = c.before.before.before in
    let o : CountedThere t (head t j) = record { text = text; x = x; seen = seen; n = n; f = f; ts = ts; counts = C; low = low; stands = a } in
    let T = turn t j o in let b = c.behind-next in
    walk.walk_ends _ _ text x _ _ _ _ _ _ _ _ _ T b.result.0 _
    (found_as _ x T.g T.j T.us b.result None c.in_default-next.is (b.ensures text x T.g T.j T.u T.us T.counts.readable T.position)) c.further.ensures

-- Another argument.
pub count_arguments-returns-then-to : goal.count_arguments-returns-then-to
count_arguments-returns-then-to t c text x seen n f ts C low a =
    let j = c.before.before.before in
    let o : CountedThere t (head t j) = record { text = text; x = x; seen = seen; n = n; f = f; ts = ts; counts = C; low = low; stands = a } in
    let T = turn t j o in let b = c.behind-next in
    walk.walk_stops _ _ text x _ _ _ _ _ _ _ _ _ T b.result.0 _ _
    (found_as _ x T.g T.j T.us b.result _ c.in-Some.is (b.ensures text x T.g T.j T.u T.us T.counts.readable T.position)) c.if-to.true

pub count_arguments-loop-q-smaller : goal.count_arguments-loop-q-smaller
count_arguments-loop-q-smaller t c =
    let j = c.before.before.before.before in
    omega (arith, c.if-to.false, (turn t j (asked t (head t j))).above.1)

pub count_arguments-loop-q-preserved : goal.count_arguments-loop-q-preserved
count_arguments-loop-q-preserved t c text x seen n f ts C low a =
    let j = c.before.before.before.before in
    let o : CountedThere t (head t j) = record { text = text; x = x; seen = seen; n = n; f = f; ts = ts; counts = C; low = low; stands = a } in
    let T = turn t j o in let b = c.behind-next in
    walk.walk_on _ _ text x _ _ _ _ _ _ _ _ _ T b.result.0 _ _
    (found_as _ x T.g T.j T.us b.result _ c.in-Some.is (b.ensures text x T.g T.j T.u T.us T.counts.readable T.position)) c.if-to.false

-- The length is known.
pub count_compound-returns-in-Some : goal.count_compound-returns-in-Some
count_compound-returns-in-Some t c text x seen u C low k D =
    let S = c.args in
    walk.count_known S.s.now text x S.facts seen u S.at S.w S.q C k D c.in-Some.n c.further.result (c.in-Some.ensures text x seen u C.readable C.counting k) c.further.ensures

-- It is not.
pub count_compound-count_arguments-to-requires : goal.count_compound-count_arguments-to-requires
count_compound-count_arguments-to-requires t c =
    let S = c.args in let (text, x, seen, u, counts, low, shows, D) = c.requires in (
      fall (2 * (16777217 - S.at)) (2 * (16777217 - S.at) + 1) t c.decreases (omega arith),
      (text, x, seen, D.number, D.functor, D.terms, counts, low, D.stands),
    )

pub count_compound-keep-requires : goal.count_compound-keep-requires
count_compound-keep-requires t c =
    let S = c.args in let (text, x, seen, u, C, low, k, D) = c.requires in let called = c.count_arguments-to in
    let R = called.ensures text x seen D.number D.functor D.terms C low D.stands in
    (text, x, u, R.readable, walk.told_shows S.s.now text x S.facts seen u S.at S.w S.q C k D called.new.s called.result R, walk.told_low S.s.now text x S.facts seen u S.at S.w S.q C k D called.new.s called.result R)

pub count_compound-shape_of-s : goal.count_compound-shape_of-s
count_compound-shape_of-s t c = c.keep.auto.s ∙ c.count_arguments-to.auto.s

pub count_compound-returns : goal.count_compound-returns
count_compound-returns t c text x seen u C low k D =
    let S = c.args in let called = c.count_arguments-to in let kept = c.keep in
    let R = called.ensures text x seen D.number D.functor D.terms C low D.stands in
    let known = walk.known_now S.s.now text x S.facts seen u S.at S.w S.q C k D called.new.s called.result R in
    let still = walk.told_shows S.s.now text x S.facts seen u S.at S.w S.q C k D called.new.s called.result R in
    walk.count_kept S.s.now text x S.facts seen u S.at S.w S.q C k D called.new.s called.result R kept.new.s (kept.ensures text x R.after u R.readable R.counting still known)
