-- `report_write::terms::write_arguments` and `write_term` meet their contracts. `met` says that an argument was put: copied, written by a call, or as a leaf.
use Prim.Native.Nat.{ℕ, ◌+◌, ◌-◌, ◌*◌, ◌<◌}
use mathlib.Core.Path.{◌≡◌, ◌∙◌, sym, ap, refl}
use mathlib.Core.List.{List}
use native.Mathlib.Omega.{arith}
use lib.ListN.{length}
use Rattle.meaning.specs.Bytes.{Bytes}
use Rattle.term.specs.Setting.{Setting}
use Rattle.term.specs.declared.word.View.TheVariants.{Compound}
use Rattle.report_pairs.specs.Laid.{Puts}
use Rattle.report_pairs.specs.Facts.{Readable, Shows}
use Rattle.report_pairs.specs.Pairs.{NoCompound}
use Rattle.report_leaves.specs.Fits.{Fits}
use Rattle.report_pairs.proofs.Told.{seen}
use Rattle.report_write.specs.Frames.{Before, Nothing}
use Rattle.report_put.proofs.Putting.{puts_length}
use Rattle.std.specs.Prelude.{None}
use Rattle.report_write.proofs.Writing.{rose_as, going_first, going_writes, going_room, going_inside, going_shows, going_falls, here, later_bytes, going_behind, going_fits, going_ends, going_on, going_still, within, into_fits, into_falls, into_room, into_whole, going_into, puts_moved, fits_still, puts_still, writes_still}
use Rattle.report_write.proofs.terms.write_arguments.Reads as write_arguments
use Rattle.report_write.proofs.terms.write_term.Reads as write_term
use Rattle.report_write.proofs.terms.+write_arguments_write_term.Lts-write_arguments as write_arguments_lts
use Rattle.term.proofs.scratch.word_at.Reads as word_at_reads
use Rattle.report_pairs.proofs.ends.end.Reads as end_reads
use Rattle.term.proofs.word.look.Reads as look_reads
use Rattle.report_write.proofs.rising.rise.Reads as rise_reads
use Rattle.report_leaves.proofs.source.Source.copied.Reads as copied_reads
use Rattle.report_leaves.proofs.source.Source.leaf.Reads as leaf_reads
use Rattle.report_leaves.proofs.source.Source.opening.Reads as opening_reads
use Rattle.report_write.proofs.terms.+write_arguments_write_term.Goals.{write_arguments-in-Compound+in-Some, write_arguments-in-Compound-2, write_arguments-in_default}
use Rattle.report_write.proofs.terms.+write_arguments_write_term.Goals as goal

fall : (a b t : ℕ) → b ≡ t → a < b → a < t
fall a b t e h = omega arith

-- What the calls of `write_arguments` ask and tell.
abbrev calls : ℕ → write_arguments_lts.Claims
calls t = (
  word_at_reads.Asked,
  word_at_reads.Learnt,
  end_reads.Asked,
  end_reads.Learnt,
  look_reads.Asked,
  look_reads.Learnt,
  copied_reads.Asked,
  copied_reads.Learnt,
  opening_reads.Asked,
  opening_reads.Learnt,
  goal.write_term-below t,
  write_term.Post,
  leaf_reads.Asked,
  leaf_reads.Learnt,
  rise_reads.Asked,
  rise_reads.Learnt,
)

-- An argument was put.
abbrev Met : ℕ → Type 0
Met t =
    write_arguments_lts.At-match-branch
    (calls t)
    (goal.write_arguments-at t)
    write_arguments.Post
    goal.the-write_arguments-invariant-loop-q
    goal.the-write_arguments-decreases-loop-q
    (goal.the-clauses-write_arguments t)

-- What is asked at the function's entry.
record AskedThere (text s : List ℕ) (facts : ℕ) (buffer : List ℕ) (at first : ℕ) : Type 0 where
  pub x : Setting
  pub order : List ℕ
  pub bs : Bytes
  pub readable : Readable s text x facts
  pub before : Before Nothing s x facts order first 1 bs
  pub fits : Fits s x facts order at buffer bs

asked : (text s : List ℕ) (facts : ℕ) (buffer : List ℕ) (at first : ℕ)
    → (x : Setting) × (order : List ℕ) × (bs : Bytes) × Readable s text x facts × Before Nothing s x facts order first 1 bs × Fits s x facts order at buffer bs
    → AskedThere text s facts buffer at first
asked text s facts buffer at first (x, order, bs, r, b, f) = record { x = x; order = order; bs = bs; readable = r; before = b; fits = f }

met : (t : ℕ) (c : Met t) (o : AskedThere c.args.source.now.text.now c.args.source.now.s.now c.args.source.now.facts c.args.buffer.now c.args.at c.args.first)
    → Puts c.loop-q.buffer c.match-look.buffer c.loop-q.to c.match-look.to
    (here o.readable o.fits (c.loop-q.invariant o.x o.order o.bs o.readable o.before o.fits))
met t c o =
    let S = c.args in let G = c.loop-q.invariant o.x o.order o.bs o.readable o.before o.fits in
    let k : Shows S.source.now.s.now o.x G.before.u c.word_at-a.result = rw c.word_at-a.ensures (going_shows o.readable o.fits G) in
    let l = c.end-e.ensures _ o.x G.before.u o.readable k in
    elim c.match-look.branch [
      | write_arguments-in-Compound+in-Some v ↦
          puts_moved v.buffer-is v.to-is (v.in-Some.ensures _ o.x o.order G.before.u o.readable k (going_room o.readable o.fits G))
      | write_arguments-in-Compound-2 v ↦
          puts_moved v.buffer-is v.to-is (v.write_term-to.ensures o.x o.order G.before.u (going_writes o.readable o.fits G) k (going_room o.readable o.fits G))
      | write_arguments-in_default v ↦
          let other : NoCompound (seen c.end-e.result) = λ q e. v.in_default.not-Compound q (c.look.ensures ∙ e) in
          puts_moved v.buffer-is v.to-is (v.leaf-to.ensures o.x o.order G.before.u (going_writes o.readable o.fits G) l other)
    ]

pub write_arguments-loop-q-init : goal.write_arguments-loop-q-init
write_arguments-loop-q-init t c x order bs r b f =
    let S = c.args in going_first _ S.source.now.s.now x S.source.now.facts order bs S.buffer.now S.at S.first refl b

pub write_arguments-word_at-a-requires : goal.write_arguments-word_at-a-requires
write_arguments-word_at-a-requires t c =
    let S = c.args in let o = asked S.source.now.text.now S.source.now.s.now S.source.now.facts S.buffer.now S.at S.first c.requires in
    going_inside o.readable o.fits (c.loop-q.invariant o.x o.order o.bs o.readable o.before o.fits)

pub write_arguments-end-e-requires : goal.write_arguments-end-e-requires
write_arguments-end-e-requires t c =
    let S = c.args in let o = asked S.source.now.text.now S.source.now.s.now S.source.now.facts S.buffer.now S.at S.first c.requires in
    let G = c.loop-q.invariant o.x o.order o.bs o.readable o.before o.fits in
    let k : Shows S.source.now.s.now o.x G.before.u c.word_at-a.result = rw c.word_at-a.ensures (going_shows o.readable o.fits G) in
    (_, o.x, G.before.u, o.readable, k)

-- An argument that is a compound: whether it can be copied.
pub write_arguments-copied-requires : goal.write_arguments-copied-requires
write_arguments-copied-requires t c =
    let S = c.args in let o = asked S.source.now.text.now S.source.now.s.now S.source.now.facts S.buffer.now S.at S.first c.requires in
    let G = c.loop-q.invariant o.x o.order o.bs o.readable o.before o.fits in
    let k : Shows S.source.now.s.now o.x G.before.u c.word_at-a.result = rw c.word_at-a.ensures (going_shows o.readable o.fits G) in
    (_, o.x, o.order, G.before.u, o.readable, k, going_room o.readable o.fits G)

-- It can not: its opening is put, and its place stands in the frames.
pub write_arguments-opening-to-requires : goal.write_arguments-opening-to-requires
unfolding going_still
write_arguments-opening-to-requires t c =
    let S = c.args in let o = asked S.source.now.text.now S.source.now.s.now S.source.now.facts S.buffer.now S.at S.first c.requires in
    let G = c.loop-q.invariant o.x o.order o.bs o.readable o.before o.fits in
    let k : Shows S.source.now.s.now o.x G.before.u c.word_at-a.result = rw c.word_at-a.ensures (going_shows o.readable o.fits G) in
    let l = c.end-e.ensures _ o.x G.before.u o.readable k in
    let tried = c.in-None.ensures _ o.x o.order G.before.u o.readable k (going_room o.readable o.fits G) in
    let q = c.in-Compound.q in let z : seen c.end-e.result ≡ Compound q = sym c.look.ensures ∙ c.in-Compound.is in
    let G' = going_still tried G in let W = going_writes o.readable o.fits G' in let D = within W l q z in
    (D.functor, D.opens.0, D.opens.1, into_fits W l q z)

pub write_arguments-overflow_mul-frames : goal.write_arguments-overflow_mul-frames
write_arguments-overflow_mul-frames t c =
    let S = c.args in let o = asked S.source.now.text.now S.source.now.s.now S.source.now.facts S.buffer.now S.at S.first c.requires in
    let G = c.loop-q.invariant o.x o.order o.bs o.readable o.before o.fits in
    omega (arith, going_inside o.readable o.fits G, G.few, G.size, c.if-depth-lt16.true)

pub write_arguments-overflow_add-frames : goal.write_arguments-overflow_add-frames
write_arguments-overflow_add-frames t c =
    let S = c.args in let o = asked S.source.now.text.now S.source.now.s.now S.source.now.facts S.buffer.now S.at S.first c.requires in
    let G = c.loop-q.invariant o.x o.order o.bs o.readable o.before o.fits in
    omega (arith, going_inside o.readable o.fits G, G.few, G.size, c.if-depth-lt16.true)

pub write_arguments-offset_bounds-frames-depth : goal.write_arguments-offset_bounds-frames-depth
write_arguments-offset_bounds-frames-depth t c =
    let S = c.args in let o = asked S.source.now.text.now S.source.now.s.now S.source.now.facts S.buffer.now S.at S.first c.requires in
    let G = c.loop-q.invariant o.x o.order o.bs o.readable o.before o.fits in
    omega (arith, going_inside o.readable o.fits G, G.few, G.size, c.if-depth-lt16.true)

pub write_arguments-bounds-frames-depth : goal.write_arguments-bounds-frames-depth
write_arguments-bounds-frames-depth t c =
    let S = c.args in let o = asked S.source.now.text.now S.source.now.s.now S.source.now.facts S.buffer.now S.at S.first c.requires in
    let G = c.loop-q.invariant o.x o.order o.bs o.readable o.before o.fits in
    omega (arith, going_inside o.readable o.fits G, G.few, G.size, c.if-depth-lt16.true)

pub write_arguments-overflow_add-depth : goal.write_arguments-overflow_add-depth
write_arguments-overflow_add-depth t c =
    let S = c.args in let o = asked S.source.now.text.now S.source.now.s.now S.source.now.facts S.buffer.now S.at S.first c.requires in
    let G = c.loop-q.invariant o.x o.order o.bs o.readable o.before o.fits in
    omega (arith, going_inside o.readable o.fits G, G.few, G.size, c.if-depth-lt16.true)

pub write_arguments-loop-q-smaller-in-None : goal.write_arguments-loop-q-smaller-in-None
unfolding going_still
write_arguments-loop-q-smaller-in-None t c =
    let S = c.args in let o = asked S.source.now.text.now S.source.now.s.now S.source.now.facts S.buffer.now S.at S.first c.requires in
    let G = c.loop-q.invariant o.x o.order o.bs o.readable o.before o.fits in
    let k : Shows S.source.now.s.now o.x G.before.u c.word_at-a.result = rw c.word_at-a.ensures (going_shows o.readable o.fits G) in
    let l = c.end-e.ensures _ o.x G.before.u o.readable k in
    let tried = c.in-None.ensures _ o.x o.order G.before.u o.readable k (going_room o.readable o.fits G) in
    let q = c.in-Compound.q in let z : seen c.end-e.result ≡ Compound q = sym c.look.ensures ∙ c.in-Compound.is in
    let G' = going_still tried G in let W = going_writes o.readable o.fits G' in let D = within W l q z in
    let P = c.opening-to.ensures D.functor D.opens.1 in
    omega (arith, into_falls W l q z P, (going_falls o.readable o.fits G').0)

pub write_arguments-loop-q-preserved-in-None : goal.write_arguments-loop-q-preserved-in-None
unfolding going_still
write_arguments-loop-q-preserved-in-None t c x order bs r b f =
    let S = c.args in let o : AskedThere S.source.now.text.now S.source.now.s.now S.source.now.facts S.buffer.now S.at S.first = record { x = x; order = order; bs = bs; readable = r; before = b; fits = f } in
    let G = c.loop-q.invariant o.x o.order o.bs o.readable o.before o.fits in
    let k : Shows S.source.now.s.now o.x G.before.u c.word_at-a.result = rw c.word_at-a.ensures (going_shows o.readable o.fits G) in
    let l = c.end-e.ensures _ o.x G.before.u o.readable k in
    let tried = c.in-None.ensures _ o.x o.order G.before.u o.readable k (going_room o.readable o.fits G) in
    let q = c.in-Compound.q in let z : seen c.end-e.result ≡ Compound q = sym c.look.ensures ∙ c.in-Compound.is in
    let G' = going_still tried G in let W = going_writes o.readable o.fits G' in let D = within W l q z in
    let P = c.opening-to.ensures D.functor D.opens.1 in
    going_into o.readable o.fits G' l q z P c.if-depth-lt16.true

-- No frame is free.
pub write_arguments-write_term-to-requires : goal.write_arguments-write_term-to-requires
write_arguments-write_term-to-requires t c =
    let S = c.args in let o = asked S.source.now.text.now S.source.now.s.now S.source.now.facts S.buffer.now S.at S.first c.requires in
    let G = c.loop-q.invariant o.x o.order o.bs o.readable o.before o.fits in
    let k : Shows S.source.now.s.now o.x G.before.u c.word_at-a.result = rw c.word_at-a.ensures (going_shows o.readable o.fits G) in (
      fall (2 * (length c.loop-q.buffer - c.loop-q.to)) (2 * (length S.buffer.now - S.at) + 1) t c.decreases
          (omega (arith, (going_falls o.readable o.fits G).1, puts_length G.puts)),
      (o.x, o.order, G.before.u, going_writes o.readable o.fits G, k, going_room o.readable o.fits G),
    )

-- An argument that is none.
pub write_arguments-leaf-to-requires : goal.write_arguments-leaf-to-requires
write_arguments-leaf-to-requires t c =
    let S = c.args in let o = asked S.source.now.text.now S.source.now.s.now S.source.now.facts S.buffer.now S.at S.first c.requires in
    let G = c.loop-q.invariant o.x o.order o.bs o.readable o.before o.fits in
    let k : Shows S.source.now.s.now o.x G.before.u c.word_at-a.result = rw c.word_at-a.ensures (going_shows o.readable o.fits G) in
    let l = c.end-e.ensures _ o.x G.before.u o.readable k in
    let other : NoCompound (seen c.end-e.result) = λ q e. c.in_default.not-Compound q (c.look.ensures ∙ e) in
    (o.x, o.order, G.before.u, going_writes o.readable o.fits G, l, other)

pub write_arguments-rise-t-requires : goal.write_arguments-rise-t-requires
write_arguments-rise-t-requires t c =
    let S = c.args in let o = asked S.source.now.text.now S.source.now.s.now S.source.now.facts S.buffer.now S.at S.first c.requires in
    let G = c.loop-q.invariant o.x o.order o.bs o.readable o.before o.fits in
    (_, o.x, o.order, later_bytes o.readable o.fits G, o.readable, going_behind o.readable o.fits G, going_fits o.readable o.fits G (met t c.before.before.before o), G.few)

-- Another argument.
pub write_arguments-loop-q-smaller : goal.write_arguments-loop-q-smaller
write_arguments-loop-q-smaller t c =
    let S = c.args in let o = asked S.source.now.text.now S.source.now.s.now S.source.now.facts S.buffer.now S.at S.first c.requires in
    let G = c.loop-q.invariant o.x o.order o.bs o.readable o.before o.fits in
    let P = met t c.before.before.before.before.before.before.before o in
    let R = rose_as _ _ o.x _ o.order _ _ _ _ _ c.rise-t.result _ c.in-Some-next.is (c.rise-t.ensures _ o.x o.order (later_bytes o.readable o.fits G) o.readable (going_behind o.readable o.fits G)) in
    omega (arith, R.5, P.place, (going_falls o.readable o.fits G).0)

pub write_arguments-loop-q-preserved : goal.write_arguments-loop-q-preserved
write_arguments-loop-q-preserved t c x order bs r b f =
    let S = c.args in let o : AskedThere S.source.now.text.now S.source.now.s.now S.source.now.facts S.buffer.now S.at S.first = record { x = x; order = order; bs = bs; readable = r; before = b; fits = f } in
    let G = c.loop-q.invariant o.x o.order o.bs o.readable o.before o.fits in
    let P = met t c.before.before.before.before.before.before.before o in
    let R = rose_as _ _ o.x _ o.order _ _ _ _ _ c.rise-t.result _ c.in-Some-next.is (c.rise-t.ensures _ o.x o.order (later_bytes o.readable o.fits G) o.readable (going_behind o.readable o.fits G)) in
    going_on o.readable o.fits G P R

-- The last one.
pub write_arguments-returns-in_default-next : goal.write_arguments-returns-in_default-next
write_arguments-returns-in_default-next t c x order bs r b f =
    let S = c.args in let o : AskedThere S.source.now.text.now S.source.now.s.now S.source.now.facts S.buffer.now S.at S.first = record { x = x; order = order; bs = bs; readable = r; before = b; fits = f } in
    let G = c.loop-q.invariant o.x o.order o.bs o.readable o.before o.fits in
    let P = met t c.before.before.before.before.before.before.before o in
    let R = rose_as _ _ o.x _ o.order _ _ _ _ _ c.rise-t.result None c.in_default-next.is (c.rise-t.ensures _ o.x o.order (later_bytes o.readable o.fits G) o.readable (going_behind o.readable o.fits G)) in
    going_ends o.readable o.fits G P R

pub write_term-end-e-requires : goal.write_term-end-e-requires
write_term-end-e-requires t c = let (x, order, u, W, k, F) = c.requires in (_, x, u, W.readable, k)

-- A compound: whether it can be copied.
pub write_term-copied-requires : goal.write_term-copied-requires
write_term-copied-requires t c = let (x, order, u, W, k, F) = c.requires in (_, x, order, u, W.readable, k, F)

pub write_term-returns-in-Some : goal.write_term-returns-in-Some
write_term-returns-in-Some t c x order u W k F = c.in-Some.ensures _ x order u W.readable k F

-- It can not.
pub write_term-opening-to-requires : goal.write_term-opening-to-requires
write_term-opening-to-requires t c =
    let (x, order, u, W, k, F) = c.requires in
    let w = c.end-e.result in let l = c.end-e.ensures _ x u W.readable k in
    let q = c.in-Compound.q in let z : seen w ≡ Compound q = sym c.look.ensures ∙ c.in-Compound.is in
    let K = c.in_default-copied.ensures _ x order u W.readable k F in
    let W' = writes_still K W in let D = within W' l q z in
    (D.functor, D.opens.0, D.opens.1, into_fits W' l q z)

pub write_term-write_arguments-requires : goal.write_term-write_arguments-requires
write_term-write_arguments-requires t c =
    let (x, order, u, W, k, F) = c.requires in
    let w = c.end-e.result in let l = c.end-e.ensures _ x u W.readable k in
    let q = c.in-Compound.q in let z : seen w ≡ Compound q = sym c.look.ensures ∙ c.in-Compound.is in
    let K = c.in_default-copied.ensures _ x order u W.readable k F in
    let W' = writes_still K W in let D = within W' l q z in
    let o = c.opening-to in let O = o.ensures D.functor D.opens.1 in let room = into_room W' l q z O (fits_still K F) in (
      fall (2 * (length o.new.buffer - o.result) + 1) (2 * (length c.args.buffer.now - c.args.at)) t c.decreases
          (omega (arith, into_falls W' l q z O, puts_length O, ap length K, room.room)),
      (x, order, D.later, W.readable, D.before, room),
    )

pub write_term-leaf-requires : goal.write_term-leaf-requires
write_term-leaf-requires t c =
    let (x, order, u, W, k, F) = c.requires in
    let other : NoCompound (seen c.end-e.result) = λ q e. c.in_default.not-Compound q (c.look.ensures ∙ e) in
    (x, order, u, W, c.end-e.ensures _ x u W.readable k, other)

-- A compound.
pub write_term-returns-in_default-copied : goal.write_term-returns-in_default-copied
write_term-returns-in_default-copied t c x order u W k F =
    let w = c.end-e.result in let l = c.end-e.ensures _ x u W.readable k in
    let q = c.in-Compound.q in let z : seen w ≡ Compound q = sym c.look.ensures ∙ c.in-Compound.is in
    let K = c.in_default-copied.ensures _ x order u W.readable k F in
    let W' = writes_still K W in let D = within W' l q z in
    let O = c.opening-to.ensures D.functor D.opens.1 in
    puts_still K (into_whole W' l q z O
    (c.write_arguments.ensures x order D.later W.readable D.before (into_room W' l q z O (fits_still K F))))

-- A leaf.
pub write_term-returns-in_default : goal.write_term-returns-in_default
write_term-returns-in_default t c x order u W k F =
    let other : NoCompound (seen c.end-e.result) = λ q e. c.in_default.not-Compound q (c.look.ensures ∙ e) in
    c.leaf.ensures x order u W (c.end-e.ensures _ x u W.readable k) other
