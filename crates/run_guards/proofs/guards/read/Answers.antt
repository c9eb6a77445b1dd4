-- `run_guards::guards::read` meets its contract: a constant or a compound shows itself, a variable what the head gave it, followed.
use Rattle.std.proofs.Common.{ℕ, ◌+◌, ◌≤◌, ◌≡◌, sym, ap, ◌∙◌, get_or, arith}
use Rattle.term.specs.Layout.{trial_region}
use Rattle.term.specs.Words.{tag_in, rest_in}
use Rattle.run_guards.proofs.Shapes.{shows_own, gift, given_inside, shows_nothing, gift_reads, shows_gift}
use Rattle.run_guards.proofs.guards.read.Goals as goal

pub returns-then-w-gt-READER : goal.returns-then-w-gt-READER
returns-then-w-gt-READER c x y given marks t A = shows_own x c.args.w y given t A.word (omega (arith, c.if-w-gt-READER.true))

pub word_at-v-requires : goal.word_at-v-requires
word_at-v-requires c =
    let p = c.requires in
    omega (arith, given_inside c.args.s.now p.0 p.1 p.2 c.args.values p.3 c.args.links p.4 c.args.w p.5 (omega arith), c.index.ensures)

pub returns-then-v-eq0 : goal.returns-then-v-eq0
returns-then-v-eq0 c x y given marks t A =
    let a = c.args in
    let same : get_or a.s.now (trial_region + c.index.result) 0 ≡ get_or a.s.now (trial_region + rest_in a.w) 0 =
    ap (λ (i : ℕ). get_or a.s.now (trial_region + i) 0) c.index.ensures in
    shows_nothing a.s.now x y given a.values marks a.links t a.w A (omega arith) (sym same ∙ sym c.word_at-v.ensures ∙ c.if-v-eq0.true)

pub follow-requires : goal.follow-requires
follow-requires c =
    let a = c.args in
    let p = c.requires in
    let low : tag_in a.w ≤ 2 = omega arith in (
      p.0,
      gift a.s.now p.0 p.1 p.2 a.values p.3 a.links p.4 a.w p.5 low,
      gift_reads a.s.now p.0 p.1 p.2 a.values p.3 a.links p.4 a.w p.5 low c.word_at-v.result
          (c.word_at-v.ensures ∙ ap (λ (i : ℕ). get_or a.s.now (trial_region + i) 0) c.index.ensures) c.if-v-eq0.false,
    )

pub returns : goal.returns
returns c x y given marks t A =
    let a = c.args in
    let low : tag_in a.w ≤ 2 = omega arith in
    shows_gift a.s.now x y given a.values marks a.links t a.w A low c.follow.result
    (c.follow.ensures x _
    (gift_reads a.s.now x y given a.values marks a.links t a.w A low c.word_at-v.result
    (c.word_at-v.ensures ∙ ap (λ (i : ℕ). get_or a.s.now (trial_region + i) 0) c.index.ensures) c.if-v-eq0.false))
