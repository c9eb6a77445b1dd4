-- One byte after the other; in the end all before the place are counted.
use Rattle.std.proofs.Common.{◌≡◌, ◌∙◌, ◌+◌, ◌-◌, ℕ, min, eqb, length, take, get_or, ap, sym, take_all, length-take, arith}
use borrow.Author.Tests.{eq-eqb, ne_eqb}
use Rattle.meaning.specs.Bytes.{byte, those}
use Rattle.meaning.specs.Items.{line as line_of_place}
use Rattle.load_tokens.proofs.Counted.{those_none, those_passes, those_fails}
use Rattle.load_tokens.proofs.lines.line.Goals as goal
use Rattle.load_tokens.proofs.lines.line.Goals.{then-c-eq10, else-c-eq10}

pub loop-c-init : goal.loop-c-init
loop-c-init c =
    record { counted = ap (λ n. 1 + n) (sym (those_none (λ x. eqb x 10) (take c.min-end.result c.args.text.now))); few = omega arith }

pub overflow_add-n : goal.overflow_add-n
overflow_add-n c =
    omega (arith, c.loop-c.invariant.few, c.loop-c-test.true, length-take c.min-end.result c.args.text.now, c.min-end.ensures, c.saturating_sub.ensures)

pub loop-c-preserved : goal.loop-c-preserved
loop-c-preserved c =
    let feed = λ (x : ℕ). eqb x 10 in
    let before = take c.min-end.result c.args.text.now in
    let i = c.loop-c.c-index in
    let byte = get_or before i 0 in
    let so_far = c.loop-c.invariant in
    elim c.if-c-eq10.branch [
      | then-c-eq10 w ↦
          let more = those_passes feed before i c.loop-c-test.true (eq-eqb byte 10 w.if-c-eq10.true) in
          record { counted = omega (arith, so_far.counted, more); few = omega (arith, so_far.few) }
      | else-c-eq10 w ↦
          let same = those_fails feed before i c.loop-c-test.true (ne_eqb byte 10 w.if-c-eq10.false) in
          record { counted = omega (arith, so_far.counted, same); few = omega (arith, so_far.few) }
    ]

pub returns : goal.returns
unfolding line_of_place byte
returns c =
    let before = take c.min-end.result c.args.text.now in
    let end : c.min-end.result ≡ min c.args.place (length c.args.text.now - 1) = omega (arith, c.min-end.ensures, c.saturating_sub.ensures) in
    c.loop-c.invariant.counted
    ∙ ap (λ l. 1 + length (those (λ x. eqb x 10) l)) (take_all c.loop-c.c-index before c.loop-c-test.false ∙ ap (λ n. take n c.args.text.now) end)
