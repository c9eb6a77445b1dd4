-- `report_leaves::source::Source::leaf` meets its contract: by what the word shows.
use mathlib.Core.Path.{◌≡◌, ◌∙◌, sym, ap}
use native.Mathlib.Omega.{arith}
use lib.ListN.{length}
use Rattle.meaning.specs.Report.{alone, written}
use Rattle.term.specs.declared.word.View.TheVariants.{Writer, Reader, Integer, Name, Empty}
use Rattle.report_put.proofs.Putting.{puts_two, puts_is, puts_length}
use Rattle.report_pairs.proofs.Told.{seen, other_leaf}
use Rattle.report_pairs.proofs.Leaves.{leaf_integer, leaf_name, leaf_empty, leaf_nothing, integer_written, name_written, empty_written}
use Rattle.report_leaves.proofs.LeafWrites.{write_writer, write_reader, writer_fits, reader_fits}
use Rattle.report_leaves.proofs.source.Source.leaf.Goals as goal

pub variable-requires : goal.variable-requires
variable-requires c =
    let (x, order, t, W, l, d) = c.requires in let p = c.in-Writer.p in
    let at : seen c.args.w ≡ Writer p = sym c.look.ensures ∙ c.in-Writer.is in
    ((write_writer _ _ _ _ _ _ _ _ _ W l p at).0, writer_fits _ _ _ _ _ _ _ _ _ W l p at)

pub variable-to-requires : goal.variable-to-requires
variable-to-requires c =
    let (x, order, t, W, l, d) = c.requires in let p = c.in-Reader.p in
    let at : seen c.args.w ≡ Reader p = sym c.look.ensures ∙ c.in-Reader.is in
    ((write_reader _ _ _ _ _ _ _ _ _ W l p at).0, omega (arith, reader_fits _ _ _ _ _ _ _ _ _ W l p at))

pub put-requires : goal.put-requires
put-requires c =
    let (x, order, t, W, l, d) = c.requires in let p = c.in-Reader.p in
    let at : seen c.args.w ≡ Reader p = sym c.look.ensures ∙ c.in-Reader.is in
    omega (arith, reader_fits _ _ _ _ _ _ _ _ _ W l p at, c.variable-to.ensures.place, puts_length c.variable-to.ensures)

pub integer-requires : goal.integer-requires
integer-requires c =
    let (x, order, t, W, l, d) = c.requires in let b = c.in-Integer.bits in
    let at : seen c.args.w ≡ Integer b = sym c.look.ensures ∙ c.in-Integer.is in
    let I = leaf_integer _ _ _ _ W.readable _ _ l b at in
    (I.0, I.2, I.3, omega (arith, ap length (ap (written order alone) I.1 ∙ integer_written order I.0), W.fits))

pub name-requires : goal.name-requires
name-requires c =
    let (x, order, t, W, l, d) = c.requires in let k = c.in-Name.k in
    let at : seen c.args.w ≡ Name k = sym c.look.ensures ∙ c.in-Name.is in
    let N = leaf_name _ _ _ _ W.readable _ _ l k at in
    (N.0, N.2, N.3, omega (arith, ap length (ap (written order alone) N.1 ∙ name_written order N.0), W.fits))

pub words-requires : goal.words-requires
words-requires c =
    let (x, order, t, W, l, d) = c.requires in
    let at : seen c.args.w ≡ Empty = sym c.look.ensures ∙ c.in-Empty.is in
    omega (arith, ap length (ap (written order alone) (leaf_empty _ _ _ _ W.readable _ _ l at) ∙ empty_written order), W.fits)

pub returns-in-Writer : goal.returns-in-Writer
returns-in-Writer c x order t W l d =
    let at : seen c.args.w ≡ Writer c.in-Writer.p = sym c.look.ensures ∙ c.in-Writer.is in
    puts_is (sym (write_writer _ _ _ _ _ _ _ _ _ W l c.in-Writer.p at).1) c.variable.ensures

pub returns-in-Reader : goal.returns-in-Reader
returns-in-Reader c x order t W l d =
    let at : seen c.args.w ≡ Reader c.in-Reader.p = sym c.look.ensures ∙ c.in-Reader.is in
    puts_is (sym (write_reader _ _ _ _ _ _ _ _ _ W l c.in-Reader.p at).1) (puts_two c.variable-to.ensures c.put.ensures)

pub returns-in-Integer : goal.returns-in-Integer
returns-in-Integer c x order t W l d =
    let at : seen c.args.w ≡ Integer c.in-Integer.bits = sym c.look.ensures ∙ c.in-Integer.is in
    let I = leaf_integer _ _ _ _ W.readable _ _ l c.in-Integer.bits at in
    puts_is (sym (ap (written order alone) I.1 ∙ integer_written order I.0)) (c.integer.ensures I.0 I.2 I.3)

pub returns-in-Name : goal.returns-in-Name
returns-in-Name c x order t W l d =
    let at : seen c.args.w ≡ Name c.in-Name.k = sym c.look.ensures ∙ c.in-Name.is in
    let N = leaf_name _ _ _ _ W.readable _ _ l c.in-Name.k at in
    puts_is (sym (ap (written order alone) N.1 ∙ name_written order N.0)) (c.name.ensures N.0 N.3)

pub returns-in-Empty : goal.returns-in-Empty
returns-in-Empty c x order t W l d =
    let at : seen c.args.w ≡ Empty = sym c.look.ensures ∙ c.in-Empty.is in
    puts_is (sym (ap (written order alone) (leaf_empty _ _ _ _ W.readable _ _ l at) ∙ empty_written order)) c.words.ensures

pub returns-in_default : goal.returns-in_default
returns-in_default c x order t W l d =
    let no = c.in_default in
    absurd (other_leaf c.look.result no.not-Writer no.not-Reader no.not-Integer no.not-Name no.not-Empty
    (λ e. leaf_nothing _ _ _ _ W.readable _ _ l (sym c.look.ensures ∙ e)) (λ q e. d q (sym c.look.ensures ∙ e)))
