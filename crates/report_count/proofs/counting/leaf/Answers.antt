-- `report_count::counting::leaf` meets its contract: by what is seen at the end of the chain.
use mathlib.Core.Path.{◌≡◌, refl, ◌∙◌, sym}
use mathlib.Core.List.{[], ◌∷◌}
use Rattle.meaning.specs.Terms.{writer, reader, Constant}
use Rattle.meaning.specs.Report.{integer_bytes}
use Rattle.term.specs.declared.word.View.TheVariants.{Writer, Reader, Integer, Name}
use Rattle.report_pairs.proofs.Told.{seen as look, other_leaf}
use Rattle.report_pairs.proofs.Leaves.{leaf_writer, leaf_reader, leaf_integer, leaf_name, leaf_empty, leaf_nothing, integer_written, name_written, empty_written}
use Rattle.report_count.proofs.LeafCounts.{writer_counted, reader_counted, constant_counted}
use Rattle.report_count.proofs.counting.leaf.Goals as goal

pub number-requires : goal.number-requires
number-requires c =
    let (text, x, seen, t, r, k, few, l) = c.requires in
    let at : look c.args.w ≡ Writer c.in-Writer.p = sym c.look.ensures ∙ c.in-Writer.is in
    let U = leaf_writer _ _ _ _ r _ _ l c.in-Writer.p at in
    (text, x, seen, U.number, r, k, few, U.below, U.none_given, U.place)

pub number-requires-in-Reader : goal.number-requires-in-Reader
number-requires-in-Reader c =
    let (text, x, seen, t, r, k, few, l) = c.requires in
    let at : look c.args.w ≡ Reader c.in-Reader.p = sym c.look.ensures ∙ c.in-Reader.is in
    let U = leaf_reader _ _ _ _ r _ _ l c.in-Reader.p at in
    (text, x, seen, U.number, r, k, few, U.below, U.none_given, U.place)

pub integer-requires : goal.integer-requires
integer-requires c =
    let (text, x, seen, t, r, k, few, l) = c.requires in
    let at : look c.args.w ≡ Integer c.in-Integer.bits = sym c.look.ensures ∙ c.in-Integer.is in
    let I = leaf_integer _ _ _ _ r _ _ l c.in-Integer.bits at in
    (I.0, I.2, I.3)

pub name-requires : goal.name-requires
name-requires c =
    let (text, x, seen, t, r, k, few, l) = c.requires in
    let at : look c.args.w ≡ Name c.in-Name.k = sym c.look.ensures ∙ c.in-Name.is in
    (leaf_name _ _ _ _ r _ _ l c.in-Name.k at).2

pub returns-in-Writer : goal.returns-in-Writer
returns-in-Writer c text x seen t r k l d =
    let at : look c.args.w ≡ Writer c.in-Writer.p = sym c.look.ensures ∙ c.in-Writer.is in
    let U = leaf_writer _ _ _ _ r _ _ l c.in-Writer.p at in
    writer_counted c.args.s.now c.number.new.s text x c.args.facts seen t U.number c.number.result c.digits.result c.digits.ensures.0 U.is
    (c.number.ensures text x seen U.number r k U.below U.none_given U.place writer)

pub returns-in-Reader : goal.returns-in-Reader
returns-in-Reader c text x seen t r k l d =
    let at : look c.args.w ≡ Reader c.in-Reader.p = sym c.look.ensures ∙ c.in-Reader.is in
    let U = leaf_reader _ _ _ _ r _ _ l c.in-Reader.p at in
    let told = c.number-in-Reader in
    reader_counted c.args.s.now told.new.s text x c.args.facts seen t U.number told.result c.digits-in-Reader.result c.digits-in-Reader.ensures.0 U.is
    (told.ensures text x seen U.number r k U.below U.none_given U.place reader)

pub returns-in-Integer : goal.returns-in-Integer
returns-in-Integer c text x seen t r k l d =
    let at : look c.args.w ≡ Integer c.in-Integer.bits = sym c.look.ensures ∙ c.in-Integer.is in
    let I = leaf_integer _ _ _ _ r _ _ l c.in-Integer.bits at in
    constant_counted c.args.s.now text x c.args.facts seen t (Constant.integer I.0) (integer_bytes I.0) c.integer.result r k I.1
    (λ order. integer_written order I.0) (c.integer.ensures I.0 I.2 I.3)

pub returns-in-Name : goal.returns-in-Name
returns-in-Name c text x seen t r k l d =
    let at : look c.args.w ≡ Name c.in-Name.k = sym c.look.ensures ∙ c.in-Name.is in
    let N = leaf_name _ _ _ _ r _ _ l c.in-Name.k at in
    constant_counted c.args.s.now text x c.args.facts seen t (Constant.name N.0) N.0 c.name.result r k N.1
    (λ order. name_written order N.0) (c.name.ensures ∙ N.3.sized)

pub returns-in-Empty : goal.returns-in-Empty
returns-in-Empty c text x seen t r k l d =
    constant_counted c.args.s.now text x c.args.facts seen t Constant.empty (91 ∷ 93 ∷ []) 2 r k
    (leaf_empty _ _ _ _ r _ _ l (sym c.look.ensures ∙ c.in-Empty.is)) (λ order. empty_written order) refl

pub returns-in_default : goal.returns-in_default
returns-in_default c text x seen t r k l d =
    let no = c.in_default in
    absurd (other_leaf c.look.result no.not-Writer no.not-Reader no.not-Integer no.not-Name no.not-Empty
    (λ e. leaf_nothing _ _ _ _ r _ _ l (sym c.look.ensures ∙ e)) (λ q e. d q (sym c.look.ensures ∙ e)))
