-- `run_table::table::table` meets its contract: the row is chosen by what is seen of the head's word.
use mathlib.Core.Path.{◌≡◌, ◌∙◌, sym}
use native.Mathlib.Omega.{arith}
use lib.Dec.{eqb}
use Rattle.term.specs.declared.word.View.TheVariants.{Writer, Reader, Compound}
use Rattle.run_table.specs.Rows.{writer_row, reader_row, constant_row, compound_row, equal_row, row, answer, behind}
use Rattle.run_table.proofs.Seen.{seen}
use Rattle.run_table.proofs.Rows.{row_other}
use Rattle.run_table.proofs.table.table.Goals as goal

pub returns-in-Writer : goal.returns-in-Writer
unfolding writer_row reader_row constant_row compound_row equal_row row answer behind
returns-in-Writer c =
    let at : seen c.args.h ≡ Writer c.in-Writer.x = sym c.look.ensures ∙ c.in-Writer.is in
    rw at c.against_writer.ensures

pub returns-in-Reader : goal.returns-in-Reader
unfolding writer_row reader_row constant_row compound_row equal_row row answer behind
returns-in-Reader c =
    let at : seen c.args.h ≡ Reader c.in-Reader.field-0 = sym c.look.ensures ∙ c.in-Reader.is in
    rw at c.against_reader.ensures

pub returns-in-Compound : goal.returns-in-Compound
unfolding writer_row reader_row constant_row compound_row equal_row row answer behind
returns-in-Compound c =
    let at : seen c.args.h ≡ Compound c.in-Compound.p = sym c.look.ensures ∙ c.in-Compound.is in
    rw at c.against_compound.ensures

pub returns-in_default : goal.returns-in_default
unfolding writer_row reader_row constant_row compound_row equal_row row answer behind
returns-in_default c =
    rw (row_other (eqb c.args.h c.args.w) (seen c.args.h) (seen c.args.w) (λ z e. c.in_default.not-Writer z (c.look.ensures ∙ e)) (λ z e. c.in_default.not-Reader z (c.look.ensures ∙ e)) (λ z e. c.in_default.not-Compound z (c.look.ensures ∙ e))) c.against_constant.ensures
