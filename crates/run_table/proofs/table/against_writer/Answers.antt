-- `run_table::table::against_writer` meets its contract: a row for what is seen.
use mathlib.Core.Path.{◌≡◌, refl, ◌∙◌, sym}
use Rattle.term.specs.declared.word.View.TheVariants.{Writer}
use Rattle.run_table.specs.Rows.{gives_head, fails, writer_row, reader_row, constant_row, compound_row, equal_row, row, answer, behind}
use Rattle.run_table.proofs.Seen.{seen}
use Rattle.run_table.proofs.Rows.{writer_row_other, done_by}
use Rattle.run_table.proofs.table.against_writer.Goals as goal

pub returns-in-Writer : goal.returns-in-Writer
unfolding writer_row reader_row constant_row compound_row equal_row row answer behind
returns-in-Writer c =
    let at : seen c.args.w ≡ Writer c.in-Writer.field-0 = sym c.look.ensures ∙ c.in-Writer.is in
    done_by c.args.s.now c.args.s.now c.args.n c.args.h c.args.w _ fails _ (rw at) refl refl

pub returns-in_default : goal.returns-in_default
unfolding writer_row reader_row constant_row compound_row equal_row row answer behind
returns-in_default c =
    done_by c.args.s.now c.take.new.s c.args.n c.args.h c.args.w _ (gives_head c.args.x) _
    (writer_row_other c.args.x (seen c.args.w) (λ z e. c.in_default.not-Writer z (c.look.ensures ∙ e)))
    (rw c.take.ensures.0) c.take.ensures.1
