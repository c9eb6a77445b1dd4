-- `run_table::table::against_compound` meets its contract: a row for what is seen.
use mathlib.Core.Path.{◌≡◌, refl, ◌∙◌, sym}
use Rattle.term.specs.declared.word.View.TheVariants.{Writer, Reader, Compound}
use Rattle.run_table.specs.Rows.{gives_goal, waits, fails, below, writer_row, reader_row, constant_row, compound_row, equal_row, row, answer, behind}
use Rattle.run_table.proofs.Seen.{seen}
use Rattle.run_table.proofs.Rows.{compound_row_other, done_by}
use Rattle.run_table.proofs.table.against_compound.Goals as goal

pub returns-in-Writer : goal.returns-in-Writer
unfolding writer_row reader_row constant_row compound_row equal_row row answer behind
returns-in-Writer c =
    let z = c.in-Writer.z in
    let at : seen c.args.w ≡ Writer z = sym c.look.ensures ∙ c.in-Writer.is in
    done_by c.args.s.now c.give.new.s c.args.n c.args.h c.args.w _ (gives_goal z) _
    (rw at) (rw c.give.ensures.0) c.give.ensures.1

pub returns-in-Reader : goal.returns-in-Reader
unfolding writer_row reader_row constant_row compound_row equal_row row answer behind
returns-in-Reader c =
    let z = c.in-Reader.z in
    let at : seen c.args.w ≡ Reader z = sym c.look.ensures ∙ c.in-Reader.is in
    done_by c.args.s.now c.ask.new.s c.args.n c.args.h c.args.w _ (waits z) _
    (rw at) (rw c.ask.ensures.0) c.ask.ensures.1

pub returns-in-Compound : goal.returns-in-Compound
unfolding writer_row reader_row constant_row compound_row equal_row row answer behind
returns-in-Compound c =
    let z = c.in-Compound.q in
    let at : seen c.args.w ≡ Compound z = sym c.look.ensures ∙ c.in-Compound.is in
    done_by c.args.s.now c.args.s.now c.args.n c.args.h c.args.w _ (below c.args.p z) _ (rw at) refl refl

pub returns-in_default : goal.returns-in_default
unfolding writer_row reader_row constant_row compound_row equal_row row answer behind
returns-in_default c =
    done_by c.args.s.now c.args.s.now c.args.n c.args.h c.args.w _ (fails) _
    (compound_row_other c.args.p (seen c.args.w) (λ z e. c.in_default.not-Writer z (c.look.ensures ∙ e)) (λ z e. c.in_default.not-Reader z (c.look.ensures ∙ e)) (λ z e. c.in_default.not-Compound z (c.look.ensures ∙ e))) refl refl
