-- It is the one that the record of clause k names.
use Rattle.std.proofs.Common.{sym, ◌∙◌}
use Rattle.run_index.proofs.Chains.{open_later}
use Rattle.run_index.proofs.leads.open_from.Goals as goal

pub returns : goal.returns
returns c = λ clauses indexed inside functor.
    rw (c.linked.ensures ∙ c.word_at-2.ensures)
    (open_later c.args.s.now c.args.k c.args.functor clauses indexed inside functor
    (λ e. c.if-word_at-key.false (c.word_at.ensures ∙ e ∙ sym c.key.ensures)))
