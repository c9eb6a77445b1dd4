-- Each answer is a case of a run led by an uppercase letter.
use Rattle.std.proofs.Common.{sym, ◌∙◌}
use Rattle.meaning.specs.Bytes.{byte}
use Rattle.load_tokens.proofs.Spelled.{long_variable_is, writer_is, reader_is}
use Rattle.load_tokens.proofs.token.variable.Goals as goal

pub returns-then-e-a-gt31 : goal.returns-then-e-a-gt31
returns-then-e-a-gt31 c = long_variable_is c.args.rest.now c.args.a c.run_end-e.result c.requires.0 c.run_end-e.ensures.0 c.requires.1 c.if-e-a-gt31.true

pub returns-then-stands_at : goal.returns-then-stands_at
unfolding byte
returns-then-stands_at c =
    reader_is c.args.rest.now c.args.a c.run_end-e.result c.requires.0 c.run_end-e.ensures.0 c.requires.1 c.if-e-a-gt31.false (sym c.stands_at.ensures ∙ c.if-stands_at.true)

pub returns-else-stands_at : goal.returns-else-stands_at
unfolding byte
returns-else-stands_at c =
    writer_is c.args.rest.now c.args.a c.run_end-e.result c.requires.0 c.run_end-e.ensures.0 c.requires.1 c.if-e-a-gt31.false (sym c.stands_at.ensures ∙ c.if-stands_at.false)
