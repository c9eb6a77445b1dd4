-- A run of at most 31 bytes is a name.
use Rattle.load_tokens.proofs.Spelled.{name_is, long_name_is}
use Rattle.load_tokens.proofs.token.name.Goals as goal

pub returns-then-e-a-le31 : goal.returns-then-e-a-le31
returns-then-e-a-le31 c = name_is c.args.rest.now c.args.a c.run_end-e.result c.requires.0 c.run_end-e.ensures.0 c.requires.1 c.if-e-a-le31.true

pub returns-else-e-a-le31 : goal.returns-else-e-a-le31
returns-else-e-a-le31 c = long_name_is c.args.rest.now c.args.a c.run_end-e.result c.requires.0 c.run_end-e.ensures.0 c.requires.1 c.if-e-a-le31.false
