-- `run_chains::follow::led` meets its contract: a pair leads to its value, and to the end that is kept of it.
use Rattle.run_chains.proofs.Following.{value_ahead, end_ahead}
use Rattle.run_chains.proofs.follow.led.Goals as goal

pub returns-then-v-ne-READER : goal.returns-then-v-ne-READER
returns-then-v-ne-READER c x n a h = value_ahead c.args.s.now x c.args.values c.args.links n c.args.p c.word_at-v.result h a c.word_at-v.ensures c.if-v-eq0.false

pub returns-then-e-eq0 : goal.returns-then-e-eq0
returns-then-e-eq0 c x n a h = value_ahead c.args.s.now x c.args.values c.args.links n c.args.p c.word_at-v.result h a c.word_at-v.ensures c.if-v-eq0.false

pub returns-else-e-eq0 : goal.returns-else-e-eq0
returns-else-e-eq0 c x n a h = end_ahead c.args.s.now x c.args.values c.args.links n c.args.p c.word_at-e.result h a c.word_at-e.ensures c.if-e-eq0.false
