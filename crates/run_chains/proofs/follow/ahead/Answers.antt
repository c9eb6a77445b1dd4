-- `run_chains::follow::ahead` meets its contract: what is seen in a term's word says whether it leads on.
use Rattle.std.proofs.Common.{◌∙◌}
use Rattle.run_chains.proofs.Following.{variable_pair, other_ahead}
use Rattle.run_chains.proofs.follow.ahead.Goals as goal

pub led-requires : goal.led-requires
led-requires c =
    let a = c.args in
    let p = c.requires in
    let k = variable_pair a.s.now p.0 a.values a.links p.1 a.w c.in-Writer.p p.2 (rw c.look.ensures at c.in-Writer.is) in
    (p.0, k.1, k.3)

pub returns-in-Writer : goal.returns-in-Writer
returns-in-Writer c x t r =
    let a = c.args in
    let k = variable_pair a.s.now x a.values a.links t a.w c.in-Writer.p r (rw c.look.ensures at c.in-Writer.is) in
    rw k.2 (c.led.ensures x k.1 k.3 k.0)

pub returns-in_default : goal.returns-in_default
returns-in_default c x t r =
    let a = c.args in
    other_ahead a.s.now x a.values a.links t a.w r (λ p e. c.in_default.not-Writer p (c.look.ensures ∙ e)) (λ p e. c.in_default.not-Reader p (c.look.ensures ∙ e))
