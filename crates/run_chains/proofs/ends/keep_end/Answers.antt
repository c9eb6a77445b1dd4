-- `run_chains::ends::keep_end` meets its contract: only a variable has a pair.
use Rattle.run_chains.proofs.Following.{variable_pair}
use Rattle.run_chains.proofs.ends.keep_end.Goals as goal

pub keep-requires : goal.keep-requires
keep-requires c =
    let a = c.args in
    let p = c.requires in
    let k = variable_pair a.s.now p.0 a.values a.links p.1 a.w c.in-Writer.p p.2.reads (rw c.look.ensures at c.in-Writer.is) in
    (p.0, k.0, k.1, rw k.2 at p.2, k.3)

pub returns-in-Writer : goal.returns-in-Writer
returns-in-Writer c x t r =
    let a = c.args in
    let k = variable_pair a.s.now x a.values a.links t a.w c.in-Writer.p r.reads (rw c.look.ensures at c.in-Writer.is) in
    c.keep.ensures x k.0 k.1 (rw k.2 at r) k.3
