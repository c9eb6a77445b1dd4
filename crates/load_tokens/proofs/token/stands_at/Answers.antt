-- At the end of the text no byte stands there.
use Rattle.std.proofs.Common.{◌≡◌, ◌<◌, length, get_or, sym, ◌∙◌, arith}
use Rattle.std.proofs.lemmas.Grind.{common_steps, get_or_default_zero}
use Rattle.load_tokens.proofs.Leads.{next_in, next_out}
use Rattle.load_tokens.proofs.token.stands_at.Goals as goal

pub returns-in-Some : goal.returns-in-Some
returns-in-Some c =
    let inside : c.args.at < length c.args.rest.now = grind (arith, common_steps) in
    let here : c.in-Some.c.now ≡ get_or c.args.rest.now c.args.at 0 = c.in-Some.ensures.lookup.1 ∙ get_or_default_zero c.args.rest.now c.args.at c.in-Some.c.now inside in
    rw here (sym (next_in _ c.args.rest.now c.args.at inside))

pub returns-in-None : goal.returns-in-None
returns-in-None c = sym (next_out _ c.args.rest.now c.args.at (grind (arith, common_steps)))
