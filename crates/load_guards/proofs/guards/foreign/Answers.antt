use Rattle.std.proofs.Common.{rules, tests, ◌∙◌, refl, arith}
use Rattle.std.proofs.lemmas.Iterator.{YieldsList-from_range}
use Rattle.std.proofs.lemmas.Iterator.Search.{any_from_yields_List}
use Rattle.load_guards.proofs.Foreign.{foul, any_foul}
use Rattle.load_guards.proofs.guards.foreign.Goals as goal

pub returns : goal.returns
returns c head es gs k e =
    any_from_yields_List (foul c.args.item.now c.args.heads.now) _ _ _ c.any.ensures.ran (YieldsList-from_range 0 c.args.pairs c.args.pairs refl (omega arith)) (λ x b q k. search (rules, tests))
    ∙ any_foul c.args.item.now c.args.heads.now c.args.pairs c.requires.2 head es gs k e
