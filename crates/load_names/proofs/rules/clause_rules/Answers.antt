use Rattle.std.proofs.Common.{arith, refl, ◌∙◌, rules, tests}
use Rattle.std.proofs.lemmas.Iterator.{YieldsList-from_range}
use Rattle.std.proofs.lemmas.Iterator.Search.{all_from_yields_List}
use Rattle.load_names.specs.Rules.{pair_kept}
use Rattle.load_names.proofs.Tallies.{all_counted}
use Rattle.load_names.proofs.Pairs.{each_pair}
use Rattle.load_names.proofs.rules.clause_rules.Goals as goal

pub returns : goal.returns
returns c =
    let test = pair_kept c.args.item.now c.args.heads.now c.args.licensed.now in
    all_from_yields_List test _ _ _ c.all.ensures.ran (YieldsList-from_range 0 c.args.pairs c.args.pairs refl (omega arith)) (λ x b q k. search (rules, tests))
    ∙ all_counted test c.args.pairs ∙ each_pair c.args.item.now c.args.heads.now c.args.licensed.now c.args.pairs
