use Rattle.std.proofs.Common.{arith, refl, ◌∙◌, rules, tests}
use Rattle.std.proofs.lemmas.Iterator.{YieldsList-from_range}
use Rattle.std.proofs.lemmas.Iterator.Search.{all_from_yields_List}
use Rattle.load_names.specs.Rules.{once, none_twice}
use Rattle.load_names.proofs.Tallies.{all_counted}
use Rattle.load_names.proofs.rules.nothing_twice.Goals as goal

pub returns : goal.returns
unfolding once none_twice
returns c =
    all_from_yields_List (once c.args.item.now) _ _ _ c.all.ensures.ran (YieldsList-from_range 0 c.args.pairs c.args.pairs refl (omega arith)) (λ x b q k. search (rules, tests))
    ∙ all_counted (once c.args.item.now) c.args.pairs
