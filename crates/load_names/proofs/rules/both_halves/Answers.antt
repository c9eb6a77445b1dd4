use Rattle.std.proofs.Common.{arith, refl, ◌∙◌, rules, tests}
use Rattle.std.proofs.lemmas.Iterator.{YieldsList-from_range}
use Rattle.std.proofs.lemmas.Iterator.Search.{all_from_yields_List}
use Rattle.load_names.specs.Rules.{alike, halves_alike}
use Rattle.load_names.proofs.Tallies.{all_counted}
use Rattle.load_names.proofs.rules.both_halves.Goals as goal

pub returns : goal.returns
unfolding alike halves_alike
returns c =
    all_from_yields_List (alike c.args.item.now) _ _ _ c.all.ensures.ran (YieldsList-from_range 0 c.args.pairs c.args.pairs refl (omega arith)) (λ x b q k. search (rules, tests))
    ∙ all_counted (alike c.args.item.now) c.args.pairs
