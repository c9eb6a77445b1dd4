-- The library counts the bytes of the run.
use Rattle.std.proofs.Common.{◌≡◌, ◌∙◌, length, drop, length-drop, rules, tests, arith}
use Rattle.std.specs.List.{prefix_len}
use Rattle.std.proofs.lemmas.Iterator.{YieldsList-from_slice}
use Rattle.std.proofs.lemmas.Iterator.Consumers.{count_from_yields_List}
use Rattle.std.proofs.lemmas.Iterator.Search.{YieldsList-from_take_while}
use Rattle.std.proofs.lemmas.List.Folds.{length-prefix_len}
use Rattle.std.proofs.lemmas.List.Sums.{prefix_len-le-length}
use Rattle.std.proofs.lemmas.Slice.{between_to_end}
use Rattle.meaning.specs.Tokens.{in_run}
use Rattle.load_tokens.proofs.Ends.{run_counted}
use Rattle.load_tokens.proofs.token.run_end.Goals as goal

pub returns : goal.returns
returns c =
    let rest = c.args.rest.now in
    let at = c.args.at in
    let part : c.take_while.result.iter.rest.now ≡ drop at rest = cc (between_to_end rest at (length rest) (omega arith)) in
    let n : c.count.result ≡ prefix_len in_run (drop at rest) =
    count_from_yields_List c.take_while.result c.count.result c.count.ensures.ran
    (YieldsList-from_take_while _ in_run (YieldsList-from_slice (drop at rest) part) c.take_while.ensures.closure c.take_while.ensures.done
    (λ x b q k. search (rules, tests)))
    ∙ length-prefix_len in_run (drop at rest) in
    (omega (arith, run_counted (drop at rest)), omega (arith, prefix_len-le-length in_run (drop at rest), length-drop at rest))
