use Rattle.std.proofs.Common.{rules, tests, nat_eq, ◌∙◌}
use Rattle.load_guards.proofs.Rows.{filtered, bare_kept}
use Rattle.load_guards.proofs.guards.alone_row.Goals as goal

pub returns : goal.returns
returns c name st =
    filtered _ (λ r. nat_eq r 6) c.named.result c.filter.result c.filter.ensures (λ x b h. search (rules, tests))
    ∙ rw (c.named.ensures name st) (bare_kept name)
