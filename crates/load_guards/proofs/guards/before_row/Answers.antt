use Rattle.std.proofs.Common.{◌≡◌, rules, tests, nat_lt, ◌∙◌, refl}
use Rattle.meaning.specs.Terms.{count}
use Rattle.meaning.specs.Table.{guard_table}
use Rattle.term.specs.Guards.{row_of, found_row}
use Rattle.load_guards.proofs.Rows.{filtered, whole_kept}
use Rattle.load_guards.proofs.guards.before_row.Goals as goal

pub returns : goal.returns
returns c g at =
    let found : c.named.result ≡ found_row (row_of guard_table g.name (count g.arguments)) =
    c.named.ensures g.name (rw c.index-f.ensures at.stands) ∙ rw (c.index-count.ensures, at.count_is) refl in
    filtered _ (λ r. nat_lt r 5) c.named.result c.filter.result c.filter.ensures (λ x b h. search (rules, tests))
    ∙ rw found (whole_kept g)
