use Rattle.std.proofs.Common.{sym, ◌∙◌, arith}
use borrow.Author.Count.{below_more}
use Rattle.load_names.proofs.Spellings.{place_at, place_none}
use Rattle.load_names.proofs.VariableTable.{variable_stands}
use Rattle.load_names.proofs.variables.find.Goals as goal

pub spelled-requires : goal.spelled-requires
spelled-requires c =
    let (places, kept, counted) = c.requires.variables_in in
    record { stands_at = (_, variable_stands c.args.rest.now places c.args.table.now kept c.loop-n.n (omega arith)) }

pub returns-then-spelled : goal.returns-then-spelled
returns-then-spelled c places kept counted =
    let stands = variable_stands c.args.rest.now places c.args.table.now kept c.loop-n.n (omega arith) in
    sym (place_at c.args.spelling.now places c.loop-n.n (omega arith) (sym (c.spelled.ensures _ stands) ∙ c.if-spelled.true)
    (c.loop-n.invariant places kept counted))

pub loop-n-preserved : goal.loop-n-preserved
loop-n-preserved c places kept counted =
    let stands = variable_stands c.args.rest.now places c.args.table.now kept c.loop-n.n (omega arith) in
    below_more _ c.loop-n.n (c.loop-n.invariant places kept counted) (sym (c.spelled.ensures _ stands) ∙ c.if-spelled.false)

pub returns : goal.returns
returns c places kept counted =
    sym (place_none c.args.spelling.now places (λ m h. c.loop-n.invariant places kept counted m (omega arith)))
