-- The two parts are compared as the library compares bytes.
use Rattle.std.proofs.Common.{◌∙◌}
use Rattle.term.proofs.Compared.{bytes_eq_same}
use Rattle.load_names.proofs.Spellings.{part_spelled}
use Rattle.load_names.proofs.names.spelled.Goals as goal

pub returns : goal.returns
returns c f stands =
    let there = part_spelled c.args.text.now c.args.table.now c.args.n f stands c.index-start.result c.index-size.result c.index-start.ensures c.index-size.ensures in
    c.eq.ensures ∙ rw there (bytes_eq_same c.args.spelling.now f)
