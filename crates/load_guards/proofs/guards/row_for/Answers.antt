use Rattle.std.proofs.Common.{◌∙◌, ap, Some, arith}
use Rattle.load_guards.proofs.Words.{equals_here, bare_here, whole_here}
use Rattle.load_guards.proofs.guards.row_for.Goals as goal

pub alone_row-requires : goal.alone_row-requires
alone_row-requires c =
    let (base, known, e, al) = c.requires in
    let (f, e_is, stands) = bare_here _ _ _ base c.args.w c.index-rest.result c.index-rest.ensures known e al c.in-4.is in
    (f, stands)

pub before_row-requires : goal.before_row-requires
before_row-requires c =
    let (base, known, e, al) = c.requires in
    let (g, e_is, at) = whole_here _ _ _ base c.args.w c.index-rest.result c.index-rest.ensures known e al (λ q. omega arith) (λ q. omega arith) in
    (g, at)

pub returns-in-7 : goal.returns-in-7
returns-in-7 c base known e al = ap Some c.index.ensures ∙ equals_here _ _ _ base c.args.w c.index-rest.result c.index-rest.ensures known e al c.in-7.is

pub returns-in-4 : goal.returns-in-4
returns-in-4 c base known e al =
    let (f, e_is, stands) = bare_here _ _ _ base c.args.w c.index-rest.result c.index-rest.ensures known e al c.in-4.is in
    rw e_is (c.alone_row.ensures f stands)

pub returns-in_default : goal.returns-in_default
returns-in_default c base known e al =
    let (g, e_is, at) = whole_here _ _ _ base c.args.w c.index-rest.result c.index-rest.ensures known e al (λ q. omega arith) (λ q. omega arith) in
    rw e_is (c.before_row.ensures g at)
