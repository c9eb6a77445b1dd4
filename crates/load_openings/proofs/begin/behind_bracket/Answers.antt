use Rattle.std.proofs.Common.{refl, arith}
use Rattle.load_openings.proofs.begin.behind_bracket.Goals as goal

pub returns-in-Err : goal.returns-in-Err
returns-in-Err c = let some_left = c.if-left-eq0.false in (omega arith, refl, c.in-Err.field-0.0, c.in-Err.ensures.1)
