use Rattle.std.proofs.Common.{refl, arith}
use Rattle.load_openings.proofs.begin.behind_name.Goals as goal

pub returns-in-Err : goal.returns-in-Err
returns-in-Err c = (omega (arith, c.word.ensures), refl, c.in-Err.field-0.0, c.in-Err.ensures.1)
