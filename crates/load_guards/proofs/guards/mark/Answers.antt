use Rattle.std.proofs.lemmas.Bool.{le-leb, lt-leb}
use Rattle.meaning.specs.Bytes.{when◌then◌else◌}
use Rattle.load_guards.specs.Judged.{marked}
use Rattle.load_guards.proofs.guards.mark.Goals as goal

pub returns-then-m-lt16 : goal.returns-then-m-lt16
unfolding marked when◌then◌else◌
returns-then-m-lt16 c = rw (lt-leb 16 c.args.m c.if-m-lt16.true)

pub returns-else-m-lt16 : goal.returns-else-m-lt16
unfolding marked when◌then◌else◌
returns-else-m-lt16 c = rw (le-leb 16 c.args.m c.if-m-lt16.false)
