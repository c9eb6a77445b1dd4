-- The count is set, and then what is told.
use Rattle.run_index.specs.Building.{Telling}
use Rattle.run_index.proofs.Building.{one_kept, alike_kept}
use Rattle.run_index.proofs.Telling.{next_alike, count_telling, telling_then}
use Rattle.run_index.proofs.build.tell.Goals as goal

pub tell_apart-requires : goal.tell_apart-requires
tell_apart-requires c =
    let one = c.requires.0 in
    let counted : Telling c.args.s.now c.set_word.new.s c.args.clauses =
    count_telling _ _ c.args.clauses one.heads c.requires.1 c.args.k c.many-n.result one.number c.set_word.ensures in (
      c.args.clauses,
      one_kept counted.only c.args.clauses c.args.k one,
      alike_kept counted.only c.args.k c.in-Some.m (next_alike c.in-Some.m one c.in-Some.ensures),
      counted.told,
    )

pub returns-in-Some : goal.returns-in-Some
returns-in-Some c =
    let one = c.requires.0 in
    let counted : Telling c.args.s.now c.set_word.new.s c.args.clauses =
    count_telling _ _ c.args.clauses one.heads c.requires.1 c.args.k c.many-n.result one.number c.set_word.ensures in
    telling_then counted (c.tell_apart.ensures c.args.clauses (one_kept counted.only c.args.clauses c.args.k one) counted.told)
