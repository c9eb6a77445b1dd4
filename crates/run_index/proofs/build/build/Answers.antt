-- Nothing is told, then something may be; no clause is in the index, then each.
use Rattle.run_index.proofs.Building.{heads_kept}
use Rattle.run_index.proofs.HeadsHeld.{heads_held}
use Rattle.run_index.proofs.Joining.{none_indexed, none_told_fits}
use Rattle.run_index.proofs.build.build.Goals as goal

pub tell_all-requires : goal.tell_all-requires
tell_all-requires c =
    let (names, j, held, e) = c.requires in
    let begun = heads_kept c.begin.ensures.only c.args.clauses (heads_held c.args.s.now names j c.args.clauses held e) in
    (begun, none_told_fits _ _ begun c.begin.ensures.told)

pub enter_all-requires : goal.enter_all-requires
enter_all-requires c =
    let (names, j, held, e) = c.requires in
    let begun = heads_kept c.begin.ensures.only c.args.clauses (heads_held c.args.s.now names j c.args.clauses held e) in
    let told = c.tell_all.ensures in
    let heads = heads_kept told.only c.args.clauses begun in
    (heads, none_indexed _ _ heads told.told (told.buckets c.begin.ensures.buckets))
