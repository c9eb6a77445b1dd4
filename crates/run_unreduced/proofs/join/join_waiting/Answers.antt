-- Keeping the ends leaves the state as it was, and the goal joins the waiting goals.
use Rattle.meaning.specs.Terms.{named}
use Rattle.run_unreduced.proofs.KeepingEnds as keeping
use Rattle.run_unreduced.proofs.join.join_waiting.Goals as goal

pub keep_ends-requires : goal.keep_ends-requires
keep_ends-requires c =
    let (text, names, j, limit, atlas, slots, g, others, readers, k, joins) = c.requires in (
      keeping.x k joins,
      g.goal.number,
      named g.goal.name,
      g.goal.arguments,
      rw c.values.ensures (keeping.keeps k joins c.place_of.result c.place_of.ensures),
    )

pub add_waiting-requires : goal.add_waiting-requires
add_waiting-requires c =
    let (text, names, j, limit, atlas, slots, g, others, readers, k, joins) = c.requires in
    let now =
    (rw c.values.ensures at c.keep_ends.ensures)
    (keeping.x k joins) g.goal.number (named g.goal.name) g.goal.arguments (keeping.keeps k joins c.place_of.result c.place_of.ensures) in
    (text, names, j, limit, atlas, slots, g, others, readers, keeping.still_taken k joins now, keeping.still_joins k joins now)

pub returns : goal.returns
returns c = λ text names j limit atlas slots g others readers k joins.
    let now =
    (rw c.values.ensures at c.keep_ends.ensures)
    (keeping.x k joins) g.goal.number (named g.goal.name) g.goal.arguments (keeping.keeps k joins c.place_of.result c.place_of.ensures) in
    keeping.step_kept k joins now
    (c.add_waiting.ensures text names j limit atlas slots g others readers (keeping.still_taken k joins now) (keeping.still_joins k joins now))
