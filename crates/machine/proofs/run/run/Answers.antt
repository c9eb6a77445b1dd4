-- Number 7, or the run of the queries entered.
use Rattle.std.proofs.Common.{sym, ◌∙◌, []}
use native.Mathlib.Omega.{arith}
use Rattle.term.specs.Layout.{figures}
use Rattle.machine.proofs.Finishing.{ready_indexed, built_running, ran_is}
use Rattle.machine.proofs.run.run.Goals as goal

-- When the index is built, the job is ready as it was.
pub enter_all-t-requires : goal.enter_all-t-requires
enter_all-t-requires c =
    let (text, names, j, ready, few, clauses, queries) = c.requires in
    let room = figures c.args.room in
    let built = c.build.ensures names j ready.held clauses in
    let fits = sym (c.fit.ensures names j ready.held queries) ∙ c.if-not-fit.false in
    (text, names, j, ready_indexed room _ _ text names j built.0 ready, fits, queries)

pub go_on-requires : goal.go_on-requires
go_on-requires c =
    let (text, names, j, ready, few, clauses, queries) = c.requires in
    let room = figures c.args.room in
    let built = c.build.ensures names j ready.held clauses in
    let fits = sym (c.fit.ensures names j ready.held queries) ∙ c.if-not-fit.false in
    let e = c.enter_all-t.ensures text names j (ready_indexed room _ _ text names j built.0 ready) fits queries in
    let g = built_running room _ _ _ text names j e.1.0 _ _ ready clauses built.0 built.1 e.0 e.1.1 in
    (text, names, j, e.1.0, [], g.0, g.1, omega (arith, few))

pub returns : goal.returns
returns c = λ text names j ready few clauses queries.
    let room = figures c.args.room in
    let built = c.build.ensures names j ready.held clauses in
    let fits = sym (c.fit.ensures names j ready.held queries) ∙ c.if-not-fit.false in
    let e = c.enter_all-t.ensures text names j (ready_indexed room _ _ text names j built.0 ready) fits queries in
    let g = built_running room _ _ _ text names j e.1.0 _ _ ready clauses built.0 built.1 e.0 e.1.1 in
    let k = c.go_on.ensures text names j e.1.0 [] g.0 g.1 (omega (arith, few)) in
    ran_is room _ _ _ _ text names j e.1.0 c.enter_all-t.result c.args.budget c.go_on.result ready built.0 e.0 e.1.1 k.0 few k.1
