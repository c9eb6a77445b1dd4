-- `run_ground::seek::seek` meets its contract: the walk begins with no reader met, and what it has found at its end is the answer.
use Rattle.std.proofs.Common.{◌%◌, sym, ◌∙◌}
use borrow.Author.Tests.{eqb-true}
use Rattle.run_ground.proofs.Found.{even_of}
use Rattle.run_ground.proofs.Begins.{through_asks, found_large, sees_fails, sees_waits, sees_ground}
use Rattle.run_ground.proofs.seek.seek.Goals as goal

pub through-found-requires : goal.through-found-requires
through-found-requires c =
    let a = c.args in
    through_asks a.s.now a.values a.marks a.links a.met a.first a.place a.count a.stamp c.begun-state.result c.begun-state.ensures c.requires

pub returns-then-found-eq-FAILED : goal.returns-then-found-eq-FAILED
returns-then-found-eq-FAILED c =
    let a = c.args in let f = c.through-found in
    sees_fails a.s.now a.values a.marks a.links a.met a.first a.place a.count a.stamp c.begun-state.result c.begun-state.ensures
    f.new.s f.result f.ensures c.if-found-eq-FAILED.true

pub met_in-requires : goal.met_in-requires
met_in-requires c =
    let a = c.args in let f = c.through-found in
    found_large a.s.now a.values a.marks a.links a.met a.first a.place a.count a.stamp c.begun-state.result c.begun-state.ensures
    f.new.s f.result f.ensures c.if-found-eq-FAILED.false c.requires

pub returns-then-pending : goal.returns-then-pending
returns-then-pending c =
    let a = c.args in let f = c.through-found in
    sees_waits a.s.now a.values a.marks a.links a.met a.first a.place a.count a.stamp c.begun-state.result c.begun-state.ensures
    f.new.s f.result f.ensures c.if-found-eq-FAILED.false
    (eqb-true (f.result % 2) 1 (sym c.pending.ensures ∙ c.if-pending.true)) c.met_in.result c.met_in.ensures

pub returns : goal.returns
returns c =
    let a = c.args in let f = c.through-found in
    sees_ground a.s.now a.values a.marks a.links a.met a.first a.place a.count a.stamp c.begun-state.result c.begun-state.ensures
    f.new.s f.result f.ensures c.if-found-eq-FAILED.false (even_of f.result (sym c.pending.ensures ∙ c.if-pending.false))
