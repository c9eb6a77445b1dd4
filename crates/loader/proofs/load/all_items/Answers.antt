-- Each item moves on; the first that is refused decides, and where nothing is left it matters whether there is a query.
use Rattle.std.proofs.Common.{[], refl, sym, ◌∙◌}
use Rattle.std.proofs.lemmas.Result.{err_from_is_err_and}
use Rattle.meaning.specs.Items.{no_query}
use Rattle.meaning.specs.Call.{refusal}
use Rattle.term.specs.Layout.{trial_region}
use Rattle.term.proofs.Frames.{only_then}
use Rattle.loader.specs.Loading.{Reached}
use Rattle.loader.proofs.Reaching.{reached_none, reached_clause, reached_query, here}
use Rattle.loader.proofs.Stopping.{stopped}
use Rattle.loader.proofs.Finishing.{no_queries}
use Rattle.loader.proofs.load.all_items.Goals as goal

pub loop-item-init : goal.loop-item-init
loop-item-init c =
    let a = c.args in
    ([], [], reached_none a.text.now a.s.now a.names.now a.heads.now c.requires.names_value c.requires.lent.heads_size)

pub returns-in_err-item : goal.returns-in_err-item
returns-in_err-item c =
    let a = c.args in
    let l = c.loop-item in
    let new = c.item_at.new in
    let (places, done, r) = l.invariant in
    let t = c.in_err-item.ensures places r.inside r.names_table r.count_is in
    let p = err_from_is_err_and c.from_residual.result c.from_residual.ensures.1 in
    rw (p.1, p.2) (t.0, stopped a.text.now a.s.now l.s l.names l.heads l.from l.clauses l.queries l.known places done r t.0 t.1, t.2, only_then 0 trial_region a.s.now l.s new.s r.only t.3)

pub loop-item-preserved-in-Clause : goal.loop-item-preserved-in-Clause
loop-item-preserved-in-Clause c =
    let a = c.args in
    let l = c.loop-item in
    let new = c.item_at.new in
    let (places, done, r) = l.invariant in
    let got = rw (c.in-Some.is, c.in-Clause.is) at (c.in_ok-item.ensures places r.inside r.names_table r.count_is) in
    (_, _, reached_clause a.text.now a.s.now l.s l.names l.heads l.from l.clauses l.queries l.known places done r new.s new.names new.heads c.in-Clause.behind c.in-Clause.count got.0 got.1 got.2 got.3 got.4)

pub loop-item-preserved : goal.loop-item-preserved
loop-item-preserved c =
    let a = c.args in
    let l = c.loop-item in
    let new = c.item_at.new in
    let (places, done, r) = l.invariant in
    let got = rw (c.in-Some.is, c.in-Query.is) at (c.in_ok-item.ensures places r.inside r.names_table r.count_is) in
    (_, _, reached_query a.text.now a.s.now l.s l.names l.heads l.from l.clauses l.queries l.known places done r new.s new.names new.heads c.in-Query.behind c.in-Query.count got.0 got.1 got.2 got.3 got.4)

pub returns-then-queries-eq0 : goal.returns-then-queries-eq0
unfolding refusal
returns-then-queries-eq0 c =
    let a = c.args in
    let l = c.loop-item in
    let new = c.item_at.new in
    let (places, done, r) = l.invariant in
    let got = rw c.in_default.is at (c.in_ok-item.ensures places r.inside r.names_table r.count_is) in
    let r' : Reached a.text.now a.s.now new.s new.names new.heads l.from l.clauses l.queries l.known places done = rw (got.1, got.2, got.3) r in
    let left = sym (here a.text.now a.s.now l.s l.names l.heads l.from l.clauses l.queries l.known places done r) ∙ got.0 in
    (no_query, no_queries a.text.now a.s.now new.s new.names new.heads l.from l.clauses l.queries l.known _ places done r' left c.if-queries-eq0.true, refl, r'.only)

pub returns : goal.returns
returns c =
    let a = c.args in
    let l = c.loop-item in
    let new = c.item_at.new in
    let (places, done, r) = l.invariant in
    let got = rw c.in_default.is at (c.in_ok-item.ensures places r.inside r.names_table r.count_is) in
    let r' : Reached a.text.now a.s.now new.s new.names new.heads l.from l.clauses l.queries l.known places done = rw (got.1, got.2, got.3) r in
    let left = sym (here a.text.now a.s.now l.s l.names l.heads l.from l.clauses l.queries l.known places done r) ∙ got.0 in
    (places, done, _, l.from, r', left, c.if-queries-eq0.false)
