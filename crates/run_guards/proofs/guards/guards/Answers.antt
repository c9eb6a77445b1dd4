-- `run_guards::guards::guards` meets its contract.
use Rattle.std.proofs.Common.{ℕ, ◌+◌, ◌∙◌, ap, get_or, arith}
use Rattle.std.proofs.lemmas.Result.{err_from_is_err_and}
use Rattle.term.specs.Layout.{clause_record}
use Rattle.run_guards.proofs.Answers.{is_stamp, at_stamp}
use Rattle.run_guards.proofs.Loop.{some_earlier, begins, next, all_succeed, succeeded, hindered}
use Rattle.run_guards.proofs.guards.guards.Goals as goal

pub loop-i-init : goal.loop-i-init
loop-i-init c x y cl given earlier G e E =
    let a = c.args in
    let reads = c.index-i-end.ensures ∙ c.word_at.ensures ∙ ap (λ (j : ℕ). get_or a.s.now (clause_record j + 12) 0) e in
    (reads ∙ G.at.held.guards, begins a.s.now x y cl given earlier a.values a.marks a.links a.met a.stamp G c.index-i-end.result reads)

pub ask-requires : goal.ask-requires
ask-requires c =
    let a = c.args in
    let p = c.requires in
    let E = some_earlier a.met in
    let L = c.loop-i in
    let (counted, go) = L.invariant p.0 p.1 p.2 p.3 E.0 p.4 p.5 E.1 in
    let N = next a.s.now p.0 p.1 p.2 p.3 E.0 a.values a.marks a.links a.met a.stamp p.4 L.s c.index-i-end.result L.i c.word_at-w.result counted
    (c.word_at-w.ensures ∙ ap (λ (j : ℕ). get_or L.s (clause_record j + (16 + L.i)) 0) p.5) go c.loop-i-test.true in
    (p.0, p.1, p.3, N.guard, at_stamp a.stamp c.word.ensures N.at, N.row)

pub returns-in_err-ask : goal.returns-in_err-ask
returns-in_err-ask c x y cl given earlier G e E =
    let a = c.args in
    let L = c.loop-i in
    let (counted, go) = L.invariant x y cl given earlier G e E in
    let N = next a.s.now x y cl given earlier a.values a.marks a.links a.met a.stamp G L.s c.index-i-end.result L.i c.word_at-w.result counted
    (c.word_at-w.ensures ∙ ap (λ (j : ℕ). get_or L.s (clause_record j + (16 + L.i)) 0) e) go c.loop-i-test.true in
    let p = err_from_is_err_and c.from_residual.result c.from_residual.ensures.1 in
    rw (p.1, p.2)
    (hindered a.s.now x y cl given earlier a.values a.marks a.links a.met a.stamp G L.s c.index-i-end.result L.i counted go c.word_at-w.result N _
    c.loop-i-test.true c.ask.result
    (is_stamp a.stamp c.word.ensures (c.ask.ensures x y given N.guard earlier (at_stamp a.stamp c.word.ensures N.at) N.row E)) _ c.in_err-ask.was)

pub loop-i-preserved : goal.loop-i-preserved
loop-i-preserved c x y cl given earlier G e E =
    let a = c.args in
    let L = c.loop-i in
    let (counted, go) = L.invariant x y cl given earlier G e E in
    let N = next a.s.now x y cl given earlier a.values a.marks a.links a.met a.stamp G L.s c.index-i-end.result L.i c.word_at-w.result counted
    (c.word_at-w.ensures ∙ ap (λ (j : ℕ). get_or L.s (clause_record j + (16 + L.i)) 0) e) go c.loop-i-test.true in (
      counted,
      succeeded a.s.now x y cl given earlier a.values a.marks a.links a.met a.stamp G L.s c.index-i-end.result L.i counted go c.word_at-w.result N _
          c.loop-i-test.true c.ask.result
          (is_stamp a.stamp c.word.ensures (c.ask.ensures x y given N.guard earlier (at_stamp a.stamp c.word.ensures N.at) N.row E)) c.in_ok-ask.was,
    )

pub returns : goal.returns
returns c x y cl given earlier G e E =
    let a = c.args in
    let L = c.loop-i in
    let (counted, go) = L.invariant x y cl given earlier G e E in
    all_succeed a.s.now x y cl given earlier a.values a.marks a.links a.met a.stamp G L.s c.index-i-end.result L.i counted go
    c.loop-i-test.false (omega arith)
