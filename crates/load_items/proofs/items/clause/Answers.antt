-- Too many clauses, or the rule is read and judged after its full stop.
use Rattle.std.proofs.Common.{[], arith}
use Rattle.std.proofs.lemmas.Result.{err_from_is_err_and}
use Rattle.term.proofs.Frames.{only_same}
use Rattle.term.specs.Layout.{trial_region}
use Rattle.load_items.specs.Judging.{Whole, Judging}
use Rattle.load_items.proofs.Starts.{begin_stands}
use Rattle.load_items.proofs.Clauses.{clause_passes, clause_refused}
use Rattle.load_items.proofs.items.clause.Goals as goal

pub returns-then-k-ge128 : goal.returns-then-k-ge128
returns-then-k-ge128 c = λ known queries begins name ts b t.
    let a = c.args in
    (clause_passes a.src.rest.now a.src.from known a.k queries begins name ts t.tokens c.if-k-ge128.true, only_same 0 trial_region a.s.now)

pub rule-requires-clause-stands : goal.rule-requires-clause-stands
rule-requires-clause-stands c =
    let a = c.args in
    let (known, b) = c.requires.begins in
    let f = c.first.ensures in
    (known, [], begin_stands a.src.text.now a.src.rest.now a.src.from a.names.now a.item.now a.known known b c.first.result (omega (arith, f.0)) f.1 f.2 f.3)

pub returns-in_err-ruled : goal.returns-in_err-ruled
returns-in_err-ruled c = λ known queries begins name ts b t.
    let a = c.args in
    let f = c.first.ensures in
    let r = c.rule.new in
    let st = begin_stands a.src.text.now a.src.rest.now a.src.from a.names.now a.item.now a.known known b c.first.result (omega (arith, f.0)) f.1 f.2 f.3 in
    let p = err_from_is_err_and c.from_residual.result c.from_residual.ensures.1 in
    rw (p.1, p.2) (clause_refused a.src.rest.now a.src.from known a.k queries begins name ts t.tokens c.if-k-ge128.false c.first.result f.0 f.3
    a.src.text.now a.s.now a.item.now a.heads.now r.s r.names r.item r.heads r.tables.in_head r.tables.in_guards r.tables.licensed _ (c.in_err-ruled.ensures known [] st))

pub judged-requires-clause-judging : goal.judged-requires-clause-judging
judged-requires-clause-judging c =
    let a = c.args in
    let (known, b) = c.requires.begins in
    let (begins, name, ts, t) = c.requires.first_token in
    let f = c.first.ensures in
    let got = c.in_ok-ruled.ensures known [] (begin_stands a.src.text.now a.src.rest.now a.src.from a.names.now a.item.now a.known known b c.first.result (omega (arith, f.0)) f.1 f.2 f.3) in
    let w : Whole = record {
      text = a.src.text.now;
      from = a.src.from;
      known = known;
      start = c.first.result;
      begins = begins;
      first = name;
      behind = ts;
      scratch = a.s.now;
      names = a.names.now;
      names' = c.rule.new.names;
      item = a.item.now;
      heads = a.heads.now;
      heads' = c.rule.new.heads;
      rule = got.0;
      guards = got.1;
      passed = got.2;
      stop = got.3;
    } in
    let j : Judging a.src.rest.now c.rule.new.s c.rule.new.item c.rule.new.tables.in_head c.rule.new.tables.in_guards c.rule.new.tables.licensed a.k c.in_ok-ruled.ruled w =
    record { was_read = got.4; empty = b.empty; at_first = (f.0, f.3); tokens = t.tokens } in
    (w, j)

pub returns : goal.returns
returns c = λ known queries begins name ts b t.
    let a = c.args in
    let f = c.first.ensures in
    let got = c.in_ok-ruled.ensures known [] (begin_stands a.src.text.now a.src.rest.now a.src.from a.names.now a.item.now a.known known b c.first.result (omega (arith, f.0)) f.1 f.2 f.3) in
    let w : Whole = record {
      text = a.src.text.now;
      from = a.src.from;
      known = known;
      start = c.first.result;
      begins = begins;
      first = name;
      behind = ts;
      scratch = a.s.now;
      names = a.names.now;
      names' = c.rule.new.names;
      item = a.item.now;
      heads = a.heads.now;
      heads' = c.rule.new.heads;
      rule = got.0;
      guards = got.1;
      passed = got.2;
      stop = got.3;
    } in
    let j : Judging a.src.rest.now c.rule.new.s c.rule.new.item c.rule.new.tables.in_head c.rule.new.tables.in_guards c.rule.new.tables.licensed a.k c.in_ok-ruled.ruled w =
    record { was_read = got.4; empty = b.empty; at_first = (f.0, f.3); tokens = t.tokens } in
    c.judged.ensures w j queries
