-- Too many queries, or the goals are read and judged after their full stop.
use Rattle.std.proofs.Common.{◌<◌, [], length, ap, sym, ◌∙◌, arith}
use Rattle.std.proofs.Math.ListN.{length-drop, length-set}
use Rattle.std.proofs.Math.Option.{none}
use Rattle.std.proofs.lemmas.Result.{err_from_is_err_and}
use Rattle.term.proofs.Frames.{only_same}
use Rattle.term.specs.Layout.{trial_region}
use Rattle.load_names.specs.Places.{variables_over}
use Rattle.laws.proofs.Reading.Broken.{none_free}
use Rattle.load_items.proofs.Starts.{begin_stands}
use Rattle.load_items.proofs.Queries.{query_passes, query_unread, query_broken, query_took}
use Rattle.load_items.proofs.items.query.Goals as goal

pub returns-then-k-ge8 : goal.returns-then-k-ge8
returns-then-k-ge8 c = λ known clauses heads b.
    let a = c.args in
    let x = c.requires.begins_in_bounds in
    (query_passes a.src.text.now a.src.rest.now a.src.from a.names.now a.item.now a.known known b clauses a.k a.begins a.s.now heads x.1 c.if-k-ge8.true, only_same 0 trial_region a.s.now)

pub goals-requires-clause-stands : goal.goals-requires-clause-stands
goals-requires-clause-stands c =
    let a = c.args in
    let x = c.requires.begins_in_bounds in
    let (known, b) = c.requires.begins in
    let f = c.first.ensures in
    let st = begin_stands a.src.text.now a.src.rest.now a.src.from a.names.now a.item.now a.known known b c.first.result (omega (arith, f.0, x.0)) f.1 f.2 f.3 in
    (known, [], st)

pub returns-in_err-count : goal.returns-in_err-count
returns-in_err-count c = λ known clauses heads b.
    let a = c.args in
    let x = c.requires.begins_in_bounds in
    let f = c.first.ensures in
    let st = begin_stands a.src.text.now a.src.rest.now a.src.from a.names.now a.item.now a.known known b c.first.result (omega (arith, f.0, x.0)) f.1 f.2 f.3 in
    let p = err_from_is_err_and c.from_residual.result c.from_residual.ensures.1 in
    rw (p.1, p.2) (query_unread a.src.text.now a.src.rest.now a.src.from a.names.now a.item.now a.known known b clauses a.k a.begins a.s.now heads x.1
    c.if-k-ge8.false c.first.result f.0 f.3 c.goals.new.s c.goals.new.names c.goals.new.item _ (c.in_err-count.ensures known [] st))

pub nothing_twice-requires : goal.nothing_twice-requires
nothing_twice-requires c =
    let a = c.args in
    let x = c.requires.begins_in_bounds in
    let (known, b) = c.requires.begins in
    let f = c.first.ensures in
    let st = begin_stands a.src.text.now a.src.rest.now a.src.from a.names.now a.item.now a.known known b c.first.result (omega (arith, f.0, x.0)) f.1 f.2 f.3 in
    let got = c.in_ok-count.ensures known [] st in
    (got.3.stands.variables_in.size, omega (arith, got.3.stands.variables_count, got.3.stands.variables_in.few))

pub first_fault-fault-requires-clause-by_index : goal.first_fault-fault-requires-clause-by_index
first_fault-fault-requires-clause-by_index c =
    let a = c.args in
    let x = c.requires.begins_in_bounds in
    let (known, b) = c.requires.begins in
    let f = c.first.ensures in
    let st = begin_stands a.src.text.now a.src.rest.now a.src.from a.names.now a.item.now a.known known b c.first.result (omega (arith, f.0, x.0)) f.1 f.2 f.3 in
    let got = c.in_ok-count.ensures known [] st in
    let told = query_broken a.src.text.now a.src.rest.now a.src.from a.names.now a.item.now a.known known b 0 a.k a.begins a.s.now [] x.1
    c.if-k-ge8.false c.first.result f.0 f.3 c.goals.new.s c.goals.new.names c.goals.new.item c.in_ok-count.count c.in_ok-count.c got.0 got.1 got.2 got.3 (sym c.nothing_twice.ensures ∙ c.if-not-nothing_twice.true) in
    (a.src.from, variables_over a.src.from got.1 [], none_free, none, told.0, told.2)

pub returns-then-not-nothing_twice : goal.returns-then-not-nothing_twice
returns-then-not-nothing_twice c = λ known clauses heads b.
    let a = c.args in
    let x = c.requires.begins_in_bounds in
    let f = c.first.ensures in
    let st = begin_stands a.src.text.now a.src.rest.now a.src.from a.names.now a.item.now a.known known b c.first.result (omega (arith, f.0, x.0)) f.1 f.2 f.3 in
    let got = c.in_ok-count.ensures known [] st in
    let told = query_broken a.src.text.now a.src.rest.now a.src.from a.names.now a.item.now a.known known b clauses a.k a.begins a.s.now heads x.1
    c.if-k-ge8.false c.first.result f.0 f.3 c.goals.new.s c.goals.new.names c.goals.new.item c.in_ok-count.count c.in_ok-count.c got.0 got.1 got.2 got.3 (sym c.nothing_twice.ensures ∙ c.if-not-nothing_twice.true) in
    (told.0, told.1, c.first_fault-fault.ensures a.src.from (variables_over a.src.from got.1 []) none_free none told.0 told.2, got.3.only)

pub keep_places-requires-clause-count_in_bounds : goal.keep_places-requires-clause-count_in_bounds
keep_places-requires-clause-count_in_bounds c =
    let a = c.args in
    let x = c.requires.begins_in_bounds in
    let (known, b) = c.requires.begins in
    let f = c.first.ensures in
    let st = begin_stands a.src.text.now a.src.rest.now a.src.from a.names.now a.item.now a.known known b c.first.result (omega (arith, f.0, x.0)) f.1 f.2 f.3 in
    let got = c.in_ok-count.ensures known [] st in
    let v = got.3.stands.variables_in in
    let n = got.3.stands.variables_count in
    (simp length-set (omega (arith, c.if-k-ge8.false, c.requires.lent.0, c.goals.auto.s, n, v.few)), omega (arith, n, v.few, v.size))

pub keep_places-requires-clause-by_index : goal.keep_places-requires-clause-by_index
keep_places-requires-clause-by_index c =
    let a = c.args in
    let x = c.requires.begins_in_bounds in
    let (known, b) = c.requires.begins in
    let f = c.first.ensures in
    let st = begin_stands a.src.text.now a.src.rest.now a.src.from a.names.now a.item.now a.known known b c.first.result (omega (arith, f.0, x.0)) f.1 f.2 f.3 in
    let got = c.in_ok-count.ensures known [] st in
    let v = got.3.stands.variables_in in
    let n = got.3.stands.variables_count in
    let whole = length-drop a.src.from a.src.text.now in
    λ i l.
    let inside : i < length (variables_over a.src.from got.1 []) = omega (arith, n) in
    omega (arith, v.starts i inside, v.inside i inside, b.part.0, ap length b.part.1 ∙ whole)

pub returns : goal.returns
returns c = λ known clauses heads b.
    let a = c.args in
    let x = c.requires.begins_in_bounds in
    let f = c.first.ensures in
    let st = begin_stands a.src.text.now a.src.rest.now a.src.from a.names.now a.item.now a.known known b c.first.result (omega (arith, f.0, x.0)) f.1 f.2 f.3 in
    let got = c.in_ok-count.ensures known [] st in
    query_took a.src.text.now a.src.rest.now a.src.from a.names.now a.item.now a.known known b clauses a.k a.begins a.s.now heads x.1
    c.if-k-ge8.false c.first.result f.0 f.3 c.goals.new.s c.goals.new.names c.goals.new.item c.in_ok-count.count c.in_ok-count.c got.0 got.1 got.2 got.3
    c.keep_places.new.s c.word.result c.word-2.result (sym c.nothing_twice.ensures ∙ c.if-not-nothing_twice.false) c.word.ensures c.word-2.ensures c.keep_places.ensures
