-- A guard has another variable, a rule is broken, or the clause's record is written.
use Rattle.std.proofs.Common.{[], take, drop, sym, ◌∙◌, arith}
use Rattle.meaning.specs.Items.{free}
use Rattle.load_names.specs.Places.{spellings, variables_over}
use Rattle.load_items.proofs.Clauses.{part_counts, counts_are, clause_strange, broken, clause_took}
use Rattle.load_items.proofs.items.judged.Goals as goal

pub returns-then-foreign : goal.returns-then-foreign
returns-then-foreign c = λ w j queries.
    let a = c.args in
    let few = c.requires.k_bound.0 in (
      clause_strange a.rest.now a.s.now a.item.now a.tables.now.in_head a.tables.now.in_guards a.tables.now.licensed a.k a.ruled w few j (take 32 (drop 32 a.tables.now.in_head)) (part_counts a.tables.now.in_head 32 (omega (arith, j.was_read.head_size))) queries
          c.foreign.result
          (c.foreign.ensures w.rule.head w.rule.body.guards w.guards (counts_are a.rest.now a.s.now a.item.now a.tables.now.in_head a.tables.now.in_guards a.tables.now.licensed a.k a.ruled w few j (take 32 (drop 32 a.tables.now.in_head)) (part_counts a.tables.now.in_head 32 (omega (arith, j.was_read.head_size)))) j.was_read.guards_are.in_table) c.if-foreign.true,
      j.was_read.ended.only,
    )

pub first_fault-fault-requires-clause-by_index : goal.first_fault-fault-requires-clause-by_index
first_fault-fault-requires-clause-by_index c =
    let a = c.args in
    let few = c.requires.k_bound.0 in
    let (w, j) = c.requires.judging in
    let told = broken a.rest.now a.s.now a.item.now a.tables.now.in_head a.tables.now.in_guards a.tables.now.licensed a.k a.ruled w few j
    (take 32 (drop 32 a.tables.now.in_head)) (part_counts a.tables.now.in_head 32 (omega (arith, j.was_read.head_size))) 0 c.foreign.result
    (c.foreign.ensures w.rule.head w.rule.body.guards w.guards (counts_are a.rest.now a.s.now a.item.now a.tables.now.in_head a.tables.now.in_guards a.tables.now.licensed a.k a.ruled w few j (take 32 (drop 32 a.tables.now.in_head)) (part_counts a.tables.now.in_head 32 (omega (arith, j.was_read.head_size)))) j.was_read.guards_are.in_table) c.if-foreign.false
    (sym c.clause_rules.ensures ∙ c.if-not-clause_rules.true) in
    let vars = variables_over w.from w.passed [] in
    (w.from, vars, free w.guards (spellings vars), w.rule.body.behind, told.0, told.2)

pub returns-then-not-clause_rules : goal.returns-then-not-clause_rules
returns-then-not-clause_rules c = λ w j queries.
    let a = c.args in
    let few = c.requires.k_bound.0 in
    let told = broken a.rest.now a.s.now a.item.now a.tables.now.in_head a.tables.now.in_guards a.tables.now.licensed a.k a.ruled w few j
    (take 32 (drop 32 a.tables.now.in_head)) (part_counts a.tables.now.in_head 32 (omega (arith, j.was_read.head_size))) queries c.foreign.result
    (c.foreign.ensures w.rule.head w.rule.body.guards w.guards (counts_are a.rest.now a.s.now a.item.now a.tables.now.in_head a.tables.now.in_guards a.tables.now.licensed a.k a.ruled w few j (take 32 (drop 32 a.tables.now.in_head)) (part_counts a.tables.now.in_head 32 (omega (arith, j.was_read.head_size)))) j.was_read.guards_are.in_table) c.if-foreign.false
    (sym c.clause_rules.ensures ∙ c.if-not-clause_rules.true) in
    let vars = variables_over w.from w.passed [] in
    (told.0, told.1, c.first_fault-fault.ensures w.from vars (free w.guards (spellings vars)) w.rule.body.behind told.0 told.2, j.was_read.ended.only)

pub returns : goal.returns
returns c = λ w j queries.
    let a = c.args in
    let few = c.requires.k_bound.0 in
    clause_took a.rest.now a.s.now a.item.now a.tables.now.in_head a.tables.now.in_guards a.tables.now.licensed a.k a.ruled w few j (take 32 (drop 32 a.tables.now.in_head)) (part_counts a.tables.now.in_head 32 (omega (arith, j.was_read.head_size))) queries
    c.foreign.result
    (c.foreign.ensures w.rule.head w.rule.body.guards w.guards (counts_are a.rest.now a.s.now a.item.now a.tables.now.in_head a.tables.now.in_guards a.tables.now.licensed a.k a.ruled w few j (take 32 (drop 32 a.tables.now.in_head)) (part_counts a.tables.now.in_head 32 (omega (arith, j.was_read.head_size)))) j.was_read.guards_are.in_table) c.if-foreign.false c.word.result c.word-2.result c.word-3.result
    (sym c.clause_rules.ensures ∙ c.if-not-clause_rules.false) c.word.ensures c.word-2.ensures c.word-3.ensures
