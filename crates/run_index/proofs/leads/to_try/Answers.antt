-- The procedure's own chain, or the two chains that its keys lead to.
use Rattle.std.proofs.Common.{length, sym, ap, ◌∙◌}
use native.Mathlib.Omega.{arith}
use Rattle.run_index.specs.Index.{kind_of}
use Rattle.run_index.proofs.ToTry.{functor_few, leads_all, first_few, first_inside, first_functor, told_inside, told_reads, leads_keyed}
use Rattle.run_index.proofs.leads.to_try.Goals as goal

pub returns-in_default : goal.returns-in_default
returns-in_default c = λ names j goal sought. leads_all c.args.first sought

pub told-requires : goal.told-requires
told-requires c =
    let (names, j, goal, sought) = c.requires in
    (first_few c.in-Some.k (rw c.in-Some.is at sought), sought.held.inside)

pub returns-in_default-told : goal.returns-in_default-told
returns-in_default-told c = λ names j goal sought. leads_all c.args.first sought

pub word_at-requires : goal.word_at-requires
word_at-requires c =
    let (names, j, goal, sought) = c.requires in
    omega (arith, told_inside c.in-Some.k (rw c.in-Some.is at sought) c.in-Some-told.a c.in-Some-told.ensures.0, sought.held.inside)

pub kind-sought-requires : goal.kind-sought-requires
kind-sought-requires c =
    let (names, j, goal, sought) = c.requires in
    rw c.word_at.ensures (told_reads c.in-Some.k (rw c.in-Some.is at sought) c.in-Some-told.a c.in-Some-told.ensures.0 c.in-Some-told.ensures.1)

pub returns-then-sought-le-READER : goal.returns-then-sought-le-READER
returns-then-sought-le-READER c = λ names j goal sought. leads_all c.args.first sought

pub key-requires : goal.key-requires
key-requires c = let (names, j, goal, sought) = c.requires in functor_few sought

pub open_from-open-requires : goal.open_from-open-requires
open_from-open-requires c =
    let (names, j, goal, sought) = c.requires in
    (first_few c.in-Some.k (rw c.in-Some.is at sought), functor_few sought, sought.held.inside)

pub returns : goal.returns
returns c = λ names j goal sought.
    let clauses = length j.clauses in
    let here = rw c.in-Some.is at sought in
    leads_keyed c.in-Some.k here c.in-Some-told.a c.in-Some-told.ensures.0 c.in-Some-told.ensures.1 c.kind-sought.result _ _ c.in_order.result
    (c.kind-sought.ensures ∙ ap (kind_of c.args.s.now) c.word_at.ensures)
    (let later = c.if-sought-le-READER.false in omega arith)
    (rw c.key.ensures at (c.find-keyed.ensures 0 clauses sought.indexed))
    (c.open_from-open.ensures clauses sought.indexed (first_inside c.in-Some.k here) (sym (first_functor c.in-Some.k here)))
    c.in_order.ensures
