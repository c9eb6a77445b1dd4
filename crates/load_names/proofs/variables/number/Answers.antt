-- What the search found decides which of the three answers is given, and the half is counted.
use Rattle.std.proofs.Common.{◌≡◌, ℕ, ◌+◌, ◌-◌, ◌<◌, ◌≤◌, List, sym, arith}
use Rattle.std.proofs.Math.Seq.{slice, length-slice}
use Rattle.std.proofs.lemmas.Slice.{between_is}
use Rattle.std.proofs.Math.Option.{some}
use Rattle.meaning.specs.Bytes.{Bytes}
use Rattle.meaning.specs.Items.{place_of}
use Rattle.load_names.specs.Places.{Place, spellings}
use Rattle.load_names.specs.Tables.{VariablesIn}
use Rattle.load_names.proofs.Lists.{part_here}
use Rattle.load_names.proofs.Spellings.{has_place}
use Rattle.load_names.proofs.VariableTable.{half_read, half_read_more, variable_known, variable_new, variable_passed}
use Rattle.load_names.proofs.variables.number.Goals as goal

-- The variable that was found is one of the sixteen, so its half is counted inside the table.
within : (rest : Bytes) (places : List Place) (table : List ℕ) (x : Bytes) (half n : ℕ) → VariablesIn rest places table → half ≤ 48
    → some n ≡ place_of x (spellings places) → half + n < 64
within rest places table x half n kept h e = omega (arith, has_place x places n (sym e), kept.few)

pub overflow_add-half : goal.overflow_add-half
overflow_add-half c =
    let here = between_is c.args.rest.now c.args.a c.args.e in
    let (places, kept, counted) = c.requires.variables_in in
    omega (arith, within c.args.rest.now places c.args.table.now _ c.args.half c.in-Some.n kept c.requires.a_lt_e.3 (rw here at (c.in-Some.ensures places kept counted)))

pub occurs-requires : goal.occurs-requires
occurs-requires c =
    let here = between_is c.args.rest.now c.args.a c.args.e in
    let (places, kept, counted) = c.requires.variables_in in
    half_read c.args.rest.now places c.args.table.now kept (c.args.half + c.in-Some.n) (omega arith)
    (within c.args.rest.now places c.args.table.now _ c.args.half c.in-Some.n kept c.requires.a_lt_e.3 (rw here at (c.in-Some.ensures places kept counted)))

pub returns-in-Some : goal.returns-in-Some
returns-in-Some c places kept counted =
    let here = between_is c.args.rest.now c.args.a c.args.e in
    let a = c.args in
    let r = c.requires.a_lt_e in
    variable_known a.rest.now places a.table.now a.count a.half a.a (slice a.a a.e a.rest.now) kept counted r.2 r.3 c.in-Some.n c.occurs.new.table
    (sym (rw here at (c.in-Some.ensures places kept counted))) c.occurs.ensures

pub returns-then-count-ge16 : goal.returns-then-count-ge16
returns-then-count-ge16 c places kept counted =
    let here = between_is c.args.rest.now c.args.a c.args.e in
    let a = c.args in
    let r = c.requires.a_lt_e in
    variable_passed a.rest.now places a.table.now a.count a.half a.a (slice a.a a.e a.rest.now) kept counted r.2 r.3
    (sym (rw here at (c.in_default.ensures places kept counted))) c.if-count-ge16.true

pub occurs-requires-2 : goal.occurs-requires-2
occurs-requires-2 c =
    let a = c.args in
    let (places, kept, counted) = c.requires.variables_in in
    rw c.add.ensures (half_read_more a.rest.now places a.table.now kept (a.half + a.count) (omega arith) (omega arith) a.count a.a (a.e - a.a) c.if-count-ge16.false)

pub returns : goal.returns
returns c places kept counted =
    let here = between_is c.args.rest.now c.args.a c.args.e in
    let a = c.args in
    let r = c.requires.a_lt_e in
    variable_new a.rest.now places a.table.now a.count a.half a.a (slice a.a a.e a.rest.now) kept counted r.2 r.3 (a.e - a.a) c.occurs-2.new.table
    (sym (rw here at (c.in_default.ensures places kept counted))) c.if-count-ge16.false (part_here a.rest.now a.a a.e (omega arith) r.1)
    (sym (length-slice a.a a.e a.rest.now r.1)) (rw c.add.ensures at c.occurs-2.ensures)
