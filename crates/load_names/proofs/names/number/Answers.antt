-- What the search found decides which of the three answers is given.
use Rattle.std.proofs.Common.{◌+◌, length, ap, sym, ◌∙◌, arith}
use Rattle.std.proofs.Math.Seq.{slice}
use Rattle.std.specs.Prelude.{slice_range}
use Rattle.std.proofs.lemmas.Slice.{between_is}
use Rattle.load_names.specs.Tables.{hash_of}
use Rattle.load_names.proofs.Lists.{part_behind}
use Rattle.load_names.proofs.Hashes.{hash_fits}
use Rattle.load_names.proofs.NameTable.{name_known, name_new, name_passed}
use Rattle.load_names.proofs.names.number.Goals as goal

pub returns-in-Some : goal.returns-in-Some
returns-in-Some c places kept counted =
    let a = c.args in
    let here = between_is a.src.rest.now a.a a.e in
    name_known a.src.text.now places a.table.now a.count (a.src.from + a.a) (slice a.a a.e a.src.rest.now) kept counted c.in-Some.n (rw here at (sym (c.in-Some.ensures places kept)))

pub returns-then-count-ge256 : goal.returns-then-count-ge256
returns-then-count-ge256 c places kept counted =
    let a = c.args in
    let here = between_is a.src.rest.now a.a a.e in
    name_passed a.src.text.now places a.table.now a.count (a.src.from + a.a) (slice a.a a.e a.src.rest.now) kept counted (rw here at (sym (c.in_default.ensures places kept)))
    c.if-count-ge256.true

pub add-requires : goal.add-requires
add-requires c = (c.if-count-ge256.false, rw c.hash-h.ensures (hash_fits _), c.requires.names_in.1.size)

pub returns : goal.returns
returns c places kept counted =
    let a = c.args in
    let r = c.requires.in_rest in
    let here = between_is a.src.rest.now a.a a.e in
    let size = ap length here in
    name_new a.src.text.now places a.table.now a.count (a.src.from + a.a) (slice a.a a.e a.src.rest.now) kept counted c.hash-h.result (length (slice_range a.src.rest.now a.a a.e)) c.add.new.table
    (rw here at (sym (c.in_default.ensures places kept))) c.if-count-ge256.false
    (part_behind a.src.text.now a.src.rest.now a.src.from a.a a.e a.src.part.0 a.src.part.1 (omega arith) r.1) (c.hash-h.ensures ∙ ap hash_of here) size c.add.ensures
