-- `report_sections::sections::count_value` meets its contract: the name, three bytes, the value.
use Prim.Native.Nat.{ℕ, ◌+◌}
use mathlib.Core.Path.{◌≡◌, refl, ◌∙◌}
use native.Mathlib.Omega.{arith}
use mathlib.Core.List.{[], ◌++◌}
use lib.ListN.{length, length-append, get_or}
use Rattle.meaning.specs.Bytes.{Bytes, bytes}
use Rattle.report_sections.proofs.ValueLines.{shows_variable, name_size}
use Rattle.report_sections.proofs.sections.count_value.Goals as goal

three_more : {n : ℕ} (name : Bytes) → n ≡ length name → n + 3 ≡ length (name ++ bytes " = ")
unfolding bytes
three_more name e = simp length-append (omega arith)

one : 1 ≡ length (bytes "\n")
unfolding bytes
one = refl

pub overflow_add-n : goal.overflow_add-n
overflow_add-n c =
    let a = c.args in
    let (text, x, seen, xs, counts, vs, h) = c.requires in
    let spelled = name_size a.s.now text x a.q xs a.v vs h in
    omega (arith, c.spelled-n.ensures.1, spelled.inside, counts.readable.short)

pub count_line-requires : goal.count_line-requires
count_line-requires c =
    let a = c.args in
    let (text, x, seen, xs, counts, vs, h) = c.requires in
    (text, x, seen, _, counts, shows_variable a.s.now text x a.q xs a.v _ vs h c.variable-w.ensures)

pub returns : goal.returns
returns c =
    let a = c.args in
    λ text x seen xs counts vs h.
    let spelled = name_size a.s.now text x a.q xs a.v vs h in
    c.count_line.ensures text x seen _ (get_or xs a.v [] ++ bytes " = ") (bytes "\n") counts
    (shows_variable a.s.now text x a.q xs a.v _ vs h c.variable-w.ensures)
    (three_more (get_or xs a.v []) (c.spelled-n.ensures.1 ∙ spelled.sized)) one
