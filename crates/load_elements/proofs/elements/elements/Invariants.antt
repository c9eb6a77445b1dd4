use Rattle.std.proofs.Common.{◌≡◌, List, length}
use Rattle.meaning.specs.Table.{Element}
use Rattle.load_names.specs.Places.{Place, Placed}
use Rattle.load_openings.specs.Reading.{Stands}
use Rattle.load_elements.proofs.Partly.{Partly}
use Rattle.load_elements.proofs.elements.elements.Given as goal

-- Elements have been read, each with its comma, as many as were counted.
abbrev pub invariant-loop-i : goal.invariant-loop-i
invariant-loop-i l =
    (known : List Place) (vars : List Place) → Stands l.src.text.now l.src.rest.now l.src.from l.fn.names l.fn.item l.fn.c known vars
    → (es : List Element) × (known' : List Place) × (vars' : List Place) × (ps : List Placed) × (length es ≡ l.i)
    × Partly l.src.text.now l.src.rest.now l.src.from l.base known vars l.fn.c l.fn.s l.fn.item l.fn.words l.s l.names l.item l.words l.d es known' vars' ps
