-- Goals have been read, each with its comma, as many as were counted.
use Rattle.std.proofs.Common.{◌≡◌, List, length}
use Rattle.meaning.specs.Terms.{Named}
use Rattle.load_names.specs.Places.{Place, Placed}
use Rattle.load_openings.specs.Reading.{Stands}
use Rattle.load_goals.specs.Endings.{Partly}
use Rattle.load_goals.proofs.goals.goals.Given as goal

abbrev pub invariant-loop-i : goal.invariant-loop-i
invariant-loop-i l = (known : List Place) (vars : List Place) → Stands l.src.text.now l.src.rest.now l.src.from l.fn.names l.fn.item l.fn.c known vars
    → (gs : List Named) × (ps : List Placed) × (length gs ≡ l.i)
    × Partly l.src.text.now l.src.rest.now l.src.from l.base l.place known vars l.fn.c l.fn.s l.fn.item l.s l.names l.item l.d gs ps
