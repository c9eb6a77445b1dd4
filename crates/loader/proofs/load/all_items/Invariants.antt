use Rattle.std.proofs.Common.{◌-◌, List, length}
use Rattle.load_names.specs.Places.{Place}
use Rattle.load_image.specs.Image.{Entry}
use Rattle.loader.specs.Loading.{Reached}
use Rattle.loader.proofs.load.all_items.Given as goal

-- Items have been read up to a byte behind a full stop.
abbrev pub invariant-loop-item : goal.invariant-loop-item
invariant-loop-item l =
    (places : List Place) × (done : List Entry) × Reached l.text l.fn.s l.s l.names l.heads l.from l.clauses l.queries l.known places done

-- What is left of the text falls.
abbrev pub decreases-loop-item : goal.decreases-loop-item
decreases-loop-item l = length l.text - l.from
