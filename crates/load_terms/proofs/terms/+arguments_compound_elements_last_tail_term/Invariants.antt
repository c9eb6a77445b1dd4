-- The brackets that are left fall, and the steps of one bracket. In each loop some arguments or elements have been read, and whatever the others answer
-- is the answer of all.
use Rattle.std.proofs.Common.{◌-◌, List, ℕ, ◌+◌, ◌*◌, ◌≤◌}
use Rattle.meaning.specs.Items.{term as term_reader}
use Rattle.load_names.specs.Places.{Place}
use Rattle.load_openings.specs.Reading.{Stands}
use Rattle.load_terms.proofs.Reached.{Reached}
use Rattle.load_terms.proofs.Linked.{Linked}
use Rattle.load_terms.proofs.terms.+arguments_compound_elements_last_tail_term.Given as goal

abbrev pub decreases-arguments : goal.decreases-arguments
decreases-arguments l = 4 * l.left + 1

abbrev pub decreases-compound : goal.decreases-compound
decreases-compound l = 4 * l.left + 2

abbrev pub decreases-elements : goal.decreases-elements
decreases-elements l = 4 * l.left + 2

abbrev pub decreases-last_tail : goal.decreases-last_tail
decreases-last_tail l = 4 * l.left + 1

abbrev pub decreases-term : goal.decreases-term
decreases-term l = 4 * l.left

abbrev pub invariant-arguments-loop-i : goal.invariant-arguments-loop-i
invariant-arguments-loop-i l = (known : List Place) (vars : List Place) → Stands l.src.text.now l.src.rest.now l.src.from l.fn.names l.fn.item l.fn.c known vars
    → Reached (term_reader l.left) l.n l.i l.src.text.now l.src.rest.now l.src.from l.base known vars l.fn.c l.fn.s l.fn.item l.d l.s l.names l.item

abbrev pub invariant-elements-loop-d : goal.invariant-elements-loop-d
invariant-elements-loop-d l = (known : List Place) (vars : List Place) → Stands l.src.text.now l.src.rest.now l.src.from l.fn.names l.fn.item l.fn.c known vars
    → (left_over : ℕ) → 32 ≤ left_over + l.fn.c.compounds
    → Linked l.left left_over l.src.text.now l.src.rest.now l.src.from l.base known vars l.fn.c l.fn.s l.fn.item l.d l.s l.names l.item

abbrev pub decreases-elements-loop-d : goal.decreases-elements-loop-d
decreases-elements-loop-d l = 32 - l.d.compounds
