-- Each compound counts a byte before its first argument, so the bytes up to the ceiling fall; the walk's invariant says what is counted and what is left in the
-- order of the whole.
use Prim.Native.Nat.{ℕ, ◌+◌, ◌-◌, ◌*◌, ◌<◌}
use mathlib.Core.List.{List}
use Rattle.meaning.specs.Bytes.{Bytes}
use Rattle.meaning.specs.Terms.{Functor, Term, Terms}
use Rattle.term.specs.Setting.{Setting}
use Rattle.report_count.specs.Counts.{Counts}
use Rattle.report_pairs.specs.Walk.{StandsAt}
use Rattle.report_count.proofs.CountingWalk as walk
use Rattle.report_count.proofs.counting.+count_arguments_count_compound.Given as goal

abbrev pub decreases-count_arguments : goal.decreases-count_arguments
decreases-count_arguments l = 2 * (16777217 - l.at)

abbrev pub decreases-count_compound : goal.decreases-count_compound
decreases-count_compound l = 2 * (16777217 - l.at) + 1

abbrev pub invariant-count_arguments-loop-q : goal.invariant-count_arguments-loop-q
invariant-count_arguments-loop-q l =
    (text : Bytes) (x : Setting) (seen : List ℕ) (n : ℕ) (f : Functor) (ts : Terms) → Counts l.initial.s text x l.facts seen l.at → l.at < 16777217
    → StandsAt l.initial.s x n f ts l.first
    → walk.Walked l.initial.s l.s text x l.facts seen (walk.order_of x seen (Term.compound n f ts)) (walk.whole_of x seen (Term.compound n f ts)) l.at l.p l.i l.to

abbrev pub decreases-count_arguments-loop-q : goal.decreases-count_arguments-loop-q
decreases-count_arguments-loop-q l = 16777217 - l.to
