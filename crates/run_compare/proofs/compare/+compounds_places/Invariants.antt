-- The places of the head's compounds rise, which is the measure; the loop's invariant says in which two compounds it stands, what was noted so far and
-- what is left of their arguments, and that their answer is the whole's.
use Rattle.std.proofs.Common.{ℕ, ◌+◌, ◌*◌, ◌-◌}
use Rattle.meaning.specs.Terms.{Functor, Terms, count}
use Rattle.term.specs.Layout.{trial_region}
use Rattle.term.specs.Setting.{Setting}
use Rattle.run_compare.specs.Compare.{Template, AllAgainst, places_outcome}
use Rattle.run_compare.proofs.Going.{Going}
use Rattle.run_compare.proofs.compare.+compounds_places.Given as goal

abbrev pub decreases-compounds : goal.decreases-compounds
decreases-compounds l = 2 * (trial_region - l.p) + 1

abbrev pub decreases-places : goal.decreases-places
decreases-places l = 2 * (trial_region - l.first)

abbrev pub invariant-places-arguments : goal.invariant-places-arguments
invariant-places-arguments l =
    (x : Setting) (y : Template) (m : ℕ) (g : Functor) (us : Terms) (lo hi n : ℕ) (f : Functor) (ts : Terms)
    → AllAgainst l.fn.s x y l.values l.links m g us lo hi n f ts l.first l.second l.n
    → Going l.fn.s l.s x y l.values l.links l.first l.n lo hi (count us) (places_outcome x l.links us ts) l.p l.q l.k l.noted l.i

-- A compound that it goes on to lies behind, and has at most 6 arguments.
abbrev pub decreases-places-arguments : goal.decreases-places-arguments
decreases-places-arguments l = 8 * (trial_region - l.p) + (l.k + 1 - l.i)
