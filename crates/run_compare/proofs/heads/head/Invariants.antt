-- What was noted so far, and what is left of both lists of arguments, of which the goal's stand followed.
use Rattle.std.proofs.Common.{ℕ}
use Rattle.meaning.specs.Terms.{Functor, Terms}
use Rattle.term.specs.Setting.{Setting}
use Rattle.run_compare.specs.Compare.{Template, HeadAgainst}
use Rattle.run_compare.proofs.Arguments.{Partly}
use Rattle.run_compare.proofs.Goals.{Behind}
use Rattle.run_compare.proofs.heads.head.Given as goal

abbrev pub invariant-arguments : goal.invariant-arguments
invariant-arguments l =
    (x : Setting) (y : Template) (m : ℕ) (g : Functor) (us : Terms) (lo hi : ℕ) (ts : Terms)
    → HeadAgainst l.fn.s x y l.values l.links m g us lo hi ts l.p
    → Partly (Behind x l.links) l.fn.s l.s x y l.values l.links m us lo hi ts 0 l.i-end l.noted l.i
