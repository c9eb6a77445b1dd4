-- Where what is left of the arguments is followed, so is the whole.
use Rattle.std.proofs.Common.{ℕ}
use Rattle.meaning.specs.Terms.{Functor, Terms}
use Rattle.term.specs.Setting.{Setting}
use Rattle.run_chains.specs.Follow.{Follows}
use Rattle.run_chains.proofs.Followed.{Midway}
use Rattle.run_chains.proofs.arguments.follow_arguments.Given as goal

abbrev pub invariant-loop-i : goal.invariant-loop-i
invariant-loop-i l =
    (x : Setting) (n : ℕ) (f : Functor) (ts : Terms) → Follows l.fn.s x l.values l.links n f ts l.goal
    → Midway l.fn.s l.s x l.values l.links n ts l.i-end l.i
