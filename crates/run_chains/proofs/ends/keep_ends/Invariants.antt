-- Only ends have changed, and what is left of the arguments.
use Rattle.std.proofs.Common.{ℕ}
use Rattle.meaning.specs.Terms.{Functor, Terms}
use Rattle.term.specs.Setting.{Setting}
use Rattle.run_chains.specs.Follow.{Keeps}
use Rattle.run_chains.proofs.Keeping.{Upto}
use Rattle.run_chains.proofs.ends.keep_ends.Given as goal

abbrev pub invariant-loop-i : goal.invariant-loop-i
invariant-loop-i l =
    (x : Setting) (n : ℕ) (f : Functor) (ts : Terms) → Keeps l.fn.s x l.values l.links n f ts l.goal
    → Upto l.fn.s l.s x l.values l.links n f ts l.i-end l.i
