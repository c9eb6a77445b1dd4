-- The guards before the i-th have succeeded, and those that are left decide.
use Rattle.std.proofs.Common.{◌≡◌, List, ℕ, length}
use Rattle.meaning.specs.Terms.{Clause}
use Rattle.meaning.specs.Compare.{Assignment}
use Rattle.term.specs.Setting.{Setting}
use Rattle.run_compare.specs.Compare.{Template}
use Rattle.run_guards.specs.Guarding.{Guarded, Earlier}
use Rattle.run_guards.proofs.Loop.{Going}
use Rattle.run_guards.proofs.guards.guards.Given as goal

abbrev pub invariant-loop-i : goal.invariant-loop-i
invariant-loop-i l =
    (x : Setting) (y : Template) (c : Clause) (given : List Assignment) (earlier : List ℕ)
    → Guarded l.fn.s x y c given l.values l.marks l.links l.met l.stamp → l.k ≡ y.number → Earlier earlier l.met
    → (l.i-end ≡ length c.guards) × Going l.fn.s l.s x y c given earlier l.values l.marks l.links l.met l.stamp l.i-end l.i
