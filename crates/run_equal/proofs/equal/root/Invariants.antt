-- `run_equal::equal::root` meets its contract: each link on the way means the same as far as the links agree.
use Prim.Native.Nat.{ℕ}
use Rattle.meaning.specs.Terms.{Term}
use Rattle.run_equal.specs.Equal.{Scene, Means, Working, Alike}
use Rattle.run_equal.proofs.equal.root.Given as goal

abbrev pub invariant-loop : goal.invariant-loop
invariant-loop l = (x : Scene) (values : ℕ) (v : Term) → Working l.s x values l.lists l.links l.taken → Means x l.w v → Alike l.s x l.lists l.taken v l.t
