-- What the first i guards license is marked.
use Rattle.std.proofs.Common.{ℕ, List}
use Rattle.meaning.specs.Terms.{Guard}
use Rattle.load_names.specs.Places.{Place}
use Rattle.load_guards.specs.Judged.{Tests}
use Rattle.load_guards.proofs.Licensing.{Licensing}
use Rattle.load_guards.proofs.guards.licences.Given as goal

abbrev pub invariant-loop-i : goal.invariant-loop-i
invariant-loop-i l = (base : ℕ) (known : List Place) (gs : List Guard) → Tests l.s l.place l.n base known gs → Licensing l.s l.place base known gs l.i l.licensed
