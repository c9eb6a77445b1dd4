-- The term at hand ends where the whole does, within the links that are left.
use Rattle.std.proofs.Common.{◌-◌}
use Rattle.meaning.specs.Terms.{Term}
use Rattle.term.specs.Setting.{Setting}
use Rattle.run_chains.specs.Follow.{Reads}
use Rattle.run_chains.proofs.Following.{Passed}
use Rattle.run_chains.proofs.follow.follow.Given as goal

abbrev pub invariant-loop : goal.invariant-loop
invariant-loop l = (x : Setting) (u : Term) → Reads l.s x l.values l.links u l.w → Passed l.s x l.values l.links (l.links - l.counter) u l.t
