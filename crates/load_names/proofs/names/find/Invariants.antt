-- The loop walks the chain of the spelling's hash: no place from `next` on is spelled so. Each link leads to an earlier place, so `next` falls.
use Rattle.std.proofs.Common.{List}
use Rattle.load_names.specs.Places.{Place}
use Rattle.load_names.specs.Tables.{NamesIn}
use Rattle.load_names.proofs.Hashes.{Walk}
use Rattle.load_names.proofs.names.find.Given as goal

abbrev pub invariant-loop-next : goal.invariant-loop-next
invariant-loop-next l = (places : List Place) → NamesIn l.text places l.table → Walk l.spelling places l.next

abbrev pub decreases-loop-next : goal.decreases-loop-next
decreases-loop-next l = l.next
