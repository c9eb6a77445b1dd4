use mathlib.Core.Path.{sym, ap, ◌∙◌}
use Prim.Native.Nat.{◌+◌}
use lib.ListN.{set}
use Rattle.term.proofs.Zeroing.{zeroed_next, zeroed_none}
use Rattle.term.proofs.clear.clear_part.Goals as goal

pub loop-i-init : goal.loop-i-init
loop-i-init c = sym (zeroed_none c.args.from c.args.s.now)

pub loop-i-preserved : goal.loop-i-preserved
loop-i-preserved c = ap (λ l. set l (c.args.from + c.loop-i.i) 0) c.loop-i.invariant ∙ zeroed_next c.args.from c.loop-i.i c.args.s.now
