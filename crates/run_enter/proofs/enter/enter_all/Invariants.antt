-- The first queries are entered.
use Rattle.std.proofs.Common.{◌≡◌, true, List, length}
use Rattle.meaning.specs.Bytes.{Bytes}
use Rattle.meaning.specs.Terms.{Job}
use Rattle.meaning.specs.Run.{queries_fit}
use Rattle.term.specs.Layout.{figures}
use Rattle.term.specs.States.{Ready}
use Rattle.run_enter.proofs.EnterCalls.{Partly}
use Rattle.run_enter.proofs.enter.enter_all.Given as goal

abbrev pub invariant-loop-q : goal.invariant-loop-q
invariant-loop-q l =
    (text : Bytes) (names : List Bytes) (j : Job) → Ready l.fn.s text names (figures l.room) j → queries_fit (figures l.room) j.queries ≡ true
    → l.queries ≡ length j.queries → Partly l.fn.s l.s text names j (figures l.room) l.q l.t
