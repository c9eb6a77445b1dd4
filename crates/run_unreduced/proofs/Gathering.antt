-- A goal that waits on readers of which each was counted once waits on the same set as with all of them.
-- A reader that was met already has joined the set before, so it adds nothing.
use Prim.Native.Nat.{ℕ}
use mathlib.Core.Path.{◌≡◌, refl, sym, ap, ◌∙◌}
use mathlib.Core.Bool.{Bool, true, false}
use mathlib.Core.List.{List, [], ◌∷◌}
use Rattle.meaning.specs.Bytes.{among}
use Rattle.laws.proofs.Lists.Tests.{or_true_right}
use Rattle.run_readers.specs.Readers.{met_with, all_met}
use Rattle.run_readers.proofs.AllMet.{met_there, met_new}
use Rattle.run_queues.specs.Log.{joined, gathered}
use Rattle.run_queues.proofs.LogSteps.{joined_there, gathered_more}
use Rattle.run_queues.proofs.Waking.{gathered_among}

gathered_met : (ps ms : List ℕ) (r : ℕ) → gathered ps (met_with ms r) ≡ joined r (gathered ps ms)
gathered_met ps ms r = go (among r ms) refl
  where
    go : (b : Bool) → among r ms ≡ b → gathered ps (met_with ms r) ≡ joined r (gathered ps ms)
    go true e =
        ap (gathered ps) (met_there ms r e)
        ∙ sym (joined_there r (gathered ps ms) (gathered_among r ps ms ∙ or_true_right (among r ps) (among r ms) e))
    go false e = ap (gathered ps) (met_new ms r e) ∙ gathered_more ps ms r

pub gathered_all_met : (ps ms rs : List ℕ) → gathered ps (all_met ms rs) ≡ gathered (gathered ps ms) rs
unfolding gathered all_met
gathered_all_met ps ms [] = refl
gathered_all_met ps ms (r ∷ rs) = gathered_all_met ps (met_with ms r) rs ∙ ap (λ l. gathered l rs) (gathered_met ps ms r)

pub gathered_each_once : (rs : List ℕ) → gathered [] (all_met [] rs) ≡ gathered [] rs
unfolding gathered
gathered_each_once rs = gathered_all_met [] [] rs
