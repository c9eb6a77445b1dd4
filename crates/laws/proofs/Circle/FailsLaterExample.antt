-- That a failing comparison fails later is about something: `n(f(1,2),3).` fails against `n(f(A?,9),E)`, and again once A has the value 1.
-- And the goal's writers must be unassigned: a head's writer fails against a goal's, and agrees with the value that it might get.
use Prim.Native.Nat.{ℕ, zero, suc}
use mathlib.Core.Path.{◌≡◌, refl}
use mathlib.Core.List.{[], ◌∷◌}
use mathlib.Core.Option.{none, some}
use native.Mathlib.Omega.{arith}
use lib.ListN.{replicate}
use Rattle.meaning.specs.Bytes.{bytes}
use Rattle.meaning.specs.Terms.{writer, reader, plus, integer, named, variable, constant, compound, end, more, Named}
use Rattle.meaning.specs.State.{value, QueryUnit}
use Rattle.meaning.specs.Compare.{fails, followed, gives, places}
use Rattle.meaning.specs.Trial.{compared, trial}
use Rattle.meaning.specs.Call.{everything}
use Rattle.laws.proofs.Lists.{differ}
use Rattle.laws.proofs.Trial.{value_replicate}
use Rattle.laws.proofs.Trial.Example.{rule, five_pairs}
use Rattle.laws.proofs.Circle.FailsLater.{itself, through, ValuesGrew, StillOpen, trial_fails_later_by_a_place}

unfoldable pub goal_with_writer : Named
goal_with_writer =
    record {
      number = 0;
      name = bytes "n";
      arguments =
          more (compound 1 (named (bytes "f")) (more (variable reader 0) (more (constant (integer (plus 9))) end)))
          (more (variable writer 4) end);
    }

unfoldable pub once_assigned : QueryUnit
once_assigned = record { values = some (constant (integer (plus 1))) ∷ replicate 4 none; compounds = 6; tries = 1 }

pub example_fails_now : compared rule five_pairs goal_with_writer ≡ fails
unfolding everything rule five_pairs goal_with_writer
example_fails_now = refl

example_grew : ValuesGrew five_pairs.values once_assigned.values
unfolding everything five_pairs once_assigned
example_grew =
    record {
      no_circle = refl;
      no_circle_after = refl;
      stays = λ p t e. absurd (let n = value_replicate 5 p in differ (cc));
      no_writer = no_writer;
    }
  where
    no_writer : (p q : ℕ) → value once_assigned.values p ≡ some (variable writer q) → ⊥
    no_writer zero q e = differ (cc)
    no_writer (suc p) q e = let n = value_replicate 4 p in differ (cc)

example_open : StillOpen five_pairs.values once_assigned.values goal_with_writer.arguments
unfolding everything five_pairs once_assigned goal_with_writer
example_open z (through k q u m e further) f = absurd (let n = value_replicate 5 q in differ (cc))
example_open zero (itself m) f = absurd (omega arith)
example_open (suc z) (itself m) f = value_replicate 4 z

pub example_fails_later : trial [] rule once_assigned goal_with_writer ≡ fails
example_fails_later = trial_fails_later_by_a_place rule five_pairs once_assigned goal_with_writer example_grew example_open example_fails_now []

-- What a writer of the goal that got a value would change.
pub example_writer_assigned : (places (followed 1 (none ∷ [])) (more (variable writer 1) end) (more (variable writer 0) end) ≡ fails)
    × (places (followed 1 (some (constant (integer (plus 1))) ∷ [])) (more (variable writer 1) end) (more (variable writer 0) end)
    ≡ gives 1 (constant (integer (plus 1))))
unfolding everything
example_writer_assigned = (refl, refl)
