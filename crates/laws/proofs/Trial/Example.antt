-- What the laws of places say is about something: the clause `n(f(1,2),3).` against `n(f(A?,9),B?)`, which fails at a place between two that wait,
-- and against `n(f(C?,D?),E)`, which waits on two readers; both computed.
use Prim.Native.Nat.{ℕ}
use mathlib.Core.Path.{◌≡◌, refl}
use mathlib.Core.List.{[], ◌∷◌}
use mathlib.Core.Option.{none}
use lib.ListN.{replicate}
use Rattle.meaning.specs.Bytes.{bytes}
use Rattle.meaning.specs.Terms.{writer, reader, plus, integer, named, Term, variable, constant, compound, end, more, Named, Clause}
use Rattle.meaning.specs.State.{QueryUnit}
use Rattle.meaning.specs.Compare.{waits, fails, gives, waits_on, and_then, places}
use Rattle.meaning.specs.Trial.{trial, joins_waiting, joins_failed, choice}
use Rattle.meaning.specs.Call.{everything}
use Rattle.laws.proofs.Lists.{differ, In, here, there, in_single, swapped, rearranged_in}
use Rattle.laws.proofs.Trial.Places.{Place, heads, goals, SameButOrder, same_readers, places_in_any_order}
use Rattle.laws.proofs.Trial.Reached.{reached, all_reached, taken_together}
use Rattle.laws.proofs.Trial.Needed.{trial_places, trial_fails_by_any_place, trial_waits_on_every_reader}

-- `n(f(1,2),3).`, and goals of a unit with five pairs: A, B, C, D and E.
abbrev f_of : Term → Term → Term
f_of t u = compound 1 (named (bytes "f")) (more t (more u end))

abbrev n_of : Term → Term → Named
n_of t u = record { number = 0; name = bytes "n"; arguments = more t (more u end) }

unfoldable pub rule : Clause
rule =
    record {
      place = 1;
      head = n_of (f_of (constant (integer (plus 1))) (constant (integer (plus 2)))) (constant (integer (plus 3)));
      guards = [];
      body = [];
      pairs = 0;
      compounds = 2;
    }

unfoldable pub five_pairs : QueryUnit
five_pairs = record { values = replicate 5 none; compounds = 4; tries = 0 }

unfoldable pub failing_goal : Named
failing_goal = n_of (f_of (variable reader 0) (constant (integer (plus 9)))) (variable reader 1)

unfoldable pub waiting_goal : Named
waiting_goal = n_of (f_of (variable reader 2) (variable reader 3)) (variable writer 4)

unfoldable example_words : Unit {0}
unfolding everything rule five_pairs failing_goal waiting_goal heads goals reached all_reached taken_together
example_words = tt

-- The places that are reached, behind the first that waits too.
pub example_places : (trial_places rule five_pairs failing_goal ≡ waits_on 0 ∷ fails ∷ waits_on 1 ∷ [])
    × (trial_places rule five_pairs waiting_goal ≡ waits_on 2 ∷ waits_on 3 ∷ gives 4 (constant (integer (plus 3))) ∷ [])
unfolding example_words
example_places = (refl, refl)

-- What comes of them.
pub example_trials : (trial [] rule five_pairs failing_goal ≡ fails) × (trial [] rule five_pairs waiting_goal ≡ waits (2 ∷ 3 ∷ []))
unfolding example_words
example_trials = (refl, refl)

pub example_choices : (choice (rule ∷ []) five_pairs failing_goal ≡ joins_failed)
    × (choice (rule ∷ []) five_pairs waiting_goal ≡ joins_waiting (2 ∷ 3 ∷ []))
unfolding example_words
example_choices = (refl, refl)

-- The same by the laws.
pub example_fails : trial [] rule five_pairs failing_goal ≡ fails
example_fails =
    trial_fails_by_any_place [] rule five_pairs failing_goal (rw example_places.0 (there {x = waits_on 0} (here {x = fails} refl)))

pub example_waits_on_the_second : In {A = ℕ} 3 (2 ∷ 3 ∷ [])
example_waits_on_the_second =
    trial_waits_on_every_reader [] rule five_pairs waiting_goal (2 ∷ 3 ∷ []) example_trials.1 3
    (rw example_places.1 (there {x = waits_on 2} (here {x = waits_on 3} refl)))

-- Three places, whichever two are taken together first.
pub example_three : (and_then (and_then (waits_on 0) (gives 2 (variable reader 5))) (waits_on 1) ≡ waits (0 ∷ 1 ∷ []))
    × (and_then (waits_on 0) (and_then (gives 2 (variable reader 5)) (waits_on 1)) ≡ waits (0 ∷ 1 ∷ []))
unfolding example_words
example_three = (refl, refl)

-- Two arguments in the other order: the same readers, in the other order.
unfoldable pub one : Place
one = record { head = constant (integer (plus 1)); goal = variable reader 0 }

unfoldable pub two : Place
two = record { head = constant (integer (plus 2)); goal = variable reader 1 }

pub example_orders : (places (λ t. t) (heads (one ∷ two ∷ [])) (goals (one ∷ two ∷ [])) ≡ waits (0 ∷ 1 ∷ []))
    × (places (λ t. t) (heads (two ∷ one ∷ [])) (goals (two ∷ one ∷ [])) ≡ waits (1 ∷ 0 ∷ []))
unfolding example_words one two
example_orders = (refl, refl)

pub example_any_order : SameButOrder (waits (0 ∷ 1 ∷ [])) (waits (1 ∷ 0 ∷ []))
unfolding example_words one two
example_any_order = places_in_any_order (λ t. t) (swapped {a = one} {b = two} {l = []})

-- Results that differ in more than order are told apart: by a reader, and by failing.
pub example_other_readers : SameButOrder (waits (0 ∷ [])) (waits (1 ∷ [])) → ⊥
example_other_readers s =
    let same : ◌≡◌ {A = ℕ} 0 1 = in_single (rearranged_in {a = 0} (same_readers s) (here refl)) in
    differ same

pub example_waiting_is_not_failing : SameButOrder (waits (0 ∷ [])) fails → ⊥
example_waiting_is_not_failing = elim [ ]
