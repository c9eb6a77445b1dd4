-- What no case shows, of one definition alone: a writer in the values of a circle, and one that is followed; reports on the ceiling, one byte above it and far above it;
-- a need that is another one for each room; and the bytes in which texts and expected reports are written.
use Prim.Native.Nat.{ℕ}
use mathlib.Core.Path.{◌≡◌, refl}
use mathlib.Core.Bool.{Bool, true, false, ◌&&◌}
use mathlib.Core.List.{List, [], ◌∷◌}
use mathlib.Core.Option.{some}
use lib.ListN.{length, replicate}
use Rattle.meaning.specs.Bytes.{Bytes, bytes, bytes_words}
use Rattle.meaning.specs.Terms.{writer, reader, empty, variable, constant}
use Rattle.meaning.specs.Compare.{followed, compare_words}
use Rattle.meaning.specs.Circle.{circle, circle_words}
use Rattle.meaning.specs.Call.{Given, scratch_short, ran, report_long, Outcome, delivered, call, everything}

-- "Pair i leans on pair j if i's value holds j's writer or reader": here pair 0's value is the writer of pair 1, and pair 1's the reader of pair 0.
-- Single occurrence keeps such values out of every run.
pub circle_through_a_writer : circle (some (variable writer 1) ∷ some (variable reader 0) ∷ []) ≡ true
unfolding circle_words
circle_through_a_writer = refl

-- "A goal term that is an assigned variable is followed to its value": a writer too, though no goal of a run holds an assigned one.
pub writer_is_followed : followed 2 (some (variable reader 1) ∷ some (constant empty) ∷ []) (variable writer 0) ≡ constant empty
unfolding compare_words
writer_is_followed = refl

and_false : (b : Bool) → b && false ≡ false
and_false true = refl
and_false false = refl

-- "The smaller of its length and 16,777,217 is returned": of a report of 20,000,000 bytes it is the second, whatever the buffer.
pub length_stops_at_the_ceiling : (need : ℕ) (written : Bytes) (given : Given) → length written ≡ 20000000
    → (delivered need written given).answer ≡ report_long 16777217
unfolding everything
length_stops_at_the_ceiling need written given e = rw (e, and_false)

-- "Longer than 16,777,216 bytes": a report of just so many is delivered where its buffer has as many, and one of a byte more in no buffer.
pub ceiling_is_delivered : (need : ℕ) (written : Bytes) (given : Given) → length written ≡ 16777216 → length given.buffer ≡ 16777216
    → (delivered need written given).answer ≡ ran 16777216
unfolding everything
ceiling_is_delivered need written given e f = rw (e, f)

pub one_above_the_ceiling_is_not : (need : ℕ) (written : Bytes) (given : Given) → length written ≡ 16777217
    → (delivered need written given).answer ≡ report_long 16777217
unfolding everything
one_above_the_ceiling_is_not need written given e = rw (e, and_false)

-- "The scratch need as one formula over the room figures": here a word for each pair of the room, which has two. One word is short, and of three the first two are cleared.
unfoldable pub word_for_each_pair : ℕ → Outcome
word_for_each_pair words =
    call (λ room. room.pairs)
    (record { text = []; budget = 0; room = record { pairs = 2; compounds = 1; goals = 1 }; scratch = replicate words 7; buffer = [] })

pub need_is_of_the_calls_room : ((word_for_each_pair 1).answer ≡ scratch_short) × ((word_for_each_pair 3).scratch ≡ 0 ∷ 0 ∷ 7 ∷ [])
unfolding word_for_each_pair everything
need_is_of_the_calls_room = (refl, refl)

-- A case's text and its expected report are both written by `bytes`: it gives each character's code.
pub bytes_are_codes : bytes "run _1?\n" ≡ 114 ∷ 117 ∷ 110 ∷ 32 ∷ 95 ∷ 49 ∷ 63 ∷ 10 ∷ []
unfolding bytes_words
bytes_are_codes = refl
