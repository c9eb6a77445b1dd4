-- The numbers 1, 2, 3, 7 and 8, each on its edge, and the order of all.
use Prim.Native.Nat.{ℕ}
use Prim.Native.String.{String}
use mathlib.Core.List.{List, [], ◌∷◌, ◌++◌}
use lib.ListN.{length, replicate}
use Rattle.meaning.specs.Bytes.{Bytes, bytes}
use Rattle.meaning.specs.Case.{Case, Expected, refuses, too_long}
use Rattle.meaning.proofs.Cases.Words.{text, ruled, of_bytes, with_budget, with_room, with_scratch, with_buffer, shows, times, words_words}

-- A fact asked for, and its report of 61 bytes.
unfoldable pub asked : String → Expected → Case
asked label expected = text label "p(1).\n?- p(1)." expected

unfoldable pub done : Expected
done = shows "run rest steps 1\nquery 1 tries 1 active 0 waiting 0 failed 0\n"

-- Two pairs, three compounds and two goals.
unfoldable pub small : String → Expected → Case
small label expected = text label "?- p([A]), q(B)." expected

unfoldable pub small_done : Expected
small_done = shows "run rest steps 2\nquery 1 tries 2 active 0 waiting 0 failed 2\nA = _1\nB = _2\nfailed p([_1]) from 0 at 0\nfailed q(_2) from 0 at 0\n"

unfoldable pub calls_cases : List Case
calls_cases =
    with_budget 1000000 (with_room 65535 65535 65535 (asked "the largest budget and room" done))
    ∷ with_room 1 1 1 (text "the smallest room" "?- p(A)." (shows "run rest steps 1\nquery 1 tries 1 active 0 waiting 0 failed 1\nA = _1\nfailed p(_1) from 0 at 0\n"))
    ∷ with_budget 1000001 (asked "a budget above 1,000,000" (refuses 1 0 0))
    ∷ with_room 0 9 9 (asked "no pairs" (refuses 1 0 0))
    ∷ with_room 65536 9 9 (asked "pairs above 65,535" (refuses 1 0 0))
    ∷ with_room 9 0 9 (asked "no compounds" (refuses 1 0 0))
    ∷ with_room 9 65536 9 (asked "compounds above 65,535" (refuses 1 0 0))
    ∷ with_room 9 9 0 (asked "no goals" (refuses 1 0 0))
    ∷ with_room 9 9 65536 (asked "goals above 65,535" (refuses 1 0 0))
    ∷ with_scratch 4 (asked "scratch of just its need" done)
    ∷ with_scratch 3 (asked "scratch one word short" (refuses 2 0 0))
    ∷ with_scratch 0 (asked "no scratch" (refuses 2 0 0))
    ∷ with_scratch 3 (with_budget 1000001 (of_bytes "1 before 2 and 3" (replicate 16385 33) (refuses 1 0 0)))
    ∷ with_scratch 3 (of_bytes "2 before 3" (replicate 16385 33) (refuses 2 0 0))
    ∷ of_bytes "3 before 4" (replicate 16385 33) (refuses 3 0 0)
    ∷ with_room 2 3 2 (small "queries of just the room" small_done)
    ∷ with_room 1 3 2 (small "queries of one pair too many" (refuses 7 0 0))
    ∷ with_room 2 2 2 (small "queries of one compound too many" (refuses 7 0 0))
    ∷ with_room 2 3 1 (small "queries of one goal too many" (refuses 7 0 0))
    ∷ with_room 1 3 2 (text "the queries together have one pair too many" "?- p(A).\n?- p(A)." (refuses 7 0 0))
    ∷ with_room 2 1 2 (text "the queries together have one compound too many" "?- p(A).\n?- p(A)." (refuses 7 0 0))
    ∷ with_room 2 2 1 (text "the queries together have one goal too many" "?- p(A).\n?- p(A)." (refuses 7 0 0))
    ∷ with_room 1 1 1 (text "7 judges the queries alone" "p([A],A?) :- q(1), q(1).\n?- r(1)." (shows "run rest steps 1\nquery 1 tries 1 active 0 waiting 0 failed 1\nfailed r(1) from 0 at 0\n"))
    ∷ with_room 1 1 1 (text "clauses alone, of more than the room" "p([A],A?)." (refuses 6 0 0))
    ∷ with_room 1 1 1 (text "the text before 7" "?- p(A,B).\n?- p(X,X)." (refuses 5 2 18))
    ∷ with_buffer 0 (with_room 1 3 2 (small "7 before 8" (refuses 7 0 0)))
    ∷ with_buffer 61 (asked "a buffer of just the report" done)
    ∷ with_buffer 60 (asked "a buffer one byte short" (too_long 61))
    ∷ with_buffer 0 (asked "no buffer" (too_long 61))
    ∷ []

-- Texts of the largest length, and of one byte more: of all cases those that take longest.
unfoldable pub longest_cases : List Case
longest_cases =
    of_bytes "16,384 bytes" (bytes "p(1).\n?- p(1)." ++ replicate 16370 32) done
    ∷ of_bytes "16,384 bytes, unfinished" (bytes "p(1).\n?- p(1)" ++ replicate 16371 10) (refuses 4 16372 16384)
    ∷ of_bytes "16,385 bytes" (bytes "p(1).\n?- p(1)." ++ replicate 16371 32) (refuses 3 0 0)
    ∷ []

unfoldable pub calls_words : Unit {0}
unfolding words_words asked done small small_done calls_cases longest_cases
calls_words = tt
