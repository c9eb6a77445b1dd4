-- Each figure on its edge and one past it, at the token that passes it, and 4 where that token cannot stand at all.
use Prim.Native.Nat.{ℕ, ◌+◌, ◌-◌}
use Prim.Native.String.{String}
use mathlib.Core.List.{List, [], ◌∷◌, ◌++◌}
use lib.ListN.{length, replicate}
use Rattle.meaning.specs.Bytes.{Bytes, bytes, decimal}
use Rattle.meaning.specs.Case.{Case, Expected, prints, refuses}
use Rattle.meaning.proofs.Cases.Words.{text, of_bytes, shows, times, for_each, words_words}

-- One goal that fails, as the report shows it.
unfoldable pub fails_with : Bytes → Expected
fails_with goal = prints (bytes "run rest steps 1\nquery 1 tries 1 active 0 waiting 0 failed 1\nfailed " ++ goal ++ bytes " from 0 at 0\n")

unfoldable pub query_of : Bytes → Bytes
query_of goal = bytes "?- " ++ goal ++ bytes "."

unfoldable pub fine : String → Bytes → Case
fine label goal = of_bytes label (query_of goal) (fails_with goal)

-- A line break, then the item: its refusal is on line 2.
unfoldable pub refused_behind : String → Bytes → ℕ → ℕ → ℕ → Case
refused_behind label written number line offset = of_bytes label (bytes "p(a).\n?- " ++ written) (refuses number line offset)

-- 51 clauses with 255 names: a head's, a functor's inside it and three constants' in each.
unfoldable pub names_255 : Bytes
names_255 =
    for_each 51
    (λ k. bytes "a" ++ decimal k ++ bytes "(b" ++ decimal k ++ bytes "(c" ++ decimal k ++ bytes ",d" ++ decimal k ++ bytes "),e" ++ decimal k ++ bytes ",0).\n")

unfoldable pub figures_cases : List Case
figures_cases =
    fine "6 arguments" (bytes "p(1,2,3,4,5,6)")
    ∷ refused_behind "7 arguments" (bytes "p(1,2,3,4,5,6,\n7).") 6 2 0
    ∷ refused_behind "a seventh argument that cannot stand" (bytes "p(1,2,3,4,5,6,\n).") 4 3 24
    ∷ refused_behind "a seventh argument that is a bad token" (bytes "p(1,2,3,4,5,6,\n12abc).") 4 3 24
    ∷ refused_behind "a seventh argument is judged by its first token" (bytes "p(1,2,3,4,5,6,f(\n!") 6 2 0
    ∷ refused_behind "cut off behind the sixth argument's comma" (bytes "p(1,2,3,4,5,6,\n") 4 2 24
    ∷ refused_behind "an earlier 4 is before a later 6" (bytes "p(a\nb,1,2,3,4,5,6,7).") 4 3 13
    ∷ refused_behind "an earlier 6 is before a later 4" (bytes "p(1,2,3,4,5,6,7,\n!") 6 2 0
    ∷ of_bytes "16 pairs" (bytes "?- p([A,B,C,D,E,F,G,H,I,J,K,L,M,N,O,P]).") (prints (bytes "run rest steps 1\nquery 1 tries 1 active 0 waiting 0 failed 1\nA = _1\nB = _2\nC = _3\nD = _4\nE = _5\nF = _6\nG = _7\nH = _8\nI = _9\nJ = _10\nK = _11\nL = _12\nM = _13\nN = _14\nO = _15\nP = _16\nfailed p([_1,_2,_3,_4,_5,_6,_7,_8,_9,_10,_11,_12,_13,_14,_15,_16]) from 0 at 0\n"))
    ∷ refused_behind "17 pairs" (bytes "p([A,B,C,D,E,F,G,H,I,J,K,L,M,N,O,P,\nQ]).") 6 2 0
    ∷ refused_behind "17 pairs, the seventeenth's reader before bytes that cannot stand" (bytes "p([A,B,C,D,E,F,G,H,I,J,K,L,M,N,O,P,\nQ?abc]).") 6 2 0
    ∷ refused_behind "a seventeenth pair where no variable can stand" (bytes "p([A,B,C,D,E,F,G,H,I,J,K,L,M,N,O,P])\nQ.") 4 3 46
    ∷ refused_behind "a known variable is no new pair" (bytes "p([A,B,C,D,E,F,G,H,I,J,K,L,M,N,O,P],\nA).") 5 2 46
    ∷ fine "32 compounds, by list cells" (bytes "p([1" ++ times 30 ",1" ++ bytes "])")
    ∷ refused_behind "33 compounds, by list cells" (bytes "p([1" ++ times 30 ",1" ++ bytes ",\n1]).") 6 2 0
    ∷ refused_behind "a thirty-third element that cannot stand" (bytes "p([1" ++ times 30 ",1" ++ bytes ",\n]).") 4 3 75
    ∷ refused_behind "a cell is counted at its element's first token" (bytes "p([1" ++ times 30 ",1" ++ bytes ",[\n!") 6 2 0
    ∷ of_bytes "32 compounds, by parentheses" (bytes "q(a).\n?- p([" ++ times 14 "f(1)," ++ bytes "f(1)],2), q(a).") (prints (bytes "run rest steps 2\nquery 1 tries 2 active 0 waiting 0 failed 1\nfailed p([" ++ times 14 "f(1)," ++ bytes "f(1)],2) from 0 at 0\n"))
    ∷ refused_behind "33 compounds, by parentheses" (bytes "p([" ++ times 14 "f(1)," ++ bytes "f(1)],2), q(a), r(\n!") 6 2 0
    ∷ refused_behind "a cell before the compounds inside its element" (bytes "p([" ++ times 14 "f(1)," ++ bytes "f(1),f(\n!") 6 2 0
    ∷ refused_behind "a bare name where the thirty-third compound would open" (bytes "p([" ++ times 14 "f(1)," ++ bytes "f(1)],2), q(a), r\n.") 4 3 100
    ∷ fine "16 brackets" (bytes "p(" ++ times 15 "[" ++ bytes "1" ++ times 15 "]" ++ bytes ")")
    ∷ refused_behind "17 brackets" (bytes "p(" ++ times 15 "[" ++ bytes "\n[1" ++ times 16 "]" ++ bytes ").") 6 2 0
    ∷ refused_behind "17 brackets, the last round" (bytes "p(" ++ times 15 "[" ++ bytes "f\n(1)" ++ times 15 "]" ++ bytes ").") 6 2 0
    ∷ fine "16 brackets, the last an empty list's" (bytes "p(" ++ times 14 "[" ++ bytes "[]" ++ times 14 "]" ++ bytes ")")
    ∷ refused_behind "17 brackets, the last an empty list's" (bytes "p(" ++ times 15 "[" ++ bytes "\n[]" ++ times 15 "]" ++ bytes ").") 6 2 0
    ∷ refused_behind "a seventeenth bracket that cannot stand" (bytes "p(" ++ times 15 "[" ++ bytes "1\n[1" ++ times 16 "]" ++ bytes ").") 4 3 28
    ∷ fine "closed brackets are open no more" (bytes "p([[]" ++ times 17 ",[]" ++ bytes "])")
    ∷ of_bytes "8 query goals" (bytes "p(a).\n?- " ++ times 7 "p(a), " ++ bytes "p(a).") (shows "run rest steps 8\nquery 1 tries 8 active 0 waiting 0 failed 0\n")
    ∷ refused_behind "9 query goals" (times 8 "p(a)," ++ bytes "\np(a).") 6 2 0
    ∷ refused_behind "a ninth goal that cannot stand" (times 8 "p(a)," ++ bytes "\n[].") 4 3 50
    ∷ refused_behind "cut off behind the eighth goal's comma" (times 8 "p(a)," ++ bytes "\n") 4 2 50
    ∷ refused_behind "a ninth goal's name before its parenthesis" (times 8 "p(a)," ++ bytes "\np .") 6 2 0
    ∷ of_bytes "8 body goals" (bytes "q(a) :- " ++ times 7 "p(a), " ++ bytes "p(a).\np(a).\n?- q(a).") (shows "run rest steps 9\nquery 1 tries 9 active 0 waiting 0 failed 0\n")
    ∷ of_bytes "9 body goals" (bytes "q(a) :- " ++ times 8 "p(a),\n" ++ bytes "p(a).") (refuses 6 1 0)
    ∷ of_bytes "8 queries" (bytes "p(1).\n" ++ times 8 "?- p(1).\n") (prints (bytes "run rest steps 8\n" ++ for_each 8 (λ k. bytes "query " ++ decimal (k + 1) ++ bytes " tries 1 active 0 waiting 0 failed 0\n")))
    ∷ of_bytes "9 queries, whatever follows" (times 8 "?- p(a).\n" ++ bytes "?-!") (refuses 6 9 0)
    ∷ []

-- Texts with as many clauses or names as there may be.
unfoldable pub many_cases : List Case
many_cases =
    of_bytes "128 clauses" (times 128 "p(a).\n" ++ bytes "?- p(a).") (shows "run rest steps 1\nquery 1 tries 1 active 0 waiting 0 failed 0\n")
    ∷ of_bytes "129 clauses, whatever follows" (times 128 "p(a).\n" ++ bytes "p!") (refuses 6 129 0)
    ∷ of_bytes "behind 128 clauses a token that begins no item" (times 128 "p(a).\n" ++ bytes "X") (refuses 4 129 768)
    ∷ of_bytes "256 names, integers and lists none of them" (names_255 ++ bytes "?- last([1,2]).") (shows "run rest steps 1\nquery 1 tries 1 active 0 waiting 0 failed 1\nfailed last([1,2]) from 0 at 0\n")
    ∷ of_bytes "257 names" (names_255 ++ bytes "?- last(a1,\na1,\none,!).") (refuses 6 52 0)
    ∷ of_bytes "257 names, the last a head's before its parenthesis, one a query's" (names_255 ++ bytes "?- last(a1).\none\n!") (refuses 6 53 0)
    ∷ of_bytes "a 257th name that cannot stand" (names_255 ++ bytes "?- last(a1\none).") (refuses 4 53 1236)
    ∷ []

unfoldable pub figures_words : Unit {0}
unfolding words_words fails_with query_of fine refused_behind names_255 figures_cases many_cases
figures_words = tt
