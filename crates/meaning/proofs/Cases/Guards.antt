-- Document 02, T-02: what may stand behind `:-`, 11, the occurrence rules and the figures with guards, and runs with them. Each line break of a text stands where it shows the place.
use Prim.Native.Nat.{ℕ}
use Prim.Native.String.{String}
use mathlib.Core.List.{List, [], ◌∷◌, ◌++◌}
use Rattle.meaning.specs.Bytes.{Bytes, bytes}
use Rattle.meaning.specs.Case.{Case, Expected, refuses}
use Rattle.meaning.proofs.Cases.Words.{text, of_bytes, with_room, shows, times, words_words}

-- A clause before a query that is always accepted, and the report where the clause is too.
unfoldable pub clause_of : String → Bytes → Expected → Case
clause_of label written expected = of_bytes label (written ++ bytes " ?- q(a).") expected

unfoldable pub clause : String → String → Expected → Case
clause label written expected = clause_of label (bytes written) expected

unfoldable pub accepted : Expected
accepted = shows "run rest steps 1\nquery 1 tries 1 active 0 waiting 0 failed 1\nfailed q(a) from 0 at 0\n"

unfoldable pub clauses_cases : List Case
clauses_cases =
    clause "a guard and a goal" "p(X) :- ground(X?) | q(X?)." accepted
    ∷ clause "a guard and no goal, the reader in the head" "p(X,X?) :- ground(X?) |." accepted
    ∷ clause "otherwise stands bare" "p(a) :- otherwise | ." accepted
    ∷ clause "a guard's reader does not count for the pairing" "p(X) :- ground(X?) | ." (refuses 9 1 2)
    ∷ clause "without a bar there are no guards" "p(X) :- ground(X?)." accepted
    ∷ clause "no guard before the bar" "p(X) :- \n| q(X?)." (refuses 4 2 9)
    ∷ clause "a bare name is no goal" "p(a) :- otherwise\n." (refuses 4 2 18)
    ∷ text "a query's sign behind the bar" "p(a) :- otherwise |\n?- q(a)." (refuses 4 2 20)
    ∷ text "cut off behind the bar" "p(a) :- otherwise |\n" (refuses 4 1 20)
    ∷ clause "foo is not in the table" "p(X) :- foo | q(X?)." (refuses 11 1 0)
    ∷ clause "foo(X?) is not in the table" "p(X) :- foo(X?) | q(X?)." (refuses 11 1 0)
    ∷ clause "ground is not in the table" "p(X) :- ground | q(X?)." (refuses 11 1 0)
    ∷ clause "ground(X?,a) is not in the table" "p(X) :- ground(X?,a) | q(X?)." (refuses 11 1 0)
    ∷ clause "otherwise(X?) is not in the table" "p(X) :- otherwise(X?) | q(X?)." (refuses 11 1 0)
    ∷ clause "a bare name may be a guard up to the full stop" "p(X) :- foo, q(X?)\n." (refuses 4 2 19)
    ∷ clause "any name may be a guard up to the bar" "p(X) :- foo, q(X?) | r(X?)." (refuses 11 1 0)
    ∷ clause "behind a variable only the sign can stand, not the full stop" "p(X) :- X?\n." (refuses 4 2 11)
    ∷ clause "behind a variable only the sign can stand, not a comma" "p(X) :- X?\n, q(X?)." (refuses 4 2 11)
    ∷ clause "a list alone is no guard" "p(X) :- [a] \n| q(X?)." (refuses 4 2 13)
    ∷ clause "an integer alone is no guard" "p(X) :- 3 \n| q(X?)." (refuses 4 2 11)
    ∷ clause "the empty list alone is no guard" "p(X) :- [] \n| q(X?)." (refuses 4 2 12)
    ∷ clause "a comparison is no goal" "p(X) :- X? == a\n." (refuses 4 2 16)
    ∷ clause "a comparison is no goal before others" "p(X) :- X? == a, q(X?)\n." (refuses 4 2 23)
    ∷ clause "a comparison has two sides" "p(X) :- X? == a \n== b | q(X?)." (refuses 4 2 17)
    ∷ clause "the sign stands between its terms" "p(X) :- \n==(X?,a) | q(X?)." (refuses 4 2 9)
    ∷ clause "one equals sign is a bad token" "p(X) :- X? \n= a | q(X?)." (refuses 4 2 12)
    ∷ clause "three equals signs are a sign and a bad token" "p(X) :- X? ==\n=a | q(X?)." (refuses 4 2 14)
    ∷ clause "a bar in brackets is the list's" "p(X) :- X?==[a|b]|q(X?)." accepted
    ∷ clause "a second bar outside brackets" "p(X) :- ground(X?) | q(X?) \n| r(X?)." (refuses 4 2 28)
    ∷ clause "no guard behind the bar" "p(X) :- ground(X?) | q(X?), \nX? == a." (refuses 4 2 29)
    ∷ clause "no bare name behind the bar" "p(X) :- ground(X?) | true\n." (refuses 4 2 26)
    ∷ clause "no comma behind the bar" "p(X) :- ground(X?) | \n, q(X?)." (refuses 4 2 22)
    ∷ clause "no bar behind a comma" "p(X) :- ground(X?), \n| q(X?)." (refuses 4 2 21)
    ∷ text "a query has no guards" "?- ground(a)\n| q(a)." (refuses 4 2 13)
    ∷ text "a query compares nothing" "?- q(a)\n== b." (refuses 4 2 8)
    ∷ clause "no bar without its sign" "p(X) \n| q(X?)." (refuses 4 2 6)
    ∷ clause "a writer in a guard" "p(X) :- ground(X) | q(X?)." (refuses 11 1 0)
    ∷ clause "a reader that is nowhere else" "p(X) :- ground(Y?) | q(X?)." (refuses 11 1 0)
    ∷ clause "a reader of a writer in the body" "p(X) :- ground(Y?) | q(X?,Y)." (refuses 11 1 0)
    ∷ clause "a head's reader of a writer in the body" "p(Y?) :- ground(Y?) | q(Y)." (refuses 11 1 0)
    ∷ clause "11 before 5" "p(X) :- foo(X?) | q(a)." (refuses 11 1 0)
    ∷ clause "11 before 5, by another variable" "p(X,X) :- known(Y?) | q(a)." (refuses 11 1 0)
    ∷ clause "11 only behind the full stop" "p(X) :- foo | q(X?) \nr." (refuses 4 2 21)
    ∷ clause "several times in the body" "p(X) :- ground(X?) | q(X?), r(X?), s(X?,X?)." accepted
    ∷ clause "several times in the body, once in the head" "p(X,X?) :- ground(X?) | q(X?), r(X?)." accepted
    ∷ clause "by integer, and by constant" "p(X,Y) :- integer(X?), constant(Y?) | q(X?,X?,Y?,Y?)." accepted
    ∷ clause "a licensed reader twice in the head" "p(X,X?,X?) :- ground(X?) | q(X?)." (refuses 5 1 7)
    ∷ clause "a licensed writer twice" "p(X,X) :- ground(X?) | q(X?)." (refuses 5 1 4)
    ∷ clause "a licensed writer in the head and in the body" "p(X) :- ground(X?) | q(X), r(X?)." (refuses 5 1 23)
    ∷ clause "a lone reader beside guards" "p(X,Y?) :- ground(X?) | q(X?)." (refuses 10 1 4)
    ∷ clause "11 before 5, of two guards" "p(X) :- ground(X?), foo | q(X?,X?)." (refuses 11 1 0)
    ∷ clause "known lets nothing stand twice" "p(X) :- known(X?) | q(X?), r(X?)." (refuses 5 1 29)
    ∷ clause "compound lets nothing stand twice" "p(X) :- compound(X?) | q(X?), r(X?)." (refuses 5 1 32)
    ∷ clause "a reader inside an argument is not the argument" "p(X) :- ground(f(X?)) | q(X?), r(X?)." (refuses 5 1 33)
    ∷ clause "a comparison lets nothing stand twice" "p(X) :- X? == a | q(X?), r(X?)." (refuses 5 1 27)
    ∷ clause "the sides of a comparison are no guards" "p(X) :- ground(X?) == ground(a) | q(X?), r(X?)." (refuses 5 1 43)
    ∷ clause "one of several guards is enough" "p(X) :- known(X?), integer(X?) | q(X?), r(X?)." accepted
    ∷ clause "a reader twice in a guard" "p(X) :- X? == X? | q(X?)." accepted
    ∷ clause "guards' names are not reserved" "integer(X) :- integer(X?) | integer(X?)." accepted
    ∷ clause_of "8 guards and 8 goals" (bytes "p(X) :- " ++ times 7 "known(X?), " ++ bytes "known(X?) | " ++ times 7 "q(a), " ++ bytes "q(X?).") accepted
    ∷ clause_of "9 guards" (bytes "p(X) :- " ++ times 8 "known(X?), " ++ bytes "known(X?) | q(X?).") (refuses 6 1 0)
    ∷ clause_of "9 guards, the ninth by a variable" (bytes "p(X) :- " ++ times 8 "known(X?), " ++ bytes "X? == a | q(X?).") (refuses 6 1 0)
    ∷ clause_of "a ninth guard that cannot stand" (bytes "p(X) :- " ++ times 8 "known(X?), " ++ bytes "\n) | q(X?).") (refuses 4 2 97)
    ∷ clause_of "9 goals behind the bar" (bytes "p(X) :- known(X?) | " ++ times 8 "q(a), " ++ bytes "q(X?).") (refuses 6 1 0)
    ∷ clause_of "a ninth element that is no goal" (bytes "p(X) :- " ++ times 8 "q(a), " ++ bytes "3 .") (refuses 6 1 0)
    ∷ of_bytes "a ninth goal of a query that cannot stand" (bytes "?- " ++ times 8 "q(a), " ++ bytes "\n3 .") (refuses 4 2 52)
    ∷ clause_of "32 compounds, by a comparison" (bytes "p(X,X?) :- X? == [a" ++ times 29 ",a" ++ bytes "] | .") accepted
    ∷ clause_of "33 compounds, by a comparison" (bytes "p(X,X?) :- X? == [a" ++ times 30 ",a" ++ bytes "] | .") (refuses 6 1 0)
    ∷ clause_of "a thirty-third compound is the comparison's sign" (bytes "p(X,X?) :- [a" ++ times 30 ",a" ++ bytes "] == ! | .") (refuses 6 1 0)
    ∷ clause_of "32 compounds, by a guard" (bytes "p(X,X?) :- ground([a" ++ times 29 ",a" ++ bytes "]) | .") accepted
    ∷ clause_of "33 compounds, by a guard" (bytes "p(X,X?) :- ground([a" ++ times 30 ",a" ++ bytes "]) | .") (refuses 6 1 0)
    ∷ clause_of "16 brackets behind a comparison's sign" (bytes "p(X,X?) :- X? == " ++ times 16 "[" ++ bytes "a" ++ times 16 "]" ++ bytes " | .") accepted
    ∷ clause_of "17 brackets behind a comparison's sign" (bytes "p(X,X?) :- X? == " ++ times 17 "[" ++ bytes "a" ++ times 17 "]" ++ bytes " | .") (refuses 6 1 0)
    ∷ clause_of "16 brackets before a comparison's sign" (bytes "p(X,X?) :- " ++ times 16 "[" ++ bytes "a" ++ times 16 "]" ++ bytes " == X? | .") accepted
    ∷ clause_of "17 brackets before a comparison's sign" (bytes "p(X,X?) :- " ++ times 17 "[" ++ bytes "a" ++ times 17 "]" ++ bytes " == X? | .") (refuses 6 1 0)
    ∷ clause_of "16 brackets, the first a guard's" (bytes "p(X,X?) :- ground(" ++ times 15 "[" ++ bytes "a" ++ times 15 "]" ++ bytes ") | .") accepted
    ∷ clause_of "17 brackets, the first a guard's" (bytes "p(X,X?) :- ground(" ++ times 16 "[" ++ bytes "a" ++ times 16 "]" ++ bytes ") | .") (refuses 6 1 0)
    ∷ clause "a seventeenth pair in a guard" "p([A,B,D,E,F,G,H,I,J,K,L,M,N,O,P,R]) :- ground(C?) | q(a)." (refuses 6 1 0)
    ∷ []

-- What each guard answers, and what the machine does with it.
unfoldable pub guards_cases : List Case
guards_cases =
    text "a, an integer" "kind(X,int,X?) :- integer(X?) | .\nkind(X,con,X?) :- constant(X?) | .\nkind(X,cmp,X?) :- compound(X?) | .\n?- kind(3,K,V)." (shows "run rest steps 1\nquery 1 tries 1 active 0 waiting 0 failed 0\nK = int\nV = 3\n")
    ∷ text "a, the empty list" "kind(X,int,X?) :- integer(X?) | .\nkind(X,con,X?) :- constant(X?) | .\nkind(X,cmp,X?) :- compound(X?) | .\n?- kind([],K,V)." (shows "run rest steps 1\nquery 1 tries 1 active 0 waiting 0 failed 0\nK = con\nV = []\n")
    ∷ text "a, a name" "kind(X,int,X?) :- integer(X?) | .\nkind(X,con,X?) :- constant(X?) | .\nkind(X,cmp,X?) :- compound(X?) | .\n?- kind(a,K,V)." (shows "run rest steps 1\nquery 1 tries 1 active 0 waiting 0 failed 0\nK = con\nV = a\n")
    ∷ text "a, a list" "kind(X,int,X?) :- integer(X?) | .\nkind(X,con,X?) :- constant(X?) | .\nkind(X,cmp,X?) :- compound(X?) | .\n?- kind([a],K,V)." (shows "run rest steps 1\nquery 1 tries 1 active 0 waiting 0 failed 0\nK = cmp\nV = [a]\n")
    ∷ text "a, a compound" "kind(X,int,X?) :- integer(X?) | .\nkind(X,con,X?) :- constant(X?) | .\nkind(X,cmp,X?) :- compound(X?) | .\n?- kind(f(B?),K,V)." (shows "run rest steps 1\nquery 1 tries 1 active 0 waiting 0 failed 0\nB = _1\nK = cmp\nV = f(_1?)\n")
    ∷ text "a, a reader" "kind(X,int,X?) :- integer(X?) | .\nkind(X,con,X?) :- constant(X?) | .\nkind(X,cmp,X?) :- compound(X?) | .\n?- kind(A?,K,V)." (shows "run rest steps 1\nquery 1 tries 1 active 0 waiting 1 failed 0\nA = _1\nK = _2\nV = _3\nwaiting kind(_1?,_2,_3) from 0 at 0\n")
    ∷ text "a, a writer" "kind(X,int,X?) :- integer(X?) | .\nkind(X,con,X?) :- constant(X?) | .\nkind(X,cmp,X?) :- compound(X?) | .\n?- kind(A,K,V)." (shows "run rest steps 1\nquery 1 tries 1 active 0 waiting 0 failed 1\nA = _1\nK = _2\nV = _3\nfailed kind(_1,_2,_3) from 0 at 0\n")
    ∷ text "a, compound and the empty list" "p(X,X?) :- compound(X?) | .\n?- p([],V)." (shows "run rest steps 1\nquery 1 tries 1 active 0 waiting 0 failed 1\nV = _1\nfailed p([],_1) from 0 at 0\n")
    ∷ text "a, constant and an integer" "p(X,X?) :- constant(X?) | .\n?- p(3,V)." (shows "run rest steps 1\nquery 1 tries 1 active 0 waiting 0 failed 0\nV = 3\n")
    ∷ text "b, ground waits on every reader" "g(X,X?) :- ground(X?) | .\nset(X,X?).\n?- g(f(A?,B?),Z), set(2,B)." (shows "run rest steps 3\nquery 1 tries 3 active 0 waiting 1 failed 0\nA = _1\nB = 2\nZ = _2\nwaiting g(f(_1?,2),_2) from 0 at 0\n")
    ∷ text "b, a writer behind a reader" "g(X,X?) :- ground(X?) | .\nset(X,X?).\n?- g(f(A?,B),Z)." (shows "run rest steps 1\nquery 1 tries 1 active 0 waiting 0 failed 1\nA = _1\nB = _2\nZ = _3\nfailed g(f(_1?,_2),_3) from 0 at 0\n")
    ∷ text "b, a writer before a reader" "g(X,X?) :- ground(X?) | .\nset(X,X?).\n?- g(f(B,A?),Z)." (shows "run rest steps 1\nquery 1 tries 1 active 0 waiting 0 failed 1\nB = _1\nA = _2\nZ = _3\nfailed g(f(_1,_2?),_3) from 0 at 0\n")
    ∷ text "b, woken along a chain" "g(X,X?) :- ground(X?) | .\nset(X,X?).\n?- g(A?,Z), set(B?,A), set(7,B)." (shows "run rest steps 4\nquery 1 tries 4 active 0 waiting 0 failed 0\nA = 7\nZ = 7\nB = 7\n")
    ∷ text "c, the head gave nothing to the reader of known(X?)" "mk(f(X),X?) :- known(X?) | .\n?- mk(A,B)." (shows "run rest steps 1\nquery 1 tries 1 active 0 waiting 0 failed 1\nA = _1\nB = _2\nfailed mk(_1,_2) from 0 at 0\n")
    ∷ text "c, the head gave nothing to the reader of ground(X?)" "mk(f(X),X?) :- ground(X?) | .\n?- mk(A,B)." (shows "run rest steps 1\nquery 1 tries 1 active 0 waiting 0 failed 1\nA = _1\nB = _2\nfailed mk(_1,_2) from 0 at 0\n")
    ∷ text "c, the head gave nothing to the reader of X? == a" "mk(f(X),X?) :- X? == a | .\n?- mk(A,B)." (shows "run rest steps 1\nquery 1 tries 1 active 0 waiting 0 failed 1\nA = _1\nB = _2\nfailed mk(_1,_2) from 0 at 0\n")
    ∷ text "d, what the trial gives is not seen" "h(1,Y,Y?) :- ground(Y?) | .\n?- h(A,A?,Z)." (shows "run rest steps 1\nquery 1 tries 1 active 0 waiting 1 failed 0\nA = _1\nZ = _2\nwaiting h(_1,_1?,_2) from 0 at 0\n")
    ∷ text "e, a compound written in the guard is known" "k(X,X?) :- known(f(X?)) | .\n?- k(A?,Z)." (shows "run rest steps 1\nquery 1 tries 1 active 0 waiting 0 failed 0\nA = _1\nZ = _1?\n")
    ∷ text "f, a reader in both" "e(X,Y,X?,Y?) :- X? == Y? | .\ne(X,Y,X?,no(Y?)) :- otherwise | .\n?- e(f(a,A?),f(b,B?),U,V)." (shows "run rest steps 1\nquery 1 tries 1 active 0 waiting 1 failed 0\nA = _1\nB = _2\nU = _3\nV = _4\nwaiting e(f(a,_1?),f(b,_2?),_3,_4) from 0 at 0\n")
    ∷ text "f, equal names" "e(X,Y,X?,Y?) :- X? == Y? | .\ne(X,Y,X?,no(Y?)) :- otherwise | .\n?- e(a,a,U,V)." (shows "run rest steps 1\nquery 1 tries 1 active 0 waiting 0 failed 0\nU = a\nV = a\n")
    ∷ text "f, other names" "e(X,Y,X?,Y?) :- X? == Y? | .\ne(X,Y,X?,no(Y?)) :- otherwise | .\n?- e(a,b,U,V)." (shows "run rest steps 1\nquery 1 tries 1 active 0 waiting 0 failed 0\nU = a\nV = no(b)\n")
    ∷ text "f, a list that is not done" "e(X,Y,X?,Y?) :- X? == Y? | .\ne(X,Y,X?,no(Y?)) :- otherwise | .\n?- e([1,2],[1|T?],U,V)." (shows "run rest steps 1\nquery 1 tries 1 active 0 waiting 1 failed 0\nT = _1\nU = _2\nV = _3\nwaiting e([1,2],[1|_1?],_2,_3) from 0 at 0\n")
    ∷ text "f, the writer is first" "e(X,Y,X?,Y?) :- X? == Y? | .\ne(X,Y,X?,no(Y?)) :- otherwise | .\n?- e(f(A),g(B?),U,V)." (shows "run rest steps 1\nquery 1 tries 1 active 0 waiting 0 failed 0\nA = _1\nB = _2\nU = f(_1)\nV = no(g(_2?))\n")
    ∷ text "f, the reader is first" "e(X,Y,X?,Y?) :- X? == Y? | .\ne(X,Y,X?,no(Y?)) :- otherwise | .\n?- e(f(A?),g(B),U,V)." (shows "run rest steps 1\nquery 1 tries 1 active 0 waiting 1 failed 0\nA = _1\nB = _2\nU = _3\nV = _4\nwaiting e(f(_1?),g(_2),_3,_4) from 0 at 0\n")
    ∷ text "f, a writer in the second" "e(X,Y,X?,Y?) :- X? == Y? | .\ne(X,Y,X?,no(Y?)) :- otherwise | .\n?- e(a,f(B),U,V)." (shows "run rest steps 1\nquery 1 tries 1 active 0 waiting 0 failed 0\nB = _1\nU = a\nV = no(f(_1))\n")
    ∷ text "f, equal compounds" "e(X,Y,X?,Y?) :- X? == Y? | .\ne(X,Y,X?,no(Y?)) :- otherwise | .\n?- e(f(1),f(1),U,V)." (shows "run rest steps 1\nquery 1 tries 1 active 0 waiting 0 failed 0\nU = f(1)\nV = f(1)\n")
    ∷ text "f, other functors" "e(X,Y,X?,Y?) :- X? == Y? | .\ne(X,Y,X?,no(Y?)) :- otherwise | .\n?- e(f(1),g(1),U,V)." (shows "run rest steps 1\nquery 1 tries 1 active 0 waiting 0 failed 0\nU = f(1)\nV = no(g(1))\n")
    ∷ text "f, other numbers of arguments" "e(X,Y,X?,Y?) :- X? == Y? | .\ne(X,Y,X?,no(Y?)) :- otherwise | .\n?- e(f(1),f(1,1),U,V)." (shows "run rest steps 1\nquery 1 tries 1 active 0 waiting 0 failed 0\nU = f(1)\nV = no(f(1,1))\n")
    ∷ text "f, a list and a compound" "e(X,Y,X?,Y?) :- X? == Y? | .\ne(X,Y,X?,no(Y?)) :- otherwise | .\n?- e([1],f(1,[]),U,V)." (shows "run rest steps 1\nquery 1 tries 1 active 0 waiting 0 failed 0\nU = [1]\nV = no(f(1,[]))\n")
    ∷ text "f, equal lists" "e(X,Y,X?,Y?) :- X? == Y? | .\ne(X,Y,X?,no(Y?)) :- otherwise | .\n?- e([1,x|y],[1,x|y],U,V)." (shows "run rest steps 1\nquery 1 tries 1 active 0 waiting 0 failed 0\nU = [1,x|y]\nV = [1,x|y]\n")
    ∷ text "g, otherwise waits with the earlier clause" "c(a,yes).\nc(X,other(X?)) :- otherwise | .\nset(X,X?).\n?- c(A?,R)." (shows "run rest steps 1\nquery 1 tries 1 active 0 waiting 1 failed 0\nA = _1\nR = _2\nwaiting c(_1?,_2) from 0 at 0\n")
    ∷ text "g, otherwise succeeds" "c(a,yes).\nc(X,other(X?)) :- otherwise | .\nset(X,X?).\n?- c(b,R)." (shows "run rest steps 1\nquery 1 tries 1 active 0 waiting 0 failed 0\nR = other(b)\n")
    ∷ text "g, otherwise is woken with the earlier clause" "c(a,yes).\nc(X,other(X?)) :- otherwise | .\nset(X,X?).\n?- c(A?,R), set(b,A)." (shows "run rest steps 3\nquery 1 tries 3 active 0 waiting 0 failed 0\nA = b\nR = other(b)\n")
    ∷ text "g, the first clause's otherwise" "f(X,X?) :- otherwise | .\n?- f(1,R)." (shows "run rest steps 1\nquery 1 tries 1 active 0 waiting 0 failed 0\nR = 1\n")
    ∷ text "g, otherwise looks at no later clause" "f(X,X?) :- otherwise | .\nf(b,c).\n?- f(A?,R)." (shows "run rest steps 1\nquery 1 tries 1 active 0 waiting 0 failed 0\nA = _1\nR = _1?\n")
    ∷ text "h, a circle has failed" "s(X,X?).\ns(X,Y?) :- otherwise | t(X?,Y).\n?- s(A?,A)." (shows "run rest steps 2\nquery 1 tries 2 active 0 waiting 0 failed 1\nA = _1?\nfailed t(_1?,_1) from 2 at 1\n")
    ∷ text "h, a circle is before a guard that waits" "s(X,X?) :- known(X?) | .\n?- s(A?,A)." (shows "run rest steps 1\nquery 1 tries 1 active 0 waiting 0 failed 1\nA = _1\nfailed s(_1?,_1) from 0 at 0\n")
    ∷ text "i, the first guard that does not succeed waits" "p(X,Y) :- integer(X?), integer(Y?) | q(X?,Y?).\n?- p(A?,b)." (shows "run rest steps 1\nquery 1 tries 1 active 0 waiting 1 failed 0\nA = _1\nwaiting p(_1?,b) from 0 at 0\n")
    ∷ text "i, the first guard that does not succeed fails" "p(X,Y) :- integer(Y?), integer(X?) | q(X?,Y?).\n?- p(A?,b)." (shows "run rest steps 1\nquery 1 tries 1 active 0 waiting 0 failed 1\nA = _1\nfailed p(_1?,b) from 0 at 0\n")
    ∷ text "j, otherwise behind a guard that waits" "c(a,B) :- x(B?).\nc(X,B) :- integer(B?), otherwise | y(X?,B?).\nset(X,X?).\n?- c(P?,Q?), set(1,Q)." (shows "run rest steps 3\nquery 1 tries 3 active 0 waiting 1 failed 0\nP = _1\nQ = 1\nwaiting c(_1?,1) from 0 at 0\n")
    ∷ text "j, otherwise before it" "c(a,B) :- x(B?).\nc(X,B) :- otherwise, integer(B?) | y(X?,B?).\nset(X,X?).\n?- c(P?,Q?), set(1,Q)." (shows "run rest steps 2\nquery 1 tries 2 active 0 waiting 1 failed 0\nP = _1\nQ = 1\nwaiting c(_1?,1) from 0 at 0\n")
    ∷ text "k, a later place that fails" "w(1,2).\nw(X,Y) :- otherwise | r(X?,Y?).\n?- w(A?,1)." (shows "run rest steps 2\nquery 1 tries 2 active 0 waiting 0 failed 1\nA = _1\nfailed r(_1?,1) from 2 at 1\n")
    ∷ text "l, a ground value shared" "d(X) :- ground(X?) | q(X?), q(X?).\nset(X,X?).\n?- d(A?), set(f(B?),A), set(1,B)." (shows "run rest steps 6\nquery 1 tries 6 active 0 waiting 0 failed 2\nA = f(1)\nB = 1\nfailed q(f(1)) from 1 at 4\nfailed q(f(1)) from 1 at 4\n")
    ∷ text "l, not yet ground" "d(X) :- ground(X?) | q(X?), q(X?).\nset(X,X?).\n?- d(A?), set(f(B?),A)." (shows "run rest steps 3\nquery 1 tries 3 active 0 waiting 1 failed 0\nA = f(_1?)\nB = _1\nwaiting d(f(_1?)) from 0 at 0\n")
    ∷ text "m, distribute" "dist([X|Xs],Ys?,Zs?) :- ground(X?) | put(X?,Y1?,Ys), put(X?,Z1?,Zs), dist(Xs?,Y1,Z1).\ndist([],[],[]).\nput(X,Xs,[X?|Xs?]).\n?- dist([1,f(a)|T?],A,B)." (shows "run rest steps 7\nquery 1 tries 7 active 0 waiting 1 failed 0\nT = _1\nA = [1,f(a)|_2?]\nB = [1,f(a)|_3?]\nwaiting dist(_1?,_2,_3) from 1 at 4\n")
    ∷ text "n, a value that doubles" "d(0,X,X?) :- ground(X?) | .\nd(s(N),X,Z?) :- ground(X?) | d(N?,f(X?,X?),Z).\n?- d(s(s(s(0))),a,Z)." (shows "run rest steps 4\nquery 1 tries 4 active 0 waiting 0 failed 0\nZ = f(f(f(a,a),f(a,a)),f(f(a,a),f(a,a)))\n")
    ∷ with_room 9 3 9 (text "o, guards are charged" "k(X,X?) :- known(f(X?)) | .\n?- k(1,Z)." (shows "run room steps 0\nquery 1 tries 0 active 1 waiting 0 failed 0\nZ = _1\nactive k(1,_1) from 0 at 0\n"))
    ∷ with_room 9 4 9 (text "o, guards are charged, and fit" "k(X,X?) :- known(f(X?)) | .\n?- k(1,Z)." (shows "run rest steps 1\nquery 1 tries 1 active 0 waiting 0 failed 0\nZ = 1\n"))
    ∷ with_room 9 2 9 (text "o, a comparison is charged" "k(X,X?) :- X? == 1 | .\n?- k(1,Z)." (shows "run room steps 0\nquery 1 tries 0 active 1 waiting 0 failed 0\nZ = _1\nactive k(1,_1) from 0 at 0\n"))
    ∷ with_room 9 3 9 (text "o, a comparison is charged, and fits" "k(X,X?) :- X? == 1 | .\n?- k(1,Z)." (shows "run rest steps 1\nquery 1 tries 1 active 0 waiting 0 failed 0\nZ = 1\n"))
    ∷ with_room 9 2 9 (text "o, otherwise is not charged" "k(X,X?) :- otherwise | .\n?- k(1,Z)." (shows "run rest steps 1\nquery 1 tries 1 active 0 waiting 0 failed 0\nZ = 1\n"))
    ∷ text "p, compounds that are called ground" "p(X) :- ground(X?) == ground(a) | q(X?).\n?- p(a), p(b), p(A?)." (shows "run rest steps 4\nquery 1 tries 4 active 0 waiting 1 failed 2\nA = _1\nwaiting p(_1?) from 0 at 0\nfailed p(b) from 0 at 0\nfailed q(a) from 1 at 1\n")
    ∷ text "a user's procedure that is called as a guard is" "integer(X) :- integer(X?) | seen(X?).\np(X) :- integer(X?).\n?- p(1), p(a)." (shows "run rest steps 5\nquery 1 tries 5 active 0 waiting 0 failed 2\nfailed integer(a) from 2 at 2\nfailed seen(1) from 1 at 3\n")
    ∷ text "a guard follows what the head gave, again and again" "k(X,X?) :- integer(X?) | .\nset(X,X?).\n?- set(B?,A), set(C?,B), set(7,C), k(A?,Z)." (shows "run rest steps 4\nquery 1 tries 4 active 0 waiting 0 failed 0\nB = 7\nA = 7\nC = 7\nZ = 7\n")
    ∷ text "q, a later clause though an earlier waits" "m(X,Y,R?) :- known(X?) | one(X?,Y?,R).\nm(X,Y,R?) :- known(Y?) | two(X?,Y?,R).\n?- m(A?,b,R)." (shows "run rest steps 2\nquery 1 tries 2 active 0 waiting 0 failed 1\nA = _1\nR = _2?\nfailed two(_1?,b,_2) from 2 at 1\n")
    ∷ []

unfoldable pub guards_words : Unit {0}
unfolding words_words clause_of clause accepted clauses_cases guards_cases
guards_words = tt
