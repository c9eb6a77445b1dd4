-- K1 to K12 of document 01 (K12 as document 02 changes it), and a case for each line of 'Errors that look right' that a case can show.
use Prim.Native.Nat.{ℕ}
use mathlib.Core.List.{List, [], ◌∷◌, ◌++◌}
use Rattle.meaning.specs.Case.{Case, refuses}
use Rattle.meaning.proofs.Cases.Words.{text, ruled, with_budget, with_room, shows, words_words}

unfoldable pub session : List Case
session =
    text "K1" "" (refuses 6 0 0)
    ∷ ruled "K2" "?- tag([3|A?],Z), end(A)." (shows "run rest steps 3\nquery 1 tries 3 active 0 waiting 0 failed 0\nA = []\nZ = [hit(3)]\n")
    ∷ ruled "K3" "?- tag(A?,Z), end(A).\n?- tag([1|B?],Y).\n" (shows "run rest steps 5\nquery 1 tries 3 active 0 waiting 0 failed 0\nA = []\nZ = []\nquery 2 tries 2 active 0 waiting 1 failed 0\nB = _1\nY = [hit(1)|_2?]\nwaiting tag(_1?,_2) from 1 at 1\n")
    ∷ ruled "K4" "?- same(A?,A)." (shows "run rest steps 1\nquery 1 tries 1 active 0 waiting 0 failed 1\nA = _1\nfailed same(_1?,_1) from 0 at 0\n")
    ∷ ruled "K5" "?- same(A,B)." (shows "run rest steps 1\nquery 1 tries 1 active 0 waiting 0 failed 1\nA = _1\nB = _2\nfailed same(_1,_2) from 0 at 0\n")
    ∷ ruled "K6" "?- same(7,B)." (shows "run rest steps 1\nquery 1 tries 1 active 0 waiting 0 failed 0\nB = 7\n")
    ∷ ruled "K7" "?- same(1,1)." (shows "run rest steps 1\nquery 1 tries 1 active 0 waiting 0 failed 1\nfailed same(1,1) from 0 at 0\n")
    ∷ ruled "K8" "?- two(A,A?)." (shows "run rest steps 1\nquery 1 tries 1 active 0 waiting 1 failed 0\nA = _1\nwaiting two(_1,_1?) from 0 at 0\n")
    ∷ with_budget 0 (ruled "K9" "?- tag([3|A?],Z), end(A)." (shows "run budget steps 0\nquery 1 tries 0 active 2 waiting 0 failed 0\nA = _1\nZ = _2\nactive tag([3|_1?],_2) from 0 at 0\nactive end(_1) from 0 at 0\n"))
    ∷ with_room 5 10 128 (ruled "K10, 5 pairs and 10 compounds" "?- tag([3|A?],Z), end(A)." (shows "run rest steps 3\nquery 1 tries 3 active 0 waiting 0 failed 0\nA = []\nZ = [hit(3)]\n"))
    ∷ with_room 4 10 128 (ruled "K10, 4 pairs" "?- tag([3|A?],Z), end(A)." (shows "run room steps 0\nquery 1 tries 0 active 2 waiting 0 failed 0\nA = _1\nZ = _2\nactive tag([3|_1?],_2) from 0 at 0\nactive end(_1) from 0 at 0\n"))
    ∷ with_room 5 9 128 (ruled "K10, 9 compounds" "?- tag([3|A?],Z), end(A)." (shows "run room steps 2\nquery 1 tries 2 active 1 waiting 0 failed 0\nA = []\nZ = [hit(3)|_1?]\nactive tag([],_1) from 1 at 1\n"))
    ∷ text "K11, a writer alone in a clause" "p(X)." (refuses 9 1 2)
    ∷ text "K11, a writer twice" "?- p(X,X)." (refuses 5 1 7)
    ∷ text "K11, a reader alone in a query" "?- p(X?)." (shows "run rest steps 1\nquery 1 tries 1 active 0 waiting 0 failed 1\nX = _1\nfailed p(_1?) from 0 at 0\n")
    ∷ ruled "K12, a failed goal by T-03 of document 02" "?- w(A?,1)." (shows "run rest steps 1\nquery 1 tries 1 active 0 waiting 0 failed 1\nA = _1\nfailed w(_1?,1) from 0 at 0\n")
    ∷ []

-- Errors that look right.
unfoldable pub errors : List Case
errors =
    text "stopping at the first clause that does not fail starves one input of a merge" "merge([X|Xs],Ys,[X?|Zs?]) :- merge(Ys?,Xs?,Zs).\nmerge(Xs,[Y|Ys],[Y?|Zs?]) :- merge(Xs?,Ys?,Zs).\n?- merge(A?,[1|B?],Z)." (shows "run rest steps 2\nquery 1 tries 2 active 0 waiting 1 failed 0\nA = _1\nB = _2\nZ = [1|_3?]\nwaiting merge(_1?,_2?,_3) from 2 at 1\n")
    ∷ with_budget 3 (text "goals wake behind the body, in the order in which they began to wait" "q(2).\nr(1).\nboth(1,2) :- s(1).\ns(1).\n?- q(B?), r(A?), both(A,B)." (shows "run budget steps 3\nquery 1 tries 3 active 3 waiting 0 failed 0\nB = 2\nA = 1\nactive s(1) from 3 at 3\nactive q(2) from 0 at 0\nactive r(1) from 0 at 0\n"))
    ∷ ruled "unassigned pairs are numbered in each section" "?- end(A?).\n?- end(A?), end(B?)." (shows "run rest steps 3\nquery 1 tries 1 active 0 waiting 1 failed 0\nA = _1\nwaiting end(_1?) from 0 at 0\nquery 2 tries 2 active 0 waiting 2 failed 0\nA = _1\nB = _2\nwaiting end(_1?) from 0 at 0\nwaiting end(_2?) from 0 at 0\n")
    ∷ ruled "a reader against a head's reader fails" "?- same(7,B?)." (shows "run rest steps 1\nquery 1 tries 1 active 0 waiting 0 failed 1\nB = _1\nfailed same(7,_1?) from 0 at 0\n")
    ∷ with_budget 4 (text "a written value doubles each round" "mk(f(C,C?)).\np(f(R?,S)) :- mk(R), p(S?).\n?- mk(A), p(A?)." (shows "run budget steps 4\nquery 1 tries 4 active 2 waiting 0 failed 0\nA = f(f(_1?,_1?),f(_1?,_1?))\nactive mk(_1) from 2 at 4\nactive p(_1?) from 2 at 4\n"))
    ∷ with_budget 3 (ruled "rest is seen before budget" "?- tag([3|A?],Z), end(A)." (shows "run rest steps 3\nquery 1 tries 3 active 0 waiting 0 failed 0\nA = []\nZ = [hit(3)]\n"))
    ∷ with_budget 2 (ruled "the budget ends a run" "?- tag([3|A?],Z), end(A)." (shows "run budget steps 2\nquery 1 tries 2 active 1 waiting 0 failed 0\nA = []\nZ = [hit(3)|_1?]\nactive tag([],_1) from 1 at 1\n"))
    ∷ ruled "another query's goals are not woken" "?- end(B?).\n?- same(7,A)." (shows "run rest steps 2\nquery 1 tries 1 active 0 waiting 1 failed 0\nB = _1\nwaiting end(_1?) from 0 at 0\nquery 2 tries 1 active 0 waiting 0 failed 0\nA = 7\n")
    ∷ ruled "elements are parted by commas, a tail by a bar" "?- same([1,[2,3],x|T?],B)." (shows "run rest steps 1\nquery 1 tries 1 active 0 waiting 0 failed 0\nT = _1\nB = [1,[2,3],x|_1?]\n")
    ∷ []

unfoldable pub session_words : Unit {0}
unfolding words_words session errors
session_words = tt
