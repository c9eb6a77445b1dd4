-- The machine and the report: following, waiting and waking, circles, room, all places of a comparison, how values are written, and where goals come from.
use Prim.Native.Nat.{ℕ}
use mathlib.Core.List.{List, [], ◌∷◌, ◌++◌}
use Rattle.meaning.specs.Case.{Case}
use Rattle.meaning.proofs.Cases.Words.{text, ruled, with_budget, with_room, shows, words_words}

unfoldable pub machine_cases : List Case
machine_cases =
    ruled "a trial waits on the reader that following reached" "?- same(B?,A), end(A?), same([],B)." (shows "run rest steps 4\nquery 1 tries 4 active 0 waiting 0 failed 0\nB = []\nA = []\n")
    ∷ ruled "a goal's term is followed again and again" "?- same(B?,A), same(C?,B), same(D?,C), same([],D), end(A?)." (shows "run rest steps 5\nquery 1 tries 5 active 0 waiting 0 failed 0\nB = []\nA = []\nC = []\nD = []\n")
    ∷ text "inside a compound too" "p(f(1)).\ns(X,X?).\n?- s(1,A), p(f(A?))." (shows "run rest steps 2\nquery 1 tries 2 active 0 waiting 0 failed 0\nA = 1\n")
    ∷ ruled "woken by an unassigned reader too, and behind the others when it waits again" "?- end(A?), w(C?,2), same(B?,A)." (shows "run rest steps 4\nquery 1 tries 4 active 0 waiting 2 failed 0\nA = _1?\nC = _2\nB = _1\nwaiting w(_2?,2) from 0 at 0\nwaiting end(_1?) from 0 at 0\n")
    ∷ text "a goal waits on a reader of each clause that waits" "m(1,X,X?).\nm(X,2,X?).\ne(2).\n?- m(A?,B?,C), e(B)." (shows "run rest steps 3\nquery 1 tries 3 active 0 waiting 0 failed 0\nA = _1\nB = 2\nC = _1?\n")
    ∷ text "and is woken by the first clause's reader too" "m(1,X,X?).\nm(X,2,X?).\ne(1).\n?- m(A?,B?,C), e(A)." (shows "run rest steps 3\nquery 1 tries 3 active 0 waiting 0 failed 0\nA = 1\nB = _1\nC = _1?\n")
    ∷ with_room 9 9 2 (text "failed goals count in the goal figure" "d(1) :- e(1), e(1).\ne(1).\n?- e(2), d(1)." (shows "run room steps 1\nquery 1 tries 1 active 1 waiting 0 failed 1\nactive d(1) from 0 at 0\nfailed e(2) from 0 at 0\n"))
    ∷ with_room 9 9 3 (text "as many goals as the figure" "d(1) :- e(1), e(1).\ne(1).\n?- e(2), d(1)." (shows "run rest steps 4\nquery 1 tries 4 active 0 waiting 0 failed 1\nfailed e(2) from 0 at 0\n"))
    ∷ with_room 9 9 2 (text "waiting goals count in the goal figure" "d(1) :- e(1), e(1).\ne(1).\n?- e(A?), d(1)." (shows "run room steps 1\nquery 1 tries 1 active 1 waiting 1 failed 0\nA = _1\nactive d(1) from 0 at 0\nwaiting e(_1?) from 0 at 0\n"))
    ∷ with_room 9 9 1 (text "room is judged on the first clause that succeeds" "c(1) :- e(1), e(1).\nc(1).\ne(1).\n?- c(1)." (shows "run room steps 0\nquery 1 tries 0 active 1 waiting 0 failed 0\nactive c(1) from 0 at 0\n"))
    ∷ with_room 1 1 1 (text "waiting and failing need no room" "e(f(X,X?)).\n?- e(A?)." (shows "run rest steps 1\nquery 1 tries 1 active 0 waiting 1 failed 0\nA = _1\nwaiting e(_1?) from 0 at 0\n"))
    ∷ with_budget 1 (with_room 1 1 1 (text "a reduction that does not fit ends the run" "e(1).\n?- e(1)." (shows "run room steps 0\nquery 1 tries 0 active 1 waiting 0 failed 0\nactive e(1) from 0 at 0\n")))
    ∷ with_budget 0 (with_room 1 1 1 (text "budget is seen before room" "e(1).\n?- e(1)." (shows "run budget steps 0\nquery 1 tries 0 active 1 waiting 0 failed 0\nactive e(1) from 0 at 0\n")))
    ∷ with_room 2 3 1 (text "the head is charged too" "d(X) :- e(X?).\ne(1).\n?- d(1)." (shows "run room steps 1\nquery 1 tries 1 active 1 waiting 0 failed 0\nactive e(1) from 1 at 1\n"))
    ∷ with_room 1 4 1 (text "the head is charged, and fits" "d(X) :- e(X?).\ne(1).\n?- d(1)." (shows "run rest steps 2\nquery 1 tries 2 active 0 waiting 0 failed 0\n"))
    ∷ with_room 1 9 9 (text "pairs charged are not given back" "d(X) :- e(X?).\ne(X) :- f(X?).\n?- d(1)." (shows "run room steps 1\nquery 1 tries 1 active 1 waiting 0 failed 0\nactive e(1) from 1 at 1\n"))
    ∷ text "a circle fails the trial, and later clauses are tried" "c(X,X?).\nc(X,2) :- e(X?).\ne(2).\n?- c(A?,A)." (shows "run rest steps 2\nquery 1 tries 2 active 0 waiting 0 failed 0\nA = 2\n")
    ∷ text "a circle through a structure" "c(X,f(X?)).\n?- c(A?,A)." (shows "run rest steps 1\nquery 1 tries 1 active 0 waiting 0 failed 1\nA = _1\nfailed c(_1?,_1) from 0 at 0\n")
    ∷ ruled "a circle over two steps" "?- same(B?,A), same(A?,B)." (shows "run rest steps 2\nquery 1 tries 2 active 0 waiting 0 failed 1\nB = _1\nA = _1?\nfailed same(_1?,_1) from 0 at 0\n")
    ∷ ruled "a circle of six links, each value behind another pair" "?- same(f(D?,B?),A), same(g(E?,C?),B), same(h(F?,A?),C)." (shows "run rest steps 3\nquery 1 tries 3 active 0 waiting 0 failed 1\nD = _1\nB = g(_2?,_3?)\nA = f(_1?,g(_2?,_3?))\nE = _2\nC = _3\nF = _4\nfailed same(h(_4?,f(_1?,g(_2?,_3?))),_3) from 0 at 0\n")
    ∷ text "a circle of a clause's pairs alone" "c(1) :- s(B?,B).\ns(X,X?).\n?- d(A), c(1)." (shows "run rest steps 3\nquery 1 tries 3 active 0 waiting 0 failed 2\nA = _1\nfailed d(_1) from 0 at 0\nfailed s(_2?,_2) from 1 at 2\n")
    ∷ text "a procedure with no clause fails" "p(1).\n?- q(A)." (shows "run rest steps 1\nquery 1 tries 1 active 0 waiting 0 failed 1\nA = _1\nfailed q(_1) from 0 at 0\n")
    ∷ text "a clause with more arguments is none of the procedure" "p(1,2).\n?- p(A?)." (shows "run rest steps 1\nquery 1 tries 1 active 0 waiting 0 failed 1\nA = _1\nfailed p(_1?) from 0 at 0\n")
    ∷ text "clauses are tried in text order" "p(A,1,A?).\np(A,2,A?).\n?- p(x,N,M)." (shows "run rest steps 1\nquery 1 tries 1 active 0 waiting 0 failed 0\nN = 1\nM = x\n")
    ∷ text "a list cell is no compound with a name, and f(1) no f(1,1)" "p([1]).\np(f(1)).\n?- p(f(1,1)), p(g(1)), p([1|x]), p(f(A)), p([B])." (shows "run rest steps 5\nquery 1 tries 5 active 0 waiting 0 failed 3\nA = 1\nB = 1\nfailed p(f(1,1)) from 0 at 0\nfailed p(g(1)) from 0 at 0\nfailed p([1|x]) from 0 at 0\n")
    ∷ text "a compound against a head's reader fails" "p(X?,X).\n?- p(f(1),2)." (shows "run rest steps 1\nquery 1 tries 1 active 0 waiting 0 failed 1\nfailed p(f(1),2) from 0 at 0\n")
    ∷ text "a compound against a constant fails" "p(1).\np([]).\n?- p(f(1)), p([1])." (shows "run rest steps 2\nquery 1 tries 2 active 0 waiting 0 failed 2\nfailed p(f(1)) from 0 at 0\nfailed p([1]) from 0 at 0\n")
    ∷ text "another number of arguments fails, though one of them would wait" "p(f(1,2)).\n?- p(f(A?))." (shows "run rest steps 1\nquery 1 tries 1 active 0 waiting 0 failed 1\nA = _1\nfailed p(f(_1?)) from 0 at 0\n")
    ∷ text "a list cell against a compound of two arguments fails" "p([1]).\nq(f(1,[])).\n?- p(f(1,[])), q([1])." (shows "run rest steps 2\nquery 1 tries 2 active 0 waiting 0 failed 2\nfailed p(f(1,[])) from 0 at 0\nfailed q([1]) from 0 at 0\n")
    ∷ text "integers, names and `[]` are never equal" "i(7).\nn(a).\ne([]).\n?- i(a), i([]), n(7), n([]), e(7), e(a)." (shows "run rest steps 6\nquery 1 tries 6 active 0 waiting 0 failed 6\nfailed i(a) from 0 at 0\nfailed i([]) from 0 at 0\nfailed n(7) from 0 at 0\nfailed n([]) from 0 at 0\nfailed e(7) from 0 at 0\nfailed e(a) from 0 at 0\n")
    ∷ text "integers are equal by value and sign" "p(7).\np(-8).\n?- p(-7), p(7), p(-8), p(8)." (shows "run rest steps 4\nquery 1 tries 4 active 0 waiting 0 failed 2\nfailed p(-7) from 0 at 0\nfailed p(8) from 0 at 0\n")
    ∷ with_budget 4 (text "one queue for all queries" "p(1) :- p(2).\np(2).\n?- p(1).\n?- p(1)." (shows "run rest steps 4\nquery 1 tries 2 active 0 waiting 0 failed 0\nquery 2 tries 2 active 0 waiting 0 failed 0\n"))
    ∷ with_budget 3 (text "queries take turns" "p(1) :- p(2).\np(2).\n?- p(1).\n?- p(1)." (shows "run budget steps 3\nquery 1 tries 2 active 0 waiting 0 failed 0\nquery 2 tries 1 active 1 waiting 0 failed 0\nactive p(2) from 1 at 1\n"))
    ∷ []

-- Document 02, T-03: "The comparison shall go through all places: any failing place fails the trial, and otherwise the trial waits on every reader needed. K12 becomes a failed goal. K8 stays. The circle test follows."
unfoldable pub places_cases : List Case
places_cases =
    text "a failing place behind waiting ones, inside a compound and outside" "n(f(1,2),3).\n?- n(f(A?,9),B?), n(f(C?,D?),E), n(F?,4)." (shows "run rest steps 3\nquery 1 tries 3 active 0 waiting 1 failed 2\nA = _1\nB = _2\nC = _3\nD = _4\nE = _5\nF = _6\nwaiting n(f(_3?,_4?),_5) from 0 at 0\nfailed n(f(_1?,9),_2?) from 0 at 0\nfailed n(_6?,4) from 0 at 0\n")
    ∷ text "a failing place deeper than a waiting one" "d(1,f(g(1,2))).\n?- d(A?,f(g(1,3))), d(B?,f(g(C?,3)))." (shows "run rest steps 2\nquery 1 tries 2 active 0 waiting 0 failed 2\nA = _1\nB = _2\nC = _3\nfailed d(_1?,f(g(1,3))) from 0 at 0\nfailed d(_2?,f(g(_3?,3))) from 0 at 0\n")
    ∷ text "a failing place behind a deeper waiting one" "p(f(1),1).\n?- p(f(A?),2)." (shows "run rest steps 1\nquery 1 tries 1 active 0 waiting 0 failed 1\nA = _1\nfailed p(f(_1?),2) from 0 at 0\n")
    ∷ text "a failing place before a waiting one" "p(1,1).\n?- p(2,A?)." (shows "run rest steps 1\nquery 1 tries 1 active 0 waiting 0 failed 1\nA = _1\nfailed p(2,_1?) from 0 at 0\n")
    ∷ text "behind a waiting place another functor or number of arguments fails, and a constant" "c(1,f(1)).\n?- c(A?,g(1)), c(B?,f(1,2)), c(C?,7), c(D?,f(E?))." (shows "run rest steps 4\nquery 1 tries 4 active 0 waiting 1 failed 3\nA = _1\nB = _2\nC = _3\nD = _4\nE = _5\nwaiting c(_4?,f(_5?)) from 0 at 0\nfailed c(_1?,g(1)) from 0 at 0\nfailed c(_2?,f(1,2)) from 0 at 0\nfailed c(_3?,7) from 0 at 0\n")
    ∷ text "behind a waiting place a reader against a head's reader fails" "u(1,X?,X).\n?- u(A?,B?,C?)." (shows "run rest steps 1\nquery 1 tries 1 active 0 waiting 0 failed 1\nA = _1\nB = _2\nC = _3\nfailed u(_1?,_2?,_3?) from 0 at 0\n")
    ∷ text "behind a waiting place a writer against a head's writer fails" "u(1,X,X?).\n?- u(A?,B,C)." (shows "run rest steps 1\nquery 1 tries 1 active 0 waiting 0 failed 1\nA = _1\nB = _2\nC = _3\nfailed u(_1?,_2,_3) from 0 at 0\n")
    ∷ text "a clause that fails needs none of its readers" "m(1,9,1).\nm(X,8,2) :- q(X?).\nset(X,X?).\n?- m(A?,8,C?), set(3,A)." (shows "run rest steps 2\nquery 1 tries 2 active 0 waiting 1 failed 0\nA = 3\nC = _1\nwaiting m(3,8,_1?) from 0 at 0\n")
    ∷ text "one clause fails and another waits" "w(1,2).\nw(3,1).\nset(X,X?).\n?- w(A?,1), w(B?,1), set(1,B)." (shows "run rest steps 4\nquery 1 tries 4 active 0 waiting 1 failed 1\nA = _1\nB = 1\nwaiting w(_1?,1) from 0 at 0\nfailed w(1,1) from 0 at 0\n")
    ∷ text "the second reader of a trial wakes" "two(1,1).\nset(X,X?).\n?- two(A?,B?), set(1,B)." (shows "run rest steps 3\nquery 1 tries 3 active 0 waiting 1 failed 0\nA = _1\nB = 1\nwaiting two(_1?,1) from 0 at 0\n")
    ∷ text "the first reader of a trial wakes" "two(1,1).\nset(X,X?).\n?- two(A?,B?), set(1,A)." (shows "run rest steps 3\nquery 1 tries 3 active 0 waiting 1 failed 0\nA = 1\nB = _1\nwaiting two(1,_1?) from 0 at 0\n")
    ∷ text "and one between two others" "t(1,1,1).\nset(X,X?).\n?- t(A?,B?,C?), set(1,B)." (shows "run rest steps 3\nquery 1 tries 3 active 0 waiting 1 failed 0\nA = _1\nB = 1\nC = _2\nwaiting t(_1?,1,_2?) from 0 at 0\n")
    ∷ text "woken by a reader whose value fails, though another waits" "two(1,1).\nset(X,X?).\n?- two(A?,B?), set(2,B)." (shows "run rest steps 3\nquery 1 tries 3 active 0 waiting 0 failed 1\nA = _1\nB = 2\nfailed two(_1?,2) from 0 at 0\n")
    ∷ text "a second reader inside a compound wakes, and one behind the compound" "n(f(1,2),3).\nset(X,X?).\n?- n(f(A?,B?),C?), set(2,B).\n?- n(f(A?,B?),C?), set(3,C)." (shows "run rest steps 6\nquery 1 tries 3 active 0 waiting 1 failed 0\nA = _1\nB = 2\nC = _2\nwaiting n(f(_1?,2),_2?) from 0 at 0\nquery 2 tries 3 active 0 waiting 1 failed 0\nA = _1\nB = _2\nC = 3\nwaiting n(f(_1?,_2?),3) from 0 at 0\n")
    ∷ ruled "a further reader is the one that following reached" "?- same(B?,A), two(C?,A?), same(1,B)." (shows "run rest steps 4\nquery 1 tries 4 active 0 waiting 1 failed 0\nB = 1\nA = 1\nC = _1\nwaiting two(_1?,1) from 0 at 0\n")
    ∷ text "both readers assigned in one step wake once" "two(1,1).\nfan(1,1).\n?- two(A?,B?), fan(B,A)." (shows "run rest steps 3\nquery 1 tries 3 active 0 waiting 0 failed 0\nA = 1\nB = 1\n")
    ∷ text "a goal already woken is not woken by its other reader" "two(1,1).\nset(X,X?).\n?- two(A?,B?), set(1,A), set(1,B)." (shows "run rest steps 4\nquery 1 tries 4 active 0 waiting 0 failed 0\nA = 1\nB = 1\n")
    ∷ text "a goal that has failed is not woken by its other reader" "two(1,1).\ng(1,1).\nset(X,X?).\n?- two(A?,B?), g(C?,B), set(2,A), set(1,C)." (shows "run rest steps 6\nquery 1 tries 6 active 0 waiting 0 failed 1\nA = 2\nB = 1\nC = 1\nfailed two(2,1) from 0 at 0\n")
    ∷ text "a reduced goal is not woken, but its body goal that waits on the reader is" "p(1,1).\np(2,X) :- q(X?).\nq(5).\ng(1,5).\nl(X?) :- k(X).\nk(X?) :- o(X).\no(1).\nset(X,X?).\n?- p(A?,B?), g(C?,B), set(2,A), l(C)." (shows "run rest steps 11\nquery 1 tries 11 active 0 waiting 0 failed 0\nA = 2\nB = 5\nC = 1\n")
    ∷ text "woken by one reader a goal waits on the others, behind goals that waited before" "two(1,1).\nend([]).\nset(X,X?).\n?- two(A?,B?), end(C?), set(1,B)." (shows "run rest steps 4\nquery 1 tries 4 active 0 waiting 2 failed 0\nA = _1\nB = 1\nC = _2\nwaiting end(_2?) from 0 at 0\nwaiting two(_1?,1) from 0 at 0\n")
    ∷ text "a head's compound under a reader is one place" "n(f(1,2),3).\nset(X,X?).\n?- n(A?,3), set(f(9,B?),A)." (shows "run rest steps 3\nquery 1 tries 3 active 0 waiting 0 failed 1\nA = f(9,_1?)\nB = _1\nfailed n(f(9,_1?),3) from 0 at 0\n")
    ∷ text "a head's writer needs no reader, before a waiting place" "r(X,1) :- q(X?).\nq(2).\nset(X,X?).\n?- r(A?,B?), set(2,A)." (shows "run rest steps 2\nquery 1 tries 2 active 0 waiting 1 failed 0\nA = 2\nB = _1\nwaiting r(2,_1?) from 0 at 0\n")
    ∷ text "a head's writer needs no reader, behind a waiting place" "r(1,X) :- q(X?).\nq(2).\nset(X,X?).\n?- r(A?,B?), set(2,B)." (shows "run rest steps 2\nquery 1 tries 2 active 0 waiting 1 failed 0\nA = _1\nB = 2\nwaiting r(_1?,2) from 0 at 0\n")
    ∷ ruled "a value that the trial gives is not seen" "?- w(A,A?)." (shows "run rest steps 1\nquery 1 tries 1 active 0 waiting 1 failed 0\nA = _1\nwaiting w(_1,_1?) from 0 at 0\n")
    ∷ ruled "nor by a place that stands before it" "?- w(A?,A)." (shows "run rest steps 1\nquery 1 tries 1 active 0 waiting 1 failed 0\nA = _1\nwaiting w(_1?,_1) from 0 at 0\n")
    ∷ ruled "and a goal waits though the value given would agree" "?- two(A?,A)." (shows "run rest steps 1\nquery 1 tries 1 active 0 waiting 1 failed 0\nA = _1\nwaiting two(_1?,_1) from 0 at 0\n")
    ∷ text "a waiting trial has no circle test" "h(X,X?,1).\n?- h(A?,A,B?)." (shows "run rest steps 1\nquery 1 tries 1 active 0 waiting 1 failed 0\nA = _1\nB = _2\nwaiting h(_1?,_1,_2?) from 0 at 0\n")
    ∷ text "nor where the waiting place stands first" "h(1,X,X?).\n?- h(B?,A?,A)." (shows "run rest steps 1\nquery 1 tries 1 active 0 waiting 1 failed 0\nB = _1\nA = _2\nwaiting h(_1?,_2?,_2) from 0 at 0\n")
    ∷ text "the circle test follows where all places agree" "h(X,X?,1).\nset(X,X?).\n?- h(A?,A,B?), set(1,B)." (shows "run rest steps 3\nquery 1 tries 3 active 0 waiting 0 failed 1\nA = _1\nB = 1\nfailed h(_1?,_1,1) from 0 at 0\n")
    ∷ text "a reader that two clauses need wakes" "m(1,1).\nm(2,2).\nset(X,X?).\n?- m(A?,B?), set(7,A)." (shows "run rest steps 3\nquery 1 tries 3 active 0 waiting 0 failed 1\nA = 7\nB = _1\nfailed m(7,_1?) from 0 at 0\n")
    ∷ text "readers of the first clause, of both and of the second" "m(1,1,X,X?).\nm(X,2,2,X?).\nset(X,X?).\n?- m(A?,B?,C?,D), set(7,A).\n?- m(A?,B?,C?,D), set(2,B).\n?- m(A?,B?,C?,D), set(7,C)." (shows "run rest steps 9\nquery 1 tries 3 active 0 waiting 1 failed 0\nA = 7\nB = _1\nC = _2\nD = _3\nwaiting m(7,_1?,_2?,_3) from 0 at 0\nquery 2 tries 3 active 0 waiting 1 failed 0\nA = _1\nB = 2\nC = _2\nD = _3\nwaiting m(_1?,2,_2?,_3) from 0 at 0\nquery 3 tries 3 active 0 waiting 1 failed 0\nA = _1\nB = _2\nC = 7\nD = _3\nwaiting m(_1?,_2?,7,_3) from 0 at 0\n")
    ∷ []

unfoldable pub report_cases : List Case
report_cases =
    ruled "a failed goal is written with what was assigned later" "?- same(C,A?), end(A)." (shows "run rest steps 2\nquery 1 tries 2 active 0 waiting 0 failed 1\nC = _1\nA = []\nfailed same(_1,[]) from 0 at 0\n")
    ∷ ruled "a pair assigned a reader is written as the reader" "?- same(B?,A)." (shows "run rest steps 1\nquery 1 tries 1 active 0 waiting 0 failed 0\nB = _1\nA = _1?\n")
    ∷ ruled "numbers in order of first appearance, the values' lines included" "?- same(f(B?,C?),A), end(D?)." (shows "run rest steps 2\nquery 1 tries 2 active 0 waiting 1 failed 0\nB = _1\nC = _2\nA = f(_1?,_2?)\nD = _3\nwaiting end(_3?) from 0 at 0\n")
    ∷ ruled "integers, names and nested lists" "?- same([-1,0,x,[],[[]],f([],[y|z])],A)." (shows "run rest steps 1\nquery 1 tries 1 active 0 waiting 0 failed 0\nA = [-1,0,x,[],[[]],f([],[y|z])]\n")
    ∷ ruled "tails are followed" "?- same([1|B?],A), same([2|C?],B), same([],C)." (shows "run rest steps 3\nquery 1 tries 3 active 0 waiting 0 failed 0\nB = [2]\nA = [1,2]\nC = []\n")
    ∷ ruled "a tail that is a constant or a compound" "?- same([1|B?],A), same(f(2),B)." (shows "run rest steps 2\nquery 1 tries 2 active 0 waiting 0 failed 0\nB = f(2)\nA = [1|f(2)]\n")
    ∷ ruled "active, waiting and failed lines, each in the machine's order" "?- end(A?), end(1), w(B?,C), end(2)." (shows "run rest steps 4\nquery 1 tries 4 active 0 waiting 2 failed 2\nA = _1\nB = _2\nC = _3\nwaiting end(_1?) from 0 at 0\nwaiting w(_2?,_3) from 0 at 0\nfailed end(1) from 0 at 0\nfailed end(2) from 0 at 0\n")
    ∷ with_budget 3 (ruled "a query's goals stand in its own section" "?- end(A?), end(1), end(B).\n?- end(2), end(C?)." (shows "run budget steps 3\nquery 1 tries 3 active 0 waiting 1 failed 1\nA = _1\nB = []\nwaiting end(_1?) from 0 at 0\nfailed end(1) from 0 at 0\nquery 2 tries 0 active 2 waiting 0 failed 0\nC = _1\nactive end(2) from 0 at 0\nactive end(_1?) from 0 at 0\n"))
    ∷ []

-- Document 02, T-09: "Each goal shall carry the clause that made it (0 for the query) and its own query's number of tries when it was made, the step that made it counted. Each active, waiting or failed line ends with ` from C at T`."
unfoldable pub origins_cases : List Case
origins_cases =
    with_budget 2 (ruled "a query's goal waits and is woken" "?- tag(A?,Z), end(A)." (shows "run budget steps 2\nquery 1 tries 2 active 1 waiting 0 failed 0\nA = []\nZ = _1\nactive tag([],_1) from 0 at 0\n"))
    ∷ text "another query's steps do not count" "a(X,Y) :- b(X?), c(Y?).\nb(1).\nset(X,X?).\n?- a(P?,2), set(1,P).\n?- a(3,Q?)." (shows "run rest steps 7\nquery 1 tries 4 active 0 waiting 0 failed 1\nP = 1\nfailed c(2) from 1 at 1\nquery 2 tries 3 active 0 waiting 0 failed 2\nQ = _1\nfailed b(3) from 1 at 1\nfailed c(_1?) from 1 at 1\n")
    ∷ with_budget 3 (text "a body goal waits" "a(X) :- b(X?).\nb(1).\nl(X?) :- m(X).\nm(1).\n?- a(P?), l(P)." (shows "run budget steps 3\nquery 1 tries 3 active 1 waiting 1 failed 0\nP = _1?\nactive m(_1) from 3 at 2\nwaiting b(_1?) from 1 at 1\n"))
    ∷ with_budget 4 (text "a body goal that has waited is woken" "a(X) :- b(X?).\nb(1).\nl(X?) :- m(X).\nm(1).\n?- a(P?), l(P)." (shows "run budget steps 4\nquery 1 tries 4 active 1 waiting 0 failed 0\nP = 1\nactive b(1) from 1 at 1\n"))
    ∷ text "a body goal is woken and waits on" "a(X,Y) :- two(X?,Y?).\ntwo(1,1).\nl(X?) :- m(X).\nm(1).\n?- a(P?,Q?), l(Q)." (shows "run rest steps 5\nquery 1 tries 5 active 0 waiting 1 failed 0\nP = _1\nQ = 1\nwaiting two(_1?,1) from 1 at 1\n")
    ∷ text "a body goal is woken and fails" "a(X,Y) :- two(X?,Y?).\ntwo(1,1).\nl(X?) :- m(X).\nm(2).\n?- a(P?,Q?), l(Q)." (shows "run rest steps 5\nquery 1 tries 5 active 0 waiting 0 failed 1\nP = _1\nQ = 2\nfailed two(_1?,2) from 1 at 1\n")
    ∷ text "clauses are counted over the whole text, queries are not" "q(0).\n?- p(1).\np(2) :- q(3).\n?- q(0).\nq(5).\np(1) :- q(4).\n?- p(2)." (shows "run rest steps 5\nquery 1 tries 2 active 0 waiting 0 failed 1\nfailed q(4) from 4 at 1\nquery 2 tries 1 active 0 waiting 0 failed 0\nquery 3 tries 2 active 0 waiting 0 failed 1\nfailed q(3) from 2 at 1\n")
    ∷ text "tries that wait or fail count" "e(1).\nd(1) :- no(2).\n?- e(A?), no(1), d(1)." (shows "run rest steps 4\nquery 1 tries 4 active 0 waiting 1 failed 2\nA = _1\nwaiting e(_1?) from 0 at 0\nfailed no(1) from 0 at 0\nfailed no(2) from 2 at 3\n")
    ∷ text "a goal's body goals have the clause that was taken and not that of the goal" "f(X,Y) :- g(X?), h(Y?).\ng(X) :- h(X?).\nh(0).\n?- f(1,2)." (shows "run rest steps 4\nquery 1 tries 4 active 0 waiting 0 failed 2\nfailed h(2) from 1 at 1\nfailed h(1) from 2 at 2\n")
    ∷ with_budget 5 (text "one clause makes goals at several tries" "f(X) :- g(h(X?)), f(a).\n?- f(a)." (shows "run budget steps 5\nquery 1 tries 5 active 2 waiting 0 failed 2\nactive g(h(a)) from 1 at 5\nactive f(a) from 1 at 5\nfailed g(h(a)) from 1 at 1\nfailed g(h(a)) from 1 at 3\n"))
    ∷ with_budget 11 (text "numbers of two digits" "p(0).\np(0).\np(0).\np(0).\np(0).\np(0).\np(0).\np(0).\np(0).\np(1) :- p(1).\n?- p(1)." (shows "run budget steps 11\nquery 1 tries 11 active 1 waiting 0 failed 0\nactive p(1) from 10 at 11\n"))
    ∷ with_room 1 9 9 (text "the goal in front of a run that ends for room" "loop(X) :- loop(X?).\n?- loop(a)." (shows "run room steps 1\nquery 1 tries 1 active 1 waiting 0 failed 0\nactive loop(a) from 1 at 1\n"))
    ∷ with_room 99 99 2 (text "two goals of one body where the goal figure ends the run" "b(a) :- b(a), b(a).\n?- b(a)." (shows "run room steps 1\nquery 1 tries 1 active 2 waiting 0 failed 0\nactive b(a) from 1 at 1\nactive b(a) from 1 at 1\n"))
    ∷ []

unfoldable pub runs_words : Unit {0}
unfolding words_words machine_cases places_cases report_cases origins_cases
runs_words = tt
