-- Tokens and items: what the text is, where it is refused, and 4 against 5, 6, 9 and 10. Each line break of a text stands where it shows the place.
use Prim.Native.Nat.{ℕ}
use mathlib.Core.List.{List, [], ◌∷◌, ◌++◌}
use Rattle.meaning.specs.Bytes.{Bytes, bytes}
use Rattle.meaning.specs.Case.{Case, refuses}
use Rattle.meaning.proofs.Cases.Words.{text, ruled, of_bytes, shows, times, words_words}

-- Tokens.
unfoldable pub tokens_cases : List Case
tokens_cases =
    text "an LF belongs to the line that it ends" "?- p(a\n" (refuses 4 1 7)
    ∷ text "the last byte decides at the end of the text" "?- p(a\n\n" (refuses 4 2 8)
    ∷ text "the last byte may be a remark's" "?- p(a)\n% x\n" (refuses 4 2 12)
    ∷ text "a text of blanks and remarks is no item" " \t\r\n% remark\n%" (refuses 6 0 0)
    ∷ text "CR ends no line" "\r\r\n?- p(\r(" (refuses 4 2 9)
    ∷ text "a remark may hold any byte, CR too" "% \0ÿ'!\r!\n?- p(a)." (shows "run rest steps 1\nquery 1 tries 1 active 0 waiting 0 failed 1\nfailed p(a) from 0 at 0\n")
    ∷ text "a remark ends an unfinished token" "?- p(ab%c\nd)." (refuses 4 2 10)
    ∷ text "a digit run that is no integer" "?- p(\n12abc)." (refuses 4 2 6)
    ∷ text "leading zeros" "?- p(\n007)." (refuses 4 2 6)
    ∷ text "a negative run that is no integer" "?- p(\n-5a)." (refuses 4 2 6)
    ∷ text "minus zero" "?- p(\n-0)." (refuses 4 2 6)
    ∷ text "a leading zero behind a minus" "?- p(\n-01)." (refuses 4 2 6)
    ∷ text "an underscore in a digit run" "?- p(\n1_000)." (refuses 4 2 6)
    ∷ text "a run led by an underscore" "?- p(\n_)." (refuses 4 2 6)
    ∷ text "the largest integer" "?- p(2147483647)." (shows "run rest steps 1\nquery 1 tries 1 active 0 waiting 0 failed 1\nfailed p(2147483647) from 0 at 0\n")
    ∷ text "one above the largest integer" "?- p(\n2147483648)." (refuses 4 2 6)
    ∷ text "the smallest integer, and zero" "?- p(-2147483648,0)." (shows "run rest steps 1\nquery 1 tries 1 active 0 waiting 0 failed 1\nfailed p(-2147483648,0) from 0 at 0\n")
    ∷ text "one below the smallest integer" "?- p(\n-2147483649)." (refuses 4 2 6)
    ∷ text "a name of 31 bytes" "?- a234567890123456789012345678901(x)." (shows "run rest steps 1\nquery 1 tries 1 active 0 waiting 0 failed 1\nfailed a234567890123456789012345678901(x) from 0 at 0\n")
    ∷ text "a name of 32 bytes" "?-\na2345678901234567890123456789012(x)." (refuses 4 2 3)
    ∷ text "a reader of 31 bytes without its mark" "?- p(A234567890123456789012345678901?)." (shows "run rest steps 1\nquery 1 tries 1 active 0 waiting 0 failed 1\nA234567890123456789012345678901 = _1\nfailed p(_1?) from 0 at 0\n")
    ∷ text "a reader of 32 bytes without its mark" "?- p(\nA2345678901234567890123456789012?)." (refuses 4 2 6)
    ∷ text "a writer of 31 bytes" "?- p(A234567890123456789012345678901)." (shows "run rest steps 1\nquery 1 tries 1 active 0 waiting 0 failed 1\nA234567890123456789012345678901 = _1\nfailed p(_1) from 0 at 0\n")
    ∷ text "a writer of 32 bytes" "?- p(\nA2345678901234567890123456789012)." (refuses 4 2 6)
    ∷ text "a run of letters, digits and underscores" "?- aB_9(c_)." (shows "run rest steps 1\nquery 1 tries 1 active 0 waiting 0 failed 1\nfailed aB_9(c_) from 0 at 0\n")
    ∷ text "a name with letters of both cases, digits and an underscore" "?- p(aZ09_z)." (shows "run rest steps 1\nquery 1 tries 1 active 0 waiting 0 failed 1\nfailed p(aZ09_z) from 0 at 0\n")
    ∷ text "each end of each range in a run" "?- p([x0,x9,xA,xZ,x_,xa,xz])." (shows "run rest steps 1\nquery 1 tries 1 active 0 waiting 0 failed 1\nfailed p([x0,x9,xA,xZ,x_,xa,xz]) from 0 at 0\n")
    ∷ text "the byte before 0 in a run" "?- p(a/b)." (refuses 4 1 6)
    ∷ text "the byte behind 9 in a run" "?- p(a:b)." (refuses 4 1 6)
    ∷ text "the byte before A in a run" "?- p(a@b)." (refuses 4 1 6)
    ∷ text "the byte behind Z in a run" "?- p(a[b)." (refuses 4 1 6)
    ∷ text "the byte before the underscore in a run" "?- p(a^b)." (refuses 4 1 6)
    ∷ text "the byte behind the underscore, before a, in a run" "?- p(a`b)." (refuses 4 1 6)
    ∷ text "the byte behind z in a run" "?- p(a{b)." (refuses 4 1 6)
    ∷ text "the first byte above ASCII in a run" "?- p(a\u{80}b)." (refuses 4 1 6)
    ∷ text "the last byte in a run" "?- p(aÿb)." (refuses 4 1 6)
    ∷ text "the mark ends a reader's token" "?- p(X?\nabc)." (refuses 4 2 8)
    ∷ text "a mark with a space before it" "?- p(X\n?)." (refuses 4 2 7)
    ∷ text "a mark behind a name" "?- p(x\n?)." (refuses 4 2 7)
    ∷ text "a minus with a space behind it" "?- p(\n- 5)." (refuses 4 2 6)
    ∷ text "an integer behind an integer" "?- p(5\n-3)." (refuses 4 2 7)
    ∷ text "a query's sign and an integer" "?-\n3." (refuses 4 2 3)
    ∷ text "a colon that begins no token" "p(a)\n: q(b)." (refuses 4 2 5)
    ∷ text "a question mark that begins no token" "? - p(a)." (refuses 4 1 0)
    ∷ text "another byte" "?- p(a)\n; q(a)." (refuses 4 2 8)
    ∷ text "the byte before A" "?- p(\n@)." (refuses 4 2 6)
    ∷ text "the byte before a" "?- p(\n`)." (refuses 4 2 6)
    ∷ text "the byte behind z" "?- p(\n{)." (refuses 4 2 6)
    ∷ text "the byte before 0" "?- p(\n/)." (refuses 4 2 6)
    ∷ text "a form feed separates nothing" "?- p(a\n\u{c})." (refuses 4 2 7)
    ∷ text "a byte above ASCII" "?- p(\né)." (refuses 4 2 6)
    ∷ text "separators between any two tokens, but not before a reader's mark" "p % x\n( a ) .\n?-\tp\r( a ) , q([ ] , [ 1 | X ? ] )." (refuses 4 3 43)
    ∷ text "a compound with spaces, and the empty list of two tokens" "p % x\n( a ) .\n?-\tp\r( a ) , q([ ] , [ 1 | X? ] )." (shows "run rest steps 2\nquery 1 tries 2 active 0 waiting 0 failed 1\nX = _1\nfailed q([],[1|_1?]) from 0 at 0\n")
    ∷ text "a full stop is a token wherever it stands" "?- p(3\n.5)." (refuses 4 2 7)
    ∷ text "two items with nothing between" "p(a).q(b).?- p(a), q(b)." (shows "run rest steps 2\nquery 1 tries 2 active 0 waiting 0 failed 0\n")
    ∷ text "a second full stop" "p(a).\n." (refuses 4 2 6)
    ∷ []

-- Items, and the first token that cannot continue.
unfoldable pub items_cases : List Case
items_cases =
    text "a bare name as a goal" "?- p\n." (refuses 4 2 5)
    ∷ text "a bare name as a head" "p\n:- q(a)." (refuses 4 2 2)
    ∷ text "a list as a goal" "?-\n[a]." (refuses 4 2 3)
    ∷ text "an integer as a goal" "?- p(a),\n3." (refuses 4 2 9)
    ∷ text "a variable as a goal" "?-\nX." (refuses 4 2 3)
    ∷ text "a list as a head" "p(a).\n[]." (refuses 4 2 6)
    ∷ text "a variable as a head" "p(a).\nX(a)." (refuses 4 2 6)
    ∷ text "no argument" "?- p(\n)." (refuses 4 2 6)
    ∷ text "a second bar" "?- p([a|b\n|c])." (refuses 4 2 10)
    ∷ text "a bar before any element" "?- p([\n|a])." (refuses 4 2 7)
    ∷ text "no element behind a comma" "?- p([a,\n])." (refuses 4 2 9)
    ∷ text "a comma behind a tail" "?- p([a|b\n,c])." (refuses 4 2 10)
    ∷ text "no tail" "?- p([a|\n])." (refuses 4 2 9)
    ∷ text "a parenthesis closes no list" "?- p([a\n))." (refuses 4 2 8)
    ∷ text "a bracket closes no compound" "?- p(a\n])." (refuses 4 2 7)
    ∷ text "a parenthesis behind a variable" "?- p(X\n(a))." (refuses 4 2 7)
    ∷ text "no goal behind a comma" "?- p(a),\n." (refuses 4 2 9)
    ∷ text "no body behind its sign" "p(a) :-\n." (refuses 4 2 8)
    ∷ text "a second body" "p(a) :- q(a)\n:- r(a)." (refuses 4 2 13)
    ∷ text "a query's sign inside an item" "p(a)\n?- q(a)." (refuses 4 2 5)
    ∷ text "unfinished nested text" "p(a).\nq(f([a,g(b" (refuses 4 2 16)
    ∷ text "unfinished behind several line breaks" "q(f([a,g(b\n\n\n" (refuses 4 3 13)
    ∷ text "cut off behind a complete item" "?- p(a).\nq" (refuses 4 2 10)
    ∷ text "no full stop" "p(a).\n?- p(a)" (refuses 4 2 13)
    ∷ text "clauses and no query" "p(a).\nq(a)." (refuses 6 0 0)
    ∷ text "queries may stand anywhere, clauses need not be adjacent" "?- p(X,1), p(2,Y).\np(1,1).\nq(1).\np(2,3)." (shows "run rest steps 2\nquery 1 tries 2 active 0 waiting 0 failed 0\nX = 1\nY = 3\n")
    ∷ text "the number of arguments selects the procedure too" "p(1).\np(1,2).\n?- p(X,Y)." (shows "run rest steps 1\nquery 1 tries 1 active 0 waiting 0 failed 0\nX = 1\nY = 2\n")
    ∷ text "names are told apart by their whole spelling" "a(1).\nbc(1).\nd(e).\nf(gh).\n?- ab(1), b(1), d(ef), f(g)." (shows "run rest steps 4\nquery 1 tries 4 active 0 waiting 0 failed 4\nfailed ab(1) from 0 at 0\nfailed b(1) from 0 at 0\nfailed d(ef) from 0 at 0\nfailed f(g) from 0 at 0\n")
    ∷ text "variables are told apart by their whole spelling" "?- p(A,AB), q(CD,C)." (shows "run rest steps 2\nquery 1 tries 2 active 0 waiting 0 failed 2\nA = _1\nAB = _2\nCD = _3\nC = _4\nfailed p(_1,_2) from 0 at 0\nfailed q(_3,_4) from 0 at 0\n")
    ∷ text "an item's variables are its own" "p(X,X?).\n?- p(1,X).\n?- p(2,X)." (shows "run rest steps 2\nquery 1 tries 1 active 0 waiting 0 failed 0\nX = 1\nquery 2 tries 1 active 0 waiting 0 failed 0\nX = 2\n")
    ∷ text "a reader twice in a clause" "p(X) :- q(X?),\nr(X?)." (refuses 5 1 17)
    ∷ text "the same half twice, the other once" "?- p(a).\np(X,X?) :-\nq(X?)." (refuses 5 2 22)
    ∷ text "a reader alone in a clause" "?- p(a).\n% x\n p(X?)." (refuses 10 3 16)
    ∷ text "both halves twice" "p(X,X?) :- q(X,X?)." (refuses 5 1 13)
    ∷ text "a reader twice in a query" "?- p(a).\n?- p(X?,\nX?)." (refuses 5 2 18)
    ∷ text "both halves once in a query" "p(1,1).\n?- p(X,X?)." (shows "run rest steps 1\nquery 1 tries 1 active 0 waiting 1 failed 0\nX = _1\nwaiting p(_1,_1?) from 0 at 0\n")
    ∷ text "the rules hold of the second pair too: a writer twice in a query" "?- p(A,B,B)." (refuses 5 1 9)
    ∷ text "the rules hold of the second pair too: a writer alone in a clause" "p(A,A?,B)." (refuses 9 1 7)
    ∷ text "5 only behind the full stop" "?- p(X,X)\n" (refuses 4 1 10)
    ∷ text "4 later in the item is before 5" "?- p(X,X),\n3." (refuses 4 2 11)
    ∷ text "6 later in the item is before 5" "?- p(X,X),\np(1,2,3,4,5,6,7)." (refuses 6 1 0)
    ∷ text "5 before anything of the next item" "?- p(X,X).\n!" (refuses 5 1 7)
    ∷ text "the first refused item decides" "?- p(a).\n?- p(1,2,3,4,5,6,7).\np(X)." (refuses 6 2 0)
    ∷ []

-- T-01 of document 02, which rule and which byte: each text shows an offset that another reading of the request would place elsewhere.
-- "5 (the same half twice), 9 (a writer without its reader) and 10 (a reader without its writer)."
unfoldable pub rule_cases : List Case
rule_cases =
    text "a writer without its reader" "p(X).\n?- p(1)." (refuses 9 1 2)
    ∷ text "a reader without its writer" "p(X?).\n?- p(1)." (refuses 10 1 2)
    ∷ text "a writer twice" "p(X,X,X?).\n?- p(1)." (refuses 5 1 4)
    ∷ text "a reader twice, its writer between" "p(X?,X,X?).\n?- p(1)." (refuses 5 1 7)
    ∷ text "a second occurrence inside a list and a compound" "p([X|f(X?)],[X?]).\n?- p(1)." (refuses 5 1 13)
    ∷ text "a third occurrence plays no part in a query" "?- p(X,X,X)." (refuses 5 1 7)
    ∷ text "a third occurrence plays no part in a clause" "p(X,X,X?,X).\n?- p(1)." (refuses 5 1 4)
    ∷ text "a reader's third occurrence plays no part" "p(X) :- q(X?,X?,X?).\n?- p(1)." (refuses 5 1 13)
    ∷ text "a lone writer's second occurrence plays no part" "p(X) :- q(X).\n?- p(1)." (refuses 9 1 2)
    ∷ text "a lone reader's second occurrence plays no part" "p(X?) :- q(X?).\n?- p(1)." (refuses 10 1 2)
    ∷ text "a remark's bytes are no occurrence" "p(X, % X?\n a).\n?- p(1)." (refuses 9 1 2)
    ∷ text "a remark's bytes are no second occurrence, but count in the offset" "p(X,X?, % X\n X).\n?- p(1)." (refuses 5 1 13)
    ∷ text "the other half of a longer spelling is another variable's" "p(A,AB?).\n?- p(1)." (refuses 9 1 2)
    ∷ text "a name of the same letters is no variable" "p(x,X,x,X?,X).\n?- p(1)." (refuses 5 1 11)
    ∷ []

-- "Where several apply to an item, the smallest offset decides."
unfoldable pub several_cases : List Case
several_cases =
    text "a lone writer before a lone reader" "p(X,Y?).\n?- p(1)." (refuses 9 1 2)
    ∷ text "a lone reader before a lone writer" "p(Y?,X).\n?- p(1)." (refuses 10 1 2)
    ∷ text "a writer twice and alone" "p(X,X).\n?- p(1)." (refuses 9 1 2)
    ∷ text "both halves more than twice" "p(X,X?,X?,X,X).\n?- p(1)." (refuses 5 1 7)
    ∷ text "both halves twice, the writer's second first" "p(X?,X,X,X?).\n?- p(1)." (refuses 5 1 7)
    ∷ text "a later variable alone before an earlier one's reader twice" "p(X,X?,Y) :- q(X?).\n?- p(1)." (refuses 9 1 7)
    ∷ text "a later variable's reader alone before an earlier one's writer twice" "p(X,Y?,X,X?).\n?- p(1)." (refuses 10 1 4)
    ∷ text "a later variable's writer twice before an earlier one's reader" "p(X,Y,Y,Y?,X?,X?).\n?- p(1)." (refuses 5 1 6)
    ∷ text "an earlier variable's writer twice before a later one alone" "p(X,X?,X,Y).\n?- p(1)." (refuses 5 1 7)
    ∷ text "of three variables the second is alone first" "p(X,X?,Y?,Z).\n?- p(1)." (refuses 10 1 7)
    ∷ text "a query's later variable before its earlier one" "?- p(X,Y,Y?,Y?,X)." (refuses 5 1 12)
    ∷ text "a query's lone halves break no rule" "?- p(X,Y?,Z,Z)." (refuses 5 1 12)
    ∷ []

-- "A byte offset": over the whole text, while the line stays the item's first.
unfoldable pub offset_cases : List Case
offset_cases =
    text "line breaks before the item" "\n\np(X?).\n?- p(1)." (refuses 10 3 4)
    ∷ text "the offset may lie on another line" "p(a,\n  X,\n  X, X?).\n?- p(1)." (refuses 5 1 12)
    ∷ text "the offset counts from the text's first byte" "p(a).\n?- q(b).\nr(Z,Z?,Z)." (refuses 5 3 22)
    ∷ text "an earlier item's occurrences do not count" "p(X,X?).\n?- q(X).\nr(X)." (refuses 9 3 20)
    ∷ text "a later item's occurrences do not count" "p(X).\nq(X?).\n?- p(1)." (refuses 9 1 2)
    ∷ text "4 at the end of the text" "?- p(a" (refuses 4 1 6)
    ∷ text "4 at the end of a text that ends with a remark" "?- p(a % x" (refuses 4 1 10)
    ∷ text "4 at a second full stop" "?- p(a).." (refuses 4 1 8)
    ∷ text "4 at a name behind a head" "p(a) q" (refuses 4 1 5)
    ∷ text "4 at a bad token's first byte" "p(1,12abc)." (refuses 4 1 4)
    ∷ text "4 at a bad token's minus" "p(1,-0)." (refuses 4 1 4)
    ∷ text "4 at a token of the second item, counted from the text's first byte" "p(a).\n?- q(b,)." (refuses 4 2 13)
    ∷ text "no query and a remark" "p(a). % r\n" (refuses 6 0 0)
    ∷ text "4 later in the item is before 9" "p(X) :- ." (refuses 4 1 8)
    ∷ text "6 later in the item is before 9, without an offset" "p(X) :- q(1,2,3,4,5,6,7)." (refuses 6 1 0)
    ∷ text "9 before anything of the next item" "p(X).\n!" (refuses 9 1 2)
    ∷ text "10 before anything of the next item" "p(X?).\n!" (refuses 10 1 2)
    ∷ []

unfoldable pub texts_words : Unit {0}
unfolding words_words tokens_cases items_cases rule_cases several_cases offset_cases
texts_words = tt
