-- Document 01, 'Job text' and 'What the caller gets back', and document 02, T-01 and T-02: items read from tokens, the figures, the guards, and 4, 5, 6, 9, 10
-- and 11.
use Rattle.std.specs.Prelude.{ℕ, zero, suc, ◌+◌, ◌-◌, min, Bool, true, false, not, ◌&&◌, ◌||◌, List, [], ◌∷◌, ◌++◌, leb, ltb, eqb, length, take}
use Prim.Native.Char.{Char}
use Rattle.std.proofs.Math.Option.{Option, none, some}
use Rattle.meaning.specs.Bytes.{Bytes, bytes_words, byte, same, when◌then◌else◌, all, any, those}
use Rattle.meaning.specs.Terms.{
  Constant,
  empty,
  Functor,
  cell,
  named,
  Term,
  Terms,
  compound,
  end,
  more,
  Named,
  Guard,
  Clause,
  Query,
  Job,
  as_term,
  terms_words,
}
use Rattle.meaning.specs.Tokens.{Token, name, variable, integer, sign, bad, Tokens, ends, token, tokens, tokens_words}
use Rattle.meaning.specs.Faults.{Fault, pairing, clause_faults, query_faults, least, faults_words}
use Rattle.meaning.specs.Table.{Element, whole, bare, equals, as_goals, as_guards, of_the_head, licensed, table_words}
unfoldable pub use Rattle.meaning.specs.Tokens.{is}

-- What has been counted when a token is reached: the names of the text so far, the variables and the compounds of the item so far.
pub record Counted : Type 0 where
  pub names : List Bytes
  pub variables : List Bytes
  pub compounds : ℕ

-- Reading goes on behind what was read, or stops: 4 at a place that cannot be continued, or 6 where a figure is passed.
pub data Read (A : Type 0) : Type 0 where
  read : A → Counted → Tokens → Read A
  malformed : ℕ → Read A
  passed : Read A

abbrev pub Reader : Type 0 → Type 0
Reader A = Counted → Tokens → Read A

-- First the one, then the other, from what the first left.
unfoldable pub read_on : {A B : Type 0} → Read A → (A → Reader B) → Read B
read_on (read a counted rest) next = next a counted rest
read_on (malformed place) next = malformed place
read_on passed next = passed

infixl 1 ◌>>=◌ ◌>>◌
unfoldable pub ◌>>=◌ : {A B : Type 0} → Reader A → (A → Reader B) → Reader B
◌>>=◌ first next counted rest = read_on (first counted rest) next

unfoldable pub ◌>>◌ : {A B : Type 0} → Reader A → Reader B → Reader B
◌>>◌ first next counted rest = read_on (first counted rest) (λ a. next)

unfoldable pub give : {A : Type 0} → A → Reader A
give a counted rest = read a counted rest

-- "Of the first token that cannot continue": number 4 at this place.
unfoldable pub cannot_stand : {A : Type 0} → ℕ → Reader A
cannot_stand place counted rest = malformed place

-- "A figure above is passed": number 6.
unfoldable pub passes : {A : Type 0} → Reader A
passes counted rest = passed

-- The next token, with its place; at the end of the text nothing continues.
unfoldable pub next : {A : Type 0} → (ℕ → Token → Reader A) → Reader A
next on counted (ends place) = malformed place
next on counted (token place t rest) = on place t counted rest

-- A token is a name; a token can begin a term.
unfoldable pub is_name : Token → Bool
is_name (name f) = true
is_name (variable h x) = false
is_name (integer i) = false
is_name (sign b) = false
is_name bad = false

unfoldable pub begins_term : Token → Bool
begins_term (name f) = true
begins_term (variable h x) = true
begins_term (integer i) = true
begins_term (sign b) = eqb b (byte "[")
begins_term bad = false

-- The next token can stand here at all, or it is 4; it is not taken.
unfoldable pub standing : (Token → Bool) → Reader (Unit {0})
standing can counted (ends place) = malformed place
standing can counted (token place t rest) = when can t then read tt counted (token place t rest) else malformed place

-- This sign comes next.
unfoldable pub expect : Char → Reader (Unit {0})
expect c = next (λ place t. when is c t then give tt else cannot_stand place)

-- One of two signs comes next: whether it is the first.
unfoldable pub either : Char → Char → Reader Bool
either c d = next (λ place t. when is c t then give true else when is d t then give false else cannot_stand place)

-- If this sign comes next it is taken and the first reads on, else the second.
unfoldable pub if_next : {A : Type 0} → Char → Reader A → Reader A → Reader A
if_next c first second counted (ends place) = second counted (ends place)
if_next c first second counted (token place t rest) =
    when is c t then first counted rest else second counted (token place t rest)

-- "256 distinct names, told apart by spelling alone."
unfoldable pub count_name : Bytes → Reader (Unit {0})
count_name f counted rest =
    when any (same f) counted.names then read tt counted rest
    else when ltb (length counted.names) 256
    then read tt (record { names = counted.names ++ (f ∷ []); variables = counted.variables; compounds = counted.compounds }) rest
    else passed

-- The place of a spelling among the item's variables.
unfoldable pub place_of : Bytes → List Bytes → Option ℕ
place_of x [] = none
place_of x (y ∷ ys) = elim (same x y) [ true ↦ some 0 | false ↦ elim (place_of x ys) [ none ↦ none | some n ↦ some (suc n) ] ]

-- "Per item 16 variable pairs": a pair's number is its place in order of first occurrence of either half.
unfoldable pub new_variable : Bytes → Option ℕ → Reader ℕ
new_variable x (some n) counted rest = read n counted rest
new_variable x none counted rest =
    when ltb (length counted.variables) 16
    then read (length counted.variables) (record { names = counted.names; variables = counted.variables ++ (x ∷ []); compounds = counted.compounds }) rest
    else passed

unfoldable pub count_variable : Bytes → Reader ℕ
count_variable x counted rest = new_variable x (place_of x counted.variables) counted rest

-- "32 compounds (head, goals and list cells counted)": a compound's number is its place.
unfoldable pub count_compound : Reader ℕ
count_compound counted rest =
    when ltb counted.compounds 32
    then read counted.compounds (record { names = counted.names; variables = counted.variables; compounds = counted.compounds + 1 }) rest
    else passed

-- "A compound `name(T,..)` with 1 to 6 arguments", of which so many may still come; the first token of the seventh passes the figure.
unfoldable pub arguments : Reader Term → ℕ → Reader Terms
arguments argument zero = standing begins_term >> passes
arguments argument (suc left) = do
  t ← argument
  another ← either "," ")"
  when another then (arguments argument left >>= λ ts. give (more t ts)) else give (more t end)

-- A compound behind its opening parenthesis.
unfoldable pub compound_of : Reader Term → Bytes → Reader Named
compound_of argument f = do
  n ← count_compound
  ts ← arguments argument 6
  give (record { number = n; name = f; arguments = ts })

-- The tail behind an element: more elements, the term behind a `|`, or `[]`.
unfoldable pub tail_of : Reader Term → Reader Term → ℕ → Token → Reader Term
tail_of element elements place t =
    when is "," t then elements
    else when is "|" t then (element >>= λ tail. expect "]" >> give tail)
    else when is "]" t then give (Term.constant empty)
    else cannot_stand place

-- "Each element of a list makes one list cell", counted at its first token; an item has no more than 32 of them.
unfoldable pub elements : Reader Term → ℕ → Reader Term
elements element zero = standing begins_term >> passes
elements element (suc left) = do
  standing begins_term
  n ← count_compound
  t ← element
  tail ← next (tail_of element (elements element left))
  give (compound n cell (more t (more tail end)))

-- "A list `[T,..]` or `[T,..|T]`", or `[]`, behind its bracket.
unfoldable pub list_of : Reader Term → Reader Term
list_of element = if_next "]" (give (Term.constant empty)) (elements element 32)

-- "A term is a writer, a reader, a constant, a compound or a list", by its first token and what may stand in a round or square bracket.
unfoldable pub term_from : (Bytes → Reader Term) → Reader Term → ℕ → Token → Reader Term
term_from round square place (name f) = count_name f >> if_next "(" (round f) (give (Term.constant (Constant.name f)))
term_from round square place (variable h x) = count_variable x >>= λ n. give (Term.variable h n)
term_from round square place (integer i) = give (Term.constant (Constant.integer i))
term_from round square place (sign b) = when eqb b (byte "[") then square else cannot_stand place
term_from round square place bad = cannot_stand place

-- "16 brackets open at once, round and square together": a term inside which so many more may open.
unfoldable pub term : ℕ → Reader Term
term zero = next (term_from (λ f. passes) passes)
term (suc left) = next (term_from (λ f. compound_of (term left) f >>= λ g. give (as_term g)) (list_of (term left)))

-- "Heads and goals are compounds with a name"; the parenthesis is the first of the 16 brackets.
unfoldable pub goal_from : ℕ → Token → Reader Named
goal_from place (name f) = count_name f >> (expect "(" >> compound_of (term 15) f)
goal_from place (variable h x) = cannot_stand place
goal_from place (integer i) = cannot_stand place
goal_from place (sign b) = cannot_stand place
goal_from place bad = cannot_stand place

unfoldable pub goal : Reader Named
goal = next goal_from

-- "8 body or query goals", up to the full stop; the ninth goal's name passes the figure.
unfoldable pub goals : ℕ → Reader (List Named)
goals zero = standing is_name >> passes
goals (suc left) = do
  g ← goal
  another ← either "," "."
  when another then (goals left >>= λ gs. give (g ∷ gs)) else give (g ∷ [])

-- "A clause may read `head :- guard,..,guard | goal,..,goal.`" (02, T-02). A term that no `==` follows is an element only if it begins with a name; behind any
-- other the next token cannot stand.
unfoldable pub by_itself : Term → Reader Element
by_itself (compound n (named f) ts) = give (whole (record { number = n; name = f; arguments = ts }))
by_itself (compound n cell ts) = next (λ place t. cannot_stand place)
by_itself (Term.constant (Constant.name f)) = give (bare f)
by_itself (Term.constant (Constant.integer i)) = next (λ place t. cannot_stand place)
by_itself (Term.constant empty) = next (λ place t. cannot_stand place)
by_itself (Term.variable h n) = next (λ place t. cannot_stand place)

-- The right side of `==`, which is counted as a compound at its token.
unfoldable pub equals_behind : Term → Reader Element
equals_behind left = do
  n ← count_compound
  right ← term 16
  give (equals n left right)

-- The parenthesis of an element is the first of the 16 brackets; each side of `==` has 16.
unfoldable pub element_behind : Reader Element
element_behind = do
  t ← term 16
  if_next "=" (equals_behind t) (by_itself t)

-- What stands behind `:-`: the guards before the bar, not yet judged, the goals up to the full stop, and the tokens behind the bar if there is one.
pub record Body : Type 0 where
  pub guards : List Element
  pub goals : List Named
  pub behind : Option Tokens

-- At the full stop the elements are the goals, if all of them can be.
unfoldable pub unguarded : ℕ → Option (List Named) → Reader Body
unguarded place none = cannot_stand place
unguarded place (some gs) = give (record { guards = []; goals = gs; behind = none })

-- The tokens that come next; none is taken.
unfoldable pub here : Reader Tokens
here counted rest = read rest counted rest

-- At the bar they are the guards, "and perhaps no goal" follows.
unfoldable pub guarded : List Element → Reader Body
guarded es = do
  behind ← here
  gs ← if_next "." (give []) (goals 8)
  give (record { guards = es; goals = gs; behind = some behind })

unfoldable pub behind_element : (List Element → Reader Body) → List Element → ℕ → Token → Reader Body
behind_element further es place t =
    when is "," t then further es
    else when is "|" t then guarded es
    else when is "." t then unguarded place (as_goals es)
    else cannot_stand place

-- "With 1 to 8 guards", or 8 body goals: "a ninth guard is 6", at its first token. `before` are the elements so far.
unfoldable pub body : ℕ → List Element → Reader Body
body zero before = standing begins_term >> passes
body (suc left) before = do
  e ← element_behind
  next (behind_element (body left) (before ++ (e ∷ [])))

-- "An item is `head.`, `head :- goal,..,goal.` or `?- goal,..,goal.`": head and what stands behind `:-`, or the query's goals behind its `?-`.
pub record Rule : Type 0 where
  pub head : Named
  pub body : Body

unfoldable pub rule : Reader Rule
rule = do
  head ← goal
  implied ← either ":" "."
  behind ← when implied then body 8 [] else give (record { guards = []; goals = []; behind = none })
  give (record { head = head; body = behind })

-- Why a text is refused, with the place from which the line is computed: the token for 4, where the item begins for 5, 9, 10, 6 and 11.
-- "9 and 10 take 5's place in the order"; which of the three it is, and at which byte, the fault says.
pub data Refusal : Type 0 where
  no_item : ℕ → Refusal
  guard_rule : ℕ → Refusal
  occurrence_rule : ℕ → Fault → Refusal
  figure : ℕ → Refusal
  no_query : Refusal

-- What has been counted over the text so far: its names, clauses and queries.
pub record SoFar : Type 0 where
  pub names : List Bytes
  pub clauses : ℕ
  pub queries : ℕ

-- What a piece of the text is: nothing at all, a clause or a query with the text's names behind it, or refused.
pub data Piece : Type 0 where
  nothing : Piece
  clause : Clause → List Bytes → Piece
  query : Query → List Bytes → Piece
  refused : Refusal → Piece

-- 5, and 9 and 10 in its place, "is judged after the item's full stop": an item without a fault is accepted.
unfoldable pub unless_broken : ℕ → Option Fault → Piece → Piece
unless_broken begins none accepted = accepted
unless_broken begins (some fault) accepted = refused (occurrence_rule begins fault)

-- A variable whose reader a guard licenses.
unfoldable pub free : List Guard → List Bytes → Bytes → Bool
free guards variables x = elim (place_of x variables) [ none ↦ false | some n ↦ licensed guards n ]

-- A clause whose guards the table has: "11 with another variable, judged after the item's full stop and before 5". It is the nth of the text.
unfoldable pub with_guards : ℕ → ℕ → Tokens → Rule → Counted → List Guard → Piece
with_guards nth begins piece r counted guards =
    when all (of_the_head (length counted.variables) r.head) guards
    then unless_broken begins (least (clause_faults (free guards counted.variables) (pairing r.body.behind piece) counted.variables))
    (clause (record { place = nth; head = r.head; guards = guards; body = r.body.goals; pairs = length counted.variables; compounds = counted.compounds }) counted.names)
    else refused (guard_rule begins)

-- "11 for a guard not in the table, with 5's line."
unfoldable pub unless_unknown : ℕ → ℕ → Tokens → Rule → Counted → Option (List Guard) → Piece
unless_unknown nth begins piece r counted none = refused (guard_rule begins)
unless_unknown nth begins piece r counted (some guards) = with_guards nth begins piece r counted guards

-- A clause by its tokens and what was read from them.
unfoldable pub clause_piece : ℕ → ℕ → Tokens → Read Rule → Piece
clause_piece nth begins piece (read r counted rest) = unless_unknown nth begins piece r counted (as_guards r.body.guards)
clause_piece nth begins piece (malformed place) = refused (no_item place)
clause_piece nth begins piece passed = refused (figure begins)

-- A query likewise, by its tokens behind its `?-`.
unfoldable pub query_piece : ℕ → Tokens → Read (List Named) → Piece
query_piece begins piece (read gs counted rest) =
    unless_broken begins (least (query_faults piece counted.variables))
    (query (record { goals = gs; variables = counted.variables; compounds = counted.compounds }) counted.names)
query_piece begins piece (malformed place) = refused (no_item place)
query_piece begins piece passed = refused (figure begins)

-- "Each item has its own variables."
unfoldable pub fresh : List Bytes → Counted
fresh names = record { names = names; variables = []; compounds = 0 }

-- "128 clauses; 1 to 8 queries": the first token of the 129th clause or ninth query passes the figure.
unfoldable pub clause_from : SoFar → ℕ → Tokens → Piece
clause_from so_far begins piece =
    when ltb so_far.clauses 128 then clause_piece (so_far.clauses + 1) begins piece (rule (fresh so_far.names) piece) else refused (figure begins)

unfoldable pub query_from : SoFar → ℕ → Tokens → Piece
query_from so_far begins behind =
    when ltb so_far.queries 8 then query_piece begins behind (goals 8 (fresh so_far.names) behind) else refused (figure begins)

-- A clause begins with a name, a query with `?-`.
unfoldable pub item_from : SoFar → ℕ → Token → Tokens → Piece
item_from so_far begins t rest =
    when is_name t then clause_from so_far begins (token begins t rest)
    else when is "?" t then query_from so_far begins rest
    else refused (no_item begins)

-- The item that a piece of the text holds: "an item begins at its first token".
unfoldable pub item : SoFar → Tokens → Piece
item so_far (ends place) = nothing
item so_far (token begins t rest) = item_from so_far begins t rest

-- The tokens cut behind each full stop: "each item is read from the byte after the full stop before it".
unfoldable pub onto : ℕ → Token → List Tokens → List Tokens
onto place t [] = []
onto place t (piece ∷ pieces) = token place t piece ∷ pieces

unfoldable pub pieces : Tokens → List Tokens
pieces (ends place) = ends place ∷ []
pieces (token place t rest) =
    when is "." t then token place t (ends place) ∷ pieces rest else onto place t (pieces rest)

-- A text read: a job, or refused.
pub data Reading : Type 0 where
  job : Job → Reading
  refused : Refusal → Reading

unfoldable pub with_clause : Clause → Reading → Reading
with_clause c (job j) = job (record { clauses = c ∷ j.clauses; queries = j.queries })
with_clause c (refused r) = refused r

unfoldable pub with_query : Query → Reading → Reading
with_query q (job j) = job (record { clauses = j.clauses; queries = q ∷ j.queries })
with_query q (refused r) = refused r

-- "The text item by item, and the first refused item decides."
unfoldable pub items : SoFar → List Tokens → Reading
items so_far [] = job (record { clauses = []; queries = [] })
items so_far (piece ∷ pieces) =
    elim (item so_far piece) [
      | nothing ↦ items so_far pieces
      | clause c names ↦ with_clause c (items (record { names = names; clauses = so_far.clauses + 1; queries = so_far.queries }) pieces)
      | query q names ↦ with_query q (items (record { names = names; clauses = so_far.clauses; queries = so_far.queries + 1 }) pieces)
      | refused r ↦ refused r
    ]

-- "Then no query."
unfoldable pub asked : Reading → Reading
asked (job j) = when leb 1 (length j.queries) then job j else refused no_query
asked (refused r) = refused r

unfoldable pub reading : Bytes → Reading
reading text = asked (items (record { names = []; clauses = 0; queries = 0 }) (pieces (tokens text)))

-- "Lines count from 1 and end at LF": the line of a place, and at the end of the text of its last byte.
unfoldable pub line : Bytes → ℕ → ℕ
line text place = 1 + length (those (λ c. eqb c (byte "\n")) (take (min place (length text - 1)) text))

unfoldable pub items_words : Unit {0}
unfolding terms_words tokens_words faults_words table_words read_on ◌>>=◌ ◌>>◌ give cannot_stand passes next is_name begins_term standing expect either if_next count_name place_of new_variable count_variable count_compound arguments compound_of tail_of elements list_of term_from term goal_from goal goals by_itself equals_behind element_behind unguarded here guarded behind_element body rule unless_broken free with_guards unless_unknown clause_piece query_piece fresh clause_from query_from item_from item onto pieces with_clause with_query items asked reading line
items_words = tt
