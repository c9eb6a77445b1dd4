-- The scratch when a text is loaded, as a function of the text: each item's words in text order, then the clauses linked, then the names.
use Rattle.std.specs.Prelude.{ℕ, ◌+◌, List, [], ◌∷◌, map, length, get_or, set}
use Rattle.meaning.specs.Bytes.{Bytes}
use Rattle.meaning.specs.Terms.{Test, Terms, compound, end, more, Named, named, Guard, Clause, Query, as_term, count}
use Rattle.meaning.specs.Tokens.{Tokens, ends, token, tokens}
use Rattle.meaning.specs.Items.{SoFar, nothing, clause, query, refused, item, pieces}
use Rattle.term.specs.Cells.{Places as CellPlaces, term_word, functor_word, stored}
use Rattle.term.specs.Guards.{guard_word}
use Rattle.term.specs.Layout.{procedure_slot, clause_record, clause_base, query_record, query_base, query_pairs_word, query_compounds_word, query_goals_from, query_variables_from, clause_pairs_word, clause_compounds_word, clause_goals_word, clause_goals_from, clause_guards_word, clause_tests_from}
use Rattle.load_names.specs.Places.{Place, spellings, with_name, with_variable, item_places}

-- Where the names first stand, over some tokens, behind those already known; where the variables do.
unfoldable pub names_in : Tokens → List Place → List Place
names_in (ends n) places = places
names_in (token at t rest) places = names_in rest (with_name at t places)

unfoldable pub variables_in : Tokens → List Place → List Place
variables_in (ends n) places = places
variables_in (token at t rest) places = variables_in rest (with_variable at t places)

-- What a text holds, in text order: clauses, and queries with where their variables first stand.
pub data Entry : Type 0 where
  a_clause : Clause → Entry
  a_query : Query → List Place → Entry

unfoldable pub so_far : List Place → ℕ → ℕ → SoFar
so_far known clauses queries = record { names = spellings known; clauses = clauses; queries = queries }

-- The entries of the text's pieces, as `items` reads them.
unfoldable pub entries : List Place → ℕ → ℕ → List Tokens → List Entry
entries known clauses queries [] = []
entries known clauses queries (piece ∷ pieces) =
    elim (item (so_far known clauses queries) piece) [
      | nothing ↦ entries known clauses queries pieces
      | clause c names ↦ a_clause c ∷ entries (names_in piece known) (clauses + 1) queries pieces
      | query q names ↦ a_query q (variables_in piece []) ∷ entries (names_in piece known) clauses (queries + 1) pieces
      | refused r ↦ []
    ]

-- The clauses among the entries.
unfoldable pub clauses_of : List Entry → List Clause
clauses_of [] = []
clauses_of (a_clause c ∷ es) = c ∷ clauses_of es
clauses_of (a_query q vs ∷ es) = clauses_of es

unfoldable pub queries_of : List Entry → List Query
queries_of [] = []
queries_of (a_clause c ∷ es) = queries_of es
queries_of (a_query q vs ∷ es) = q ∷ queries_of es

-- Goals: of each its compounds, and then its word at the next place of the record.
unfoldable pub goals_stored : CellPlaces → ℕ → List Named → List ℕ → List ℕ
goals_stored places place [] s = s
goals_stored places place (g ∷ gs) s =
    goals_stored places (place + 1) gs (set (stored places (as_term g) s) place (term_word places (as_term g)))

-- Places of the text: of each its first byte and its length, two words a place.
unfoldable pub places_stored : ℕ → List Place → List ℕ → List ℕ
places_stored place [] s = s
places_stored place (p ∷ ps) s = places_stored (place + 2) ps (set (set s place p.at) (place + 1) (length p.spelling))

-- A guard's compounds: its own with its arguments'; of `==` the sides' compounds, and their words behind its own place; of `otherwise` none.
unfoldable pub test_stored : Test → CellPlaces → Guard → Terms → List ℕ → List ℕ
test_stored Test.an_integer places g ts s = stored places (compound g.number (named g.row.name) ts) s
test_stored Test.a_constant places g ts s = stored places (compound g.number (named g.row.name) ts) s
test_stored Test.a_compound places g ts s = stored places (compound g.number (named g.row.name) ts) s
test_stored Test.a_ground places g ts s = stored places (compound g.number (named g.row.name) ts) s
test_stored Test.known places g ts s = stored places (compound g.number (named g.row.name) ts) s
test_stored Test.equal places g end s = s
test_stored Test.equal places g (more t end) s = s
test_stored Test.equal places g (more t (more u ts)) s =
    set
    (set (stored places u (stored places t s)) (places.compound g.number + 1) (term_word places t))
    (places.compound g.number + 2)
    (term_word places u)
test_stored Test.otherwise places g ts s = s

-- Guards: of each its compounds, and then its word at the next place of the record.
unfoldable pub guards_stored : CellPlaces → ℕ → List Guard → List ℕ → List ℕ
guards_stored places place [] s = s
guards_stored places place (g ∷ gs) s =
    guards_stored places (place + 1) gs (set (test_stored g.row.test places g g.arguments s) place (guard_word places g))

-- The clause k: its head's compounds, its guards and its body goals, then its pairs, compounds, body goals and guards counted. The record's first word is for
-- the link.
unfoldable pub clause_stored : List Place → ℕ → Clause → List ℕ → List ℕ
clause_stored names k c s =
    let places = item_places names (clause_base k) in
    set
    (set
    (set
    (set
    (goals_stored places (clause_goals_from k) c.body
    (guards_stored places (clause_tests_from k) c.guards (stored places (as_term c.head) s)))
    (clause_pairs_word k)
    c.pairs)
    (clause_compounds_word k)
    c.compounds)
    (clause_goals_word k)
    (length c.body))
    (clause_guards_word k)
    (length c.guards)

-- The query k: its goals, then its goals, pairs and compounds counted, then where its variables first stand.
unfoldable pub query_stored : List Place → ℕ → Query → List Place → List ℕ → List ℕ
query_stored names k q vs s =
    places_stored (query_variables_from k) vs
    (set
    (set
    (set (goals_stored (item_places names (query_base k)) (query_goals_from k) q.goals s) (query_record k) (length q.goals))
    (query_pairs_word k)
    (length q.variables))
    (query_compounds_word k)
    q.compounds)

unfoldable pub entries_stored : List Place → ℕ → ℕ → List Entry → List ℕ → List ℕ
entries_stored names k q [] s = s
entries_stored names k q (a_clause c ∷ es) s = entries_stored names (k + 1) q es (clause_stored names k c s)
entries_stored names k q (a_query g vs ∷ es) s = entries_stored names k (q + 1) es (query_stored names q g vs s)

-- A clause's procedure, by the first word of its head goal: the number of arguments, and eight times one more than the name's number.
unfoldable pub head_word : List Place → Named → ℕ
head_word names g = functor_word (item_places names 0) (named g.name) (count g.arguments)

unfoldable pub head_words : List Place → List Clause → List ℕ
head_words names cs = map (λ c. head_word names c.head) cs

-- Clauses linked, from the last to the first: each becomes the first of its procedure, and the first so far its next.
unfoldable pub link_one : ℕ → ℕ → List ℕ → List ℕ
link_one k w s = set (set s (clause_record k) (get_or s (procedure_slot w) 0)) (procedure_slot w) (k + 1)

unfoldable pub linked : ℕ → List ℕ → List ℕ → List ℕ
linked k [] s = s
linked k (w ∷ ws) s = link_one k w (linked (k + 1) ws s)

-- All of it. The names' numbers are their places among all the names of the text.
unfoldable pub text_names : Bytes → List Place
text_names text = names_in (tokens text) []

unfoldable pub text_entries : Bytes → List Entry
text_entries text = entries [] 0 0 (pieces (tokens text))

unfoldable pub image : Bytes → List ℕ → List ℕ
image text s =
    places_stored 0 (text_names text)
    (linked 0 (head_words (text_names text) (clauses_of (text_entries text)))
    (entries_stored (text_names text) 0 0 (text_entries text) s))
