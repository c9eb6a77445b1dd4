-- What it is for the scratch to hold a job: the records and compounds of its clauses and queries, and each procedure's clauses linked in
-- text order. Each part reads only the words of its own region.
use Rattle.std.specs.Prelude.{ℕ, ◌+◌, ◌≤◌, ◌<◌, ◌≡◌, false, ◌≢◌, List, [], ◌∷◌, length, get_or}
use Rattle.meaning.specs.Bytes.{Bytes, same}
use Rattle.meaning.specs.Terms.{Named, named, Clause, Query, Job, count, as_term}
use Rattle.meaning.specs.Trial.{procedure}
use Rattle.term.specs.Cells.{Places, term_word, functor_word, Numbered, KnownName, Known}
use Rattle.term.specs.Holds.{Holds}
use Rattle.term.specs.Guards.{GuardsNumbered, GuardsKnown, HoldsGuards}
use Rattle.term.specs.Layout.{clauses_region, queries_region, index_from, items_region, trial_region, compounds_region, item_place, procedure_slot, clause_record, clause_base, query_record, query_base, query_pairs_word, query_compounds_word, query_goals_from, clause_pairs_word, clause_compounds_word, clause_goals_word, clause_goals_from, clause_guards_word, clause_tests_from}

-- An item's own places: pairs by their numbers, compounds from the item's first place on.
abbrev pub places_from : List Bytes → ℕ → Places
places_from names base = record { names = names; pair = λ n. n; compound = λ n. item_place base n; width = λ n. 8 }

-- Heads and goals one behind the other, their compounds numbered from lo up to hi.
unfoldable pub GoalsNumbered : ℕ → ℕ → List Named → Type 0
GoalsNumbered lo hi [] = lo ≤ hi
GoalsNumbered lo hi (g ∷ gs) = (mid : ℕ) × Numbered lo mid (as_term g) × GoalsNumbered mid hi gs

-- Every name of these heads and goals is among the text's.
unfoldable pub GoalsKnown : List Bytes → List Named → Type 0
GoalsKnown names [] = Unit {0}
GoalsKnown names (g ∷ gs) = Known names (as_term g) × GoalsKnown names gs

-- "Per item 16 variable pairs, 32 compounds (head, goals and list cells counted) and 8 body or query goals", "1 to 8 guards" before them, the compounds
-- numbered in order: the head's, the guards', the body's.
pub record ClauseLaid (names : List Bytes) (c : Clause) : Type 0 where
  pub few_pairs : c.pairs ≤ 16
  pub few_compounds : c.compounds ≤ 32
  pub few_goals : length c.body ≤ 8
  pub few_guards : length c.guards ≤ 8
  pub behind_head : ℕ
  pub behind_guards : ℕ
  pub head_numbered : Numbered 0 behind_head (as_term c.head)
  pub guards_numbered : GuardsNumbered behind_head behind_guards c.guards
  pub body_numbered : GoalsNumbered behind_guards c.compounds c.body
  pub known : GoalsKnown names (c.head ∷ c.body)
  pub guards_known : GuardsKnown names c.guards

pub record QueryLaid (names : List Bytes) (q : Query) : Type 0 where
  pub few_pairs : length q.variables ≤ 16
  pub few_compounds : q.compounds ≤ 32
  pub few_goals : length q.goals ≤ 8
  pub numbered : GoalsNumbered 0 q.compounds q.goals
  pub known : GoalsKnown names q.goals

-- The goals' words stand one behind the other, from the i-th word behind a place on, and each goal is held.
unfoldable pub HoldsGoals : List ℕ → Places → ℕ → ℕ → List Named → Type 0
HoldsGoals s places place i [] = Unit {0}
HoldsGoals s places place i (g ∷ gs) =
    (get_or s (place + i) 0 ≡ term_word places (as_term g)) × Holds s places (as_term g) × HoldsGoals s places place (i + 1) gs

-- The clause k: how many pairs, compounds, body goals and guards it has, then its body goals and its guards. The record's first word is the link.
pub record HoldsClause (s : List ℕ) (names : List Bytes) (k : ℕ) (c : Clause) : Type 0 where
  pub laid : ClauseLaid names c
  pub pairs : get_or s (clause_pairs_word k) 0 ≡ c.pairs
  pub compounds : get_or s (clause_compounds_word k) 0 ≡ c.compounds
  pub goals : get_or s (clause_goals_word k) 0 ≡ length c.body
  pub head : Holds s (places_from names (clause_base k)) (as_term c.head)
  pub body : HoldsGoals s (places_from names (clause_base k)) (clause_goals_from k) 0 c.body
  pub guards : get_or s (clause_guards_word k) 0 ≡ length c.guards
  pub tests : HoldsGuards s (places_from names (clause_base k)) (clause_tests_from k) 0 c.guards

-- The query k: how many goals, pairs and compounds it has, and its goals. The record's words 3 and 4 are no part of it.
pub record HoldsQuery (s : List ℕ) (names : List Bytes) (k : ℕ) (q : Query) : Type 0 where
  pub laid : QueryLaid names q
  pub goals : get_or s (query_record k) 0 ≡ length q.goals
  pub pairs : get_or s (query_pairs_word k) 0 ≡ length q.variables
  pub compounds : get_or s (query_compounds_word k) 0 ≡ q.compounds
  pub words : HoldsGoals s (places_from names (query_base k)) (query_goals_from k) 0 q.goals

-- Each of a list, by its place counted from k on.
unfoldable pub EachFrom : {A : Type 0} → (ℕ → A → Type 0) → ℕ → List A → Type 0
EachFrom P k [] = Unit {0}
EachFrom P k (a ∷ rest) = P k a × EachFrom P (k + 1) rest

-- Clauses linked: the word is 0 if there is none, else the number of the first plus one, whose record has the word of the others.
unfoldable pub Linked : List ℕ → (ℕ → Clause → Type 0) → ℕ → List Clause → Type 0
Linked s At w [] = w ≡ 0
Linked s At w (c ∷ cs) = (k : ℕ) × (w ≡ k + 1) × At k c × Linked s At (get_or s (clause_record k) 0) cs

-- Where the procedure of a goal has its word: by the first word of the goal's compound.
abbrev pub procedure_place : List Bytes → Named → ℕ
procedure_place names goal = procedure_slot (functor_word (places_from names 0) (named goal.name) (count goal.arguments))

-- No name stands twice.
unfoldable pub Distinct : List Bytes → Type 0
Distinct names = (i j : ℕ) → i < j → j < length names → same (get_or names i []) (get_or names j []) ≡ false

-- One of the 128 clauses, which count from 1.
pub record ClauseAt (s : List ℕ) (names : List Bytes) (k : ℕ) (c : Clause) : Type 0 where
  pub number : k < 128
  pub nth : c.place ≡ k + 1
  pub held : HoldsClause s names k c

pub record HoldsJob (s : List ℕ) (names : List Bytes) (job : Job) : Type 0 where
  pub inside : compounds_region ≤ length s
  pub few_names : length names ≤ 256
  pub distinct : Distinct names
  pub few_clauses : length job.clauses ≤ 128
  pub few_queries : length job.queries ≤ 8
  pub clauses : EachFrom (HoldsClause s names) 0 job.clauses
  pub procedures : (goal : Named) → KnownName names goal.name → count goal.arguments ≤ 6
      → Linked s (ClauseAt s names) (get_or s (procedure_place names goal) 0) (procedure job.clauses goal)
  pub queries : EachFrom (HoldsQuery s names) 0 job.queries

-- The words that hold a job stay: those of the names, procedures and clauses, of the queries' records without words 3 and 4, and of the items'
-- compounds.
pub record JobKept (s s' : List ℕ) : Type 0 where
  pub size : length s ≤ length s'
  pub before : (k : ℕ) → k < queries_region → get_or s' k 0 ≡ get_or s k 0
  pub records : (q i : ℕ) → q < 8 → i < 64 → i ≢ 3 → i ≢ 4 → get_or s' (query_record q + i) 0 ≡ get_or s (query_record q + i) 0
  pub items : (k : ℕ) → items_region ≤ k → k < trial_region → get_or s' k 0 ≡ get_or s k 0

-- The same, but for the index in the clauses' records.
pub record KeptButIndex (s s' : List ℕ) : Type 0 where
  pub size : length s ≤ length s'
  pub before : (k : ℕ) → k < clauses_region → get_or s' k 0 ≡ get_or s k 0
  pub clauses : (c i : ℕ) → c < 128 → i < index_from → get_or s' (clause_record c + i) 0 ≡ get_or s (clause_record c + i) 0
  pub records : (q i : ℕ) → q < 8 → i < 64 → i ≢ 3 → i ≢ 4 → get_or s' (query_record q + i) 0 ≡ get_or s (query_record q + i) 0
  pub items : (k : ℕ) → items_region ≤ k → k < trial_region → get_or s' k 0 ≡ get_or s k 0
