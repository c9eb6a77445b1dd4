-- What reading an item answers against the definitions' `item`.
use Rattle.std.specs.Prelude.{ℕ, ◌+◌, ◌≤◌, ◌<◌, ◌≡◌, List, [], ◌∷◌, map, length, set, drop, replicate, Option, Some, None, Result, Ok, Err}
use Rattle.meaning.specs.Bytes.{Bytes}
use Rattle.meaning.specs.Terms.{Clause, Query, count}
use Rattle.meaning.specs.Tokens.{Tokens, ends, token, name, sign}
use Rattle.meaning.specs.Faults.{Fault}
use Rattle.meaning.specs.Items.{clause, query, refused, no_item, guard_rule, occurrence_rule, figure, item}
use Rattle.term.specs.Frames.{Only}
use Rattle.term.specs.Jobs.{GoalsKnown}
use Rattle.term.specs.Layout.{trial_region}
use Rattle.load_tokens.specs.Fronts.{tokens_in}
use Rattle.load_names.specs.Places.{Place, Placed, spellings, before, names_over, variables_over}
use Rattle.load_names.specs.Tables.{NamesIn}
use Rattle.load_openings.specs.Reading.{piece, Open}
use Rattle.load_faults.specs.Finding.{FaultIs}
use Rattle.load_image.specs.Image.{so_far, clause_stored, query_stored, head_word}
use Rattle.load_items.specs.Rules.{GuardsNamed}
use Rattle.load_items.specs.declared.items.Item.{Item}
use Rattle.load_items.specs.declared.items.Item.TheVariants.{Clause as AClause, Query as AQuery}
use Rattle.load_items.specs.declared.items.Unfit.{Unfit}
use Rattle.load_items.specs.declared.refused.Refused.{Refused}
use Rattle.load_items.specs.declared.refused.Refused.TheVariants.{Malformed, Unknown, Broken, Exceeded}

-- A place that counts from an offset, counted from the text's first byte.
unfoldable pub shifted : ℕ → Place → Place
shifted from p = record { at = from + p.at; spelling = p.spelling }

-- An item was read, over the tokens that were passed and the full stop behind them.
pub record Took (text rest : Bytes) (from : ℕ) (known : List Place) (names' : List ℕ) (at count : ℕ) (passed : List Placed) (stop : ℕ) : Type 0 where
  pub follows : tokens_in from rest 0 ≡ before passed (token stop (sign 46) (tokens_in from rest at))
  pub no_stop : Open passed
  pub forward : 0 < at
  pub inside : at ≤ length rest
  pub names_in : NamesIn text (names_over passed known) names'
  pub count_is : count ≡ length (names_over passed known)

pub record TookClause (text rest : Bytes) (from : ℕ) (known : List Place) (clauses queries : ℕ) (s heads s' names' heads' : List ℕ) (at count' : ℕ)
    (c : Clause) (passed : List Placed) (stop : ℕ) : Type 0 where
  pub took : Took text rest from known names' at count' passed stop
  pub reads : item (so_far known clauses queries) (piece (tokens_in from rest 0)) ≡ clause c (spellings (names_over passed known))
  pub stored_is : s' ≡ clause_stored (names_over passed known) clauses c s
  pub noted : heads' ≡ set heads clauses (head_word (names_over passed known) c.head)
  pub known_names : GoalsKnown (spellings (names_over passed known)) (c.head ∷ c.body)
  pub guards_named : GuardsNamed (spellings (names_over passed known)) c.guards
  pub few : (clauses < 128) × (count c.head.arguments ≤ 6)

pub record TookQuery (text rest : Bytes) (from : ℕ) (known : List Place) (clauses queries : ℕ) (s heads s' names' heads' : List ℕ) (at count : ℕ)
    (q : Query) (passed : List Placed) (stop : ℕ) : Type 0 where
  pub took : Took text rest from known names' at count passed stop
  pub reads : item (so_far known clauses queries) (piece (tokens_in from rest 0)) ≡ query q (spellings (names_over passed known))
  pub stored_is : s' ≡ query_stored (names_over passed known) queries q (map (shifted from) (variables_over from passed [])) s
  pub noted : heads' ≡ heads
  pub known_names : GoalsKnown (spellings (names_over passed known)) q.goals
  pub few : queries < 8

-- The item that was read.
abbrev pub TakenIs : (text rest : Bytes) (from : ℕ) (known : List Place) (clauses queries : ℕ) (s heads s' names' heads' : List ℕ) → Item → Type 0
TakenIs text rest from known clauses queries s heads s' names' heads' (AClause at count) =
    (c : Clause) × (passed : List Placed) × (stop : ℕ)
    × TookClause text rest from known clauses queries s heads s' names' heads' at count c passed stop
    × Only 0 trial_region s s'
TakenIs text rest from known clauses queries s heads s' names' heads' (AQuery at count) =
    (q : Query) × (passed : List Placed) × (stop : ℕ)
    × TookQuery text rest from known clauses queries s heads s' names' heads' at count q passed stop
    × Only 0 trial_region s s'

-- Why the item that begins at an offset of the rest is refused.
abbrev pub RefusedIs : (rest : Bytes) (from : ℕ) (known : List Place) (clauses queries begins : ℕ) (s s' : List ℕ) → Refused → Type 0
RefusedIs rest from known clauses queries begins s s' (Malformed a) =
    (item (so_far known clauses queries) (piece (tokens_in from rest 0)) ≡ refused (no_item (from + a))) × (a ≤ length rest) × Only 0 trial_region s s'
RefusedIs rest from known clauses queries begins s s' Unknown =
    (item (so_far known clauses queries) (piece (tokens_in from rest 0)) ≡ refused (guard_rule (from + begins))) × Only 0 trial_region s s'
RefusedIs rest from known clauses queries begins s s' (Broken fault) =
    (f : Fault) × (item (so_far known clauses queries) (piece (tokens_in from rest 0)) ≡ refused (occurrence_rule (from + begins) f))
    × FaultIs (length rest) from fault f × Only 0 trial_region s s'
RefusedIs rest from known clauses queries begins s s' Exceeded =
    (item (so_far known clauses queries) (piece (tokens_in from rest 0)) ≡ refused (figure (from + begins))) × Only 0 trial_region s s'

-- An item that begins at an offset of the rest.
abbrev pub BegunIs : (text rest : Bytes) (from : ℕ) (known : List Place) (clauses queries begins : ℕ) (s heads s' names' heads' : List ℕ)
    → Result Item Refused → Type 0
BegunIs text rest from known clauses queries begins s heads s' names' heads' (Ok i) = TakenIs text rest from known clauses queries s heads s' names' heads' i
BegunIs text rest from known clauses queries begins s heads s' names' heads' (Err why) = RefusedIs rest from known clauses queries begins s s' why

abbrev pub begun_at : ℕ → Result Item Refused → Result (Option Item) Unfit
begun_at begins (Ok i) = Ok (Some i)
begun_at begins (Err why) = Err (record { begins = begins; why = why })

-- The item in front, or that nothing is left.
abbrev pub ItemIs : (text rest : Bytes) (from : ℕ) (known : List Place) (clauses queries : ℕ) (s heads s' names names' heads' : List ℕ)
    → Result (Option Item) Unfit → Type 0
ItemIs text rest from known clauses queries s heads s' names names' heads' (Ok (Some i)) =
    TakenIs text rest from known clauses queries s heads s' names' heads' i
ItemIs text rest from known clauses queries s heads s' names names' heads' (Ok None) =
    (tokens_in from rest 0 ≡ ends (from + length rest)) × (s' ≡ s) × (heads' ≡ heads) × (names' ≡ names)
ItemIs text rest from known clauses queries s heads s' names names' heads' (Err unfit) =
    (unfit.begins ≤ length rest) × RefusedIs rest from known clauses queries unfit.begins s s' unfit.why

-- An item that begins with a name.
pub record FirstName (rest : Bytes) (from begins : ℕ) (f : Bytes) (ts : Tokens) : Type 0 where
  pub tokens : tokens_in from rest 0 ≡ token (from + begins) (name f) ts

-- Before an item is read: the rest of the text begins here, these names are known, and the item's table is empty.
pub record Begins (text rest : Bytes) (from : ℕ) (names item : List ℕ) (count : ℕ) (known : List Place) : Type 0 where
  pub part : (from ≤ length text) × (rest ≡ drop from text)
  pub names_in : NamesIn text known names
  pub count_is : count ≡ length known
  pub empty : item ≡ replicate 64 0

-- There is room for any item, and for each clause's head.
pub record Lent (s heads : List ℕ) : Type 0 where
  pub enough : trial_region ≤ length s
  pub fits : length s < 1152921504606846976
  pub heads_size : length heads ≡ 128
