-- One item read: from nothing counted but the text's names, over the tokens of its piece, to a clause or a query that passed the tests.
-- Every law of accepted items follows from that; two pieces with the same tokens read as the same.
use Prim.Native.Nat.{ℕ, ◌+◌, ◌<◌}
use mathlib.Core.Path.{◌≡◌, refl}
use mathlib.Core.Bool.{Bool, true, false}
use mathlib.Core.List.{List, [], ◌∷◌}
use mathlib.Core.Option.{Option, none, some}
use native.Mathlib.Omega.{arith}
use lib.Dec.{ltb}
use lib.ListN.{length}
use borrow.Author.Tests.{ltb-true}
use Rattle.meaning.specs.Bytes.{Bytes, when◌then◌else◌, same, all, any, those}
use Rattle.meaning.specs.Terms.{Half, Named, Guard, Clause, Query, all_occurrences, goals_occurrences}
use Rattle.meaning.specs.Tokens.{Token, name, variable, integer, sign, bad, Tokens, ends, token, tokens}
use Rattle.meaning.specs.Faults.{Fault, occurs_at, pairing, head_tokens, clause_faults, query_faults, least}
use Rattle.meaning.specs.Table.{as_guards, of_the_head, licensed}
use Rattle.meaning.specs.Items.{
  Counted,
  Read,
  read,
  malformed,
  passed,
  Reader,
  is,
  is_name,
  place_of,
  goals,
  Rule,
  rule,
  no_item,
  guard_rule,
  figure,
  SoFar,
  Piece,
  nothing,
  clause,
  query,
  refused,
  unless_broken,
  free,
  with_guards,
  unless_unknown,
  clause_piece,
  query_piece,
  fresh,
  clause_from,
  query_from,
  item_from,
  item,
  pieces,
}
use Rattle.laws.proofs.Reading.Figures.{SpellingsFit, no_spellings_fit}
use Rattle.laws.proofs.Reading.EachToken.{EachToken}
use Rattle.laws.proofs.Reading.TokensFit.{TokenFits}
use Rattle.laws.proofs.Reading.Rules.{nothing_twice, nothing_twice_but, both_halves}
use Rattle.laws.proofs.Reading.Alike.{bare, Same, SameBy, both_read}
use Rattle.laws.proofs.Reading.Passed.{Cut, cut_behind, by_number}
use Rattle.laws.proofs.Reading.Occurring.{goals_counts}
use Rattle.laws.proofs.Reading.Bodies.{OverRule, rule_counts}
use Rattle.laws.proofs.Reading.Faultless.{item_counts, query_kept, clause_kept, clause_clear, least_none}
use Rattle.laws.proofs.Reading.RuleTokens.{head_of_pairing, head_counts, paired_counts}
use Rattle.laws.proofs.Reading.Readers.{SteadyBy, GoalsFit, goals_steady}
use Rattle.laws.proofs.Reading.BodyReaders.{RuleFits, RuleAlike, rule_steady}

-- A piece's first token passes a test; what stands behind it.
unfoldable pub begins_with : (Token → Bool) → Tokens → Bool
begins_with test (ends place) = false
begins_with test (token place t rest) = test t

unfoldable pub behind_first : Tokens → Tokens
behind_first (ends place) = ends place
behind_first (token place t rest) = rest

-- Of the pieces of a text, those of its clauses, which begin with a name, and those of its queries, which begin with `?-`.
unfoldable pub clause_pieces : Bytes → List Tokens
clause_pieces text = those (begins_with is_name) (pieces (tokens text))

unfoldable pub query_pieces : Bytes → List Tokens
query_pieces text = those (begins_with (is "?")) (pieces (tokens text))

-- Every name of the one list is in the other.
abbrev pub Among : List Bytes → List Bytes → Type 0
Among l names = (f : Bytes) → any (same f) l ≡ true → any (same f) names ≡ true

-- A reader has read an item from these tokens, behind items with these names.
pub record ItemRead {A : Type 0} (r : Reader A) (s : Tokens) : Type 0 where
  pub names : List Bytes
  pub names_fit : SpellingsFit 256 names
  pub fit : EachToken TokenFits s
  pub value : A
  pub counted : Counted
  pub rest : Tokens
  pub is_read : r (fresh names) s ≡ read value counted rest

-- The same tokens are read alike, whatever the names before them; and what is read fits.
pub same_tokens_same_item : {A : Type 0} {R : A → A → Type 0} (P : ℕ → Counted → A → Type 0) {r : Reader A} {s₁ s₂ : Tokens} → SteadyBy R P r → bare s₁ ≡ bare s₂
    → (x₁ : ItemRead r s₁) (x₂ : ItemRead r s₂)
    → SameBy (fresh x₁.names) R (P 0) x₁.value x₂.value x₁.counted x₂.counted x₁.rest x₂.rest
unfolding fresh
same_tokens_same_item P steady e x₁ x₂ =
    both_read (steady (fresh x₁.names))
    (record {
      variables = refl;
      compounds = refl;
      tokens = e;
      figures = record { names = x₁.names_fit; variables = no_spellings_fit 16; compounds = omega arith };
      fit = x₁.fit;
    })
    x₁.is_read x₂.is_read

-- A piece reads as a clause.
pub record ClauseRead (piece : Tokens) (c : Clause) : Type 0 where
  pub item : ItemRead rule piece
  pub guards : List Guard
  pub in_table : as_guards item.value.body.guards ≡ some guards
  pub of_head : all (of_the_head (length item.counted.variables) item.value.head) guards ≡ true
  pub not_twice : nothing_twice_but (licensed guards) (length item.counted.variables) item.value.head item.value.body.goals ≡ true
  pub halves : both_halves (length item.counted.variables) (item.value.head ∷ item.value.body.goals) ≡ true
  pub made : c
      ≡ record { place = c.place; head = item.value.head; guards = guards; body = item.value.body.goals; pairs = length item.counted.variables; compounds = item.counted.compounds }

-- A piece reads as a query: its goals stand behind its `?-`.
pub record QueryRead (piece : Tokens) (q : Query) : Type 0 where
  pub item : ItemRead (goals 8) (behind_first piece)
  pub not_twice : nothing_twice (length item.counted.variables) item.value ≡ true
  pub made : q ≡ record { goals = item.value; variables = item.counted.variables; compounds = item.counted.compounds }

pub rule_fits : {piece : Tokens} (x : ItemRead rule piece)
    → SameBy (fresh x.names) RuleAlike (RuleFits 0) x.value x.value x.counted x.counted x.rest x.rest
rule_fits x = same_tokens_same_item RuleFits rule_steady refl x x

pub goals_fit : {behind : Tokens} (x : ItemRead (goals 8) behind)
    → Same (fresh x.names) (GoalsFit 8 0) x.value x.value x.counted x.counted x.rest x.rest
goals_fit x = same_tokens_same_item (GoalsFit 8) (goals_steady 8) refl x x

-- The tokens of a clause that count for the pairing.
abbrev pub paired : {piece : Tokens} → ItemRead rule piece → Tokens
paired {piece} x = pairing x.value.body.behind piece

-- How its tokens were passed over: its head's, and then those behind its `:-`.
pub rule_over : {piece : Tokens} (x : ItemRead rule piece) → OverRule (fresh x.names) piece x.value x.counted x.rest
rule_over {piece} x = rule_counts (fresh x.names) piece x.value x.counted x.rest x.is_read

-- Each half of each variable stands among an item's tokens that count as often as in what is read, and in a clause's head as often as in the head.
pub rule_tokens : {piece : Tokens} (x : ItemRead rule piece) → Cut piece → (h : Half) (y : Bytes)
    → length (occurs_at h y (paired x)) ≡ by_number (place_of y x.counted.variables) (λ n. goals_occurrences h n (x.value.head ∷ x.value.body.goals))
rule_tokens x cut h y = paired_counts (rule_over x) cut h y

pub rule_head_tokens : {piece : Tokens} (x : ItemRead rule piece) → Cut piece → (h : Half) (y : Bytes)
    → length (occurs_at h y (head_tokens (paired x))) ≡ by_number (place_of y x.counted.variables) (λ n. all_occurrences h n x.value.head.arguments)
rule_head_tokens {piece} x cut h y = rw (head_of_pairing x.value.body.behind piece) (head_counts (rule_over x) cut h y)

pub goals_tokens : {behind : Tokens} (x : ItemRead (goals 8) behind) → Cut behind → (h : Half) (y : Bytes)
    → length (occurs_at h y behind) ≡ by_number (place_of y x.counted.variables) (λ n. goals_occurrences h n x.value)
goals_tokens {behind} x cut =
    item_counts (λ h n. goals_occurrences h n x.value) (fresh x.names) x.counted behind x.rest
    ((goals_counts 8).over (fresh x.names) behind x.value x.counted x.rest x.is_read) cut

-- A reader is free exactly if a guard licenses its number.
pub free_licensed : (guards : List Guard) (xs : List Bytes) (y : Bytes) (n : ℕ) → place_of y xs ≡ some n → free guards xs y ≡ licensed guards n
unfolding free
free_licensed guards xs y n e = rw (e, free) refl

-- A clause that is read has no fault exactly if the rules hold of its terms.
module _ {piece : Tokens} (x : ItemRead rule piece) (cut : Cut piece) (guards : List Guard) where
  abbrev pub faults_of : List Fault
  faults_of = clause_faults (free guards x.counted.variables) (paired x) x.counted.variables

  pub rule_kept : faults_of ≡ []
      → (nothing_twice_but (licensed guards) (length x.counted.variables) x.value.head x.value.body.goals ≡ true)
      × (both_halves (length x.counted.variables) (x.value.head ∷ x.value.body.goals) ≡ true)
  rule_kept =
      clause_kept (free guards x.counted.variables) (paired x) x.counted.variables x.value.head x.value.body.goals
      (rule_fits x).onward.figures.variables.distinct (rule_tokens x cut) (rule_head_tokens x cut) (licensed guards) (free_licensed guards x.counted.variables)

  pub rule_clear : nothing_twice_but (licensed guards) (length x.counted.variables) x.value.head x.value.body.goals ≡ true
      → both_halves (length x.counted.variables) (x.value.head ∷ x.value.body.goals) ≡ true → faults_of ≡ []
  rule_clear =
      clause_clear (free guards x.counted.variables) (paired x) x.counted.variables x.value.head x.value.body.goals
      (rule_fits x).onward.figures.variables.distinct (rule_tokens x cut) (rule_head_tokens x cut) (licensed guards) (free_licensed guards x.counted.variables)

-- A clause or a query is read, and with it the text's names become these.
pub record ClauseNext (so_far : SoFar) (piece : Tokens) (c : Clause) (names : List Bytes) : Type 0 where
  pub named : begins_with is_name piece ≡ true
  pub unasked : begins_with (is "?") piece ≡ false
  pub room : so_far.clauses < 128
  pub nth : c.place ≡ so_far.clauses + 1
  pub clause_read : ClauseRead piece c
  pub counted : clause_read.item.counted.names ≡ names
  pub among : Among so_far.names names
  pub names_fit : SpellingsFit 256 names

pub record QueryNext (so_far : SoFar) (piece : Tokens) (q : Query) (names : List Bytes) : Type 0 where
  pub unnamed : begins_with is_name piece ≡ false
  pub asked : begins_with (is "?") piece ≡ true
  pub room : so_far.queries < 8
  pub query_read : QueryRead piece q
  pub counted : query_read.item.counted.names ≡ names
  pub among : Among so_far.names names
  pub names_fit : SpellingsFit 256 names

-- What it means for a piece to be nothing at all, a clause, or a query.
unfoldable pub Says : SoFar → Tokens → Piece → Type 0
Says so_far piece nothing = (begins_with is_name piece ≡ false) × (begins_with (is "?") piece ≡ false)
Says so_far piece (clause c names) = ClauseNext so_far piece c names
Says so_far piece (query q names) = QueryNext so_far piece q names
Says so_far piece (refused r) = Unit {0}

name_no_sign : (t : Token) → is_name t ≡ true → is "?" t ≡ false
unfolding is_name is
name_no_sign (name f) e = refl
name_no_sign (variable h x) e = refl
name_no_sign (integer i) e = refl
name_no_sign (sign b) e = cc
name_no_sign bad e = refl

module _ (so_far : SoFar) (names_fit : SpellingsFit 256 so_far.names) (begins : ℕ) (t : Token) (behind : Tokens)
    (fit : EachToken TokenFits (token begins t behind)) (cut : Cut (token begins t behind)) where
  whole : Tokens
  whole = token begins t behind

  module _ (named : is_name t ≡ true) (room : so_far.clauses < 128) where
    module _ (r : Rule) (counted : Counted) (rest : Tokens) (e : rule (fresh so_far.names) whole ≡ read r counted rest) where
      read_so : ItemRead rule whole
      unfolding whole
      read_so = record { names = so_far.names; names_fit = names_fit; fit = fit; value = r; counted = counted; rest = rest; is_read = e }

      judged_says : (guards : List Guard) → as_guards r.body.guards ≡ some guards → Says so_far whole (with_guards (so_far.clauses + 1) begins whole r counted guards)
      unfolding Says with_guards unless_broken begins_with whole fresh when◌then◌else◌ read_so
      judged_says guards known = go (all (of_the_head (length counted.variables) r.head) guards) refl (least faults) refl
        where
          faults : List Fault
          faults = clause_faults (free guards counted.variables) (pairing r.body.behind whole) counted.variables

          go : (of_head : Bool) → all (of_the_head (length counted.variables) r.head) guards ≡ of_head
              → (broken : Option Fault) → least faults ≡ broken
              → Says so_far whole (when of_head then unless_broken begins broken
              (clause (record { place = so_far.clauses + 1; head = r.head; guards = guards; body = r.body.goals; pairs = length counted.variables; compounds = counted.compounds }) counted.names)
              else refused (guard_rule begins))
          go true e₁ none e₂ =
              let kept = rule_kept read_so cut guards (least_none faults e₂) in
              record {
                named = named;
                unasked = name_no_sign t named;
                room = room;
                nth = refl;
                clause_read = record { item = read_so; guards = guards; in_table = known; of_head = e₁; not_twice = kept.0; halves = kept.1; made = refl };
                counted = refl;
                among = (rule_fits read_so).widens.names;
                names_fit = (rule_fits read_so).onward.figures.names;
              }
          go true e₁ (some fault) e₂ = tt
          go false e₁ broken e₂ = tt

      guarded_says : (o : Option (List Guard)) → as_guards r.body.guards ≡ o → Says so_far whole (unless_unknown (so_far.clauses + 1) begins whole r counted o)
      unfolding Says unless_unknown
      guarded_says none e = tt
      guarded_says (some guards) e = judged_says guards e

    clause_piece_says : (x : Read Rule) → rule (fresh so_far.names) whole ≡ x → Says so_far whole (clause_piece (so_far.clauses + 1) begins whole x)
    unfolding Says clause_piece
    clause_piece_says (read r counted rest) e = guarded_says r counted rest e (as_guards r.body.guards) refl
    clause_piece_says (malformed place) e = tt
    clause_piece_says passed e = tt

  module _ (unnamed : is_name t ≡ false) (asked : is "?" t ≡ true) (room : so_far.queries < 8) where
    query_piece_says : (x : Read (List Named)) → goals 8 (fresh so_far.names) behind ≡ x → Says so_far whole (query_piece begins behind x)
    unfolding Says query_piece unless_broken begins_with behind_first whole fresh
    query_piece_says (read gs counted rest) e = go (least (query_faults behind counted.variables)) refl
      where
        read_so : ItemRead (goals 8) behind
        read_so = record { names = so_far.names; names_fit = names_fit; fit = fit.1; value = gs; counted = counted; rest = rest; is_read = e }

        go : (broken : Option Fault) → least (query_faults behind counted.variables) ≡ broken
            → Says so_far whole (unless_broken begins broken
            (query (record { goals = gs; variables = counted.variables; compounds = counted.compounds }) counted.names))
        go none e₁ =
            record {
              unnamed = unnamed;
              asked = asked;
              room = room;
              query_read = record {
                item = read_so;
                not_twice = query_kept behind counted.variables gs (goals_fit read_so).onward.figures.variables.distinct
                    (goals_tokens read_so (cut_behind begins t behind cut)) (least_none (query_faults behind counted.variables) e₁);
                made = refl;
              };
              counted = refl;
              among = (goals_fit read_so).widens.names;
              names_fit = (goals_fit read_so).onward.figures.names;
            }
        go (some fault) e₁ = tt
    query_piece_says (malformed place) e = tt
    query_piece_says passed e = tt

  token_says : Says so_far whole (item_from so_far begins t behind)
  unfolding item_from when◌then◌else◌ whole clause_from query_from Says
  token_says = go (is_name t) refl (is "?" t) refl
    where
      as_clause : is_name t ≡ true → (room : Bool) → ltb so_far.clauses 128 ≡ room
          → Says so_far whole (when room then clause_piece (so_far.clauses + 1) begins whole (rule (fresh so_far.names) whole) else refused (figure begins))
      as_clause named true e = clause_piece_says named (ltb-true so_far.clauses 128 e) (rule (fresh so_far.names) whole) refl
      as_clause named false e = tt

      as_query : is_name t ≡ false → is "?" t ≡ true → (room : Bool) → ltb so_far.queries 8 ≡ room
          → Says so_far whole (when room then query_piece begins behind (goals 8 (fresh so_far.names) behind) else refused (figure begins))
      as_query unnamed asked true e = query_piece_says unnamed asked (ltb-true so_far.queries 8 e) (goals 8 (fresh so_far.names) behind) refl
      as_query unnamed asked false e = tt

      go : (named : Bool) → is_name t ≡ named → (asked : Bool) → is "?" t ≡ asked
          → Says so_far whole (when named then clause_from so_far begins whole else when asked then query_from so_far begins behind else refused (no_item begins))
      go true e asked e' = as_clause e (ltb so_far.clauses 128) refl
      go false e true e' = as_query e e' (ltb so_far.queries 8) refl
      go false e false e' = tt

-- What a piece of the text is says how it begins and how it is read.
pub item_says : (so_far : SoFar) (piece : Tokens) → SpellingsFit 256 so_far.names → EachToken TokenFits piece → Cut piece → Says so_far piece (item so_far piece)
unfolding item Says begins_with whole
item_says so_far (ends place) names_fit fit cut = (refl, refl)
item_says so_far (token begins t behind) names_fit fit cut = token_says so_far names_fit begins t behind fit cut
