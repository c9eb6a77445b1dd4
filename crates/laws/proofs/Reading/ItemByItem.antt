-- The text item by item: in an accepted text each clause piece reads as the clause, and each query piece as the query, in its place.
-- By induction over the pieces, with the names, clauses and queries counted so far.
use Prim.Native.Nat.{ℕ, ◌+◌, ◌≤◌}
use mathlib.Core.Path.{◌≡◌, refl}
use mathlib.Core.Bool.{Bool, true, false}
use mathlib.Core.List.{List, [], ◌∷◌}
use native.Mathlib.Omega.{arith}
use lib.Dec.{leb}
use lib.ListN.{length}
use borrow.Author.Tests.{leb-true}
use Rattle.meaning.specs.Bytes.{Bytes, when◌then◌else◌, those}
use Rattle.meaning.specs.Terms.{Clause, Query, Job}
use Rattle.meaning.specs.Tokens.{Tokens, tokens}
use Rattle.meaning.specs.Items.{
  is,
  is_name,
  Refusal,
  SoFar,
  Piece,
  nothing,
  clause,
  query,
  item,
  pieces,
  Reading,
  job,
  with_clause,
  with_query,
  items,
  asked,
  reading,
}
use Rattle.laws.proofs.Lists.{In, here, there, Each, Paired, done, pair, differ}
use Rattle.laws.proofs.Reading.Figures.{SpellingsFit, no_spellings_fit}
use Rattle.laws.proofs.Reading.EachToken.{EachToken}
use Rattle.laws.proofs.Reading.TokensFit.{TokenFits, tokens_fit}
use Rattle.laws.proofs.Reading.Passed.{Cut}
use Rattle.laws.proofs.Reading.Faultless.{pieces_cut}
use Rattle.laws.proofs.Reading.Items.{
  begins_with,
  clause_pieces,
  query_pieces,
  Among,
  ClauseRead,
  QueryRead,
  ClauseNext,
  QueryNext,
  Says,
  item_says,
}

-- The names of the text behind these pieces, item by item as the text is read.
unfoldable pub names_behind : SoFar → List Tokens → List Bytes
names_behind so_far [] = so_far.names
names_behind so_far (piece ∷ pieces) =
    elim (item so_far piece) [
      | nothing ↦ names_behind so_far pieces
      | clause c names ↦ names_behind (record { names = names; clauses = so_far.clauses + 1; queries = so_far.queries }) pieces
      | query q names ↦ names_behind (record { names = names; clauses = so_far.clauses; queries = so_far.queries + 1 }) pieces
      | Piece.refused r ↦ so_far.names
    ]

-- All names of a text, in order of first occurrence.
unfoldable pub names_of : Bytes → List Bytes
names_of text = names_behind (record { names = []; clauses = 0; queries = 0 }) (pieces (tokens text))

-- A piece reads as a clause, or as a query, whose names are among these.
abbrev pub ClauseAmong : List Bytes → Tokens → Clause → Type 0
ClauseAmong names piece c = (r : ClauseRead piece c) × Among r.item.counted.names names

abbrev pub QueryAmong : List Bytes → Tokens → Query → Type 0
QueryAmong names piece q = (r : QueryRead piece q) × Among r.item.counted.names names

-- Clauses are counted on, from a number.
abbrev pub CountedFrom : ℕ → List Clause → Type 0
CountedFrom n [] = Unit {0}
CountedFrom n (c ∷ cs) = (c.place ≡ n) × CountedFrom (n + 1) cs

counted_within : (n : ℕ) (cs : List Clause) → CountedFrom n cs → (c : Clause) → In c cs → (n ≤ c.place) × (c.place + 1 ≤ n + length cs)
counted_within n [] h c m = elim m [ ]
counted_within n (d ∷ cs) h c (here e) = rw e (omega (arith, h.0), omega (arith, h.0))
counted_within n (d ∷ cs) h c (there m) = let (a, b) = counted_within (n + 1) cs h.1 c m in (omega arith, omega arith)

-- The pieces are read, each in its place, behind what has been counted so far; and the figures of the whole text are kept.
pub record ReadInOrder (so_far : SoFar) (ps : List Tokens) (j : Job) : Type 0 where
  pub names : List Bytes
  pub counted : names_behind so_far ps ≡ names
  pub names_fit : SpellingsFit 256 names
  pub among : Among so_far.names names
  pub few_clauses : so_far.clauses + length j.clauses ≤ 128
  pub few_queries : so_far.queries + length j.queries ≤ 8
  pub nth : CountedFrom (so_far.clauses + 1) j.clauses
  pub clauses : Paired (ClauseAmong names) (those (begins_with is_name) ps) j.clauses
  pub queries : Paired (QueryAmong names) (those (begins_with (is "?")) ps) j.queries

pub record InFigures (so_far : SoFar) : Type 0 where
  pub names : SpellingsFit 256 so_far.names
  pub clauses : so_far.clauses ≤ 128
  pub queries : so_far.queries ≤ 8

-- One more piece in front of those read.
module _ (so_far : SoFar) (piece : Tokens) (ps : List Tokens) (j : Job) where
  with_nothing : item so_far piece ≡ nothing → (begins_with is_name piece ≡ false) × (begins_with (is "?") piece ≡ false)
      → ReadInOrder so_far ps j → ReadInOrder so_far (piece ∷ ps) j
  unfolding those when◌then◌else◌ names_behind
  with_nothing is_so (unnamed, unasked) h =
      record {
        names = h.names;
        counted = rw (is_so, names_behind) h.counted;
        names_fit = h.names_fit;
        among = h.among;
        few_clauses = h.few_clauses;
        few_queries = h.few_queries;
        nth = h.nth;
        clauses = rw unnamed h.clauses;
        queries = rw unasked h.queries;
      }

  module _ (names : List Bytes) where
    with_one_clause : (c : Clause) → item so_far piece ≡ clause c names → ClauseNext so_far piece c names
        → ReadInOrder (record { names = names; clauses = so_far.clauses + 1; queries = so_far.queries }) ps j
        → ReadInOrder so_far (piece ∷ ps) (record { clauses = c ∷ j.clauses; queries = j.queries })
    unfolding those when◌then◌else◌ names_behind
    with_one_clause c is_so n h =
        record {
          names = h.names;
          counted = rw (is_so, names_behind) h.counted;
          names_fit = h.names_fit;
          among = λ f k. h.among f (n.among f k);
          few_clauses = omega (arith, h.few_clauses);
          few_queries = h.few_queries;
          nth = (n.nth, h.nth);
          clauses = rw n.named (pair (n.clause_read, rw n.counted h.among) h.clauses);
          queries = rw n.unasked h.queries;
        }

    with_one_query : (q : Query) → item so_far piece ≡ query q names → QueryNext so_far piece q names
        → ReadInOrder (record { names = names; clauses = so_far.clauses; queries = so_far.queries + 1 }) ps j
        → ReadInOrder so_far (piece ∷ ps) (record { clauses = j.clauses; queries = q ∷ j.queries })
    unfolding those when◌then◌else◌ names_behind
    with_one_query q is_so n h =
        record {
          names = h.names;
          counted = rw (is_so, names_behind) h.counted;
          names_fit = h.names_fit;
          among = λ f k. h.among f (n.among f k);
          few_clauses = h.few_clauses;
          few_queries = omega (arith, h.few_queries);
          nth = h.nth;
          clauses = rw n.unnamed h.clauses;
          queries = rw n.asked (pair (n.query_read, rw n.counted h.among) h.queries);
        }

with_clause_job : (c : Clause) (x : Reading) (j : Job) → with_clause c x ≡ job j
    → (j' : Job) × (x ≡ job j') × (j ≡ record { clauses = c ∷ j'.clauses; queries = j'.queries })
unfolding with_clause
with_clause_job c (job j') j e = (j', refl, cc)
with_clause_job c (Reading.refused r) j e = absurd (differ (cc))

with_query_job : (q : Query) (x : Reading) (j : Job) → with_query q x ≡ job j
    → (j' : Job) × (x ≡ job j') × (j ≡ record { clauses = j'.clauses; queries = q ∷ j'.queries })
unfolding with_query
with_query_job q (job j') j e = (j', refl, cc)
with_query_job q (Reading.refused r) j e = absurd (differ (cc))

-- "The text item by item": where no item is refused, each piece reads as the clause or query in its place.
pub items_in_order : (ps : List Tokens) → Each (EachToken TokenFits) ps → Each Cut ps
    → (so_far : SoFar) (j : Job) → InFigures so_far → items so_far ps ≡ job j → ReadInOrder so_far ps j
unfolding items those Says names_behind
items_in_order [] fit cut so_far j h e =
    let e' : j ≡ record { clauses = []; queries = [] } = cc in
    rw e' (record {
      names = so_far.names;
      counted = refl;
      names_fit = h.names;
      among = λ f k. k;
      few_clauses = omega arith;
      few_queries = omega arith;
      nth = tt;
      clauses = done;
      queries = done;
    })
items_in_order (piece ∷ ps) fit cut so_far j h e =
    go (item so_far piece) refl (item_says so_far piece h.names fit.0 cut.0) (items_in_order ps fit.1 cut.1)
  where
    go : (p : Piece) → item so_far piece ≡ p → Says so_far piece p
        → ((so_far : SoFar) (j : Job) → InFigures so_far → items so_far ps ≡ job j → ReadInOrder so_far ps j) → ReadInOrder so_far (piece ∷ ps) j
    go nothing i says further = with_nothing so_far piece ps j i says (further so_far j h (rw (i, items) at e))
    go (clause c names) i says further =
        let after : SoFar = record { names = names; clauses = so_far.clauses + 1; queries = so_far.queries } in
        let (j', e₁, e₂) = with_clause_job c (items after ps) j (rw (i, items) at e) in
        let figures : InFigures after = record { names = says.names_fit; clauses = omega (arith, says.room); queries = h.queries } in
        rw e₂ (with_one_clause so_far piece ps j' names c i says (further after j' figures e₁))
    go (query q names) i says further =
        let after : SoFar = record { names = names; clauses = so_far.clauses; queries = so_far.queries + 1 } in
        let (j', e₁, e₂) = with_query_job q (items after ps) j (rw (i, items) at e) in
        let figures : InFigures after = record { names = says.names_fit; clauses = h.clauses; queries = omega (arith, says.room) } in
        rw e₂ (with_one_query so_far piece ps j' names q i says (further after j' figures e₁))
    go (Piece.refused r) i says further =
        let e' : Reading.refused r ≡ job j = rw (i, items) at e in absurd (differ (cc))

-- "Then no query."
asked_job : (x : Reading) (j : Job) → asked x ≡ job j → (x ≡ job j) × (1 ≤ length j.queries)
unfolding asked when◌then◌else◌
asked_job (job j') j e = go (leb 1 (length j'.queries)) refl
  where
    go : (b : Bool) → leb 1 (length j'.queries) ≡ b → (job j' ≡ job j) × (1 ≤ length j.queries)
    go true t =
        let e₁ : job j' ≡ job j = rw t at e in
        let e₂ : j ≡ j' = cc in
        (e₁, rw e₂ (leb-true 1 (length j'.queries) t))
    go false t = let e₁ : Reading.refused Refusal.no_query ≡ job j = rw t at e in absurd (differ (cc))
asked_job (Reading.refused r) j e = absurd (differ (cc))

-- An accepted text, as it was read.
pub record TextRead (text : Bytes) (j : Job) : Type 0 where
  pub names_fit : SpellingsFit 256 (names_of text)
  pub few_clauses : length j.clauses ≤ 128
  pub some_queries : 1 ≤ length j.queries
  pub few_queries : length j.queries ≤ 8
  pub nth : CountedFrom 1 j.clauses
  pub clauses : Paired (ClauseAmong (names_of text)) (clause_pieces text) j.clauses
  pub queries : Paired (QueryAmong (names_of text)) (query_pieces text) j.queries

pub accepted_is_read : (text : Bytes) (j : Job) → reading text ≡ job j → TextRead text j
unfolding reading clause_pieces query_pieces names_of
accepted_is_read text j e =
    let first : SoFar = record { names = []; clauses = 0; queries = 0 } in
    let (accepted, asked) = asked_job (items first (pieces (tokens text))) j e in
    let in_order = items_in_order (pieces (tokens text)) (tokens_fit text) (pieces_cut (tokens text)) first j (record { names = no_spellings_fit 256; clauses = omega arith; queries = omega arith }) accepted in
    record {
      names_fit = rw in_order.counted in_order.names_fit;
      few_clauses = omega (arith, in_order.few_clauses);
      some_queries = asked;
      few_queries = omega (arith, in_order.few_queries);
      nth = in_order.nth;
      clauses = rw in_order.counted in_order.clauses;
      queries = rw in_order.counted in_order.queries;
    }

-- A clause's number is one of those from 1 to as many clauses as there are.
pub clause_numbered : (text : Bytes) (j : Job) → reading text ≡ job j → (c : Clause) → In c j.clauses → (1 ≤ c.place) × (c.place ≤ length j.clauses)
clause_numbered text j e c m =
    let (a, b) = counted_within 1 j.clauses (accepted_is_read text j e).nth c m in
    (a, omega arith)
