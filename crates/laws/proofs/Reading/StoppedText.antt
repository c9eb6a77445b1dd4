-- "For 4 the token's start (the text's length at its end)": a text that is no sequence of items is refused at a token of it, or at its end.
-- The refused piece's readers stop at a place of its tokens; those are places of the text's tokens.
use Prim.Native.Nat.{ℕ, zero, suc, ◌+◌}
use mathlib.Core.Path.{subst, ◌≡◌, refl}
use mathlib.Core.Logic.{◌⊎◌, inl, inr}
use mathlib.Core.Bool.{Bool, true, false}
use mathlib.Core.List.{List, [], ◌∷◌}
use mathlib.Core.Option.{Option, none, some}
use native.Mathlib.Omega.{arith}
use lib.Dec.{leb, ltb}
use lib.ListN.{length}
use Rattle.meaning.specs.Bytes.{Bytes, when◌then◌else◌, all}
use Rattle.meaning.specs.Terms.{Named, Guard, Clause, Query}
use Rattle.meaning.specs.Tokens.{Token, Tokens, ends, token, Front, blank, front, placed, tokens_from, tokens}
use Rattle.meaning.specs.Faults.{Fault, pairing, clause_faults, least}
use Rattle.meaning.specs.Table.{as_guards, of_the_head}
use Rattle.meaning.specs.Items.{
  Counted,
  Read,
  read,
  malformed,
  passed,
  is,
  is_name,
  goals,
  Rule,
  rule,
  no_item,
  guard_rule,
  figure,
  no_query,
  SoFar,
  Piece,
  nothing,
  clause,
  query,
  refused,
  unless_broken,
  free,
  with_guards,
  unless_unknown,
  clause_piece,
  query_piece,
  fresh,
  clause_from,
  query_from,
  item_from,
  item,
  onto,
  pieces,
  Reading,
  job,
  with_clause,
  with_query,
  items,
  asked,
  reading,
}
use Rattle.laws.proofs.Lists.{In, here, there, in_none, in_single, in_cons_cases, differ}
use Rattle.laws.proofs.Reading.Rising.{StandsAt}
use Rattle.laws.proofs.Reading.Stopped.{At, goals_stop, rule_stops}

-- One piece refused with 4.
module _ (so_far : SoFar) (at : ℕ) (t : Token) (rest : Tokens) (p : ℕ) where
  not_four : (o : Option Fault) (accepted : Piece) → (accepted ≡ refused (no_item p) → ⊥) → unless_broken at o accepted ≡ refused (no_item p) → ⊥
  unfolding unless_broken
  not_four none accepted h e = h e
  not_four (some fault) accepted h e = differ (cc)

  guarded_not_four : (r : Rule) (counted : Counted) (o : Option (List Guard)) → unless_unknown (so_far.clauses + 1) at (token at t rest) r counted o ≡ refused (no_item p) → ⊥
  unfolding unless_unknown with_guards when◌then◌else◌
  guarded_not_four r counted none e = differ (cc)
  guarded_not_four r counted (some guards) e = go (all (of_the_head (length counted.variables) r.head) guards) refl
    where
      go : (b : Bool) → all (of_the_head (length counted.variables) r.head) guards ≡ b → ⊥
      go true q =
          not_four (least (clause_faults (free guards counted.variables) (pairing r.body.behind (token at t rest)) counted.variables))
          (clause (record { place = so_far.clauses + 1; head = r.head; guards = guards; body = r.body.goals; pairs = length counted.variables; compounds = counted.compounds }) counted.names)
          (λ d. differ (cc)) (rw q at e)
      go false q = let e' : Piece.refused (guard_rule at) ≡ refused (no_item p) = rw q at e in differ (cc)

  as_clause : (x : Read Rule) → rule (fresh so_far.names) (token at t rest) ≡ x → clause_piece (so_far.clauses + 1) at (token at t rest) x ≡ refused (no_item p) → At p (token at t rest)
  unfolding clause_piece
  as_clause (read r counted behind) e q = absurd (guarded_not_four r counted (as_guards r.body.guards) q)
  as_clause (malformed place) e q =
      let place_is : place ≡ p = cc in
      rw (← place_is) (rw e at (rule_stops.from (fresh so_far.names) (token at t rest)))
  as_clause passed e q = absurd (differ (cc))

  as_query : (x : Read (List Named)) → goals 8 (fresh so_far.names) rest ≡ x → query_piece at rest x ≡ refused (no_item p) → At p (token at t rest)
  unfolding query_piece At
  as_query (read gs counted behind) e q = absurd (not_four _ _ (λ d. differ (cc)) q)
  as_query (malformed place) e q =
      let place_is : place ≡ p = cc in
      inr (subst (λ x. At x rest) place_is (rw e at ((goals_stop 8).from (fresh so_far.names) rest)))
  as_query passed e q = absurd (differ (cc))

  token_stopped : item_from so_far at t rest ≡ refused (no_item p) → At p (token at t rest)
  unfolding item_from clause_from query_from when◌then◌else◌ At
  token_stopped q = go (is_name t) refl (is "?" t) refl (ltb so_far.clauses 128) refl (ltb so_far.queries 8) refl
    where
      go : (named : Bool) → is_name t ≡ named → (asks : Bool) → is "?" t ≡ asks → (room : Bool) → ltb so_far.clauses 128 ≡ room
          → (space : Bool) → ltb so_far.queries 8 ≡ space → (p ≡ at) ⊎ At p rest
      go true e₁ asks e₂ true e₃ space e₄ = as_clause (rule (fresh so_far.names) (token at t rest)) refl (rw (e₁, e₃) at q)
      go true e₁ asks e₂ false e₃ space e₄ = let q' : Piece.refused (figure at) ≡ refused (no_item p) = rw (e₁, e₃) at q in absurd (differ (cc))
      go false e₁ true e₂ room e₃ true e₄ = as_query (goals 8 (fresh so_far.names) rest) refl (rw (e₁, e₂, e₄) at q)
      go false e₁ true e₂ room e₃ false e₄ = let q' : Piece.refused (figure at) ≡ refused (no_item p) = rw (e₁, e₂, e₄) at q in absurd (differ (cc))
      go false e₁ false e₂ room e₃ space e₄ =
          let q' : Piece.refused (no_item at) ≡ refused (no_item p) = rw (e₁, e₂) at q in
          inl (cc)

item_stopped : (so_far : SoFar) (piece : Tokens) (p : ℕ) → item so_far piece ≡ refused (no_item p) → At p piece
unfolding item
item_stopped so_far (ends place) p q = absurd (differ (cc))
item_stopped so_far (token at t rest) p q = token_stopped so_far at t rest p q

-- The refused item is one of the pieces.
items_stopped : (ps : List Tokens) (so_far : SoFar) (p : ℕ) → items so_far ps ≡ Reading.refused (no_item p) → (piece : Tokens) × In piece ps × At p piece
unfolding items with_clause with_query
items_stopped [] so_far p e = absurd (differ (cc))
items_stopped (piece ∷ ps) so_far p e = go (item so_far piece) refl (λ behind. items_stopped ps behind p)
  where
    later : (s : Tokens) × In s ps × At p s → (s : Tokens) × In s (piece ∷ ps) × At p s
    later (s, m, a) = (s, there m, a)

    after_clause : (c : Clause) (x : Reading) → with_clause c x ≡ Reading.refused (no_item p) → x ≡ Reading.refused (no_item p)
    after_clause c (job j) q = absurd (differ (cc))
    after_clause c (Reading.refused r) q = q

    after_query : (c : Query) (x : Reading) → with_query c x ≡ Reading.refused (no_item p) → x ≡ Reading.refused (no_item p)
    after_query c (job j) q = absurd (differ (cc))
    after_query c (Reading.refused r) q = q

    go : (x : Piece) → item so_far piece ≡ x
        → ((behind : SoFar) → items behind ps ≡ Reading.refused (no_item p) → (s : Tokens) × In s ps × At p s) → (s : Tokens) × In s (piece ∷ ps) × At p s
    go nothing i further = later (further so_far (rw (i, items) at e))
    go (clause c names) i further = later (further _ (after_clause c _ (rw (i, items) at e)))
    go (query c names) i further = later (further _ (after_query c _ (rw (i, items) at e)))
    go (Piece.refused r) i further =
        let e' : Reading.refused r ≡ Reading.refused (no_item p) = rw (i, items) at e in
        let r_is : r ≡ no_item p = cc in
        (piece, here refl, item_stopped so_far piece p (rw (← r_is) i))

asked_stopped : (x : Reading) (p : ℕ) → asked x ≡ Reading.refused (no_item p) → x ≡ Reading.refused (no_item p)
unfolding asked when◌then◌else◌
asked_stopped (job j) p e = go (leb 1 (length j.queries)) refl
  where
    go : (b : Bool) → leb 1 (length j.queries) ≡ b → job j ≡ Reading.refused (no_item p)
    go true q = rw q at e
    go false q = let e' : Reading.refused no_query ≡ Reading.refused (no_item p) = rw q at e in absurd (differ (cc))
asked_stopped (Reading.refused r) p e = e

-- A place of a piece is a place of the tokens: its end is a full stop's, or theirs.
at_in_all : (p : ℕ) (ts piece : Tokens) → In piece (pieces ts) → At p piece → At p ts
unfolding pieces At onto when◌then◌else◌
at_in_all p (ends place) piece m i = rw (in_single m) at i
at_in_all p (token place t rest) piece m i = go (is "." t) refl (at_in_all p rest)
  where
    onto_cases : (ps : List Tokens) → In piece (onto place t ps) → ((s : Tokens) → In s ps → At p s → At p rest) → (p ≡ place) ⊎ At p rest
    onto_cases [] m further = absurd (in_none m)
    onto_cases (s ∷ ps) m further = by (in_cons_cases m)
      where
        first : (p ≡ place) ⊎ At p s → (p ≡ place) ⊎ At p rest
        first (inl q) = inl q
        first (inr q) = inr (further s (here refl) q)

        by : (piece ≡ token place t s) ⊎ In piece ps → (p ≡ place) ⊎ At p rest
        by (inl e) = first (rw e at i)
        by (inr j) = inr (further piece (there j) i)

    go : (b : Bool) → is "." t ≡ b → ((s : Tokens) → In s (pieces rest) → At p s → At p rest) → (p ≡ place) ⊎ At p rest
    go true e further = by (in_cons_cases (rw e at m))
      where
        first : (p ≡ place) ⊎ (p ≡ place) → (p ≡ place) ⊎ At p rest
        first (inl q) = inl q
        first (inr q) = inl q

        by : (piece ≡ token place t (ends place)) ⊎ In piece (pieces rest) → (p ≡ place) ⊎ At p rest
        by (inl q) = first (rw q at i)
        by (inr j) = inr (further piece j i)
    go false e further = onto_cases (pieces rest) (rw e at m) further

-- The end of a text's tokens is the text's length.
abbrev StartOrEnd : ℕ → ℕ → Tokens → Type 0
StartOrEnd at_end p ts = (p ≡ at_end) ⊎ ((t : Token) × StandsAt p t ts)

placed_start : (at_end at p : ℕ) (f : Front) (later : ℕ → Tokens) → ((n : ℕ) → At p (later n) → StartOrEnd at_end p (later n)) → At p (placed at f later)
    → StartOrEnd at_end p (placed at f later)
unfolding placed At StandsAt
placed_start at_end at p (blank n) later h m = h n m
placed_start at_end at p (Front.token n t) later h (inl e) = inr (t, inl (e, refl))
placed_start at_end at p (Front.token n t) later h (inr m) = go (h n m)
  where
    go : StartOrEnd at_end p (later n) → StartOrEnd at_end p (token at t (later n))
    go (inl e) = inl e
    go (inr (u, s)) = inr (u, inr s)

tokens_start : (at skip p : ℕ) (cs : Bytes) → At p (tokens_from at skip cs) → StartOrEnd (at + length cs) p (tokens_from at skip cs)
unfolding tokens_from At
tokens_start at skip p [] m = inl (omega arith)
tokens_start at zero p (c ∷ cs) m =
    placed_start (at + length (c ∷ cs)) at p (front c cs) (λ n. tokens_from (at + 1) n cs) (λ n i. moved n (tokens_start (at + 1) n p cs i)) m
  where
    moved : (n : ℕ) → StartOrEnd (at + 1 + length cs) p (tokens_from (at + 1) n cs) → StartOrEnd (at + length (c ∷ cs)) p (tokens_from (at + 1) n cs)
    moved n (inl e) = inl (omega arith)
    moved n (inr s) = inr s
tokens_start at (suc skip) p (c ∷ cs) m = moved (tokens_start (at + 1) skip p cs m)
  where
    moved : StartOrEnd (at + 1 + length cs) p (tokens_from (at + 1) skip cs) → StartOrEnd (at + length (c ∷ cs)) p (tokens_from (at + 1) skip cs)
    moved (inl e) = inl (omega arith)
    moved (inr s) = inr s

-- 4 is at the end of the text, or where a token begins.
pub stopped_at_a_token : (text : Bytes) (p : ℕ) → reading text ≡ Reading.refused (no_item p)
    → (p ≡ length text) ⊎ ((t : Token) × StandsAt p t (tokens text))
unfolding reading tokens
stopped_at_a_token text p e =
    let (piece, m, a) = items_stopped (pieces (tokens text)) _ p (asked_stopped _ p e) in
    go (tokens_start 0 0 p text (at_in_all p (tokens text) piece m a))
  where
    go : StartOrEnd (0 + length text) p (tokens text) → (p ≡ length text) ⊎ ((t : Token) × StandsAt p t (tokens text))
    go (inl q) = inl (omega arith)
    go (inr s) = inr s
