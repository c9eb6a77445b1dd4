-- A text refused with 11: one of its items is a clause that is read, with "a guard not in the table or with another variable".
-- By induction over the pieces, up to the first that is refused.
use Prim.Native.Nat.{ℕ, ◌+◌}
use mathlib.Core.Path.{◌≡◌, refl}
use mathlib.Core.Logic.{◌⊎◌, inl, inr}
use mathlib.Core.Bool.{Bool, true, false}
use mathlib.Core.List.{List, [], ◌∷◌}
use mathlib.Core.Option.{Option, none, some}
use lib.Dec.{leb, ltb}
use lib.ListN.{length}
use Rattle.meaning.specs.Bytes.{Bytes, when◌then◌else◌, all}
use Rattle.meaning.specs.Terms.{Named, Guard}
use Rattle.meaning.specs.Tokens.{Token, Tokens, ends, token, tokens, is}
use Rattle.meaning.specs.Faults.{Fault, pairing, clause_faults, least}
use Rattle.meaning.specs.Table.{as_guards, of_the_head}
use Rattle.meaning.specs.Items.{
  Read,
  read,
  malformed,
  passed,
  is_name,
  goals,
  Rule,
  rule,
  no_item,
  guard_rule,
  figure,
  no_query,
  SoFar,
  Piece,
  nothing,
  clause,
  query,
  refused,
  unless_broken,
  free,
  with_guards,
  unless_unknown,
  clause_piece,
  query_piece,
  fresh,
  clause_from,
  query_from,
  item_from,
  item,
  pieces,
  Reading,
  job,
  items,
  asked,
  reading,
}
use Rattle.laws.proofs.Lists.{In, here, there, Each, differ}
use Rattle.laws.proofs.Reading.Figures.{SpellingsFit, no_spellings_fit}
use Rattle.laws.proofs.Reading.EachToken.{EachToken}
use Rattle.laws.proofs.Reading.TokensFit.{TokenFits, tokens_fit}
use Rattle.laws.proofs.Reading.Passed.{Cut}
use Rattle.laws.proofs.Reading.Faultless.{pieces_cut}
use Rattle.laws.proofs.Reading.Items.{ItemRead, Says, item_says}
use Rattle.laws.proofs.Reading.BrokenText.{with_clause_refused, with_query_refused}

-- A clause that begins at this place is read, and the table does not have one of its guards, or one has another variable than a reader of a writer in the head.
pub record GuardsBroken (piece : Tokens) (begins : ℕ) : Type 0 where
  pub begins_there : (t : Token) × (rest : Tokens) × (piece ≡ token begins t rest)
  pub item : ItemRead rule piece
  pub broken : (as_guards item.value.body.guards ≡ none)
      ⊎ ((guards : List Guard) × (as_guards item.value.body.guards ≡ some guards) × (all (of_the_head (length item.counted.variables) item.value.head) guards ≡ false))

not_eleven : (at begins : ℕ) (o : Option Fault) (accepted : Piece) → (accepted ≡ refused (guard_rule begins) → ⊥) → unless_broken at o accepted ≡ refused (guard_rule begins) → ⊥
unfolding unless_broken
not_eleven at begins none accepted h e = h e
not_eleven at begins (some fault) accepted h e = differ (cc)

-- One piece refused.
module _ (so_far : SoFar) (names_fit : SpellingsFit 256 so_far.names) (at : ℕ) (t : Token) (rest : Tokens)
    (fit : EachToken TokenFits (token at t rest)) (begins : ℕ) where
  as_clause : (x : Read Rule) → rule (fresh so_far.names) (token at t rest) ≡ x
      → clause_piece (so_far.clauses + 1) at (token at t rest) x ≡ refused (guard_rule begins) → GuardsBroken (token at t rest) begins
  unfolding clause_piece unless_unknown with_guards when◌then◌else◌
  as_clause (read r counted behind) e q = by (as_guards r.body.guards) refl q
    where
      read_so : ItemRead rule (token at t rest)
      read_so = record { names = so_far.names; names_fit = names_fit; fit = fit; value = r; counted = counted; rest = behind; is_read = e }

      by : (o : Option (List Guard)) → as_guards r.body.guards ≡ o → unless_unknown (so_far.clauses + 1) at (token at t rest) r counted o ≡ refused (guard_rule begins)
          → GuardsBroken (token at t rest) begins
      by none unknown q = let at_is : at ≡ begins = cc in record { begins_there = (t, rest, rw at_is refl); item = read_so; broken = inl unknown }
      by (some guards) known q = go (all (of_the_head (length counted.variables) r.head) guards) refl
        where
          go : (of_head : Bool) → all (of_the_head (length counted.variables) r.head) guards ≡ of_head → GuardsBroken (token at t rest) begins
          go true p =
              absurd (not_eleven at begins (least (clause_faults (free guards counted.variables) (pairing r.body.behind (token at t rest)) counted.variables))
              (clause (record { place = so_far.clauses + 1; head = r.head; guards = guards; body = r.body.goals; pairs = length counted.variables; compounds = counted.compounds }) counted.names)
              (λ d. differ (cc)) (rw p at q))
          go false p =
              let q' : Piece.refused (guard_rule at) ≡ refused (guard_rule begins) = rw p at q in
              let at_is : at ≡ begins = cc in
              record { begins_there = (t, rest, rw at_is refl); item = read_so; broken = inr (guards, known, p) }
  as_clause (malformed place) e q = absurd (differ (cc))
  as_clause passed e q = absurd (differ (cc))

  as_query : (x : Read (List Named)) → query_piece at rest x ≡ refused (guard_rule begins) → ⊥
  unfolding query_piece
  as_query (read gs counted behind) q = not_eleven at begins _ _ (λ d. differ (cc)) q
  as_query (malformed place) q = differ (cc)
  as_query passed q = differ (cc)

  token_refused : item_from so_far at t rest ≡ refused (guard_rule begins) → GuardsBroken (token at t rest) begins
  unfolding item_from clause_from query_from when◌then◌else◌
  token_refused q = go (is_name t) refl (is "?" t) refl (ltb so_far.clauses 128) refl (ltb so_far.queries 8) refl
    where
      go : (named : Bool) → is_name t ≡ named → (asks : Bool) → is "?" t ≡ asks → (room : Bool) → ltb so_far.clauses 128 ≡ room
          → (space : Bool) → ltb so_far.queries 8 ≡ space → GuardsBroken (token at t rest) begins
      go true e₁ asks e₂ true e₃ space e₄ = as_clause (rule (fresh so_far.names) (token at t rest)) refl (rw (e₁, e₃) at q)
      go true e₁ asks e₂ false e₃ space e₄ = let q' : Piece.refused (figure at) ≡ refused (guard_rule begins) = rw (e₁, e₃) at q in absurd (differ (cc))
      go false e₁ true e₂ room e₃ true e₄ = absurd (as_query (goals 8 (fresh so_far.names) rest) (rw (e₁, e₂, e₄) at q))
      go false e₁ true e₂ room e₃ false e₄ = let q' : Piece.refused (figure at) ≡ refused (guard_rule begins) = rw (e₁, e₂, e₄) at q in absurd (differ (cc))
      go false e₁ false e₂ room e₃ space e₄ = let q' : Piece.refused (no_item at) ≡ refused (guard_rule begins) = rw (e₁, e₂) at q in absurd (differ (cc))

item_refused : (so_far : SoFar) (piece : Tokens) → SpellingsFit 256 so_far.names → EachToken TokenFits piece
    → (begins : ℕ) → item so_far piece ≡ refused (guard_rule begins) → GuardsBroken piece begins
unfolding item
item_refused so_far (ends place) names_fit fit begins q = absurd (differ (cc))
item_refused so_far (token at t rest) names_fit fit begins q = token_refused so_far names_fit at t rest fit begins q

-- One of these pieces is the item.
abbrev pub OneGuarded : List Tokens → ℕ → Type 0
OneGuarded ps begins = (piece : Tokens) × In piece ps × GuardsBroken piece begins

items_refused : (ps : List Tokens) → Each (EachToken TokenFits) ps → Each Cut ps → (so_far : SoFar) → SpellingsFit 256 so_far.names → (begins : ℕ)
    → items so_far ps ≡ Reading.refused (guard_rule begins) → OneGuarded ps begins
unfolding items Says
items_refused [] fit cut so_far names_fit begins e = absurd (differ (cc))
items_refused (piece ∷ ps) fit cut so_far names_fit begins e =
    go (item so_far piece) refl (item_says so_far piece names_fit fit.0 cut.0) (λ behind known q. items_refused ps fit.1 cut.1 behind known begins q)
  where
    later : OneGuarded ps begins → OneGuarded (piece ∷ ps) begins
    later (p, m, b) = (p, there m, b)

    go : (p : Piece) → item so_far piece ≡ p → Says so_far piece p
        → ((behind : SoFar) → SpellingsFit 256 behind.names → items behind ps ≡ Reading.refused (guard_rule begins) → OneGuarded ps begins)
        → OneGuarded (piece ∷ ps) begins
    go nothing i says further = later (further so_far names_fit (rw (i, items) at e))
    go (clause c names) i says further =
        later (further (record { names = names; clauses = so_far.clauses + 1; queries = so_far.queries }) says.names_fit
        (with_clause_refused c _ (guard_rule begins) (rw (i, items) at e)))
    go (query q names) i says further =
        later (further (record { names = names; clauses = so_far.clauses; queries = so_far.queries + 1 }) says.names_fit
        (with_query_refused q _ (guard_rule begins) (rw (i, items) at e)))
    go (Piece.refused r) i says further =
        let e' : Reading.refused r ≡ Reading.refused (guard_rule begins) = rw (i, items) at e in
        let r_is : r ≡ guard_rule begins = cc in
        (piece, here refl, item_refused so_far piece names_fit fit.0 begins (rw (← r_is) i))

asked_refused : (x : Reading) (begins : ℕ) → asked x ≡ Reading.refused (guard_rule begins) → x ≡ Reading.refused (guard_rule begins)
unfolding asked when◌then◌else◌
asked_refused (job j) begins e = go (leb 1 (length j.queries)) refl
  where
    go : (b : Bool) → leb 1 (length j.queries) ≡ b → job j ≡ Reading.refused (guard_rule begins)
    go true q = let e' : job j ≡ Reading.refused (guard_rule begins) = rw q at e in e'
    go false q = let e' : Reading.refused no_query ≡ Reading.refused (guard_rule begins) = rw q at e in absurd (differ (cc))
asked_refused (Reading.refused r) begins e = e

-- A text that is refused with 11: one of its clauses has such guards.
pub refused_has_other_guards : (text : Bytes) (begins : ℕ) → reading text ≡ Reading.refused (guard_rule begins) → OneGuarded (pieces (tokens text)) begins
unfolding reading
refused_has_other_guards text begins e =
    items_refused (pieces (tokens text)) (tokens_fit text) (pieces_cut (tokens text)) (record { names = []; clauses = 0; queries = 0 }) (no_spellings_fit 256) begins
    (asked_refused _ begins e)
