-- A text refused for an occurrence rule: which item it is, which rule its terms break, and what stands at the offset.
-- By induction over the pieces, up to the first that is refused; every former 5 is one of the three, where the same item begins.
use Prim.Native.Nat.{ℕ, ◌+◌, ◌≤◌}
use mathlib.Core.Path.{◌≡◌, refl, sym, ◌∙◌}
use mathlib.Core.Logic.{◌⊎◌, inl, inr}
use mathlib.Core.Bool.{Bool, true, false}
use mathlib.Core.List.{List, [], ◌∷◌}
use mathlib.Core.Option.{Option, none, some}
use native.Mathlib.Omega.{arith}
use lib.Dec.{leb, ltb}
use lib.ListN.{length}
use Rattle.meaning.specs.Bytes.{Bytes, when◌then◌else◌, all}
use Rattle.meaning.specs.Terms.{Named, Guard, Clause, Query}
use Rattle.meaning.specs.Tokens.{Token, variable, Tokens, ends, token, tokens}
use Rattle.meaning.specs.Faults.{Fault, pairing, clause_faults, query_faults, least}
use Rattle.meaning.specs.Table.{as_guards, of_the_head}
use Rattle.meaning.specs.Items.{
  Counted,
  Read,
  read,
  malformed,
  passed,
  is,
  is_name,
  goals,
  Rule,
  rule,
  Refusal,
  guard_rule,
  occurrence_rule,
  figure,
  no_item,
  no_query,
  SoFar,
  Piece,
  nothing,
  clause,
  query,
  refused,
  unless_broken,
  free,
  with_guards,
  unless_unknown,
  clause_piece,
  query_piece,
  fresh,
  clause_from,
  query_from,
  item_from,
  item,
  pieces,
  Reading,
  job,
  with_clause,
  with_query,
  items,
  asked,
  reading,
}
use Rattle.laws.proofs.Lists.{In, here, there, Each, differ}
use Rattle.laws.proofs.Reading.Figures.{SpellingsFit, no_spellings_fit}
use Rattle.laws.proofs.Reading.EachToken.{EachToken}
use Rattle.laws.proofs.Reading.TokensFit.{TokenFits, tokens_fit}
use Rattle.laws.proofs.Reading.Passed.{Cut, cut_behind}
use Rattle.laws.proofs.Reading.Faultless.{pieces_cut}
use Rattle.laws.proofs.Reading.Rising.{Rising, rising_from, StandsAt, pieces_rising}
use Rattle.laws.proofs.Reading.Broken.{none_free, FaultOf, clause_fault_is, fault_in_clause, query_fault_is, fault_in_query, fault_stands, least_is}
use Rattle.laws.proofs.Reading.RuleTokens.{paired_stands}
use Rattle.laws.proofs.Reading.Walk.{first_fault}
use Rattle.laws.proofs.Reading.Items.{ItemRead, paired, rule_over, behind_first, Says, item_says}
use Rattle.laws.proofs.Reading.WhichByte.{Judged, clause_rules, clause_judged, clause_by_walk, query_rules, query_judged, query_by_walk}

-- A clause that is read, whose guards keep 11, and that breaks a rule of document 01, over the tokens of its piece that count for the pairing.
pub record ClauseBroken (piece : Tokens) (f : Fault) : Type 0 where
  pub item : ItemRead rule piece
  pub guards : List Guard
  pub in_table : as_guards item.value.body.guards ≡ some guards
  pub of_head : all (of_the_head (length item.counted.variables) item.value.head) guards ≡ true
  pub rules_broken : clause_rules item guards ≡ false
  pub decides : least (clause_faults (free guards item.counted.variables) (paired item) item.counted.variables) ≡ some f
  pub first : first_fault true (free guards item.counted.variables) (paired item) ≡ some f
  pub fault : FaultOf true (free guards item.counted.variables) (paired item) item.counted.variables f
  pub smallest : (g : Fault) → FaultOf true (free guards item.counted.variables) (paired item) item.counted.variables g → f.offset ≤ g.offset
  pub stands : StandsAt f.offset (variable fault.half fault.spelling) piece

-- A query likewise, over the tokens behind its `?-`.
pub record QueryBroken (behind : Tokens) (f : Fault) : Type 0 where
  pub item : ItemRead (goals 8) behind
  pub rules_broken : query_rules item ≡ false
  pub decides : least (query_faults behind item.counted.variables) ≡ some f
  pub first : first_fault false none_free behind ≡ some f
  pub fault : FaultOf false none_free behind item.counted.variables f
  pub smallest : (g : Fault) → FaultOf false none_free behind item.counted.variables g → f.offset ≤ g.offset
  pub stands : StandsAt f.offset (variable fault.half fault.spelling) behind

-- An item that begins at this place breaks a rule, and this fault decides.
pub record ItemBroken (piece : Tokens) (begins : ℕ) (f : Fault) : Type 0 where
  pub begins_there : (t : Token) × (rest : Tokens) × (piece ≡ token begins t rest)
  pub broken : ClauseBroken piece f ⊎ QueryBroken (behind_first piece) f

not_kept : (kept : Bool) (o : Option Fault) (f : Fault) → Judged kept o → o ≡ some f → kept ≡ false
not_kept kept o f (inl (k, e)) q = absurd (differ (cc))
not_kept kept o f (inr (k, g)) q = k

pub clause_is_broken : {piece : Tokens} (x : ItemRead rule piece) → Cut piece → Rising 0 piece → (guards : List Guard) → as_guards x.value.body.guards ≡ some guards
    → all (of_the_head (length x.counted.variables) x.value.head) guards ≡ true → (f : Fault)
    → least (clause_faults (free guards x.counted.variables) (paired x) x.counted.variables) ≡ some f → ClauseBroken piece f
clause_is_broken {piece} x cut rising guards in_table of_head f e =
    let xs = x.counted.variables in
    let freed = free guards xs in
    let (member, smallest) = least_is (clause_faults freed (paired x) xs) f e in
    let fault = clause_fault_is freed (paired x) f xs member in
    record {
      item = x;
      guards = guards;
      in_table = in_table;
      of_head = of_head;
      rules_broken = not_kept (clause_rules x guards) (least (clause_faults freed (paired x) xs)) f (clause_judged x cut guards) e;
      decides = e;
      first = sym (clause_by_walk x cut guards rising) ∙ e;
      fault = fault;
      smallest = λ g o. smallest g (fault_in_clause freed (paired x) g xs o);
      stands = paired_stands (rule_over x) cut f.offset _ (fault_stands true freed (paired x) xs f fault);
    }

pub query_is_broken : {behind : Tokens} (x : ItemRead (goals 8) behind) → Cut behind → Rising 0 behind → (f : Fault)
    → least (query_faults behind x.counted.variables) ≡ some f → QueryBroken behind f
query_is_broken {behind} x cut rising f e =
    let xs = x.counted.variables in
    let (member, smallest) = least_is (query_faults behind xs) f e in
    let fault = query_fault_is behind f xs member in
    record {
      item = x;
      rules_broken = not_kept (query_rules x) (least (query_faults behind xs)) f (query_judged x cut) e;
      decides = e;
      first = sym (query_by_walk x cut rising) ∙ e;
      fault = fault;
      smallest = λ g o. smallest g (fault_in_query behind g xs o);
      stands = fault_stands false none_free behind xs f fault;
    }

-- One piece refused.
module _ (so_far : SoFar) (names_fit : SpellingsFit 256 so_far.names) (at : ℕ) (t : Token) (rest : Tokens)
    (fit : EachToken TokenFits (token at t rest)) (cut : Cut (token at t rest)) (rising : Rising 0 (token at t rest)) (begins : ℕ) (f : Fault) where
  module _ (r : Rule) (counted : Counted) (behind : Tokens) (e : rule (fresh so_far.names) (token at t rest) ≡ read r counted behind) where
    read_so : ItemRead rule (token at t rest)
    read_so = record { names = so_far.names; names_fit = names_fit; fit = fit; value = r; counted = counted; rest = behind; is_read = e }

    as_guarded : (o : Option (List Guard)) → as_guards r.body.guards ≡ o → unless_unknown (so_far.clauses + 1) at (token at t rest) r counted o ≡ refused (occurrence_rule begins f)
        → ItemBroken (token at t rest) begins f
    unfolding unless_unknown with_guards unless_broken when◌then◌else◌ read_so
    as_guarded none known q = absurd (differ (cc))
    as_guarded (some guards) known q = go (all (of_the_head (length counted.variables) r.head) guards) refl (least faults) refl
      where
        faults : List Fault
        faults = clause_faults (free guards counted.variables) (pairing r.body.behind (token at t rest)) counted.variables

        go : (of_head : Bool) → all (of_the_head (length counted.variables) r.head) guards ≡ of_head → (o : Option Fault) → least faults ≡ o
            → ItemBroken (token at t rest) begins f
        go false p o p' = let q' : Piece.refused (guard_rule at) ≡ refused (occurrence_rule begins f) = rw p at q in absurd (differ (cc))
        go true p none p' = let q' : clause _ _ ≡ refused (occurrence_rule begins f) = rw (p, p') at q in absurd (differ (cc))
        go true p (some g) p' =
            let q' : Piece.refused (occurrence_rule at g) ≡ refused (occurrence_rule begins f) = rw (p, p') at q in
            let at_is : at ≡ begins = cc in
            let g_is : g ≡ f = cc in
            record {
              begins_there = (t, rest, rw at_is refl);
              broken = inl (clause_is_broken read_so cut rising guards known p f (rw g_is at p'));
            }

  as_clause : (x : Read Rule) → rule (fresh so_far.names) (token at t rest) ≡ x
      → clause_piece (so_far.clauses + 1) at (token at t rest) x ≡ refused (occurrence_rule begins f) → ItemBroken (token at t rest) begins f
  unfolding clause_piece
  as_clause (read r counted behind) e q = as_guarded r counted behind e (as_guards r.body.guards) refl q
  as_clause (malformed place) e q = absurd (differ (cc))
  as_clause passed e q = absurd (differ (cc))

  as_query : (x : Read (List Named)) → goals 8 (fresh so_far.names) rest ≡ x
      → query_piece at rest x ≡ refused (occurrence_rule begins f) → ItemBroken (token at t rest) begins f
  unfolding query_piece unless_broken behind_first Rising
  as_query (read gs counted behind) e q = go (least (query_faults rest counted.variables)) refl
    where
      go : (o : Option Fault) → least (query_faults rest counted.variables) ≡ o → ItemBroken (token at t rest) begins f
      go none p = let q' : query _ _ ≡ refused (occurrence_rule begins f) = rw p at q in absurd (differ (cc))
      go (some g) p =
          let q' : Piece.refused (occurrence_rule at g) ≡ refused (occurrence_rule begins f) = rw p at q in
          let at_is : at ≡ begins = cc in
          let g_is : g ≡ f = cc in
          record {
            begins_there = (t, rest, rw at_is refl);
            broken = inr (query_is_broken (record { names = so_far.names; names_fit = names_fit; fit = fit.1; value = gs; counted = counted; rest = behind; is_read = e })
                (cut_behind at t rest cut) (rising_from (at + 1) 0 rest (omega arith) rising.1) f (rw g_is at p));
          }
  as_query (malformed place) e q = absurd (differ (cc))
  as_query passed e q = absurd (differ (cc))

  token_refused : item_from so_far at t rest ≡ refused (occurrence_rule begins f) → ItemBroken (token at t rest) begins f
  unfolding item_from clause_from query_from when◌then◌else◌
  token_refused q = go (is_name t) refl (is "?" t) refl (ltb so_far.clauses 128) refl (ltb so_far.queries 8) refl
    where
      go : (named : Bool) → is_name t ≡ named → (asks : Bool) → is "?" t ≡ asks → (room : Bool) → ltb so_far.clauses 128 ≡ room
          → (space : Bool) → ltb so_far.queries 8 ≡ space → ItemBroken (token at t rest) begins f
      go true e₁ asks e₂ true e₃ space e₄ = as_clause (rule (fresh so_far.names) (token at t rest)) refl (rw (e₁, e₃) at q)
      go true e₁ asks e₂ false e₃ space e₄ =
          let q' : Piece.refused (figure at) ≡ refused (occurrence_rule begins f) = rw (e₁, e₃) at q in absurd (differ (cc))
      go false e₁ true e₂ room e₃ true e₄ = as_query (goals 8 (fresh so_far.names) rest) refl (rw (e₁, e₂, e₄) at q)
      go false e₁ true e₂ room e₃ false e₄ =
          let q' : Piece.refused (figure at) ≡ refused (occurrence_rule begins f) = rw (e₁, e₂, e₄) at q in absurd (differ (cc))
      go false e₁ false e₂ room e₃ space e₄ =
          let q' : Piece.refused (no_item at) ≡ refused (occurrence_rule begins f) = rw (e₁, e₂) at q in absurd (differ (cc))

item_refused : (so_far : SoFar) (piece : Tokens) → SpellingsFit 256 so_far.names → EachToken TokenFits piece → Cut piece → Rising 0 piece
    → (begins : ℕ) (f : Fault) → item so_far piece ≡ refused (occurrence_rule begins f) → ItemBroken piece begins f
unfolding item
item_refused so_far (ends place) names_fit fit cut rising begins f q = absurd (differ (cc))
item_refused so_far (token at t rest) names_fit fit cut rising begins f q = token_refused so_far names_fit at t rest fit cut rising begins f q

-- The text item by item.
pub with_clause_refused : (c : Clause) (x : Reading) (r : Refusal) → with_clause c x ≡ Reading.refused r → x ≡ Reading.refused r
unfolding with_clause
with_clause_refused c (job j) r e = absurd (differ (cc))
with_clause_refused c (Reading.refused s) r e = e

pub with_query_refused : (q : Query) (x : Reading) (r : Refusal) → with_query q x ≡ Reading.refused r → x ≡ Reading.refused r
unfolding with_query
with_query_refused q (job j) r e = absurd (differ (cc))
with_query_refused q (Reading.refused s) r e = e

-- One of these pieces is the item.
abbrev pub OneBroken : List Tokens → ℕ → Fault → Type 0
OneBroken ps begins f = (piece : Tokens) × In piece ps × ItemBroken piece begins f

items_refused : (ps : List Tokens) → Each (EachToken TokenFits) ps → Each Cut ps → Each (Rising 0) ps
    → (so_far : SoFar) → SpellingsFit 256 so_far.names → (begins : ℕ) (f : Fault)
    → items so_far ps ≡ Reading.refused (occurrence_rule begins f) → OneBroken ps begins f
unfolding items Says
items_refused [] fit cut rising so_far names_fit begins f e = absurd (differ (cc))
items_refused (piece ∷ ps) fit cut rising so_far names_fit begins f e =
    go (item so_far piece) refl (item_says so_far piece names_fit fit.0 cut.0)
    (λ behind known q. items_refused ps fit.1 cut.1 rising.1 behind known begins f q)
  where
    later : OneBroken ps begins f → OneBroken (piece ∷ ps) begins f
    later (p, m, b) = (p, there m, b)

    go : (p : Piece) → item so_far piece ≡ p → Says so_far piece p
        → ((behind : SoFar) → SpellingsFit 256 behind.names → items behind ps ≡ Reading.refused (occurrence_rule begins f) → OneBroken ps begins f)
        → OneBroken (piece ∷ ps) begins f
    go nothing i says further = later (further so_far names_fit (rw (i, items) at e))
    go (clause c names) i says further =
        later (further (record { names = names; clauses = so_far.clauses + 1; queries = so_far.queries }) says.names_fit
        (with_clause_refused c _ (occurrence_rule begins f) (rw (i, items) at e)))
    go (query q names) i says further =
        later (further (record { names = names; clauses = so_far.clauses; queries = so_far.queries + 1 }) says.names_fit
        (with_query_refused q _ (occurrence_rule begins f) (rw (i, items) at e)))
    go (Piece.refused r) i says further =
        let e' : Reading.refused r ≡ Reading.refused (occurrence_rule begins f) = rw (i, items) at e in
        let r_is : r ≡ occurrence_rule begins f = cc in
        (piece, here refl, item_refused so_far piece names_fit fit.0 cut.0 rising.0 begins f (rw (← r_is) i))

asked_refused : (x : Reading) (begins : ℕ) (f : Fault) → asked x ≡ Reading.refused (occurrence_rule begins f) → x ≡ Reading.refused (occurrence_rule begins f)
unfolding asked when◌then◌else◌
asked_refused (job j) begins f e = go (leb 1 (length j.queries)) refl
  where
    go : (b : Bool) → leb 1 (length j.queries) ≡ b → job j ≡ Reading.refused (occurrence_rule begins f)
    go true q = let e' : job j ≡ Reading.refused (occurrence_rule begins f) = rw q at e in e'
    go false q = let e' : Reading.refused no_query ≡ Reading.refused (occurrence_rule begins f) = rw q at e in absurd (differ (cc))
asked_refused (Reading.refused r) begins f e = e

-- A text that is refused with 5, 9 or 10: one of its items breaks a rule of document 01, and the fault is the first in that item.
pub refused_is_broken : (text : Bytes) (begins : ℕ) (f : Fault) → reading text ≡ Reading.refused (occurrence_rule begins f)
    → OneBroken (pieces (tokens text)) begins f
unfolding reading
refused_is_broken text begins f e =
    items_refused (pieces (tokens text)) (tokens_fit text) (pieces_cut (tokens text)) (pieces_rising text)
    (record { names = []; clauses = 0; queries = 0 }) (no_spellings_fit 256) begins f (asked_refused _ begins f e)
