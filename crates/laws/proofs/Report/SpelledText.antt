-- The job that a text gives: its names are runs of letters, digits and `_`, and so are its variables, which begin with an uppercase letter.
-- First the items over good tokens, then the tokens of a text.
use Prim.Native.Nat.{ℕ}
use mathlib.Core.Path.{◌≡◌, refl}
use mathlib.Core.List.{List, [], ◌∷◌}
use mathlib.Core.Option.{Option, none, some}
use lib.Dec.{leb, ltb}
use lib.ListN.{length}
use Rattle.meaning.specs.Bytes.{Bytes}
use Rattle.meaning.specs.Terms.{Named, Guard, Clause, Query}
use Rattle.meaning.specs.Tokens.{Tokens, ends, token, tokens}
use Rattle.meaning.specs.Faults.{Fault}
use Rattle.meaning.specs.Table.{as_guards}
use Rattle.meaning.specs.Items.{
  Read,
  read,
  malformed,
  passed,
  is,
  is_name,
  Rule,
  SoFar,
  Piece,
  nothing,
  clause,
  query,
  refused,
  unless_broken,
  with_guards,
  unless_unknown,
  clause_piece,
  query_piece,
  fresh,
  clause_from,
  query_from,
  item_from,
  item,
  pieces,
  Reading,
  job,
  with_clause,
  with_query,
  items,
  asked,
  reading,
}
use Rattle.laws.proofs.Lists.{Each, if_holds}
use Rattle.laws.proofs.Reading.EachToken.{each_token_of_pieces}
use Rattle.laws.proofs.Report.Spelled.{GoalSpelled}
use Rattle.laws.proofs.Report.SpelledRun.{ClauseSpelled}
use Rattle.laws.proofs.Report.SpelledReader.{TokenGood, TokensGood, Good, RuleSpelled, goals_reads, rule_reads}

module _ (N X : Bytes → Type 0) where
  pub record QuerySpelled (q : Query) : Type 0 where
    pub goals : Each (GoalSpelled N) q.goals
    pub variables : Each X q.variables

  abbrev PieceGood : Piece → Type 0
  PieceGood nothing = Unit {0}
  PieceGood (clause c names) = ClauseSpelled N c
  PieceGood (query q names) = QuerySpelled q
  PieceGood (refused r) = Unit {0}

  abbrev pub ReadingGood : Reading → Type 0
  ReadingGood (job j) = Each (ClauseSpelled N) j.clauses × Each QuerySpelled j.queries
  ReadingGood (refused r) = Unit {0}

  unless_broken_good : (begins : ℕ) (broken : Option Fault) (accepted : Piece) → PieceGood accepted → PieceGood (unless_broken begins broken accepted)
  unfolding unless_broken
  unless_broken_good begins none accepted g = g
  unless_broken_good begins (some fault) accepted g = tt

  clause_piece_good : (nth begins : ℕ) (piece : Tokens) (r : Read Rule) → Good N X (RuleSpelled N X) r → PieceGood (clause_piece nth begins piece r)
  unfolding clause_piece unless_unknown with_guards
  clause_piece_good nth begins piece (read r counted rest) g = go (as_guards r.body.guards)
    where
      go : (guards : Option (List Guard)) → PieceGood (unless_unknown nth begins piece r counted guards)
      go none = tt
      go (some guards) = if_holds PieceGood _ _ _ (λ e. unless_broken_good begins _ _ (record { head = g.0.head; body = g.0.body })) (λ e. tt)
  clause_piece_good nth begins piece (malformed place) g = tt
  clause_piece_good nth begins piece passed g = tt

  query_piece_good : (begins : ℕ) (piece : Tokens) (r : Read (List Named)) → Good N X (Each (GoalSpelled N)) r → PieceGood (query_piece begins piece r)
  unfolding query_piece
  query_piece_good begins piece (read gs counted rest) g = unless_broken_good begins _ _ (record { goals = g.0; variables = g.1 })
  query_piece_good begins piece (malformed place) g = tt
  query_piece_good begins piece passed g = tt

  item_good : (so_far : SoFar) (piece : Tokens) → TokensGood N X piece → PieceGood (item so_far piece)
  unfolding item item_from clause_from query_from fresh
  item_good so_far (ends place) t = tt
  item_good so_far (token begins s rest) t =
      if_holds PieceGood (is_name s) _ _
      (λ e. if_holds PieceGood (ltb so_far.clauses 128) _ _
      (λ e. clause_piece_good _ begins _ _ ((rule_reads N X).from (fresh so_far.names) (token begins s rest) tt t)) (λ e. tt))
      (λ e. if_holds PieceGood (is "?" s) _ _
      (λ e. if_holds PieceGood (ltb so_far.queries 8) _ _
      (λ e. query_piece_good begins _ _ ((goals_reads N X 8).from (fresh so_far.names) rest tt t.1)) (λ e. tt))
      (λ e. tt))

  with_clause_good : (c : Clause) (r : Reading) → ClauseSpelled N c → ReadingGood r → ReadingGood (with_clause c r)
  unfolding with_clause
  with_clause_good c (job j) s g = ((s, g.0), g.1)
  with_clause_good c (refused r) s g = tt

  with_query_good : (q : Query) (r : Reading) → QuerySpelled q → ReadingGood r → ReadingGood (with_query q r)
  unfolding with_query
  with_query_good q (job j) s g = (g.0, (s, g.1))
  with_query_good q (refused r) s g = tt

  items_good : (so_far : SoFar) (ps : List Tokens) → Each (TokensGood N X) ps → ReadingGood (items so_far ps)
  unfolding items
  items_good so_far [] g = (tt, tt)
  items_good so_far (piece ∷ pieces) g =
      go (item so_far piece) refl (item_good so_far piece g.0) (λ behind. items_good behind pieces g.1)
    where
      go : (p : Piece) → item so_far piece ≡ p → PieceGood (item so_far piece) → ((behind : SoFar) → ReadingGood (items behind pieces))
          → ReadingGood (items so_far (piece ∷ pieces))
      go nothing e h further = rw (e, items) (further so_far)
      go (clause c names) e h further = rw (e, items) (with_clause_good c _ (rw e at h) (further _))
      go (query q names) e h further = rw (e, items) (with_query_good q _ (rw e at h) (further _))
      go (refused r) e h further = rw (e, items) tt

  asked_good : (r : Reading) → ReadingGood r → ReadingGood (asked r)
  unfolding asked
  asked_good (job j) g = if_holds ReadingGood (leb 1 (length j.queries)) (job j) (refused _) (λ e. g) (λ e. tt)
  asked_good (refused r) g = tt

  -- A job read from good tokens is good.
  pub reading_good : (text : Bytes) → TokensGood N X (tokens text) → ReadingGood (reading text)
  unfolding reading
  reading_good text t = asked_good _ (items_good _ (pieces (tokens text)) (each_token_of_pieces (TokenGood N X) (tokens text) t))
