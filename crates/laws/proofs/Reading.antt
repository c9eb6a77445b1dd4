-- Reading: an accepted text keeps the occurrence rules and the figures, a refused one breaks a rule at its byte; tokens alone make an item.
-- Two readers that stand beside each other on the same tokens read alike; each reader's law is put together like the reader itself.
pub mod NameBytes
pub mod EachToken
pub mod Rules
pub mod Numbering
pub mod NumberedTerms
pub mod Brackets
pub mod Figures
pub mod TokensFit
pub mod Alike
pub mod Rising
pub mod Pairing
pub mod Counting
pub mod Passed
pub mod Taken
pub mod Occurring
pub mod Bodies
pub mod Faultless
pub mod RuleTokens
pub mod Broken
pub mod LeastOf
pub mod Walk
pub mod Readers
pub mod BodyReaders
pub mod GuardsRead
pub mod Items
pub mod WhichByte
pub mod BrokenText
pub mod GuardText
pub mod Spelling
pub mod Stopped
pub mod StoppedText
pub mod ItemByItem
pub mod Accepted
pub mod Pieces
use Prim.Native.Nat.{ℕ}
use mathlib.Core.Path.{◌≡◌}
use mathlib.Core.List.{map}
use lib.ListN.{length, get_or, get_elem?}
use Rattle.meaning.specs.Bytes.{Bytes}
use Rattle.meaning.specs.Terms.{Job, Query}
use Rattle.meaning.specs.Items.{job, reading}
use Rattle.laws.proofs.Lists.{each_paired, get_or_from_get_elem, paired_equal_at, paired_length}
use Rattle.laws.proofs.Reading.Figures.{ClauseFits, QueryFits}
use Rattle.laws.proofs.Reading.Accepted.{clause_ok, clause_fits, query_ok, query_fits}
use Rattle.laws.proofs.Reading.Pieces.{same_tokens_same_query, counted_equal}
-- Which bytes make a name: the row of ranges is the former test, on every number.
pub use NameBytes.{former_test, former_run, row_is_the_former_test, runs_are_the_former_runs}
-- The occurrence rules, the figures, and the tokens of a text, cut behind each full stop into clause items and query items.
pub use Rules.{ClauseOk, QueryOk, JobOk}
pub use Figures.{JobFits}
pub use Alike.{bare}
pub use Items.{clause_pieces, query_pieces}
-- Which rule, which byte: an item that is read has a fault exactly if document 01's rules are broken in its terms, but for the readers that a guard
-- licenses; the least of its faults is the first that a walk over its tokens comes upon, those of its guards left out; no two share an offset.
-- A clause is judged so only if the table has its guards and their variables are readers of writers in the head.
pub use WhichByte.{Judged, clause_rules, query_rules, clause_judged, query_judged, clause_as_before, query_as_before, clause_by_walk, query_by_walk}
pub use WhichByte.{unknown_guard_refused, other_variable_refused}
pub use Broken.{none_free, TwiceAt, AloneAt, FaultOf, clause_fault_is, fault_in_clause, query_fault_is, fault_in_query, Least, least_is, one_fault_at}
unfoldable pub use Walk.{first_fault}
-- Of every text refused with 5, 9 or 10: the item, its rule and its first fault, at which that half of that variable stands and is spelled.
pub use BrokenText.{ClauseBroken, QueryBroken, ItemBroken, OneBroken, refused_is_broken}
pub use Spelling.{SpelledAt, spelled_at, stands_in_all}
-- Of every text refused with 11: the clause, and that a guard is not in the table or has another variable.
pub use GuardText.{GuardsBroken, OneGuarded, refused_has_other_guards}
-- Of every text refused with 4: a token begins at its byte, or it is the text's length.
pub use StoppedText.{stopped_at_a_token}
-- Each clause and each query of an accepted text is read from the tokens of its own piece.
pub use ItemByItem.{accepted_is_read, clause_numbered}
-- The names counted over the whole text.
unfoldable pub use ItemByItem.{names_behind, names_of}

-- Every item of an accepted text keeps the occurrence rules, and its variables are numbered below its number of pairs.
pub accepted_keeps_the_occurrence_rules : (text : Bytes) (j : Job) → reading text ≡ job j → JobOk j
accepted_keeps_the_occurrence_rules text j e =
    let r = accepted_is_read text j e in
    record {
      clauses_ok = each_paired ClauseOk (clause_ok (names_of text)) r.clauses;
      queries_ok = each_paired QueryOk (query_ok (names_of text)) r.queries;
    }

-- Every accepted text keeps document 01's figures, its integers are in range, and its compounds are numbered in order, a guard's between head and body.
-- Its names are those counted over the text: at most 256, no two the same, and each name of the job is among them.
pub accepted_keeps_the_figures : (text : Bytes) (j : Job) → reading text ≡ job j → JobFits (names_of text) j
accepted_keeps_the_figures text j e =
    let r = accepted_is_read text j e in
    record {
      names_fit = r.names_fit;
      few_clauses = r.few_clauses;
      some_queries = r.some_queries;
      few_queries = r.few_queries;
      clauses = each_paired (ClauseFits (names_of text)) (clause_fits (names_of text)) r.clauses;
      queries = each_paired (QueryFits (names_of text)) (query_fits (names_of text)) r.queries;
    }

-- An accepted text has a clause for each of its clause pieces, and a query for each of its query pieces.
pub as_many_clauses_as_pieces : (text : Bytes) (j : Job) → reading text ≡ job j → length j.clauses ≡ length (clause_pieces text)
as_many_clauses_as_pieces text j reads = paired_length (accepted_is_read text j reads).clauses

pub as_many_queries_as_pieces : (text : Bytes) (j : Job) → reading text ≡ job j → length j.queries ≡ length (query_pieces text)
as_many_queries_as_pieces text j reads = paired_length (accepted_is_read text j reads).queries

module _ (text₁ text₂ : Bytes) (j₁ j₂ : Job) (reads₁ : reading text₁ ≡ job j₁) (reads₂ : reading text₂ ≡ job j₂) where
  -- Two accepted texts whose clauses have the same tokens, in order, read the same clauses, whatever their queries.
  pub same_clause_tokens_same_clauses : map bare (clause_pieces text₁) ≡ map bare (clause_pieces text₂) → j₁.clauses ≡ j₂.clauses
  same_clause_tokens_same_clauses e =
      counted_equal (names_of text₁) (names_of text₂) 1 (accepted_is_read text₁ j₁ reads₁).clauses (accepted_is_read text₂ j₂ reads₂).clauses
      (accepted_is_read text₁ j₁ reads₁).nth (accepted_is_read text₂ j₂ reads₂).nth e

  -- Where the k-th queries of two accepted texts have the same tokens, the k-th queries read are the same, whatever the other items.
  pub same_query_tokens_same_query : (k : ℕ) → get_elem? (map bare (query_pieces text₁)) k ≡ get_elem? (map bare (query_pieces text₂)) k
      → get_elem? j₁.queries k ≡ get_elem? j₂.queries k
  same_query_tokens_same_query k e =
      paired_equal_at bare (λ p₁ p₂ q₁ q₂ e r₁ r₂. same_tokens_same_query p₁ p₂ q₁ q₂ e r₁.0 r₂.0)
      (accepted_is_read text₁ j₁ reads₁).queries (accepted_is_read text₂ j₂ reads₂).queries k e

  -- The same of the query that `get_or` finds.
  pub same_query_tokens_same_query_at : (k : ℕ) → get_elem? (map bare (query_pieces text₁)) k ≡ get_elem? (map bare (query_pieces text₂)) k
      → (q : Query) → get_or j₁.queries k q ≡ get_or j₂.queries k q
  same_query_tokens_same_query_at k e q = get_or_from_get_elem j₁.queries j₂.queries k q (same_query_tokens_same_query k e)
