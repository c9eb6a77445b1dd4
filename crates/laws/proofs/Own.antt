-- Own run, demand 3: what a run shows of a query depends on the clauses, on the query and on its tries alone, and at rest not even on these.
-- A step on a goal of the query is one own step of its part; a step on another query's goal leaves that part as it is.
pub mod Steps
pub mod Sections
pub mod Calls
pub mod Shown
pub mod Example
use Prim.Native.Nat.{ℕ, ◌<◌}
use mathlib.Core.Path.{◌≡◌, sym, ◌∙◌, ap}
use mathlib.Core.Bool.{true}
use mathlib.Core.List.{[], map}
use lib.ListN.{get_or, length, get_elem?}
use Rattle.meaning.specs.Bytes.{Bytes}
use Rattle.meaning.specs.Terms.{Job}
use Rattle.meaning.specs.Items.{job, reading}
use Rattle.meaning.specs.State.{Room, part_of}
use Rattle.meaning.specs.Run.{rest, run}
use Rattle.meaning.specs.Report.{section}
use Rattle.meaning.specs.Call.{Given}
use Rattle.laws.proofs.Lists.{same_place}
use Rattle.laws.proofs.Reading.{
  bare,
  clause_pieces,
  query_pieces,
  as_many_queries_as_pieces,
  same_clause_tokens_same_clauses,
  same_query_tokens_same_query,
  same_query_tokens_same_query_at,
}
use Rattle.laws.proofs.Report.{tries_shown, section_shows_tries}
use Rattle.laws.proofs.Call.{Ran}
use Rattle.laws.proofs.Call.Delivered.{sections_for}
use Rattle.laws.proofs.Own.Sections.{section_at_its_place}
-- "T is the count of the definition's steps that took a goal of that query": its part is so many own steps, each of which took a goal.
pub use Steps.{query_at, tries_of, part_is_own_steps, own_steps_take_goals, section_is_own}
-- Over jobs: equal tries, equal sections; where both rest, equal tries.
pub use Sections.{Alike, equal_tries_equal_parts, equal_tries_equal_sections, both_rest_equal_tries, both_rest_equal_sections}
-- A section's place in the report, and the bytes that show it.
pub use Calls.{section_in_the_report}
pub use Shown.{section_shown, rest_shown, left_by, shows_its_section, shows_its_rest}

module _ (k : ℕ) (given₁ given₂ : Given) (j₁ j₂ : Job) (alike : Alike k j₁ j₂) where
  -- Demand 3 over calls, first part: equal tries, equal sections, byte for byte.
  pub calls_equal_tries_equal_sections : tries_of k (run j₁ given₁.budget given₁.room).state ≡ tries_of k (run j₂ given₂.budget given₂.room).state
      → get_or (sections_for given₁ j₁) k [] ≡ get_or (sections_for given₂ j₂) k []
  unfolding sections_for
  calls_equal_tries_equal_sections e =
      section_at_its_place k j₁.queries _ alike.place₁
      ∙ equal_tries_equal_sections k j₁ j₂ alike given₁.budget given₂.budget given₁.room given₂.room e
      ∙ sym (section_at_its_place k j₂.queries _ alike.place₂)

  -- Second part: where both runs rest, the sections are equal.
  pub calls_both_rest_equal_sections : (run j₁ given₁.budget given₁.room).verdict ≡ rest → (run j₂ given₂.budget given₂.room).verdict ≡ rest
      → get_or (sections_for given₁ j₁) k [] ≡ get_or (sections_for given₂ j₂) k []
  calls_both_rest_equal_sections rests₁ rests₂ =
      calls_equal_tries_equal_sections
      (both_rest_equal_tries k j₁ j₂ alike given₁.budget given₂.budget given₁.room given₂.room rests₁ rests₂)

-- Two calls that ran, with the same clauses and the same query at place k, whatever else their texts hold, under any budgets and in any rooms.
module _ (k : ℕ) (need₁ need₂ : Room → ℕ) (given₁ given₂ : Given) (n₁ n₂ : ℕ) (j₁ j₂ : Job)
    (ran₁ : Ran need₁ given₁ n₁ j₁) (ran₂ : Ran need₂ given₂ n₂ j₂) (alike : Alike k j₁ j₂) where
  shows₁ : section_shown k (left_by need₁ given₁ n₁) ≡ section k (query_at k j₁.queries) (part_of k (run j₁ given₁.budget given₁.room).state)
  shows₁ = shows_its_section need₁ given₁ n₁ j₁ ran₁ k alike.place₁

  shows₂ : section_shown k (left_by need₂ given₂ n₂) ≡ section k (query_at k j₂.queries) (part_of k (run j₂ given₂.budget given₂.room).state)
  shows₂ = shows_its_section need₂ given₂ n₂ j₂ ran₂ k alike.place₂

  -- Demand 3, first part: where both show the same tries of the query, they show the same section, byte for byte.
  pub same_tries_shown_same_section : tries_shown k (section_shown k (left_by need₁ given₁ n₁)) ≡ tries_shown k (section_shown k (left_by need₂ given₂ n₂))
      → section_shown k (left_by need₁ given₁ n₁) ≡ section_shown k (left_by need₂ given₂ n₂)
  unfolding tries_of part_of
  same_tries_shown_same_section e =
      let tries₁ = ap (tries_shown k) shows₁ ∙ section_shows_tries k _ _ in
      let tries₂ = ap (tries_shown k) shows₂ ∙ section_shows_tries k _ _ in
      shows₁
      ∙ equal_tries_equal_sections k j₁ j₂ alike given₁.budget given₂.budget given₁.room given₂.room (sym tries₁ ∙ e ∙ tries₂)
      ∙ sym shows₂

  -- Second part: where both show that they rested, they show the same section.
  pub both_rest_shown_same_section : rest_shown (left_by need₁ given₁ n₁) ≡ true → rest_shown (left_by need₂ given₂ n₂) ≡ true
      → section_shown k (left_by need₁ given₁ n₁) ≡ section_shown k (left_by need₂ given₂ n₂)
  both_rest_shown_same_section e f =
      shows₁
      ∙ both_rest_equal_sections k j₁ j₂ alike given₁.budget given₂.budget given₁.room given₂.room
      ((shows_its_rest need₁ given₁ n₁ j₁ ran₁).0 e) ((shows_its_rest need₂ given₂ n₂ j₂ ran₂).0 f)
      ∙ sym shows₂

-- The same clauses, in order, and the same query at place k, by their tokens.
pub record TextsAlike (k : ℕ) (text₁ text₂ : Bytes) : Type 0 where
  pub place : k < length (query_pieces text₁)
  pub clauses : map bare (clause_pieces text₁) ≡ map bare (clause_pieces text₂)
  pub query : get_elem? (map bare (query_pieces text₁)) k ≡ get_elem? (map bare (query_pieces text₂)) k

-- Such texts, if both are accepted, read jobs that demand 3 is about.
pub texts_alike_jobs_alike : (k : ℕ) (text₁ text₂ : Bytes) (j₁ j₂ : Job) → TextsAlike k text₁ text₂
    → reading text₁ ≡ job j₁ → reading text₂ ≡ job j₂ → Alike k j₁ j₂
unfolding query_at
texts_alike_jobs_alike k text₁ text₂ j₁ j₂ alike reads₁ reads₂ =
    let here : k < length j₁.queries = rw (as_many_queries_as_pieces text₁ j₁ reads₁) alike.place in
    record {
      place₁ = here;
      place₂ =
          same_place j₁.queries j₂.queries k
          (same_query_tokens_same_query text₁ text₂ j₁ j₂ reads₁ reads₂ k alike.query) here;
      clauses = same_clause_tokens_same_clauses text₁ text₂ j₁ j₂ reads₁ reads₂ alike.clauses;
      query = same_query_tokens_same_query_at text₁ text₂ j₁ j₂ reads₁ reads₂ k alike.query _;
    }
